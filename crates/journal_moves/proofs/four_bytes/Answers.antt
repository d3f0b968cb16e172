use Rattle.std.proofs.Common.{◌*◌, ◌+◌, ◌/◌, ◌<◌, ◌∙◌, ◌≡◌, arith, get_or}
use Rattle.journal_moves.proofs.FourBytes.{level, off}
use Rattle.journal_moves.proofs.four_bytes.Goals as goal

pub returns-then-k-eq0 : goal.returns-then-k-eq0
returns-then-k-eq0 c =
    let m = c.args.mem.now in
    let s = 4 * c.args.i + c.args.k in
    let x : get_or m c.args.i 0 < 4294967296 = omega (arith, c.type_inv.mem c.args.i) in
    let p : s / 4 ≡ c.args.i = omega arith in
    level m s _ _ x x (rw p) (omega arith)

pub returns : goal.returns
returns c =
    let m = c.args.mem.now in
    let i = c.args.i in
    let s = 4 * i + c.args.k in
    let x : get_or m i 0 < 4294967296 = omega (arith, c.type_inv.mem i) in
    let y : get_or m (i + 1) 0 < 4294967296 = omega (arith, c.type_inv.mem (i + 1)) in
    let p : s / 4 ≡ i = omega arith in
    c.straddle.ensures ∙ off m s _ _ x y (rw p) (rw p) c.args.k (omega arith) c.requires.0 (omega arith)
