use Rattle.std.proofs.Common.{◌%◌, ◌*◌, ◌+◌, ◌/◌, ◌∙◌, ◌≡◌, ap, arith, sym}
use Rattle.rules.specs.Memory.{moved}
use Rattle.journal_moves.proofs.Bytes.{moved-split}
use Rattle.journal_moves.proofs.move_aligned.Goals as goal

pub returns : goal.returns
returns c =
    let a = c.args in
    let e : a.n ≡ 4 * (a.n / 4) + a.n % 4 = omega arith in
    let law = moved-split (4 * (a.n / 4)) (a.n % 4) a.mem.now a.src a.dst in
    rw (c.move_bytes.ensures, c.move_words.ensures) (sym (ap (moved a.mem.now a.src a.dst) e ∙ law))
