use Rattle.std.proofs.Common.{◌+◌, ◌≡◌, ◌<◌, arith, drop, get_or, length, length-drop, length-set, suc}
use Rattle.std.proofs.Math.Seq.{get_or-drop, take-length, take-suc, take-suc-set}
use Rattle.journal.proofs.undo.get_regs.Goals as goal

pub loop-k-preserved : goal.loop-k-preserved
loop-k-preserved c =
    let l = c.loop-k in
    let j = c.args.journal.now in
    let at = c.args.at in
    let e : l.k + 1 ≡ suc l.k = omega arith in
    let long : l.k < length l.regs = omega arith in
    let there : l.k < length (drop at j) = omega (arith, length-drop at j) in
    record {
      full = simp length-set l.invariant.full;
      same =
          rw
          (e, take-suc-set l.regs l.k (get_or j (at + l.k) 0) long, take-suc (drop at j) l.k 0 there, get_or-drop at j l.k 0, l.invariant.same);
    }

pub returns : goal.returns
returns c =
    let l = c.loop-k in
    let e : l.k ≡ length l.regs = omega arith in
    rw l.invariant.full at (rw (e, take-length l.regs) at l.invariant.same)
