use Rattle.std.proofs.Common.{arith, ◌+◌, ◌-◌, ◌*◌, ◌≡◌, ◌∙◌, sym}
use Rattle.journal_record.specs.Indices.{range}
use Rattle.journal_record.proofs.Written.{olds_turn, olds-done, range_turn}
use Rattle.journal_record.proofs.parts.put_range_pairs.Goals as goal

pub loop-i-preserved : goal.loop-i-preserved
loop-i-preserved c =
    let l = c.loop-i in
    let lo = c.args.span.lo in
    let past = lo + c.args.span.c in
    let e = range_turn l.i (past - l.i) (l.i + 1) (past - (l.i + 1)) (omega arith) (omega arith) (omega arith) in
    olds_turn l.journal c.args.mem.now (c.args.at + 2 * (l.i - lo)) (c.args.at + 2 * (l.i + 1 - lo)) l.i (range (l.i + 1) (past - (l.i + 1))) (omega arith)
    ∙ (rw e at l.invariant)

pub returns : goal.returns
returns c =
    let l = c.loop-i in
    let e : c.args.span.lo + c.args.span.c - l.i ≡ 0 = omega arith in
    sym (olds-done l.journal c.args.mem.now (c.args.at + 2 * (l.i - c.args.span.lo))) ∙ (rw e at l.invariant)
