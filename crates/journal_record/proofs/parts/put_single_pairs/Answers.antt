use Rattle.std.proofs.Common.{arith, ◌+◌, ◌*◌, ◌≡◌, ◌∙◌, [], sym, drop, get_or}
use Rattle.std.proofs.Math.ListN.{drop_of_length-le}
use Rattle.journal_record.proofs.Sorting.{drop_here}
use Rattle.journal_record.proofs.Written.{olds_turn, olds-done}
use Rattle.journal_record.proofs.parts.put_single_pairs.Goals as goal

pub loop-k-preserved : goal.loop-k-preserved
loop-k-preserved c =
    let ks = c.args.ks.now in
    let l = c.loop-k in
    let e = drop_here ks l.k (omega arith) in
    let w = c.args.at + 2 * l.k in
    record {
      below = (rw e at l.invariant.below).1;
      rest =
          olds_turn l.journal c.args.mem.now w (c.args.at + 2 * (l.k + 1)) (get_or ks l.k 0) (drop (l.k + 1) ks) (omega arith)
          ∙ (rw e at l.invariant.rest);
    }

pub returns : goal.returns
returns c =
    let ks = c.args.ks.now in
    let l = c.loop-k in
    let e : drop l.k ks ≡ [] = drop_of_length-le ks (omega arith) in
    sym (olds-done l.journal c.args.mem.now (c.args.at + 2 * l.k)) ∙ (rw e at l.invariant.rest)
