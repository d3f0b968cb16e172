use Rattle.std.proofs.Common.{◌*◌, ◌+◌, ◌-◌, ◌∙◌, arith, length, length-set}
use Rattle.rules.specs.Journal.{write_back}
use Rattle.journal.proofs.Pairs.{pair_below, pairs_below, pairs-none, back_turn}
use Rattle.journal.proofs.undo.write_back.Goals as goal

pub bounds-mem-journal : goal.bounds-mem-journal
bounds-mem-journal c =
    let a = c.args in
    let l = c.loop-k in
    pair_below a.journal.now (a.at + 2 * l.k) (a.n - l.k) (a.at + 2 * (l.k + 1)) (a.n - (l.k + 1)) (omega arith) (omega arith) (omega arith) (length l.mem) l.invariant.inside

pub loop-k-preserved : goal.loop-k-preserved
loop-k-preserved c =
    let a = c.args in
    let l = c.loop-k in
    record {
      inside =
          simp length-set
          (pairs_below a.journal.now (a.at + 2 * l.k) (a.n - l.k) (a.at + 2 * (l.k + 1)) (a.n - (l.k + 1)) (omega arith) (omega arith) (omega arith) (length l.mem) l.invariant.inside);
      rest =
          back_turn a.journal.now (a.at + 2 * l.k) (a.n - l.k) (a.at + 2 * (l.k + 1)) (a.n - (l.k + 1)) (omega arith) (omega arith) (omega arith) l.mem
          ∙ l.invariant.rest;
    }

pub returns : goal.returns
unfolding write_back
returns c =
    let a = c.args in
    let l = c.loop-k in
    rw (pairs-none a.journal.now (a.at + 2 * l.k) (a.n - l.k) (omega arith)) at l.invariant.rest
