use Rattle.std.proofs.Common.{◌*◌, ◌+◌, ◌-◌, ◌≡◌, false, length}
use Rattle.rules.specs.Journal.{pairs_at, write_back, strays}
use Rattle.journal.proofs.undo.write_back.Given as goal

abbrev pub invariant-loop-k : goal.invariant-loop-k
invariant-loop-k l =
    let pairs = pairs_at l.journal (l.at + 2 * l.k) (l.n - l.k) in
    record {
      inside : strays (length l.mem) pairs ≡ false;
      rest : write_back l.mem pairs ≡ write_back l.initial.mem (pairs_at l.journal l.at l.n);
    }
