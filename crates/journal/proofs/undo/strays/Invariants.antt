use Rattle.std.proofs.Common.{◌*◌, ◌+◌, ◌-◌, ◌≡◌}
use Rattle.rules.specs.Journal.{pairs_at}
use Rattle.rules.specs.Journal as rules
use Rattle.journal.proofs.undo.strays.Given as goal

abbrev pub invariant-loop-k : goal.invariant-loop-k
invariant-loop-k l =
    rules.strays l.size (pairs_at l.journal (l.at + 2 * l.k) (l.n - l.k)) ≡ rules.strays l.size (pairs_at l.journal l.at l.n)
