use Rattle.std.proofs.Common.{◌≡◌}
use Rattle.rules.specs.Memory.{moved}
use Rattle.journal_moves.proofs.move_bytes.Given as goal

abbrev pub invariant-loop-k : goal.invariant-loop-k
invariant-loop-k l = l.mem ≡ moved l.fn.mem l.src l.dst l.k
