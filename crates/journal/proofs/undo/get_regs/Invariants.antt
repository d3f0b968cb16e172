use Rattle.std.proofs.Common.{◌≡◌, drop, length, take}
use Rattle.rules.specs.Registers.{registers}
use Rattle.journal.proofs.undo.get_regs.Given as goal

abbrev pub invariant-loop-k : goal.invariant-loop-k
invariant-loop-k l = record { full : length l.regs ≡ registers; same : take l.k l.regs ≡ take l.k (drop l.at l.journal) }
