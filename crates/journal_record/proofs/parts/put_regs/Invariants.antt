use Rattle.std.proofs.Common.{◌+◌, ◌≡◌, drop}
use Rattle.std.proofs.lemmas.List.Edits.{sets}
use Rattle.journal_record.proofs.parts.put_regs.Given as goal

abbrev pub invariant-loop-k : goal.invariant-loop-k
invariant-loop-k l = sets l.journal (l.at + l.k) (drop l.k l.regs) ≡ sets l.initial.journal l.at l.regs
