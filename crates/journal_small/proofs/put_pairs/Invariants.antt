use Rattle.std.proofs.Common.{◌≡◌}
use Rattle.std.proofs.lemmas.List.Edits.{sets}
use Rattle.rules.specs.Journal.{olds}
use Rattle.journal_record.specs.Indices.{range}
use Rattle.journal_small.proofs.put_pairs.Given as goal

abbrev pub invariant-loop-k : goal.invariant-loop-k
invariant-loop-k l = l.journal ≡ sets l.initial.journal l.at (olds l.mem (range l.i l.k))
