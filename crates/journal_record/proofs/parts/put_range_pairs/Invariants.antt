use Rattle.std.proofs.Common.{◌*◌, ◌+◌, ◌-◌, ◌≡◌}
use Rattle.std.proofs.lemmas.List.Edits.{sets}
use Rattle.rules.specs.Journal.{olds}
use Rattle.journal_record.specs.Indices.{range}
use Rattle.journal_record.proofs.parts.put_range_pairs.Given as goal

abbrev pub invariant-loop-i : goal.invariant-loop-i
invariant-loop-i l =
    sets l.journal (l.at + 2 * (l.i - l.span.lo)) (olds l.mem (range l.i (l.span.lo + l.span.c - l.i)))
    ≡ sets l.initial.journal l.at (olds l.mem (range l.span.lo l.span.c))
