use Rattle.std.proofs.Common.{◌*◌, ◌+◌, ◌≡◌, drop, length}
use Rattle.std.proofs.lemmas.List.Edits.{sets}
use Rattle.rules.specs.Journal.{olds}
use Rattle.laws.specs.Lists.{Below}
use Rattle.journal_record.proofs.parts.put_single_pairs.Given as goal

abbrev pub invariant-loop-k : goal.invariant-loop-k
invariant-loop-k l =
    record {
      below : Below (length l.mem) (drop l.k l.ks);
      rest : sets l.journal (l.at + 2 * l.k) (olds l.mem (drop l.k l.ks)) ≡ sets l.initial.journal l.at (olds l.mem l.ks);
    }
