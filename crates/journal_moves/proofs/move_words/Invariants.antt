use Rattle.std.proofs.Common.{◌*◌, ◌+◌, ◌-◌, ◌/◌, ◌≡◌}
use Rattle.rules.specs.Memory.{moved}
use Rattle.journal_moves.proofs.Bytes.{Small}
use Rattle.journal_moves.proofs.move_words.Given as goal

abbrev pub invariant-loop-to : goal.invariant-loop-to
invariant-loop-to l =
    record {
      small : Small l.mem;
      word : l.from ≡ l.src / 4 + (l.to - l.dst / 4);
      moves : l.mem ≡ moved l.fn.mem l.src l.dst (4 * (l.to - l.dst / 4));
    }
