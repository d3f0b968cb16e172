-- Outcomes in a longer memory, for the theorems on 10 Outside (01, Answers by number).
use Rattle.std.specs.Prelude.{List, ◌++◌, ℕ}
use Rattle.rules.specs.Calls.{Outcome}

-- the same outcome in a memory with the words x appended, which the call leaves unchanged (01, Memory and registers: memory is N lent words)
abbrev pub appended : List ℕ → Outcome → Outcome
appended x o =
    record {
      answer = o.answer;
      part = o.part;
      address = o.address;
      byte = o.byte;
      machine = o.machine;
      memory = o.memory ++ x;
      journal = o.journal;
    }
