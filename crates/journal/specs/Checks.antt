-- The checks before the work of a call, and the reply of a refused call.
use Rattle.std.specs.Prelude.{ℕ, Bool, ◌||◌, ◌≡◌, List, Option, Some, None}
use Rattle.rules.specs.Tests.{pick}
use Rattle.rules.specs.Journal.{bounds_bad}
use Rattle.rules.specs.Calls.{outcome_of, numbered, refused_at, memory_size_bad, journal_size_bad}
use Rattle.rules.specs.declared.Machine.{Machine}
use Rattle.rules.specs.declared.Reply.{Reply}
use Rattle.rules.specs.declared.Answer.{Answer}
use Rattle.rules.specs.declared.Answer.TheVariants.{Size, BadChannel, JournalBad}

-- the first of Size, BadChannel, JournalBad that applies, if one does (01, Answers by number)
unfoldable pub first_bad : Bool → ℕ → ℕ → ℕ → ℕ → Option Answer
first_bad bad_channel memory journal depth used =
    pick (memory_size_bad memory || journal_size_bad journal) (Some Size)
    (pick bad_channel (Some BadChannel) (pick (bounds_bad journal depth used) (Some JournalBad) None))

-- the reply of a call refused with a part and an address: the machine unchanged, byte 0; for any memory and journal
-- (01, Answers by number; 02, No. 1)
abbrev pub RefusesAt : ℕ → ℕ → ℕ → Machine → Reply → Type 0
RefusesAt number part address m r = (mem j : List ℕ) → outcome_of r mem j ≡ refused_at number part address m mem j

-- the reply of a call refused with an answer: with its number, part and address (01, Answers by number)
abbrev pub Refuses : Answer → Machine → Reply → Type 0
Refuses a m r = RefusesAt (numbered a).0 (numbered a).1 (numbered a).2 m r
