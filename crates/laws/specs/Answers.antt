-- The answer of each number, part and address: the inverse of `numbered`.
use Rattle.std.specs.Prelude.{◌≡◌, List, [], ◌∷◌, ℕ, ◌≤◌}
use Rattle.rules.specs.Tests.{if_lt, if_eq, look}
use Rattle.rules.specs.Work.{outside, kind_fetch, kind_load, kind_store}
use Rattle.rules.specs.declared.Answer.{Answer}
use Rattle.rules.specs.declared.Answer.TheVariants.{Done, Size, CodeSize, BadChannel, JournalBad, NothingToUndo, Halted, Idle, NotReady, Unlisted, OutsideFetch, OutsideLoad, OutsideStore, Stop, JournalFull}

-- 01's numbers before 10, with their answers; 0 is accepted (01, Answers by number; DECISIONS 45)
abbrev pub low_answers : List (ℕ × Answer)
low_answers =
    (0, Done)
    ∷ (1, Size)
    ∷ (2, CodeSize)
    ∷ (3, BadChannel)
    ∷ (4, JournalBad)
    ∷ (5, NothingToUndo)
    ∷ (6, Halted)
    ∷ (7, Idle)
    ∷ (8, NotReady)
    ∷ (9, Unlisted)
    ∷ []

-- the answer of a part of 10, with its address (02, No. 1; DECISIONS 58)
abbrev pub outside_answer : ℕ → ℕ → Answer
outside_answer part a = if_eq part kind_fetch (OutsideFetch a) (if_eq part kind_load (OutsideLoad a) (OutsideStore a))

-- 01's numbers after 10 (01, Answers by number; DECISIONS 45)
abbrev pub high_answers : List (ℕ × Answer)
high_answers = (11, Stop) ∷ (12, JournalFull) ∷ []

-- the answer of a number, part and address; of 10 without a part OutsideStore, of a number that is none of 01's Done
-- (01, Answers by number; DECISIONS 45, 58)
unfoldable pub answer_of : ℕ → ℕ → ℕ → Answer
answer_of n part a = if_lt n outside (look low_answers n Done) (if_eq n outside (outside_answer part a) (look high_answers n Done))

-- 10 has a part, 1 to 3; another number has neither part nor address (02, No. 1; DECISIONS 58)
pub record Proper (n part a : ℕ) : Type 0 where
  pub parts : n ≡ outside → (kind_fetch ≤ part) × (part ≤ kind_store)
  pub bare : (n ≡ outside → ⊥) → (part ≡ 0) × (a ≡ 0)

-- number, part and address of an answer (01, Answers by number; DECISIONS 45, 58)
pub record Known (n part a : ℕ) : Type 0 where
  pub most : n ≤ 12
  pub proper : Proper n part a
