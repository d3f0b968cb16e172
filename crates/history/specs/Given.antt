-- The first refusal of a table whose condition holds, or three zeros where none holds (01, Answers by number), as a relation.
use Rattle.std.specs.Prelude.{◌≡◌, ◌↔◌, Bool, true, false, List, [], ◌∷◌, ℕ}
use Rattle.rules.specs.declared.Reply.{Reply}
use Rattle.refusals.specs.Conditions.{Refusal, Row}
use Rattle.history.specs.CallContracts.{Contract, refusal}

-- `Given t es`: the condition of t, which is a number with its part and address, holds, and no condition before it; or t is three zeros, and none holds
-- (01, Answers by number; 02, No. 1)
pub data Given : Refusal → List Row → Type 0 where
  none : Given (0, 0, 0) []
  holds : {t : Refusal} {c : Bool} {es : List Row} → c ≡ true → Given t ((t, c) ∷ es)
  later : {t u : Refusal} {c : Bool} {es : List Row} → c ≡ false → Given t es → Given t ((u, c) ∷ es)

-- the call answers t exactly when the condition of t holds and none before it (01, Answers by number; 02, No. 1)
abbrev pub AnswersExactly : (List ℕ → List ℕ → List Row) → Contract → Type 0
AnswersExactly table C =
    (mem j : List ℕ) (r : Reply) (mem' j' : List ℕ) → C mem j r mem' j' → (t : Refusal) → (refusal r ≡ t) ↔ Given t (table mem j)
