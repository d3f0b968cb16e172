-- The list of accesses: what it says of the answer. Work that lists its accesses does the same as work that does not.
use Rattle.std.specs.Prelude.{◌≡◌, List, [], ◌∷◌, ◌++◌, ℕ, ◌≤◌, ◌<◌}
use Rattle.rules.specs.Tests.{if_eq}
use Rattle.rules.specs.Words.{index}
use Rattle.rules.specs.Work.{Access, Trace, traced, Work, outside}

-- the work with another trace (DECISIONS 59)
abbrev pub retrace : Trace → Work → Work
retrace t w =
    record { regs = w.regs; stored = w.stored; answer = w.answer; kind = w.kind; address = w.address; trace = t }

-- every access of a list is inside a memory of size words (01, Answers by number, 10)
abbrev pub AllInside : ℕ → List Access → Type 0
AllInside size [] = Unit {0}
AllInside size (x ∷ xs) = (index x.1 < size) × AllInside size xs

-- the access outside memory that a refusal tells, by its number, kind and address; kind 0 where there is none (01, Answers by number; 02, No. 1)
abbrev pub told_outside : ℕ × ℕ × ℕ → Access
told_outside t = if_eq t.0 outside (t.1, t.2) (0, 0)

-- the refusal of a work: its number, the kind and the address of the access; three zeros where there is none (DECISIONS 44)
abbrev pub told : Work → ℕ × ℕ × ℕ
told w = (w.answer, w.kind, w.address)

-- what a list of accesses says of the answer: all are inside memory, and the answer is not 10; or the answer is 10 for the last of them, which is
-- outside memory, and those before are inside (01, Answers by number; 02, No. 1)
pub data Ends (size : ℕ) (xs : List Access) (answer kind address : ℕ) : Type 0 where
  stayed : (answer ≡ outside → ⊥) → AllInside size xs → Ends size xs answer kind address
  left : answer ≡ outside → (before : List Access) → xs ≡ before ++ ((kind, address) ∷ []) → AllInside size before → size ≤ index address
      → Ends size xs answer kind address

-- `Listed size w made v v'`: from work w, which lists nothing, comes v; from w with the accesses made so far comes v'. They are the same but for the
-- list, which has grown by the accesses of v; not at all where w is refused (DECISIONS 59)
pub record Listed (size : ℕ) (w : Work) (made : List Access) (v v' : Work) : Type 0 where
  pub more : List Access
  pub same : v' ≡ retrace (traced (made ++ more)) v
  pub none : (w.answer ≡ 0 → ⊥) → more ≡ []
  pub ends : w.answer ≡ 0 → Ends size more v.answer v.kind v.address
