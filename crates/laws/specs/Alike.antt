-- The same work in a memory, and in that memory with words appended: nothing of what lies behind the shorter one comes into the result.
use Rattle.std.specs.Prelude.{◌≡◌, List, [], ◌∷◌, ℕ, ◌+◌, ◌*◌, ◌≤◌, ◌<◌, length}
use Rattle.rules.specs.Words.{index}
use Rattle.rules.specs.Registers.{registers}
use Rattle.rules.specs.Memory.{Store, word, bytes}
use Rattle.rules.specs.Work.{Work, untraced, outside, kind_fetch, kind_store}

-- work of 45 registers that lists no accesses, as that of a call (01, Memory and registers; DECISIONS 59)
abbrev pub Ordinary : Work → Type 0
Ordinary w = (length w.regs ≡ registers) × (w.trace ≡ untraced)

-- a store stays inside a memory of size words (01, Answers by number, 10; DECISIONS 47)
abbrev pub StoreInside : ℕ → Store → Type 0
StoreInside size (word i v) = i < size
StoreInside size (bytes s d n) = (s + n ≤ 4 * size) × (d + n ≤ 4 * size)

-- every store of a list does (01, Answers by number, 10)
abbrev pub Inside : ℕ → List Store → Type 0
Inside size [] = Unit {0}
Inside size (s ∷ ss) = StoreInside size s × Inside size ss

-- an answer 10 comes with the kind of the access that was refused, 1 to 3, and with its address, which is outside a memory of size words
-- (01, Answers by number, 10; DECISIONS 44, 57)
pub record Witness (size : ℕ) (w : Work) : Type 0 where
  pub least : kind_fetch ≤ w.kind
  pub most : w.kind ≤ kind_store
  pub away : size ≤ index w.address

-- nothing is refused yet, and every store is inside a memory of size words (01, Answers by number)
pub record Unrefused (size : ℕ) (w : Work) : Type 0 where
  pub none : w.answer ≡ 0
  pub inside : Inside size w.stored
  pub ordinary : Ordinary w

-- `Alike size w w'`: w is work in a memory of size words, w' the same work in that memory with words appended. Where w is refused with 10, an access
-- was outside; where it is refused otherwise, w' is refused with the same number; and where it is not refused, w' is the same: registers and stores
-- (01, Answers by number, 10)
pub data Alike (size : ℕ) (w w' : Work) : Type 0 where
  beyond : w.answer ≡ outside → Ordinary w → Witness size w → Alike size w w'
  refused : (w.answer ≡ 0 → ⊥) → (w.answer ≡ outside → ⊥) → w.answer ≡ w'.answer
      → Ordinary w → Ordinary w' → Alike size w w'
  same : w ≡ w' → Unrefused size w → Alike size w w'
