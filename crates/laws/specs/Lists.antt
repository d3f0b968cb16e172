-- Properties of lists of numbers and of tables, for the laws.
use Rattle.std.specs.Prelude.{◌≢◌, Bool, true, false, List, [], ◌∷◌, ℕ, suc, ◌≤◌, ◌<◌, eqb}
use Rattle.rules.specs.Tests.{pick}

-- k stands nowhere in the list, of words of a record (01, The journal) or of pointer values passed (DECISIONS 27)
abbrev pub Off : ℕ → List ℕ → Type 0
Off k [] = Unit {0}
Off k (x ∷ xs) = (k ≢ x) × Off k xs

-- no number stands in it twice: each word once in a record (01, The journal), no pointer value passed again (DECISIONS 27)
abbrev pub NoDup : List ℕ → Type 0
NoDup [] = Unit {0}
NoDup (x ∷ xs) = Off x xs × NoDup xs

-- all are below n: the words of a record are words of memory (01, The journal)
abbrev pub Below : ℕ → List ℕ → Type 0
Below n [] = Unit {0}
Below n (x ∷ xs) = (x < n) × Below n xs

-- they rise strictly, from b on: the words of a record in rising order, each once (01, The journal)
abbrev pub Rises : ℕ → List ℕ → Type 0
Rises b [] = Unit {0}
Rises b (x ∷ xs) = (b ≤ x) × Rises (suc x) xs

-- a table has a row for k: an operation of the built list (01, The part of the T414 that we build)
abbrev pub listed : {A : Type 0} → ℕ → List (ℕ × A) → Bool
listed k [] = false
listed k (e ∷ t) = pick (eqb k e.0) true (listed k t)
