-- The pigeonhole: a list of numbers below n, no two of them equal, has at most n of them.
use mathlib.Core.Path.{◌≡◌, refl, sym}
use mathlib.Core.Bool.{Bool, true, false}
use mathlib.Core.List.{List, [], ◌∷◌}
use Prim.Native.Nat.{ℕ, zero, suc, ◌≤◌}
use native.Mathlib.Omega.{arith}
use borrow.Author.Tests.{eqb-true, eqb-false, ne_eqb}
use lib.Dec.{eqb}
use lib.ListN.{length}
use Rattle.rules.specs.Tests.{pick}
use Rattle.laws.specs.Lists.{Off, NoDup, Below}
use Rattle.laws.specs.Ring.{has}

pub off-has : (k : ℕ) (l : List ℕ) → has k l ≡ false → Off k l
off-has k [] e = tt
off-has k (x ∷ xs) e = go (eqb k x) refl e (off-has k xs)
  where
    go : (b : Bool) → eqb k x ≡ b → pick b true (has k xs) ≡ false → (has k xs ≡ false → Off k xs) → Off k (x ∷ xs)
    go true t e r = absurd (let z : ◌≡◌ {A = ℕ} 0 1 = cc in omega arith)
    go false t e r = (eqb-false k x t, r e)

-- the list without the number n
without : ℕ → List ℕ → List ℕ
without n [] = []
without n (x ∷ xs) = pick (eqb x n) (without n xs) (x ∷ without n xs)

off_without : (n k : ℕ) (l : List ℕ) → Off k l → Off k (without n l)
unfolding without
off_without n k [] o = tt
off_without n k (x ∷ xs) o = go (eqb x n) (off_without n k xs o.1)
  where
    go : (b : Bool) → Off k (without n xs) → Off k (pick b (without n xs) (x ∷ without n xs))
    go true r = r
    go false r = (o.0, r)

nodup_without : (n : ℕ) (l : List ℕ) → NoDup l → NoDup (without n l)
unfolding without
nodup_without n [] d = tt
nodup_without n (x ∷ xs) d = go (eqb x n) (nodup_without n xs d.1)
  where
    go : (b : Bool) → NoDup (without n xs) → NoDup (pick b (without n xs) (x ∷ without n xs))
    go true r = r
    go false r = (off_without n x xs d.0, r)

below_without : (n : ℕ) (l : List ℕ) → Below (suc n) l → Below n (without n l)
unfolding without
below_without n [] b = tt
below_without n (x ∷ xs) b = go (eqb x n) refl (below_without n xs b.1)
  where
    go : (t : Bool) → eqb x n ≡ t → Below n (without n xs) → Below n (pick t (without n xs) (x ∷ without n xs))
    go true e r = r
    go false e r = (omega (arith, b.0, eqb-false x n e), r)

-- what holds no n loses nothing, and what holds it once loses one
length_off : (n : ℕ) (l : List ℕ) → Off n l → length l ≤ length (without n l)
unfolding without
length_off n [] o = omega arith
length_off n (x ∷ xs) o = rw (ne_eqb x n (λ e. o.0 (sym e))) (omega (arith, length_off n xs o.1))

length_without : (n : ℕ) (l : List ℕ) → NoDup l → length l ≤ suc (length (without n l))
unfolding without
length_without n [] d = omega arith
length_without n (x ∷ xs) d = go (eqb x n) refl (length_without n xs d.1)
  where
    go : (t : Bool) → eqb x n ≡ t → length xs ≤ suc (length (without n xs)) → suc (length xs) ≤ suc (length (pick t (without n xs) (x ∷ without n xs)))
    go true e r =
        let o : Off n xs = rw (eqb-true x n e) at d.0 in
        omega (arith, length_off n xs o)
    go false e r = omega arith

pub pigeonhole : (n : ℕ) (l : List ℕ) → NoDup l → Below n l → length l ≤ n
pigeonhole zero [] d b = omega arith
pigeonhole zero (x ∷ xs) d b = omega (arith, b.0)
pigeonhole (suc n) l d b = omega (arith, length_without n l d, pigeonhole n (without n l) (nodup_without n l d) (below_without n l b))
