-- A property of every row of a table holds of the entry for a code; and which codes have a row.
use mathlib.Core.Path.{◌≡◌, refl, sym, subst}
use mathlib.Core.Bool.{Bool, true, false}
use mathlib.Core.List.{List, [], ◌∷◌, ◌++◌}
use Prim.Native.Nat.{ℕ, ◌≤◌}
use native.Mathlib.Omega.{arith}
use borrow.Author.Tests.{eqb-true, ne_eqb, ltb-true}
use lib.Dec.{eqb, ltb}
use Rattle.rules.specs.Tests.{pick, look}
use Rattle.laws.specs.Lists.{listed}
use Rattle.laws.proofs.Calm.{never}

-- a code without a row
pub look-unlisted : {X : Type 0} (t : List (ℕ × X)) (k : ℕ) (d : X) → listed k t ≡ false → look t k d ≡ d
look-unlisted [] k d h = refl
look-unlisted (e ∷ t) k d h = go (eqb k e.0) h (look-unlisted t k d)
  where
    go : (b : Bool) → pick b true (listed k t) ≡ false → (listed k t ≡ false → look t k d ≡ d) → pick b e.1 (look t k d) ≡ d
    go true z f = never (sym z)
    go false z f = f z

-- every code of a table is below a number
unfoldable pub bounded : {X : Type 0} → ℕ → List (ℕ × X) → Bool
bounded n [] = true
bounded n (e ∷ t) = pick (ltb e.0 n) (bounded n t) false

-- from that number on, none has a row
pub unlisted_above : {X : Type 0} (n : ℕ) (t : List (ℕ × X)) → bounded n t ≡ true → (k : ℕ) → n ≤ k → listed k t ≡ false
unfolding bounded
unlisted_above n [] h k l = refl
unlisted_above n (e ∷ t) h k l = go (ltb e.0 n) refl h (unlisted_above n t)
  where
    go : (b : Bool) → ltb e.0 n ≡ b → pick b (bounded n t) false ≡ true → (bounded n t ≡ true → (k : ℕ) → n ≤ k → listed k t ≡ false)
        → pick (eqb k e.0) true (listed k t) ≡ false
    go true q z f = rw (ne_eqb k e.0 (λ s. omega (arith, s, ltb-true e.0 n q))) (f z k l)
    go false q z f = never z

-- two tests agree, as a test
unfoldable pub same : Bool → Bool → Bool
same true b = b
same false true = false
same false false = true

pub is_same : (a b : Bool) → same a b ≡ true → a ≡ b
unfolding same
is_same true true h = refl
is_same true false h = never h
is_same false true h = never h
is_same false false h = refl

-- every row, of a code and what stands there, has the property K
infixr 5 ◌&◌
pub data Rows {ℓ} {X : Type 0} (K : ℕ → X → Type ℓ) : List (ℕ × X) → Type ℓ where
  none : Rows K []
  ◌&◌ : {k : ℕ} {x : X} {t : List (ℕ × X)} → K k x → Rows K t → Rows K ((k, x) ∷ t)

pub rows_append {ℓ} : {X : Type 0} {K : ℕ → X → Type ℓ} {s t : List (ℕ × X)} → Rows K s → Rows K t → Rows K (s ++ t)
rows_append none q = q
rows_append (p & r) q = p & rows_append r q

-- look up a code: the default must have K where the code has no row
pub look_rows {ℓ} : {X : Type 0} (K : ℕ → X → Type ℓ) (t : List (ℕ × X)) → Rows K t → (k : ℕ) (d : X) → (listed k t ≡ false → K k d) → K k (look t k d)
look_rows K [] none k d h = h refl
look_rows K ((n, x) ∷ t) (p & q) k d h = go (eqb k n) refl h (look_rows K t q k d)
  where
    go : (b : Bool) → eqb k n ≡ b → (pick b true (listed k t) ≡ false → K k d) → ((listed k t ≡ false → K k d) → K k (look t k d)) → K k (pick b x (look t k d))
    go true e z f = subst (λ (c : ℕ). K c x) (sym (eqb-true k n e)) p
    go false e z f = f z
