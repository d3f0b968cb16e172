-- The words that no store, or one, touches.
use mathlib.Core.Path.{◌≡◌, refl, sym, ap}
use mathlib.Core.List.{List, [], ◌∷◌}
use Prim.Native.Nat.{ℕ, zero, suc, ◌+◌, ◌≤◌, ◌<◌}
use native.Mathlib.Omega.{arith}
use lib.ListN.{length, set}
use lib.Seq.{set_out}
use borrow.Author.Tests.{eq-eqb, ne_eqb}
use Rattle.rules.specs.Memory.{word, touches, hit, touched_from, touched, stores, storing}
use Rattle.rules.proofs.Tests.{cases_eq}

module _ (size : ℕ) where
  none_from : (n b : ℕ) → touched_from size b n [] ≡ []
  unfolding touched_from hit
  none_from zero b = refl
  none_from (suc n) b = none_from n (suc b)

  -- word i is not among the n from b on
  away : (n b i v : ℕ) → (i < b → ⊥) → b + n ≤ i → touched_from size b n (word i v ∷ []) ≡ []
  unfolding touched_from hit touches
  away zero b i v l g = refl
  away (suc n) b i v l g =
      let c : i ≡ b → ⊥ = omega arith in
      rw (ne_eqb i b c) (away n (suc b) i v (omega arith) (omega arith))

  passed : (n b i v : ℕ) → i < b → touched_from size b n (word i v ∷ []) ≡ []
  unfolding touched_from hit touches
  passed zero b i v l = refl
  passed (suc n) b i v l =
      let c : i ≡ b → ⊥ = omega arith in
      rw (ne_eqb i b c) (passed n (suc b) i v (omega arith))

  one_from : (n b i v : ℕ) → b ≤ i → i < b + n → touched_from size b n (word i v ∷ []) ≡ i ∷ []
  unfolding touched_from hit touches
  one_from zero b i v l g = absurd (omega arith)
  one_from (suc n) b i v l g =
      cases_eq i b
      (λ e. rw (eq-eqb i b e, passed n (suc b) i v (omega arith)) (ap (λ (k : ℕ). k ∷ []) (sym e)))
      (λ e. rw (ne_eqb i b e) (one_from n (suc b) i v (omega arith) (omega arith)))

pub touched_none : (size : ℕ) → touched size [] ≡ []
unfolding touched
touched_none size = none_from size size 0

pub touched-one : (size i v : ℕ) → i < size → touched size (word i v ∷ []) ≡ i ∷ []
unfolding touched
touched-one size i v h = one_from size size 0 i v (omega arith) (omega arith)

pub touched_past : (size i v : ℕ) → size ≤ i → touched size (word i v ∷ []) ≡ []
unfolding touched
touched_past size i v h = away size size 0 i v (omega arith) (omega arith)

pub stores_one : (m : List ℕ) (i v : ℕ) → stores m (word i v ∷ []) ≡ set m i v
unfolding stores storing
stores_one m i v = refl

pub stores_past : (m : List ℕ) (i v : ℕ) → length m ≤ i → stores m (word i v ∷ []) ≡ m
unfolding stores storing
stores_past m i v h = set_out m i v h

pub stores_no : (m : List ℕ) → stores m [] ≡ m
unfolding stores
stores_no m = refl
