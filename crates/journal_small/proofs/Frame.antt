-- The frame of a call: the words that it touches, and the memory after it.
use mathlib.Core.Path.{◌≡◌, refl, sym, ap, ◌∙◌}
use mathlib.Core.Bool.{true, false}
use mathlib.Core.List.{List, [], ◌∷◌}
use Prim.Native.Nat.{ℕ, zero, suc, ◌+◌, ◌-◌, ◌≤◌, ◌<◌, min}
use native.Mathlib.Omega.{arith}
use native.Mathlib.Numerals.{add-one}
use lib.ListN.{length, set, take, length-set}
use lib.Seq.{sets, set_out, set_comm}
use borrow.Author.Tests.{eq-eqb, ne_eqb}
use Rattle.rules.specs.Memory.{Store, touches, hit, touched_from, touched, stores, storing}
use Rattle.rules.proofs.Tests.{cases_eq}
use Rattle.step_fast.specs.Fast.{frame}
use Rattle.journal_record.specs.Indices.{range}

-- ---- the words touched

module _ (size i v a b c : ℕ) where
  abbrev four : List Store
  four = frame i v a b c

  hit_in : (k : ℕ) → i ≤ k → k < i + 4 → hit size k four ≡ true
  unfolding hit touches
  hit_in k l g =
      cases_eq (i + 3) k (λ e. rw (eq-eqb (i + 3) k e))
      (λ n₃. cases_eq (i + 2) k (λ e. rw (ne_eqb (i + 3) k n₃, eq-eqb (i + 2) k e))
      (λ n₂. cases_eq (i + 1) k (λ e. rw (ne_eqb (i + 3) k n₃, ne_eqb (i + 2) k n₂, eq-eqb (i + 1) k e))
      (λ n₁.
      let e : i ≡ k = omega arith in
      rw (ne_eqb (i + 3) k n₃, ne_eqb (i + 2) k n₂, ne_eqb (i + 1) k n₁, eq-eqb i k e))))

  hit_out : (k : ℕ) → (i + 3 ≡ k → ⊥) → (i + 2 ≡ k → ⊥) → (i + 1 ≡ k → ⊥) → (i ≡ k → ⊥) → hit size k four ≡ false
  unfolding hit touches
  hit_out k n₃ n₂ n₁ n₀ = rw (ne_eqb (i + 3) k n₃, ne_eqb (i + 2) k n₂, ne_eqb (i + 1) k n₁, ne_eqb i k n₀)

  past : (n b : ℕ) → i + 4 ≤ b → touched_from size b n four ≡ []
  unfolding touched_from
  past zero b l = refl
  past (suc n) b l = rw (hit_out b (omega arith) (omega arith) (omega arith) (omega arith)) (past n (suc b) (omega arith))

  -- from a word of the frame on
  inside : (n b k : ℕ) → i ≤ b → k ≡ min (i + 4 - b) n → touched_from size b n four ≡ range b k
  unfolding touched_from
  inside zero b zero l e = refl
  inside zero b (suc k) l e = absurd (omega arith)
  inside (suc n) b zero l e = past (suc n) b (omega arith)
  inside (suc n) b (suc k) l e = rw (hit_in b l (omega arith), add-one b) (ap (λ (ks : List ℕ). b ∷ ks) (inside n (suc b) k (omega arith) (omega arith)))

  -- from a word before the frame on
  before : (n b k : ℕ) → b ≤ i → k ≡ min 4 (b + n - i) → touched_from size b n four ≡ range i k
  unfolding touched_from
  before zero b zero l e = refl
  before zero b (suc k) l e = absurd (omega arith)
  before (suc n) b k l e =
      cases_eq i b
      (λ h. inside (suc n) b k (omega arith) (omega arith) ∙ ap (λ (x : ℕ). range x k) (sym h))
      (λ h. rw (hit_out b (omega arith) (omega arith) (omega arith) (omega arith)) (before n (suc b) k (omega arith) (omega arith)))

  pub touched-frame : (k : ℕ) → k ≡ min 4 (size - i) → touched size (frame i v a b c) ≡ range i k
  unfolding touched
  touched-frame k e = before size 0 k (omega arith) (omega arith)

-- ---- the memory

-- a word stored below others
store_below : (l vs : List ℕ) (j i x : ℕ) → i < j → set (sets l j vs) i x ≡ sets (set l i x) j vs
store_below l [] j i x h = refl
store_below l (y ∷ vs) j i x h =
    store_below (set l j y) vs (suc j) i x (omega arith) ∙ rw (set_comm l j i y x (omega arith))

sets_past : (l vs : List ℕ) (i : ℕ) → length l ≤ i → sets l i vs ≡ l
sets_past l [] i h = refl
sets_past l (x ∷ vs) i h = rw (set_out l i x h) (sets_past l vs (suc i) (omega arith))

-- words past the end of memory
sets_cut : (l vs : List ℕ) (i n : ℕ) → length l ≤ i + n → sets l i (take n vs) ≡ sets l i vs
sets_cut l [] i zero h = refl
sets_cut l [] i (suc n) h = refl
sets_cut l (x ∷ vs) i zero h = sym (sets_past l (x ∷ vs) i (omega arith))
sets_cut l (x ∷ vs) i (suc n) h = sets_cut (set l i x) vs (suc i) n (omega (arith, length-set l i x))

module _ (m : List ℕ) (i v a b c : ℕ) where
  rising : stores m (frame i v a b c) ≡ sets m i (v ∷ a ∷ b ∷ c ∷ [])
  unfolding stores storing
  rising =
      let e₁ : i + 1 ≡ suc i = omega arith in
      let e₂ : i + 2 ≡ suc (suc i) = omega arith in
      let e₃ : i + 3 ≡ suc (suc (suc i)) = omega arith in
      rw (
        e₁,
        e₂,
        e₃,
        store_below m (c ∷ []) (suc (suc (suc i))) (suc (suc i)) b (omega arith),
        store_below m (b ∷ c ∷ []) (suc (suc i)) (suc i) a (omega arith),
        store_below m (a ∷ b ∷ c ∷ []) (suc i) i v (omega arith),
      )

  pub made-frame : (n : ℕ) → n ≡ min 4 (length m - i) → sets m i (take n (v ∷ a ∷ b ∷ c ∷ [])) ≡ stores m (frame i v a b c)
  made-frame n e =
      cases_eq n 4
      (λ h. rw (h, rising))
      (λ h. rw rising (sets_cut m (v ∷ a ∷ b ∷ c ∷ []) i n (omega arith)))
