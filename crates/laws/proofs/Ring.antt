-- A walk with a budget of more turns than there are words has the result of the walk that lists the pointer values passed: where the budget runs
-- out, a value comes again. For any step along words.
use mathlib.Core.Path.{◌≡◌, refl, sym, ◌∙◌}
use mathlib.Core.Bool.{Bool, true, false}
use mathlib.Core.Logic.{◌↔◌, ◌⊎◌, inl, inr, ⊎_elim}
use mathlib.Core.List.{List, [], ◌∷◌, map}
use Prim.Native.Nat.{ℕ, zero, suc, ◌+◌, ◌≤◌, ◌<◌}
use native.Mathlib.Omega.{arith}
use borrow.Author.Tests.{eqb-true, eq-eqb}
use lib.Dec.{eqb}
use lib.ListN.{length, length-map}
use Rattle.rules.specs.Tests.{pick}
use Rattle.laws.specs.Lists.{Off, NoDup, Below}
use Rattle.laws.specs.Ring.{has, Way, end, round, Walks, again, stays, goes, comes_again}
use Rattle.laws.proofs.Pigeon.{off-has, pigeonhole}

abbrev pub turn : Bool → ℕ → Way → Way
turn true p r = end p
turn false p r = r

-- the walk with a budget of turns: what a loop computes
unfoldable pub budget : (ℕ → ℕ) → (ℕ → Bool) → ℕ → ℕ → Way
budget next ends zero p = round
budget next ends (suc n) p = turn (ends p) p (budget next ends n (next p))

has_here : (k x : ℕ) (xs : List ℕ) → k ≡ x → has k (x ∷ xs) ≡ true
has_here k x xs e = rw (eq-eqb k x e)

has_there : (k x : ℕ) (xs : List ℕ) → has k xs ≡ true → has k (x ∷ xs) ≡ true
has_there k x xs e = rw e (go (eqb k x))
  where
    go : (b : Bool) → pick b true true ≡ true
    go true = refl
    go false = refl

has_cases : (k x : ℕ) (xs : List ℕ) → has k (x ∷ xs) ≡ true → (k ≡ x) ⊎ (has k xs ≡ true)
has_cases k x xs e = go (eqb k x) refl e
  where
    go : (b : Bool) → eqb k x ≡ b → pick b true (has k xs) ≡ true → (k ≡ x) ⊎ (has k xs ≡ true)
    go true t e = inl (eqb-true k x t)
    go false t e = inr e

module _ (next : ℕ → ℕ) (ends : ℕ → Bool) where
  -- a walk has one result
  pub walks_unique : {l : List ℕ} {p : ℕ} {r r' : Way} → Walks next ends l p r → Walks next ends l p r' → r ≡ r'
  walks_unique (again a) (again b) = refl
  walks_unique (again a) (stays b y) = cc
  walks_unique (again a) (goes b y w) = cc
  walks_unique (stays a x) (again b) = cc
  walks_unique (stays a x) (stays b y) = refl
  walks_unique (stays a x) (goes b y w) = cc
  walks_unique (goes a x v) (again b) = cc
  walks_unique (goes a x v) (stays b y) = cc
  walks_unique (goes a x v) (goes b y w) = walks_unique v w

  -- one turn of a budget
  pub budget-round : (n p : ℕ) → budget next ends (suc n) p ≡ round → (ends p ≡ false) × (budget next ends n (next p) ≡ round)
  unfolding budget
  budget-round n p e = go (ends p) refl e
    where
      go : (b : Bool) → ends p ≡ b → turn b p (budget next ends n (next p)) ≡ round → (ends p ≡ false) × (budget next ends n (next p) ≡ round)
      go true h z = (cc, cc)
      go false h z = (h, z)

  pub budget-end : (n p q : ℕ) → budget next ends (suc n) p ≡ end q → (ends p ≡ true) ⊎ ((ends p ≡ false) × (budget next ends n (next p) ≡ end q))
  unfolding budget
  budget-end n p q e = go (ends p) refl e
    where
      go : (b : Bool) → ends p ≡ b → turn b p (budget next ends n (next p)) ≡ end q → (ends p ≡ true) ⊎ ((ends p ≡ false) × (budget next ends n (next p) ≡ end q))
      go true h z = inl h
      go false h z = inr (h, z)

  pub no_end : (p q : ℕ) → budget next ends zero p ≡ end q → ⊥
  unfolding budget
  no_end p q e = let z : ◌≡◌ {A = ℕ} 0 1 = cc in omega arith

-- the walk along pointers that lead to words, p to the word `word p`, and on to what stands there, `load (word p)`: pointers to the same word
-- lead on to the same pointer. Those at which the walk does not end lead to one of `size` words
module _ (word load : ℕ → ℕ) (ends : ℕ → Bool) (size : ℕ) (within : (p : ℕ) → ends p ≡ false → word p < size) where
  abbrev next : ℕ → ℕ
  next p = load (word p)

  -- the pointers passed, the last one first, lead from one to the next and then to p
  abbrev Chain : List ℕ → ℕ → Type 0
  Chain [] p = Unit {0}
  Chain (q ∷ qs) p = (next q ≡ p) × (ends q ≡ false) × Chain qs q

  -- a pointer that was passed is within the memory, and leads to one that was passed, or to p
  passed_in : (l : List ℕ) (p q : ℕ) → Chain l p → has q l ≡ true → ends q ≡ false
  passed_in [] p q c h = absurd (let z : ◌≡◌ {A = ℕ} 0 1 = cc in omega arith)
  passed_in (x ∷ xs) p q c h =
      ⊎_elim (λ (e : q ≡ x). rw e c.1) (λ (e : has q xs ≡ true). passed_in xs x q c.2 e) (has_cases q x xs h)

  passed-next : (l : List ℕ) (p q : ℕ) → Chain l p → has q l ≡ true → (next q ≡ p) ⊎ (has (next q) l ≡ true)
  passed-next [] p q c h = inr (cc)
  passed-next (x ∷ xs) p q c h =
      ⊎_elim (λ (e : q ≡ x). inl (rw e c.0))
      (λ (e : has q xs ≡ true).
      inr
      (⊎_elim (λ (f : next q ≡ x). has_here _ x xs f)
      (λ (f : has (next q) xs ≡ true). has_there _ x xs f)
      (passed-next xs x q c.2 e)))
      (has_cases q x xs h)

  -- once the walk has come back to a pointer, it goes on for ever
  goes-round : (l : List ℕ) (p : ℕ) → Chain l p → has p l ≡ true → (n q : ℕ) → has q l ≡ true → budget next ends n q ≡ round
  unfolding budget
  goes-round l p c h zero q e = refl
  goes-round l p c h (suc n) q e =
      rw (passed_in l p q c e)
      (goes-round l p c h n (next q)
      (⊎_elim (λ (f : next q ≡ p). rw f h) (λ (f : has (next q) l ≡ true). f) (passed-next l p q c e)))

  -- pointers that lead to the same word lead on to the same pointer: so but for the last, those passed lead to words of their own
  off-index : (i q : ℕ) → load i ≡ q → (zs : List ℕ) (z : ℕ) → Chain zs z → Off q (z ∷ zs) → Off i (map word zs)
  off-index i q e [] z c o = tt
  off-index i q e (y ∷ ys) z c o = ((λ (f : i ≡ word y). o.0 (sym e ∙ (rw f c.0))), off-index i q e ys y c.2 o.1)

  nodup-index : (qs : List ℕ) (q : ℕ) → Chain qs q → NoDup (q ∷ qs) → NoDup (map word qs)
  nodup-index [] q c d = tt
  nodup-index (x ∷ xs) q c d = (off-index (word x) q c.0 xs x c.2 d.0, nodup-index xs x c.2 d.1)

  below-index : (qs : List ℕ) (q : ℕ) → Chain qs q → Below size (map word qs)
  below-index [] q c = tt
  below-index (x ∷ xs) q c = (within x c.1, below-index xs x c.2)

  -- so a walk that comes to a new pointer has passed at most as many as there are words
  few : (l : List ℕ) (p : ℕ) → Chain l p → NoDup (p ∷ l) → length l ≤ size
  few l p c d = omega (arith, length-map l word, pigeonhole size (map word l) (nodup-index l p c d) (below-index l p c))

  walks_from : (n : ℕ) (l : List ℕ) (p : ℕ) → Chain l p → NoDup l → size < n + length l → Walks next ends l p (budget next ends n p)
  unfolding budget
  walks_from zero l p c d h = go (has p l) refl
    where
      go : (a : Bool) → has p l ≡ a → Walks next ends l p round
      go true ha = again ha
      go false ha = absurd (omega (arith, few l p c (off-has p l ha, d)))
  walks_from (suc n) l p c d h =
      go (has p l) refl (ends p) refl (λ a b. walks_from n (p ∷ l) (next p) (refl, a, c) (off-has p l b, d) (omega arith))
    where
      go : (a : Bool) → has p l ≡ a → (b : Bool) → ends p ≡ b
          → (ends p ≡ false → has p l ≡ false → Walks next ends (p ∷ l) (next p) (budget next ends n (next p)))
          → Walks next ends l p (turn b p (budget next ends n (next p)))
      go true ha b hb r = let e : turn b p (budget next ends n (next p)) ≡ round = rw hb at (goes-round l p c ha (suc n) p ha) in rw e (again ha)
      go false ha true hb r = stays ha hb
      go false ha false hb r = goes ha hb (r hb ha)

  -- THE BUDGET IS RIGHT, whatever it is above the number of the words
  module _ (turns : ℕ) (enough : size < turns) where
    pub walks_budget : (p : ℕ) → Walks next ends [] p (budget next ends turns p)
    walks_budget p = walks_from turns [] p tt tt (omega arith)

    pub walks_to : (p : ℕ) (r : Way) → budget next ends turns p ≡ r → Walks next ends [] p r
    walks_to p r e = rw e at (walks_budget p)

  -- what one turn more than the budget does: where the budget ends, it is not refused, and where it runs out, it is. Then it is refused
  -- exactly in a ring
  pub refused_iff : (turns : ℕ) → size < turns → (p : ℕ) {Refused : Type 0}
      → (budget next ends (suc turns) p ≡ round → Refused)
      → ((q : ℕ) → budget next ends turns p ≡ end q → Refused → ⊥)
      → Refused ↔ Walks next ends [] p round
  refused_iff turns enough p {Refused} f g =
      ((λ r. ring (budget next ends turns p) refl r), (λ v. f (walks_unique next ends (walks_budget (suc turns) (omega arith) p) v)))
    where
      ring : (o : Way) → budget next ends turns p ≡ o → Refused → Walks next ends [] p round
      ring round e r = walks_to turns enough p round e
      ring (end q) e r = absurd (g q e r)

  -- ---- the test of a ring: what it finds is one, and with turns for every word and one value more it finds each

  again_walks : (n : ℕ) (l : List ℕ) (p : ℕ) → comes_again next ends n l p ≡ true → Walks next ends l p round
  unfolding comes_again
  again_walks zero l p e = absurd (let z : ◌≡◌ {A = ℕ} 0 1 = cc in omega arith)
  again_walks (suc n) l p e = go (has p l) refl (ends p) refl e (again_walks n (p ∷ l) (next p))
    where
      go : (a : Bool) → has p l ≡ a → (b : Bool) → ends p ≡ b → pick a true (pick b false (comes_again next ends n (p ∷ l) (next p))) ≡ true
          → (comes_again next ends n (p ∷ l) (next p) ≡ true → Walks next ends (p ∷ l) (next p) round)
          → Walks next ends l p round
      go true ha b hb z f = again ha
      go false ha true hb z f = absurd (let y : ◌≡◌ {A = ℕ} 0 1 = cc in omega arith)
      go false ha false hb z f = goes ha hb (f z)

  -- no walk has passed that many
  too_many : (l : List ℕ) (p : ℕ) → Chain l p → NoDup l → suc size < length l → ⊥
  too_many [] p c d h = omega arith
  too_many (q ∷ qs) p c d h = omega (arith, few qs q c.2 d)

  walks-again : (n : ℕ) (l : List ℕ) (p : ℕ) → Chain l p → NoDup l → suc size < n + length l → Walks next ends l p round → comes_again next ends n l p ≡ true
  unfolding comes_again
  walks-again zero l p c d h v = absurd (too_many l p c d (omega arith))
  walks-again (suc n) l p c d h (again a) = rw a
  walks-again (suc n) l p c d h (goes a b v) = rw (a, b) (walks-again n (p ∷ l) (next p) (refl, b, c) (off-has p l a, d) (omega arith) v)

  pub again_iff : (p : ℕ) → (comes_again next ends (size + 2) [] p ≡ true) ↔ Walks next ends [] p round
  again_iff p = (again_walks (size + 2) [] p, walks-again (size + 2) [] p tt tt (omega arith))
