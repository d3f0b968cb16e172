-- The stores of a plan as a list: 16 single stores, and a move among them.
use mathlib.Core.Path.{◌≡◌, refl, ap, ◌∙◌}
use mathlib.Core.List.{List, [], ◌∷◌, ◌++◌, append_assoc}
use Prim.Native.Nat.{ℕ, zero, suc, ◌+◌, ◌-◌, ◌≤◌, ◌<◌}
use native.Mathlib.Omega.{arith}
use native.Mathlib.Numerals.{add-one}
use lib.ListN.{length, get_or, set, take, drop, take-append-drop}
use lib.Seq.{slice, slice_empty, take-suc, take-suc-set, take-set-le, take-take, drop-append-le, length-take-le}
use Rattle.rules.specs.Memory.{Store, word, bytes}
use Rattle.plan.specs.declared.Single.{Single}
use Rattle.plan.specs.View.{singles, moves, logged}

-- a place that no store has used
abbrev pub unused : Single
unused = record { index = 0; value = 0 }

pub singles-length : (xs : List Single) → length (singles xs) ≡ length xs
singles-length [] = refl
singles-length (x ∷ xs) = ap suc (singles-length xs)

pub singles_at : (xs : List Single) (k : ℕ) → get_or (singles xs) k (word 0 0) ≡ word (get_or xs k unused).index (get_or xs k unused).value
singles_at [] k = refl
singles_at (x ∷ xs) zero = refl
singles_at (x ∷ xs) (suc k) = singles_at xs k

singles-set : (xs : List Single) (k : ℕ) (s : Single) → singles (set xs k s) ≡ set (singles xs) k (word s.index s.value)
singles-set [] k s = refl
singles-set (x ∷ xs) zero s = refl
singles-set (x ∷ xs) (suc k) s = ap (λ (r : List Store). word x.index x.value ∷ r) (singles-set xs k s)

module _ (xs : List Single) (lx : length xs ≡ 16) where
  abbrev ss : List Store
  ss = singles xs

  singles_sixteen : length ss ≡ 16
  singles_sixteen = singles-length xs ∙ lx

  -- splits off the last of the single stores f to k - 1
  pub last_one : (f k : ℕ) → f < k → k ≤ 16
      → slice f k ss ≡ slice f (k - 1) ss ++ (word (get_or xs (k - 1) unused).index (get_or xs (k - 1) unused).value ∷ [])
  last_one f zero z h = absurd (omega arith)
  last_one f (suc k) z h =
      let q : k < length ss = omega (arith, singles_sixteen) in
      let e : suc k - 1 ≡ k = omega arith in
      let l : f ≤ length (take k ss) = omega (arith, length-take-le k ss (omega arith)) in
      rw (e, take-suc ss k (word 0 0) q, singles_at xs k)
      (drop-append-le f (take k ss) (word (get_or xs k unused).index (get_or xs k unused).value ∷ []) l)

  -- appending a single store
  pub logged-more : (n cut s d c : ℕ) (x : Single) → cut ≤ n → n < 16
      → logged (set xs n x) (n + 1) cut s d c ≡ logged xs n cut s d c ++ (word x.index x.value ∷ [])
  unfolding logged
  logged-more n cut s d c x h k =
      let q : n < length ss = omega (arith, singles_sixteen) in
      let l : cut ≤ length (take n ss) = omega (arith, length-take-le n ss (omega arith)) in
      let last : List Store = word x.index x.value ∷ [] in
      rw (
        add-one n,
        singles-set xs n x,
        take-set-le cut ss n (word x.index x.value) h,
        take-suc-set ss n (word x.index x.value) q,
        drop-append-le cut (take n ss) last l,
        append_assoc (take cut ss) (moves s d c ++ drop cut (take n ss)) last,
        append_assoc (moves s d c) (drop cut (take n ss)) last,
      )

  -- without a move the list is the first n single stores
  pub logged-plain : (n cut s d c : ℕ) → cut ≤ n → c ≡ 0 → logged xs n cut s d c ≡ take n ss
  unfolding logged
  logged-plain n cut s d c h e = rw (e, ← take-take cut n ss h) (take-append-drop cut (take n ss))

  -- appending the move
  pub logged_move : (n s d c : ℕ) → 0 < c → logged xs n n s d c ≡ take n ss ++ (bytes s d c ∷ [])
  unfolding logged
  logged_move n s d zero h = absurd (omega arith)
  logged_move n s d (suc c) h = rw (slice_empty n ss)
