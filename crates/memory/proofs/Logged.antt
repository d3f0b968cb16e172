-- Reads of memory after the stores of a log: the single stores, and a move among them.
use mathlib.Core.Path.{◌≡◌, refl, ap}
use mathlib.Core.List.{List, [], ◌∷◌, ◌++◌}
use Prim.Native.Nat.{ℕ, zero, suc, ◌+◌, ◌-◌, ◌≤◌, ◌<◌}
use native.Mathlib.Omega.{arith}
use native.Mathlib.Numerals.{add-one}
use lib.ListN.{length, get_or, take, drop}
use lib.Seq.{slice, take-suc}
use Rattle.std.proofs.lemmas.List.{drop-take}
use Rattle.rules.specs.Memory.{Store, word, stores}
use Rattle.plan.specs.declared.Single.{Single}
use Rattle.plan.specs.View.{singles, moves, logged}
use Rattle.plan.proofs.Logged.{unused, singles-length, singles_at}
use Rattle.memory.proofs.Stored.{stores-append, read_here, read_past}

-- the first k of the stores of single words are those of the first k entries; so are those behind them
pub singles-take : (k : ℕ) (xs : List Single) → singles (take k xs) ≡ take k (singles xs)
singles-take zero xs = refl
singles-take (suc k) [] = refl
singles-take (suc k) (x ∷ xs) = ap (λ (r : List Store). word x.index x.value ∷ r) (singles-take k xs)

pub singles-drop : (k : ℕ) (xs : List Single) → singles (drop k xs) ≡ drop k (singles xs)
singles-drop zero xs = refl
singles-drop (suc k) [] = refl
singles-drop (suc k) (x ∷ xs) = singles-drop k xs

pub singles-slice : (f t : ℕ) (xs : List Single) → f ≤ t → singles (take (t - f) (drop f xs)) ≡ slice f t (singles xs)
singles-slice f t xs h =
    let e : f + (t - f) ≡ t = omega arith in
    rw (singles-take (t - f) (drop f xs), singles-drop f xs, ← drop-take f (t - f) (singles xs), e)

-- ---- a read after one single store more
module _ (xs : List Single) (m : List ℕ) (i k : ℕ) (h : k < length xs) where
  abbrev here : Single
  here = get_or xs k unused

  one_more : singles (take (k + 1) xs) ≡ singles (take k xs) ++ (word here.index here.value ∷ [])
  one_more =
      let q : k < length (singles xs) = omega (arith, singles-length xs) in
      rw (add-one k, singles-take (suc k) xs, singles-take k xs, take-suc (singles xs) k (word 0 0) q, singles_at xs k)

  pub through_here : i < length m → here.index ≡ i → get_or (stores m (singles (take (k + 1) xs))) i 0 ≡ here.value
  through_here l e = rw (one_more, e) (read_here (singles (take k xs)) m i here.value l)

  pub through_past : (here.index ≡ i → ⊥) → get_or (stores m (singles (take (k + 1) xs))) i 0 ≡ get_or (stores m (singles (take k xs))) i 0
  through_past n = rw one_more (read_past (singles (take k xs)) m i here.index here.value n)

-- ---- a read after a list of single stores, from its end

singles-more : (xs : List Single) (x : Single) → singles (xs ++ (x ∷ [])) ≡ singles xs ++ (word x.index x.value ∷ [])
singles-more [] x = refl
singles-more (y ∷ xs) x = ap (λ (r : List Store). word y.index y.value ∷ r) (singles-more xs x)

module _ (xs : List Single) (m : List ℕ) (i : ℕ) where
  pub through_last : (x : Single) → i < length m → x.index ≡ i → get_or (stores m (singles (xs ++ (x ∷ [])))) i 0 ≡ x.value
  through_last x l e = rw (singles-more xs x, e) (read_here (singles xs) m i x.value l)

  pub through_rest : (x : Single) → (x.index ≡ i → ⊥) → get_or (stores m (singles (xs ++ (x ∷ [])))) i 0 ≡ get_or (stores m (singles xs)) i 0
  through_rest x n = rw (singles-more xs x) (read_past (singles xs) m i x.index x.value n)

pub through_none : (xs : List Single) (m : List ℕ) (i : ℕ) → length xs ≡ 0 → get_or (stores m (singles xs)) i 0 ≡ get_or m i 0
unfolding stores
through_none [] m i h = refl
through_none (x ∷ xs) m i h = absurd (omega (arith, h))

-- memory after the stores of a plan, in three parts
pub through_log : (m : List ℕ) (xs : List Single) (n cut s d c : ℕ)
    → stores m (logged xs n cut s d c) ≡ stores (stores (stores m (take cut (singles xs))) (moves s d c)) (slice cut n (singles xs))
unfolding logged
through_log m xs n cut s d c =
    let pre : List Store = take cut (singles xs) in
    let post : List Store = slice cut n (singles xs) in
    rw (stores-append pre (moves s d c ++ post) m, stores-append (moves s d c) post (stores m pre))
