-- The loops that read a record: one turn of each, and the end.
use mathlib.Core.Path.{◌≡◌, sym, ◌∙◌}
use mathlib.Core.Bool.{true, false}
use mathlib.Core.List.{List, [], ◌∷◌}
use Prim.Native.Nat.{ℕ, zero, suc, ◌+◌, ◌-◌, ◌≤◌, ◌<◌}
use native.Mathlib.Omega.{arith}
use lib.ListN.{get_or, set}
use lib.Dec.{ltb}
use borrow.Author.Tests.{lt-ltb, le-ltb, ltb-true, ltb-false}
use Rattle.rules.specs.Journal.{pairs_at, write_back, strays}
use Rattle.rules.proofs.Tests.{by_bool}

-- ---- a turn of the loops over the pairs of a record: at and n are those of the pairs from a turn on, b and m of those after it

pub pairs_cut :
    (j : List ℕ) (at n b m : ℕ) → 0 < n → b ≡ at + 2 → m ≡ n - 1 → pairs_at j at n ≡ (get_or j at 0, get_or j (at + 1) 0) ∷ pairs_at j b m
unfolding pairs_at
pairs_cut j at zero b m h e f = absurd (omega arith)
pairs_cut j at (suc n) b m h e f = let g : m ≡ n = omega arith in rw (e, g)

module _ (j : List ℕ) (at n b m : ℕ) (h : 0 < n) (e : b ≡ at + 2) (f : m ≡ n - 1) where
  cut : pairs_at j at n ≡ (get_or j at 0, get_or j (at + 1) 0) ∷ pairs_at j b m
  cut = pairs_cut j at n b m h e f

  module _ (size : ℕ) where
    pub strays_here : size ≤ get_or j at 0 → strays size (pairs_at j at n) ≡ true
    unfolding strays
    strays_here l = rw (cut, le-ltb (get_or j at 0) size l)

    pub strays_on : get_or j at 0 < size → strays size (pairs_at j at n) ≡ strays size (pairs_at j b m)
    unfolding strays
    strays_on l = rw (cut, lt-ltb (get_or j at 0) size l)

    module _ (ok : strays size (pairs_at j at n) ≡ false) where
      pub pair_below : get_or j at 0 < size
      pair_below =
          by_bool (ltb (get_or j at 0) size)
          (λ e. ltb-true (get_or j at 0) size e)
          (λ e. let f = strays_here (ltb-false (get_or j at 0) size e) in let z : ◌≡◌ {A = ℕ} 0 1 = cc in absurd (omega arith))

      pub pairs_below : strays size (pairs_at j b m) ≡ false
      pairs_below = sym (strays_on pair_below) ∙ ok

  pub back_turn : (mem : List ℕ) → write_back (set mem (get_or j at 0) (get_or j (at + 1) 0)) (pairs_at j b m) ≡ write_back mem (pairs_at j at n)
  unfolding write_back
  back_turn mem = rw cut

pub pairs-none : (j : List ℕ) (at n : ℕ) → n ≡ 0 → pairs_at j at n ≡ []
unfolding pairs_at
pairs-none j at n e = rw e
