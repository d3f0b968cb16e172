-- The codes that have a row in the table of operations are those of 01's list.
use mathlib.Core.Path.{◌≡◌, refl, sym, ◌∙◌}
use mathlib.Core.Bool.{Bool, false, ◌&&◌, ◌||◌}
use mathlib.Core.List.{List, [], ◌∷◌}
use Prim.Native.Nat.{ℕ, suc, ◌+◌, ◌≤◌, ◌<◌}
use native.Mathlib.Omega.{arith}
use borrow.Author.Tests.{lt-leb}
use lib.Dec.{leb}
use Rattle.rules.specs.Operations.{register_operations, other_operations, operations}
use Rattle.rules.proofs.Tests.{cases_lt}
use Rattle.laws.specs.Lists.{listed}
use Rattle.laws.proofs.Calm.{and-false}
use Rattle.laws.proofs.Rows.{bounded, unlisted_above, same, is_same}
use Rattle.laws.proofs.LawfulOperations.{all_below, all_below_lem}
use Rattle.refusals.specs.Conditions.{built_ranges, in_ranges, is_built}

-- ---- below a bound: by computation

-- a code above every range
bound : List (ℕ × ℕ) → ℕ
bound [] = 0
bound (r ∷ rs) = suc r.1 + bound rs

built_below : (k : ℕ) → k < bound built_ranges → is_built k ≡ listed k operations
unfolding all_below bound built_ranges register_operations other_operations operations is_built in_ranges same
built_below k h = is_same _ _ (all_below_lem (bound built_ranges) (λ k. same (is_built k) (listed k operations)) refl k h)

-- ---- from the bound on: neither

past : (a b k : ℕ) → b < k → (leb a k && leb k b) ≡ false
past a b k h = rw (lt-leb k b h) (and-false (leb a k))

neither : (a b : Bool) → a ≡ false → b ≡ false → (a || b) ≡ false
neither a b p q = rw (p, q)

ranges_above : (rs : List (ℕ × ℕ)) (k : ℕ) → bound rs ≤ k → in_ranges rs k ≡ false
unfolding bound in_ranges
ranges_above [] k l = refl
ranges_above (r ∷ rs) k l = neither _ _ (past _ _ k (omega arith)) (ranges_above rs k (omega arith))

built_above : (k : ℕ) → bound built_ranges ≤ k → is_built k ≡ false
unfolding is_built
built_above k l = ranges_above built_ranges k l

pub built-listed : (k : ℕ) → is_built k ≡ listed k operations
unfolding bound bounded register_operations other_operations operations built_ranges
built-listed k =
    cases_lt k (bound built_ranges) (λ h. built_below k h) (λ h. built_above k h ∙ sym (unlisted_above (bound built_ranges) operations refl k h))
