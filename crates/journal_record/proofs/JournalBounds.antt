-- The bounds of the journal, as the code tests them and as the definitions do.
use mathlib.Core.Path.{◌≡◌, refl}
use mathlib.Core.Bool.{Bool, true, false, ◌||◌}
use Prim.Native.Nat.{ℕ, ◌+◌, ◌-◌, ◌*◌, ◌/◌, ◌≤◌, ◌<◌}
use native.Mathlib.Decide.{dec_lt}
use native.Mathlib.Omega.{arith}
use lib.Dec.{ltb}
use borrow.Author.Tests.{lt-ltb, le-ltb, ltb-false}
use Rattle.rules.specs.Registers.{registers}
use Rattle.rules.specs.Journal.{record_length, bounds_bad}

same_test : (a b c d : ℕ) → (a < b → c < d) → (c < d → a < b) → ltb a b ≡ ltb c d
same_test a b c d f g =
    elim (dec_lt a b) [
      | yes h ↦ rw (lt-ltb a b h, lt-ltb c d (f h))
      | no h ↦ elim (dec_lt c d) [
        | yes k ↦ absurd (h (g k))
        | no k ↦ rw (le-ltb a b (omega arith), le-ltb c d (omega arith))
      ]
    ]

module _ (size depth used : ℕ) where
  pub bounds_deep : used ≤ size → ltb (used / (registers + 1)) depth ≡ bounds_bad size depth used
  unfolding bounds_bad
  bounds_deep h =
      rw (le-ltb size used h)
      (same_test (used / (registers + 1)) depth used (record_length 0 * depth) (λ k. omega arith) (λ k. omega arith))

  -- bounds that are not bad: used is within the journal, and the records within used
  pub bounds_good : bounds_bad size depth used ≡ false → (used ≤ size) × (record_length 0 * depth ≤ used)
  unfolding bounds_bad
  bounds_good e =
      let f = neither (ltb size used) (ltb used (record_length 0 * depth)) e in
      (ltb-false size used f.0, ltb-false used (record_length 0 * depth) f.1)
    where
      neither : (a b : Bool) → a || b ≡ false → (a ≡ false) × (b ≡ false)
      neither true b e = let z : ◌≡◌ {A = ℕ} 0 1 = cc in absurd (omega arith)
      neither false b e = (refl, e)

pub bounds-is : (size depth used : ℕ) → used ≤ size → record_length 0 * depth ≤ used → bounds_bad size depth used ≡ false
unfolding bounds_bad
bounds-is size depth used h k = rw (le-ltb size used h, le-ltb used (record_length 0 * depth) k)

pub full : (size used n : ℕ) → used ≤ size → ltb (size - used) (registers + 1 + 2 * n) ≡ ltb size (used + record_length n)
full size used n h =
    same_test (size - used) (registers + 1 + 2 * n) size (used + record_length n) (λ k. omega arith) (λ k. omega arith)
