-- The test that a move stays inside memory, of the code and of the definition.
use mathlib.Core.Path.{◌≡◌, refl}
use mathlib.Core.Bool.{Bool, true, false, ◌&&◌}
use Prim.Native.Nat.{ℕ, ◌+◌, ◌*◌, ◌≤◌}
use native.Mathlib.Omega.{arith}
use lib.Dec.{leb}
use borrow.Author.Tests.{leb-true}
use Rattle.rules.specs.Memory.{within}

module _ (size source target n : ℕ) where
  pub within-told : within size source target n ≡ true → (source + n ≤ 4 * size) × (target + n ≤ 4 * size)
  unfolding within
  within-told e =
      let f = both (leb (source + n) (4 * size)) (leb (target + n) (4 * size)) e in
      (leb-true (source + n) (4 * size) f.0, leb-true (target + n) (4 * size) f.1)
    where
      both : (a b : Bool) → a && b ≡ true → (a ≡ true) × (b ≡ true)
      both true b e = (refl, e)
      both false b e = let z : ◌≡◌ {A = ℕ} 0 1 = cc in absurd (omega arith)
