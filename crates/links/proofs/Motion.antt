-- The test "a link is moving" of the definitions, decided by the result of transfers::moving.
use mathlib.Core.Path.{◌≡◌, refl}
use mathlib.Core.Bool.{Bool, true, false}
use Prim.Native.Nat.{ℕ}
use lib.Dec.{eqb}
use Rattle.rules.specs.Tests.{pick, if_eq}

-- a: the link is not active, b: its count is 0
both_yes : {A : Type 0} (a b : Bool) → pick a false (pick b false true) ≡ true → (x y : A) → pick a y (pick b y x) ≡ x
both_yes true b h x y = cc
both_yes false true h x y = cc
both_yes false false h x y = refl

both_no : {A : Type 0} (a b : Bool) → pick a false (pick b false true) ≡ false → (x y : A) → pick a y (pick b y x) ≡ y
both_no true b h x y = refl
both_no false true h x y = refl
both_no false false h x y = cc

pub moving_yes : {A : Type 0} (f n : ℕ) → if_eq f 0 false (if_eq n 0 false true) ≡ true → (x y : A) → if_eq f 0 y (if_eq n 0 y x) ≡ x
unfolding if_eq
moving_yes f n h x y = both_yes (eqb f 0) (eqb n 0) h x y

pub moving_no : {A : Type 0} (f n : ℕ) → if_eq f 0 false (if_eq n 0 false true) ≡ false → (x y : A) → if_eq f 0 y (if_eq n 0 y x) ≡ y
unfolding if_eq
moving_no f n h x y = both_no (eqb f 0) (eqb n 0) h x y
