-- A function that is not refused is none of the prefixes. The operations that have a name are the built ones, and the names differ.
use mathlib.Core.Path.{◌≡◌, refl, sym, ◌∙◌}
use mathlib.Core.Bool.{Bool, true, false, ◌&&◌, ◌||◌}
use mathlib.Core.List.{List, [], ◌∷◌, ◌++◌}
use Prim.Native.Nat.{ℕ, ◌≤◌}
use lib.Dec.{ltb, eqb}
use borrow.Author.Tests.{ltb-false, eqb-false}
use Rattle.rules.specs.Tests.{pick}
use Rattle.rules.specs.Operations.{register_operations, other_operations, operations}
use Rattle.rules.proofs.Tests.{cases_lt}
use Rattle.laws.specs.Lists.{listed}
use Rattle.laws.proofs.Calm.{neither}
use Rattle.laws.proofs.Rows.{bounded, unlisted_above, same, is_same}
use Rattle.laws.proofs.LawfulOperations.{all_below, all_below_lem}
use Rattle.assembly.specs.Chain.{pfix, nfix}
use Rattle.assembly.specs.Names.{letters, function_names, operation_names}
use Rattle.assembly.specs.Calls.{function_bad}

-- a function that is not refused is below 16, and no prefix
pub good-function : (f : ℕ) → function_bad f ≡ false → (f ≤ 15) × (f ≡ pfix → ⊥) × (f ≡ nfix → ⊥)
unfolding function_bad
good-function f h =
    let a = neither (ltb 15 f || eqb f pfix) (eqb f nfix) h in
    let b = neither (ltb 15 f) (eqb f pfix) a.0 in
    (ltb-false 15 f b.0, eqb-false f pfix b.1, eqb-false f nfix a.1)

pub not-pfix : (f : ℕ) → function_bad f ≡ false → f ≡ pfix → ⊥
not-pfix f h = (good-function f h).1

pub not-nfix : (f : ℕ) → function_bad f ≡ false → f ≡ nfix → ⊥
not-nfix f h = (good-function f h).2

-- ---- every built operation has a name, and no other code has one

pub names_built : (k : ℕ) → listed k operation_names ≡ listed k operations
unfolding all_below bounded same operation_names register_operations other_operations operations
names_built k =
    cases_lt k 256
    (λ h. is_same _ _ (all_below_lem 256 (λ k. same (listed k operation_names) (listed k operations)) refl k h))
    (λ h. unlisted_above 256 operation_names refl k h ∙ sym (unlisted_above 256 operations refl k h))

-- ---- no name is empty, and none stands twice, of a function or an operation

-- two names are the same
unfoldable pub alike : List ℕ → List ℕ → Bool
alike [] [] = true
alike [] (y ∷ b) = false
alike (x ∷ a) [] = false
alike (x ∷ a) (y ∷ b) = eqb x y && alike a b

-- a name is none of some names
unfoldable pub absent : List ℕ → List (ℕ × List ℕ) → Bool
absent a [] = true
absent a (e ∷ t) = pick (alike a e.1) false (absent a t)

-- the names of a table are not empty, and differ
unfoldable pub differ : List (ℕ × List ℕ) → Bool
differ [] = true
differ (e ∷ t) = pick (alike e.1 []) false (absent e.1 t && differ t)

pub names-differ : differ (function_names ++ operation_names) ≡ true
unfolding differ absent alike function_names operation_names letters
names-differ = refl
