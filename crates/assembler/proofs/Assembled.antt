-- The four answers of assemble and the two of list, each from the tests that lead to it.
use mathlib.Core.Path.{◌≡◌, refl, sym, ◌∙◌}
use mathlib.Core.Bool.{true, false}
use mathlib.Core.List.{List, ◌++◌}
use Prim.Native.Nat.{ℕ, ◌≤◌, ◌<◌}
use native.Mathlib.Omega.{arith}
use lib.ListN.{length, take, drop}
use lib.Seq.{sets}
use Rattle.rules.proofs.Tests.{yes_lt, no_lt}
use Rattle.assembly.specs.Chain.{chain}
use Rattle.assembly.specs.Listing.{listing}
use Rattle.std.specs.Prelude.{Ok, Err}
use Rattle.assembly.specs.Calls.{outcome_of, write_or_refuse, function_bad, assemble, list}
use Rattle.assembly.specs.declared.Refusal.TheVariants.{BadFunction, TooLong, NoRoom}
use Rattle.assembly.proofs.Demands.{written-bytes}
use Rattle.assembler.proofs.Stores.{front-written}

module _ (f v : ℕ) (out : List ℕ) where
  pub bad-function : function_bad f ≡ true → outcome_of (Err BadFunction) out ≡ assemble f v out
  unfolding assemble
  bad-function t = rw t

  module _ (t : function_bad f ≡ false) where
    pub too_long : 8 < length (chain f v) → outcome_of (Err TooLong) out ≡ assemble f v out
    unfolding assemble
    too_long h = rw (t, yes_lt h)

    pub no_room : length (chain f v) ≤ 8 → length out < length (chain f v) → outcome_of (Err NoRoom) out ≡ assemble f v out
    unfolding assemble write_or_refuse
    no_room h g = rw (t, no_lt h, yes_lt g)

    pub assembled : (size : ℕ) (array array' new : List ℕ) → (size ≡ length (chain f v)) × (array' ≡ sets array 0 (chain f v)) → length array ≡ 8
        → size ≤ 8 → size ≤ length out → new ≡ take size array' → outcome_of (Ok size) (new ++ drop size out) ≡ assemble f v out
    unfolding assemble write_or_refuse
    assembled size array array' new e a h g n =
        let bytes : new ≡ chain f v = n ∙ rw (e.1, e.0) (written-bytes (chain f v) array (omega (arith, e.0))) in
        let w : new ++ drop size out ≡ sets out 0 (chain f v) = rw bytes (front-written size out (chain f v) (sym e.0) g) in
        rw (t, no_lt {a = 8} {b = length (chain f v)} (omega (arith, e.0)), no_lt {a = length out} {b = length (chain f v)} (omega (arith, e.0)), w, e.0)
        refl

-- ---- the two answers of list

module _ (code out : List ℕ) where
  pub list-refused : length out < length (listing code) → outcome_of (Err NoRoom) out ≡ list code out
  unfolding list write_or_refuse
  list-refused h = rw (yes_lt h)

  pub list_done : (size : ℕ) (out' : List ℕ) → length (listing code) ≤ length out
      → (size ≡ length (listing code)) × (out' ≡ sets out 0 (listing code)) → outcome_of (Ok size) out' ≡ list code out
  unfolding list write_or_refuse
  list_done size out' h e = rw (no_lt {a = length out} {b = length (listing code)} h, e.0, e.1)
