-- What the machine makes of prefix bytes, in arithmetic: an Oreg that ends in four clear bits, and the nibble that is ORed into them.
use mathlib.Core.Path.{◌≡◌, refl, ap, ◌∙◌}
use mathlib.Core.Logic.{◌⊎◌, inl, inr, ⊎_elim}
use mathlib.Core.Bool.{true, false}
use lib.Dec.{eqb}
use borrow.Author.Tests.{eqb-true, eq-eqb, ne_eqb}
use mathlib.Core.List.{List, [], ◌∷◌, ◌++◌}
use Prim.Native.Nat.{ℕ, ◌+◌, ◌-◌, ◌*◌, ◌/◌, ◌%◌, ◌^◌, ◌<◌}
use native.Mathlib.Omega.{arith}
use lib.Bits.{bit_or, and_mask, or_shifted}
use Rattle.std.proofs.lemmas.Bool.{or_cases}
use Rattle.rules.specs.Words.{range, with_nibble, prefixed, negative_prefixed}
use Rattle.rules.proofs.Tests.{yes_eq, no_eq}
use Rattle.assembly.specs.Chain.{pfix, nfix, function_of, is_prefix, after_prefix, after_prefixes}
use Rattle.assembly.specs.Meeting.{Prefixes}

-- ---- a prefix is pfix or nfix

pub prefix_cases : (byte : ℕ) → is_prefix byte ≡ true → (function_of byte ≡ pfix) ⊎ (function_of byte ≡ nfix)
unfolding is_prefix
prefix_cases byte h =
    ⊎_elim (λ e. inl (eqb-true (function_of byte) pfix e)) (λ e. inr (eqb-true (function_of byte) nfix e))
    (or_cases (eqb (function_of byte) pfix) (eqb (function_of byte) nfix) h)

pub is-prefix : (byte : ℕ) → (function_of byte ≡ pfix) ⊎ (function_of byte ≡ nfix) → is_prefix byte ≡ true
unfolding is_prefix
is-prefix byte (inl e) = rw (eq-eqb (function_of byte) pfix e)
is-prefix byte (inr e) =
    rw (ne_eqb (function_of byte) pfix (λ z. omega (arith, e, z)), eq-eqb (function_of byte) nfix e)

pub no-prefix : (byte : ℕ) → (function_of byte ≡ pfix → ⊥) → (function_of byte ≡ nfix → ⊥) → is_prefix byte ≡ false
unfolding is_prefix
no-prefix byte a b = rw (ne_eqb (function_of byte) pfix a, ne_eqb (function_of byte) nfix b)

-- ---- Oreg

-- the nibble goes into the four clear bits
pub with_nibble_lem : (byte oreg : ℕ) → oreg % 16 ≡ 0 → with_nibble byte oreg ≡ oreg + byte % 16
with_nibble_lem byte oreg h =
    let e : oreg ≡ oreg / 16 * 2 ^ 4 = omega arith in
    let n : byte % 16 < 2 ^ 4 = omega arith in
    rw (and_mask byte 4)
    (ap (λ (x : ℕ). bit_or x (byte % 2 ^ 4)) e ∙ or_shifted (oreg / 16) 4 (byte % 16) n ∙ omega arith)

-- a prefix byte, by its function
pub after-pfix : (oreg byte : ℕ) → oreg % 16 ≡ 0 → function_of byte ≡ pfix → after_prefix oreg byte ≡ (oreg + byte % 16) * 16 % 2 ^ 32
unfolding after_prefix
after-pfix oreg byte h e = rw (yes_eq e) (ap prefixed (with_nibble_lem byte oreg h))

pub after-nfix : (oreg byte : ℕ) → oreg % 16 ≡ 0 → function_of byte ≡ nfix
    → after_prefix oreg byte ≡ (range - 1 - (oreg + byte % 16)) * 16 % 2 ^ 32
unfolding after_prefix
after-nfix oreg byte h e =
    rw (no_eq {a = function_of byte} {b = pfix} (λ z. omega (arith, e, z))) (ap negative_prefixed (with_nibble_lem byte oreg h))

pub after-append : (oreg : ℕ) (a b : List ℕ) → after_prefixes oreg (a ++ b) ≡ after_prefixes (after_prefixes oreg a) b
unfolding after_prefixes
after-append oreg [] b = refl
after-append oreg (x ∷ a) b = after-append (after_prefix oreg x) a b

pub prefixes-append : (a b : List ℕ) → Prefixes a → Prefixes b → Prefixes (a ++ b)
prefixes-append [] b p q = q
prefixes-append (x ∷ a) b p q = (p.0, prefixes-append a b p.1 q)
