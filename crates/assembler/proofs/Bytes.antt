-- An instruction byte, made by shifts and masks.
use mathlib.Core.Path.{◌≡◌, ap, ◌∙◌}
use Prim.Native.Nat.{ℕ, ◌+◌, ◌*◌, ◌%◌, ◌^◌, ◌<◌}
use native.Mathlib.Omega.{arith}
use lib.Bits.{bit_and, bit_or, and_mask, or_shifted}

pub byte_of : (f v : ℕ) → f < 16 → bit_or (f * 2 ^ 4 % 2 ^ 32) (bit_and v 15) ≡ 16 * f + v % 16
byte_of f v h =
    let e : f * 2 ^ 4 % 2 ^ 32 ≡ f * 2 ^ 4 = omega arith in
    let n : v % 16 < 2 ^ 4 = omega arith in
    rw (and_mask v 4) (ap (λ (x : ℕ). bit_or x (v % 2 ^ 4)) e ∙ or_shifted f 4 (v % 16) n ∙ omega arith)
