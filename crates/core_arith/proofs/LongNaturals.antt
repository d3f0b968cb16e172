-- Two words as one number: bounds and parts.
use Rattle.std.proofs.Common.{◌≡◌, ℕ, ◌+◌, ◌*◌, ◌/◌, ◌^◌, ◌<◌, ◌≤◌, mul-le-mul_right, div-lt_iff_lt-mul, arith}

pub product_fits : (a b c : ℕ) → a < 2 ^ 32 → b < 2 ^ 32 → c < 2 ^ 32 → a * b + c < 2 ^ 64
product_fits a b c ha hb hc =
    let h : a ≤ 4294967295 = omega arith in
    omega (arith, mul-le-mul_right b h)

-- the quotient of a two-word number by a word above its upper word is a word
pub quotient_fits : (hi lo a : ℕ) → hi < a → lo < 2 ^ 32 → (hi * 2 ^ 32 + lo) / a < 2 ^ 32
quotient_fits hi lo a h l =
    let p : 0 < a = omega arith in
    (div-lt_iff_lt-mul {k = a} {x = hi * 2 ^ 32 + lo} {y = 2 ^ 32} p).1 (omega arith)
