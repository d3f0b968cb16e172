-- Normalising a number of 64 bits, one place a turn.
use Rattle.std.proofs.Common.{◌≡◌, ℕ, ◌+◌, ◌-◌, ◌*◌, ◌^◌, ◌<◌, ◌≤◌, lt_of_mul-lt-mul_right, lt_of_not-le, not-le_of_lt, le_of_mul-le-mul_right, arith, pow_pos, pow_mono, pow-add}
use lib.Count.{count_leading_zeros, leading_unique}

-- of two powers, the smaller has the smaller exponent
pub pow_lt_cancel : {a b : ℕ} → 2 ^ a < 2 ^ b → a < b
pow_lt_cancel h = lt_of_not-le (λ g. not-le_of_lt h (pow_mono g))

-- the shift that brings the top bit to bit 63 is the count of leading zeros
pub shift_is : (v n : ℕ) → n ≤ 64 → 2 ^ 63 ≤ v * 2 ^ n → v * 2 ^ n < 2 ^ 64 → count_leading_zeros 64 v ≡ n
shift_is v n l lo hi =
    let m = 64 - n in
    let s : m + n ≡ 64 = omega arith in
    let e : 2 ^ 64 ≡ 2 ^ m * 2 ^ n = rw s at (pow-add 2 m n) in
    let a : v < 2 ^ m = lt_of_mul-lt-mul_right (2 ^ n) (rw e at hi) in
    let b : 2 ^ m ≤ 2 * v = le_of_mul-le-mul_right {k = 2 ^ n} (omega (arith, e)) (pow_pos n) in
    omega (arith, leading_unique 64 v n m (omega arith) a (omega arith))
