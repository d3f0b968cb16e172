-- One byte of a word, and one byte of a memory.
use mathlib.Core.Path.{◌≡◌, refl, ap, ◌∙◌}
use mathlib.Core.List.{List}
use Prim.Native.Nat.{ℕ, zero, suc, ◌+◌, ◌*◌, ◌/◌, ◌%◌, ◌^◌, ◌<◌}
use native.Mathlib.Nat.{mod-eq_of_lt}
use native.Mathlib.Decide.{ℕ_discrete}
use native.Mathlib.Omega.{arith}
use lib.ListN.{length, get_or, length-set}
use lib.Seq.{get_or-set_same, get_or-set_other}
use Rattle.rules.specs.Words.{byte_of, with_byte}
use Rattle.rules.specs.Memory.{byte_in, set_byte_in}

-- ---- a byte of a word

byte_lt : (j w : ℕ) → byte_of j w < 256
byte_lt j w = omega arith

same_byte : (j b w : ℕ) → j < 4 → b < 256 → byte_of j (with_byte j b w) ≡ b
same_byte zero b w h k = omega arith
same_byte (suc zero) b w h k = omega arith
same_byte (suc (suc zero)) b w h k = omega arith
same_byte (suc (suc (suc zero))) b w h k = omega arith
same_byte (suc (suc (suc (suc j)))) b w h k = absurd (omega arith)

other_byte : (i j b w : ℕ) → i < 4 → j < 4 → b < 256 → (i ≡ j → ⊥) → byte_of i (with_byte j b w) ≡ byte_of i w
other_byte zero zero b w h k l n = absurd (n refl)
other_byte zero (suc zero) b w h k l n = omega arith
other_byte zero (suc (suc zero)) b w h k l n = omega arith
other_byte zero (suc (suc (suc zero))) b w h k l n = omega arith
other_byte (suc zero) zero b w h k l n = omega arith
other_byte (suc zero) (suc zero) b w h k l n = absurd (n refl)
other_byte (suc zero) (suc (suc zero)) b w h k l n = omega arith
other_byte (suc zero) (suc (suc (suc zero))) b w h k l n = omega arith
other_byte (suc (suc zero)) zero b w h k l n = omega arith
other_byte (suc (suc zero)) (suc zero) b w h k l n = omega arith
other_byte (suc (suc zero)) (suc (suc zero)) b w h k l n = absurd (n refl)
other_byte (suc (suc zero)) (suc (suc (suc zero))) b w h k l n = omega arith
other_byte (suc (suc (suc zero))) zero b w h k l n = omega arith
other_byte (suc (suc (suc zero))) (suc zero) b w h k l n = omega arith
other_byte (suc (suc (suc zero))) (suc (suc zero)) b w h k l n = omega arith
other_byte (suc (suc (suc zero))) (suc (suc (suc zero))) b w h k l n = absurd (n refl)
other_byte (suc (suc (suc (suc i)))) j b w h k l n = absurd (omega arith)
other_byte zero (suc (suc (suc (suc j)))) b w h k l n = absurd (omega arith)
other_byte (suc zero) (suc (suc (suc (suc j)))) b w h k l n = absurd (omega arith)
other_byte (suc (suc zero)) (suc (suc (suc (suc j)))) b w h k l n = absurd (omega arith)
other_byte (suc (suc (suc zero))) (suc (suc (suc (suc j)))) b w h k l n = absurd (omega arith)

-- a word with one byte replaced stays below 2 ^ 32
pub with_small : (j b w : ℕ) → j < 4 → b < 256 → w < 2 ^ 32 → with_byte j b w < 2 ^ 32
with_small zero b w h k l = omega arith
with_small (suc zero) b w h k l = omega arith
with_small (suc (suc zero)) b w h k l = omega arith
with_small (suc (suc (suc zero))) b w h k l = omega arith
with_small (suc (suc (suc (suc j)))) b w h k l = absurd (omega arith)

-- a word is the sum of its four bytes
sum_of-bytes : (w : ℕ) → w < 2 ^ 32 → byte_of 0 w + 256 * byte_of 1 w + 65536 * byte_of 2 w + 16777216 * byte_of 3 w ≡ w
sum_of-bytes w h =
    let a : w / 65536 ≡ w / 256 / 256 = omega arith in
    let b : w / 16777216 ≡ w / 65536 / 256 = omega arith in
    let c : w / 16777216 % 256 ≡ w / 16777216 = mod-eq_of_lt (omega arith) in
    omega (arith, a, b, c)

-- ---- a byte of a memory

pub byte_in_lt : (m : List ℕ) (o : ℕ) → byte_in m o < 256
unfolding byte_in
byte_in_lt m o = byte_lt (o % 4) (get_or m (o / 4) 0)

pub set-byte-length : (m : List ℕ) (o b : ℕ) → length (set_byte_in m o b) ≡ length m
unfolding set_byte_in
set-byte-length m o b = simp length-set

module _ (m : List ℕ) (o b : ℕ) (h : o < 4 * length m) (k : b < 256) where
  in_words : o / 4 < length m
  in_words = omega arith

  pub byte-same : byte_in (set_byte_in m o b) o ≡ b
  unfolding byte_in set_byte_in
  byte-same =
      rw (get_or-set_same m (o / 4) (with_byte (o % 4) b (get_or m (o / 4) 0)) 0 in_words)
      (same_byte (o % 4) b (get_or m (o / 4) 0) (omega arith) k)

  pub byte-other : (c : ℕ) → (c ≡ o → ⊥) → byte_in (set_byte_in m o b) c ≡ byte_in m c
  unfolding byte_in set_byte_in
  byte-other c n =
      elim (ℕ_discrete (c / 4) (o / 4)) [
        | yes e ↦
            rw (e, get_or-set_same m (o / 4) (with_byte (o % 4) b (get_or m (o / 4) 0)) 0 in_words)
            (other_byte (c % 4) (o % 4) b (get_or m (o / 4) 0) (omega arith) (omega arith) k (λ q. n (omega arith)))
        | no e ↦ rw (get_or-set_other m (o / 4) (c / 4) (with_byte (o % 4) b (get_or m (o / 4) 0)) 0 e)
      ]

byte_at : (m : List ℕ) (i j : ℕ) → j < 4 → byte_in m (4 * i + j) ≡ byte_of j (get_or m i 0)
unfolding byte_in
byte_at m i j h =
    let e : (4 * i + j) / 4 ≡ i = omega arith in
    let f : (4 * i + j) % 4 ≡ j = omega arith in
    rw (e, f)

-- a word of a memory is the sum of its four bytes
pub from_bytes : (m : List ℕ) (i a b c d : ℕ) → get_or m i 0 < 2 ^ 32
    → a ≡ byte_in m (4 * i) → b ≡ byte_in m (4 * i + 1) → c ≡ byte_in m (4 * i + 2) → d ≡ byte_in m (4 * i + 3)
    → a + 256 * b + 65536 * c + 16777216 * d ≡ get_or m i 0
from_bytes m i a b c d h p q r s =
    let z : 4 * i ≡ 4 * i + 0 = omega arith in
    let p' : a ≡ byte_of 0 (get_or m i 0) = p ∙ ap (byte_in m) z ∙ byte_at m i 0 (omega arith) in
    let q' : b ≡ byte_of 1 (get_or m i 0) = q ∙ byte_at m i 1 (omega arith) in
    let r' : c ≡ byte_of 2 (get_or m i 0) = r ∙ byte_at m i 2 (omega arith) in
    let s' : d ≡ byte_of 3 (get_or m i 0) = s ∙ byte_at m i 3 (omega arith) in
    rw (p', q', r', s') (sum_of-bytes (get_or m i 0) h)
