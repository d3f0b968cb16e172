-- A move of four bytes at a time is a move of four single bytes.
use mathlib.Core.Path.{◌≡◌, refl, sym, ap, ◌∙◌}
use mathlib.Core.List.{List}
use Prim.Native.Nat.{ℕ, zero, suc, ◌+◌, ◌-◌, ◌*◌, ◌/◌, ◌%◌, ◌^◌, ◌≤◌, ◌<◌}
use native.Mathlib.Nat.{mod-eq_of_lt}
use native.Mathlib.Decide.{dec_lt}
use native.Mathlib.Omega.{arith}
use lib.ListN.{length, get_or, set}
use lib.Seq.{get_or-set_same, set-set}
use Rattle.rules.specs.Words.{byte_of, with_byte}
use Rattle.rules.specs.Memory.{byte_in, set_byte_in, moved}
use Rattle.journal_moves.specs.Four.{four_bytes}
use Rattle.journal_moves.proofs.Bytes.{byte_lt, byte-other, set-byte-length, moved-zero, moved-split}

-- ---- a word from one or two words

three : (t u z a b c : ℕ) → u ≡ t → z ≡ a + 256 * b + 65536 * c → t + z * 256 ≡ u + 256 * a + 65536 * b + 16777216 * c
three t u z a b c e f = omega arith

module _ (m : List ℕ) (s x y : ℕ) (hx : x < 4294967296) (hy : y < 4294967296) (ex : get_or m (s / 4) 0 ≡ x) where
  byte-is : (j k i w : ℕ) → (s + j) % 4 ≡ k → (s + j) / 4 ≡ i → get_or m i 0 ≡ w → byte_in m (s + j) ≡ byte_of k w
  unfolding byte_in
  byte-is j k i w p q r = rw (p, q, r)

  first : (k : ℕ) → s % 4 ≡ k → byte_in m s ≡ byte_of k x
  unfolding byte_in
  first k e = rw (e, ex)

  x₁ : (x / 65536 ≡ x / 256 / 256) × (x / 16777216 ≡ x / 65536 / 256) × (x / 16777216 % 256 ≡ x / 16777216)
  x₁ = (omega arith, omega arith, mod-eq_of_lt (omega arith))

  y₁ : (y / 65536 ≡ y / 256 / 256) × (y / 16777216 ≡ y / 65536 / 256) × (y / 16777216 % 256 ≡ y / 16777216)
  y₁ = (omega arith, omega arith, mod-eq_of_lt (omega arith))

  y₂ : y % 16777216 ≡ byte_of 0 y + 256 * byte_of 1 y + 65536 * byte_of 2 y
  y₂ = omega (arith, y₁)

  pub level : s % 4 ≡ 0 → x ≡ four_bytes m s
  unfolding four_bytes
  level e =
      rw
      (first 0 e, byte-is 1 1 (s / 4) x (omega arith) (omega arith) ex, byte-is 2 2 (s / 4) x (omega arith) (omega arith) ex, byte-is 3 3 (s / 4) x (omega arith) (omega arith) ex)
      (omega (arith, x₁))

  module _ (ey : get_or m (s / 4 + 1) 0 ≡ y) where
    off_1 : s % 4 ≡ 1 → x / 256 + y % 256 * 16777216 ≡ four_bytes m s
    unfolding four_bytes
    off_1 e =
        rw
        (first 1 e, byte-is 1 2 (s / 4) x (omega arith) (omega arith) ex, byte-is 2 3 (s / 4) x (omega arith) (omega arith) ex, byte-is 3 0 (s / 4 + 1) y (omega arith) (omega arith) ey)
        (omega (arith, x₁))

    off_2 : s % 4 ≡ 2 → x / 65536 + y % 65536 * 65536 ≡ four_bytes m s
    unfolding four_bytes
    off_2 e =
        rw
        (first 2 e, byte-is 1 3 (s / 4) x (omega arith) (omega arith) ex, byte-is 2 0 (s / 4 + 1) y (omega arith) (omega arith) ey, byte-is 3 1 (s / 4 + 1) y (omega arith) (omega arith) ey)
        (omega (arith, x₁, y₁))

    off_3 : s % 4 ≡ 3 → x / 16777216 + y % 16777216 * 256 ≡ four_bytes m s
    unfolding four_bytes
    off_3 e =
        rw
        (first 3 e, byte-is 1 0 (s / 4 + 1) y (omega arith) (omega arith) ey, byte-is 2 1 (s / 4 + 1) y (omega arith) (omega arith) ey, byte-is 3 2 (s / 4 + 1) y (omega arith) (omega arith) ey)
        (three (x / 16777216) (x / 16777216 % 256) (y % 16777216) (byte_of 0 y) (byte_of 1 y) (byte_of 2 y) x₁.2 y₂)

    pub off : (k : ℕ) → 0 < k → k < 4 → s % 4 ≡ k → x / 2 ^ (8 * k) + y % 2 ^ (8 * k) * 2 ^ (32 - 8 * k) ≡ four_bytes m s
    off zero p q e = absurd (omega arith)
    off (suc zero) p q e = off_1 e
    off (suc (suc zero)) p q e = off_2 e
    off (suc (suc (suc zero))) p q e = off_3 e
    off (suc (suc (suc (suc k)))) p q e = absurd (omega arith)

-- ---- four bytes stored are a word stored

set_at : (m : List ℕ) (a e j b : ℕ) → a / 4 ≡ e → a % 4 ≡ j → set_byte_in m a b ≡ set m e (with_byte j b (get_or m e 0))
unfolding set_byte_in
set_at m a e j b p q = rw (p, q)

four_bytes_lem :
    (w a b c d : ℕ)
    → w < 4294967296
    → a < 256
    → b < 256
    → c < 256
    → d < 256
    → with_byte 3 d (with_byte 2 c (with_byte 1 b (with_byte 0 a w))) ≡ a + 256 * b + 65536 * c + 16777216 * d
four_bytes_lem w a b c d l p q r s =
    chain (with_byte 0 a w) (with_byte 1 b (with_byte 0 a w)) (with_byte 2 c (with_byte 1 b (with_byte 0 a w)))
    (with_0 a w p l)
    (with_1 b (with_byte 0 a w) q (small_0 a w p l))
    (with_2 c (with_byte 1 b (with_byte 0 a w)) r (small_1 b (with_byte 0 a w) q (small_0 a w p l)))
  where
    small_0 : (b u : ℕ) → b < 256 → u < 4294967296 → with_byte 0 b u < 4294967296
    small_0 b u h k = omega arith

    small_1 : (b u : ℕ) → b < 256 → u < 4294967296 → with_byte 1 b u < 4294967296
    small_1 b u h k = omega arith

    with_0 : (b u : ℕ) → b < 256 → u < 4294967296 → with_byte 0 b u % 256 ≡ b
    with_0 b u h k = omega arith

    with_1 : (b u : ℕ) → b < 256 → u < 4294967296 → with_byte 1 b u % 65536 ≡ b * 256 + u % 256
    with_1 b u h k = omega arith

    with_2 : (b u : ℕ) → b < 256 → u < 4294967296 → (with_byte 2 b u % 16777216 ≡ b * 65536 + u % 65536) × (with_byte 2 b u < 4294967296)
    with_2 b u h k = (omega arith, omega arith)

    chain :
        (x y z : ℕ)
        → x % 256 ≡ a
        → y % 65536 ≡ b * 256 + x % 256
        → (z % 16777216 ≡ c * 65536 + y % 65536) × (z < 4294967296)
        → with_byte 3 d z ≡ a + 256 * b + 65536 * c + 16777216 * d
    chain x y z e f g = omega arith

four-sets :
    (m : List ℕ) (d a b c e : ℕ)
    → d % 4 ≡ 0
    → d < 4 * length m
    → get_or m (d / 4) 0 < 4294967296
    → a < 256
    → b < 256
    → c < 256
    → e < 256
    → set_byte_in (set_byte_in (set_byte_in (set_byte_in m d a) (d + 1) b) (d + 1 + 1) c) (d + 1 + 1 + 1) e ≡ set m (d / 4) (a + 256 * b + 65536 * c + 16777216 * e)
four-sets m d a b c e z h g p q r s =
    let k : ℕ = d / 4 in
    let l : k < length m = omega arith in
    let w : ℕ = get_or m k 0 in
    let s₁ : set_byte_in m d a ≡ set m k (with_byte 0 a w) = set_at m d k 0 a refl z in
    let s₂ : set_byte_in (set m k (with_byte 0 a w)) (d + 1) b ≡ set m k (with_byte 1 b (with_byte 0 a w)) =
    (set_at (set m k (with_byte 0 a w)) (d + 1) k 1 b (omega arith) (omega arith)
    ∙ rw (get_or-set_same m k (with_byte 0 a w) 0 l, set-set m k (with_byte 0 a w) (with_byte 1 b (with_byte 0 a w)))) in
    let w₂ : ℕ = with_byte 1 b (with_byte 0 a w) in
    let s₃ : set_byte_in (set m k w₂) (d + 1 + 1) c ≡ set m k (with_byte 2 c w₂) =
    (set_at (set m k w₂) (d + 1 + 1) k 2 c (omega arith) (omega arith)
    ∙ rw (get_or-set_same m k w₂ 0 l, set-set m k w₂ (with_byte 2 c w₂))) in
    let w₃ : ℕ = with_byte 2 c w₂ in
    let s₄ : set_byte_in (set m k w₃) (d + 1 + 1 + 1) e ≡ set m k (with_byte 3 e w₃) =
    (set_at (set m k w₃) (d + 1 + 1 + 1) k 3 e (omega arith) (omega arith)
    ∙ rw (get_or-set_same m k w₃ 0 l, set-set m k w₃ (with_byte 3 e w₃))) in
    rw (s₁, s₂, s₃, s₄) (ap (set m k) (four_bytes_lem w a b c e g p q r s))

-- ---- one turn of the word loop

-- the byte read at turn j is not the byte stored at an earlier turn i
apart : (s d i j : ℕ) → (s < d → s + 4 ≤ d) → i < j → j < 4 → s + j ≡ d + i → ⊥
apart s d i j o p q e = elim (dec_lt s d) [ yes h ↦ let g = o h in omega arith | no h ↦ omega arith ]

four-moved :
    (k : ℕ) (m : List ℕ) (s d : ℕ)
    → d % 4 ≡ 0
    → d + 4 ≤ 4 * length m
    → get_or m (d / 4) 0 < 4294967296
    → (s < d → s + 4 ≤ d)
    → moved m s d (suc (suc (suc (suc k)))) ≡ moved (set m (d / 4) (four_bytes m s)) (s + 4) (d + 4) k
unfolding moved four_bytes
four-moved k m s d z h g o =
    let b₀ : ℕ = byte_in m s in
    let b₁ : ℕ = byte_in m (s + 1) in
    let b₂ : ℕ = byte_in m (s + 2) in
    let b₃ : ℕ = byte_in m (s + 3) in
    let m₁ : List ℕ = set_byte_in m d b₀ in
    let m₂ : List ℕ = set_byte_in m₁ (d + 1) b₁ in
    let m₃ : List ℕ = set_byte_in m₂ (d + 1 + 1) b₂ in
    let l₁ : length m₁ ≡ length m = set-byte-length m d b₀ in
    let l₂ : length m₂ ≡ length m = set-byte-length m₁ (d + 1) b₁ ∙ l₁ in
    let k₀ = byte_lt m s in
    let k₁ = byte_lt m (s + 1) in
    let k₂ = byte_lt m (s + 2) in
    let k₃ = byte_lt m (s + 3) in
    let e₁ : byte_in m₁ (s + 1) ≡ b₁ =
    byte-other m d b₀ (omega arith) k₀ (s + 1) (λ e. apart s d 0 1 o (omega arith) (omega arith) (omega arith)) in
    let s₂ : s + 1 + 1 ≡ s + 2 = omega arith in
    let e₂ : byte_in m₂ (s + 1 + 1) ≡ b₂ =
    (ap (byte_in m₂) s₂
    ∙ byte-other m₁ (d + 1) b₁ (omega arith) k₁ (s + 2) (λ e. apart s d 1 2 o (omega arith) (omega arith) (omega arith))
    ∙ byte-other m d b₀ (omega arith) k₀ (s + 2) (λ e. apart s d 0 2 o (omega arith) (omega arith) (omega arith))) in
    let s₃ : s + 1 + 1 + 1 ≡ s + 3 = omega arith in
    let e₃ : byte_in m₃ (s + 1 + 1 + 1) ≡ b₃ =
    (ap (byte_in m₃) s₃
    ∙ byte-other m₂ (d + 1 + 1) b₂ (omega arith) k₂ (s + 3) (λ e. apart s d 2 3 o (omega arith) (omega arith) (omega arith))
    ∙ byte-other m₁ (d + 1) b₁ (omega arith) k₁ (s + 3) (λ e. apart s d 1 3 o (omega arith) (omega arith) (omega arith))
    ∙ byte-other m d b₀ (omega arith) k₀ (s + 3) (λ e. apart s d 0 3 o (omega arith) (omega arith) (omega arith))) in
    let s₄ : s + 1 + 1 + 1 + 1 ≡ s + 4 = omega arith in
    let d₄ : d + 1 + 1 + 1 + 1 ≡ d + 4 = omega arith in
    rw (e₁, e₂, e₃, s₄, d₄, four-sets m d b₀ b₁ b₂ b₃ z (omega arith) g k₀ k₁ k₂ k₃)

-- a turn of the code's loop: w is the word stored
pub words_more :
    (m₀ m : List ℕ) (s d k w : ℕ)
    → m ≡ moved m₀ s d (4 * k)
    → d % 4 ≡ 0
    → d + 4 * k + 4 ≤ 4 * length m
    → get_or m (d / 4 + k) 0 < 4294967296
    → (s < d → s + 4 ≤ d)
    → w ≡ four_bytes m (s + 4 * k)
    → set m (d / 4 + k) w ≡ moved m₀ s d (4 * (k + 1))
words_more m₀ m s d k w i z h g o f =
    let e : 4 * (k + 1) ≡ 4 * k + 4 = omega arith in
    let p : (d + 4 * k) / 4 ≡ d / 4 + k = omega arith in
    let four =
    four-moved 0 m (s + 4 * k) (d + 4 * k) (omega arith) h (rw p g) (λ q. let r : s < d = omega arith in let t = o r in omega arith) in
    rw (e, moved-split (4 * k) 4 m₀ s d, ← i, f) (sym (four ∙ moved-zero _ _ _ 0 refl ∙ rw p))

pub four_lt : (m : List ℕ) (s : ℕ) → four_bytes m s < 4294967296
unfolding four_bytes
four_lt m s = omega (arith, byte_lt m s, byte_lt m (s + 1), byte_lt m (s + 2), byte_lt m (s + 3))
