-- One byte of a word, one byte of the memory, and a move of bytes, one after the other.
use mathlib.Core.Path.{◌≡◌, refl}
use mathlib.Core.List.{List}
use Prim.Native.Nat.{ℕ, zero, suc, ◌+◌, ◌*◌, ◌/◌, ◌%◌, ◌<◌}
use native.Mathlib.Nat.{suc-add, zero-add, add-zero}
use native.Mathlib.Decide.{dec_lt, ℕ_discrete}
use native.Mathlib.Omega.{arith}
use lib.ListN.{length, get_or, set, length-set}
use lib.Seq.{get_or-set_same, get_or-set_other, set_out}
use Rattle.rules.specs.Words.{byte_of, with_byte}
use Rattle.rules.specs.Memory.{byte_in, set_byte_in, moved}

-- ---- one word

pub by_four : (P : ℕ → Type 0) (j : ℕ) → j < 4 → P 0 → P 1 → P 2 → P 3 → P j
by_four P zero h a b c d = a
by_four P (suc zero) h a b c d = b
by_four P (suc (suc zero)) h a b c d = c
by_four P (suc (suc (suc zero))) h a b c d = d
by_four P (suc (suc (suc (suc j)))) h a b c d = absurd (omega arith)

module _ (b w : ℕ) (l : b < 256) where
  abbrev Other : ℕ → ℕ → Type 0
  Other j i = (i ≡ j → ⊥) → byte_of i (with_byte j b w) ≡ byte_of i w

  pub other_byte : (i j : ℕ) → i < 4 → j < 4 → Other j i
  other_byte i j h k =
      by_four (λ (y : ℕ). Other y i) j k
      (by_four (Other 0) i h (λ n. absurd (n refl)) (λ n. omega arith) (λ n. omega arith) (λ n. omega arith))
      (by_four (Other 1) i h (λ n. omega arith) (λ n. absurd (n refl)) (λ n. omega arith) (λ n. omega arith))
      (by_four (Other 2) i h (λ n. omega arith) (λ n. omega arith) (λ n. absurd (n refl)) (λ n. omega arith))
      (by_four (Other 3) i h (λ n. omega arith) (λ n. omega arith) (λ n. omega arith) (λ n. absurd (n refl)))

pub byte_of_lt : (j w : ℕ) → byte_of j w < 256
byte_of_lt j w = omega arith

-- ---- one byte of the memory

pub byte_lt : (m : List ℕ) (a : ℕ) → byte_in m a < 256
unfolding byte_in
byte_lt m a = byte_of_lt (a % 4) (get_or m (a / 4) 0)

pub set-byte-length : (m : List ℕ) (a b : ℕ) → length (set_byte_in m a b) ≡ length m
unfolding set_byte_in
set-byte-length m a b = simp length-set

module _ (m : List ℕ) (a b : ℕ) (h : a < 4 * length m) (k : b < 256) where
  in_words : a / 4 < length m
  in_words = omega arith

  pub byte-other : (c : ℕ) → (c ≡ a → ⊥) → byte_in (set_byte_in m a b) c ≡ byte_in m c
  unfolding byte_in set_byte_in
  byte-other c n =
      elim (ℕ_discrete (c / 4) (a / 4)) [
        | yes e ↦
            rw (e, get_or-set_same m (a / 4) (with_byte (a % 4) b (get_or m (a / 4) 0)) 0 in_words)
            (other_byte b (get_or m (a / 4) 0) k (c % 4) (a % 4) (omega arith) (omega arith) (λ q. n (omega arith)))
        | no e ↦ rw (get_or-set_other m (a / 4) (c / 4) (with_byte (a % 4) b (get_or m (a / 4) 0)) 0 e)
      ]

-- ---- the move

pub moved-zero : (m : List ℕ) (s d n : ℕ) → n ≡ 0 → moved m s d n ≡ m
unfolding moved
moved-zero m s d n e = rw e

pub moved-split : (a b : ℕ) (m : List ℕ) (s d : ℕ) → moved m s d (a + b) ≡ moved (moved m s d a) (s + a) (d + a) b
unfolding moved
moved-split zero b m s d = rw (zero-add b, add-zero s, add-zero d)
moved-split (suc a) b m s d =
    let e : s + 1 + a ≡ s + suc a = omega arith in
    let f : d + 1 + a ≡ d + suc a = omega arith in
    rw (suc-add a b, ← e, ← f) (moved-split a b (set_byte_in m d (byte_in m s)) (s + 1) (d + 1))

-- a turn of the code's loop: b is the byte read, w the word stored
pub moved_more :
    (m₀ m : List ℕ) (s d k b w : ℕ)
    → m ≡ moved m₀ s d k
    → b ≡ byte_of ((s + k) % 4) (get_or m ((s + k) / 4) 0)
    → w ≡ with_byte ((d + k) % 4) b (get_or m ((d + k) / 4) 0)
    → set m ((d + k) / 4) w ≡ moved m₀ s d (k + 1)
unfolding moved byte_in set_byte_in
moved_more m₀ m s d k b w i e f = rw (moved-split k 1 m₀ s d, ← i, f, e)

-- ---- words are below 2 ^ 32

abbrev pub Small : List ℕ → Type 0
Small m = (k : ℕ) → get_or m k 0 < 4294967296

pub small-set : (m : List ℕ) (i w : ℕ) → Small m → w < 4294967296 → Small (set m i w)
small-set m i w h l k =
    elim (ℕ_discrete k i) [
      | yes e ↦ elim (dec_lt i (length m)) [
        | yes b ↦ rw (e, get_or-set_same m i w 0 b) l
        | no b ↦ rw (set_out m i w (omega arith)) (h k)
      ]
      | no e ↦ rw (get_or-set_other m i k w 0 e) (h k)
    ]
