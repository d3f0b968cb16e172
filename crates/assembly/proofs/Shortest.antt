-- THE SHORTEST CHAIN: no list of fewer bytes, all prefixes but the last, leaves the same operand from Oreg 0. And eight bytes are always enough.
use mathlib.Core.Path.{◌≡◌, refl, subst}
use mathlib.Core.Logic.{◌⊎◌, inl, inr, ⊎_elim}
use mathlib.Core.List.{List, [], ◌∷◌, ◌++◌}
use Prim.Native.Nat.{ℕ, zero, suc, ◌+◌, ◌-◌, ◌*◌, ◌/◌, ◌%◌, ◌^◌, ◌<◌, ◌≤◌}
use native.Mathlib.Omega.{arith}
use lib.Dec.{leb}
use lib.ListN.{length, length-append}
use borrow.Author.Tests.{leb-true}
use Rattle.rules.specs.Words.{range}
use Rattle.rules.proofs.Tests.{yes_lt, no_lt, cases_lt}
use Rattle.laws.proofs.LawfulOperations.{all_below, all_below_lem}
use Rattle.assembly.specs.Chain.{pfix, nfix, chain_of, chain, function_of, after_prefix, after_prefixes, operand_of}
use Rattle.assembly.specs.Meeting.{Prefixes}
use Rattle.assembly.proofs.Reading.{prefix_cases, with_nibble_lem, after-pfix, after-nfix}
use Rattle.assembly.proofs.Exact.{before, final, chain-parts, up-prefix, up_upper, down-prefix, down_upper, reach}

-- ---- how long a chain is

parts-length : (n f v : ℕ) → length (chain_of (suc n) f v) ≡ length (before n v) + 1
parts-length n f v = rw (chain-parts n f v) (length-append (before n v) (final f v ∷ []))

-- of a number below 16 ^ (k + 1) that is not negative
up-length : (k n f v : ℕ) → v < reach k → v < 2 ^ 31 → length (chain_of n f v) ≤ k + 1
unfolding chain_of reach
up-length k zero f v h l = omega arith
up-length zero (suc n) f v h l = rw (parts-length n f v, yes_lt h) (omega arith)
up-length (suc k) (suc n) f v h l =
    cases_lt v 16 (λ s. rw (parts-length n f v, yes_lt s) (omega arith))
    (λ s. rw (parts-length n f v, no_lt s, up-prefix l, up_upper l)
    (omega (arith, up-length k n pfix (v / 16) (omega arith) (omega arith))))

-- of a negative number that lies within 16 ^ (k + 2) of 2 ^ 32
down-length : (k n f v : ℕ) → 2 ^ 31 ≤ v → v < 2 ^ 32 → 2 ^ 32 ≤ v + 16 * reach k → length (chain_of (suc n) f v) ≤ k + 2
down-length k n f v g l h =
    rw (parts-length n f v, no_lt {a = v} {b = 16} (omega arith), down-prefix g, down_upper g)
    (omega (arith, up-length k n nfix ((range - 1 - v) / 16) (omega arith) (omega arith)))

-- EIGHT BYTES are enough for every operand of 32 bits
pub eight_enough : (f v : ℕ) → v < 2 ^ 32 → length (chain f v) ≤ 8
unfolding reach
eight_enough f v h =
    cases_lt v (2 ^ 31) (λ l. up-length 7 16 f v (omega arith) l) (λ g. down-length 6 15 f v g h (omega arith))

-- ---- what k prefix bytes can reach, from Oreg 0

-- Oreg after k prefixes: four clear bits, and at most 16 ^ (k + 1) from 0 on either side
record Near (k o : ℕ) : Type 0 where
  clear : o % 16 ≡ 0
  word : o < 2 ^ 32
  side : (o < reach k) ⊎ (2 ^ 32 ≤ o + reach k)

-- reach k has four clear bits
reach-clear : (k : ℕ) → reach k % 16 ≡ 0
unfolding reach
reach-clear zero = refl
reach-clear (suc k) = omega arith

-- of x below R, 16 times x and 16 times the complement of x, in 32 bits, lie on either side of 0
below-pfix : (x R : ℕ) → x < R → x * 16 % 2 ^ 32 < 16 * R
below-pfix x R h = omega arith

below-nfix : (x R : ℕ) → x < 2 ^ 32 → x < R → 2 ^ 32 ≤ (range - 1 - x) * 16 % 2 ^ 32 + 16 * R
below-nfix x R w h = omega arith

above-pfix : (x R : ℕ) → x < 2 ^ 32 → 2 ^ 32 ≤ x + R → 2 ^ 32 ≤ x * 16 % 2 ^ 32 + 16 * R
above-pfix x R w h = omega arith

above-nfix : (x R : ℕ) → x < 2 ^ 32 → 2 ^ 32 ≤ x + R → (range - 1 - x) * 16 % 2 ^ 32 < 16 * R
above-nfix x R w h = omega arith

-- one prefix byte more: with the nibble, Oreg is still on its side
near-pfix : (k o n : ℕ) → Near k o → n < 16 → Near (suc k) ((o + n) * 16 % 2 ^ 32)
unfolding reach
near-pfix k o n h l =
    record {
      clear = omega arith;
      word = omega arith;
      side =
          ⊎_elim (λ s. inl (below-pfix (o + n) (reach k) (omega (arith, reach-clear k, h.clear, h.word))))
          (λ s. inr (above-pfix (o + n) (reach k) (omega (arith, h.clear, h.word)) (omega arith)))
          h.side;
    }

near-nfix : (k o n : ℕ) → Near k o → n < 16 → Near (suc k) ((range - 1 - (o + n)) * 16 % 2 ^ 32)
unfolding reach
near-nfix k o n h l =
    record {
      clear = omega arith;
      word = omega arith;
      side =
          ⊎_elim (λ s. inr (below-nfix (o + n) (reach k) (omega (arith, h.clear, h.word)) (omega (arith, reach-clear k, h.clear, h.word))))
          (λ s. inl (above-nfix (o + n) (reach k) (omega (arith, h.clear, h.word)) (omega arith)))
          h.side;
    }

near-prefix : (k o byte : ℕ) → (function_of byte ≡ pfix) ⊎ (function_of byte ≡ nfix) → Near k o → Near (suc k) (after_prefix o byte)
near-prefix k o byte (inl e) h = rw (after-pfix o byte h.clear e) (near-pfix k o (byte % 16) h (omega arith))
near-prefix k o byte (inr e) h = rw (after-nfix o byte h.clear e) (near-nfix k o (byte % 16) h (omega arith))

near_prefixes : (k o : ℕ) (bytes : List ℕ) → Prefixes bytes → Near k o → Near (length bytes + k) (after_prefixes o bytes)
unfolding after_prefixes
near_prefixes k o [] p h = subst (λ (j : ℕ). Near j o) (omega arith) h
near_prefixes k o (byte ∷ bytes) p h =
    subst (λ (j : ℕ). Near j (after_prefixes (after_prefix o byte) bytes)) (omega arith)
    (near_prefixes (suc k) (after_prefix o byte) bytes p.1 (near-prefix k o byte (prefix_cases byte p.0) h))

near_none : Near 0 0
unfolding reach
near_none = record { clear = refl; word = omega arith; side = inl (omega arith) }

-- ---- THE SHORTEST

-- fewer than seven prefixes stay below 2 ^ 28
reach_small : (k : ℕ) → k ≤ 6 → reach k ≤ 2 ^ 28
unfolding reach all_below
reach_small k h = leb-true _ _ (all_below_lem 7 (λ j. leb (reach j) (2 ^ 28)) refl k (omega arith))

-- an operand that k + 1 prefixes and a nibble can leave has a chain of at most k + 2 bytes
near-length : (k f o n : ℕ) → n < 16 → Near (suc k) o → length (chain f (o + n)) ≤ k + 2
unfolding reach
near-length k f o n l h =
    let v : o + n < 2 ^ 32 = omega (arith, h.clear, h.word) in
    cases_lt k 6
    (λ s. ⊎_elim
    (λ b. omega (arith, up-length (suc k) 16 f (o + n) (omega (arith, reach-clear (suc k), h.clear)) (omega (arith, reach_small (suc k) (omega arith), h.clear))))
    (λ b. down-length k 15 f (o + n) (omega (arith, reach_small (suc k) (omega arith))) v (omega arith))
    h.side)
    (λ s. omega (arith, eight_enough f (o + n) v))

-- a single byte leaves its own nibble
single-length : (f n : ℕ) → n < 16 → length (chain f n) ≤ 1
single-length f n h = rw (parts-length 15 f n, yes_lt h) (omega arith)

shortest_of : (f last : ℕ) (bytes : List ℕ) → Prefixes bytes → length (chain f (operand_of bytes last)) ≤ length bytes + 1
unfolding after_prefixes
shortest_of f last [] p = rw (with_nibble_lem last 0 refl) (single-length f (0 + last % 16) (omega arith))
shortest_of f last (byte ∷ bytes) p =
    let o = after_prefixes (after_prefix 0 byte) bytes in
    let h : Near (length bytes + 1) o = near_prefixes 1 (after_prefix 0 byte) bytes p.1 (near-prefix 0 0 byte (prefix_cases byte p.0) near_none) in
    let near : Near (suc (length bytes)) o = subst (λ (j : ℕ). Near j o) (omega arith) h in
    rw (with_nibble_lem last o h.clear) (omega (arith, near-length (length bytes) f o (last % 16) (omega arith) near))

pub shortest : (f v : ℕ) (prefixes : List ℕ) (last : ℕ) → Prefixes prefixes → operand_of prefixes last ≡ v
    → length (chain f v) ≤ length (prefixes ++ (last ∷ []))
shortest f v prefixes last p e = rw (length-append prefixes (last ∷ []), ← e) (shortest_of f last prefixes p)
