-- Each byte after a move, in closed form.
use mathlib.Core.Path.{◌≡◌, refl, ap, ◌∙◌}
use mathlib.Core.List.{List}
use Prim.Native.Nat.{ℕ, zero, suc, ◌+◌, ◌-◌, ◌*◌, ◌/◌, ◌%◌, ◌^◌, ◌≤◌, ◌<◌}
use native.Mathlib.Nat.{mod-lt, mod-add-mod, mod-eq_of_lt, mod_self}
use native.Mathlib.Decide.{dec_lt, ℕ_discrete}
use native.Mathlib.Omega.{arith}
use lib.ListN.{length, get_or, set, length-set}
use lib.Seq.{get_or-set_same, get_or-set_other}
use Rattle.rules.specs.Words.{with_byte}
use Rattle.rules.specs.Memory.{byte_in, set_byte_in, moved}
use Rattle.rules.proofs.Tests.{yes_lt, no_lt}
use Rattle.memory.specs.Places.{came_from}
use Rattle.memory.proofs.Bytes.{byte_in_lt, set-byte-length, byte-same, byte-other, with_small}

pub moved_length : (n : ℕ) (m : List ℕ) (s d : ℕ) → length (moved m s d n) ≡ length m
unfolding moved
moved_length zero m s d = refl
moved_length (suc n) m s d =
    moved_length n (set_byte_in m d (byte_in m s)) (s + 1) (d + 1) ∙ set-byte-length m d (byte_in m s)

-- a byte that the move does not write stays
moved_out : (n : ℕ) (m : List ℕ) (s d a : ℕ) → d + n ≤ 4 * length m → (d ≤ a → a < d + n → ⊥)
    → byte_in (moved m s d n) a ≡ byte_in m a
unfolding moved
moved_out zero m s d a h o = refl
moved_out (suc n) m s d a h o =
    moved_out n (set_byte_in m d (byte_in m s)) (s + 1) (d + 1) a
    (omega (arith, set-byte-length m d (byte_in m s))) (λ p q. o (omega arith) (omega arith))
    ∙ byte-other m d (byte_in m s) (omega arith) (byte_in_lt m s) a (λ e. o (omega arith) (omega arith))

-- a move down, or onto its own place, copies
moved_down : (n : ℕ) (m : List ℕ) (s d a : ℕ) → d + n ≤ 4 * length m → d ≤ s → d ≤ a → a < d + n
    → byte_in (moved m s d n) a ≡ byte_in m (s + (a - d))
unfolding moved
moved_down zero m s d a h v p q = absurd (omega arith)
moved_down (suc n) m s d a h v p q =
    let m₁ : List ℕ = set_byte_in m d (byte_in m s) in
    let l : d + 1 + n ≤ 4 * length m₁ = omega (arith, set-byte-length m d (byte_in m s)) in
    elim (ℕ_discrete d a) [
      | yes e ↦
          moved_out n m₁ (s + 1) (d + 1) a l (λ x y. omega arith)
          ∙ rw (← e, byte-same m d (byte_in m s) (omega arith) (byte_in_lt m s)) (ap (byte_in m) (omega arith))
      | no e ↦
          let z : s + 1 + (a - (d + 1)) ≡ s + (a - d) = omega arith in
          moved_down n m₁ (s + 1) (d + 1) a l (omega arith) (omega arith) (omega arith)
          ∙ rw z (byte-other m d (byte_in m s) (omega arith) (byte_in_lt m s) (s + (a - d)) (λ f. omega arith))
    ]

-- a move up repeats the d - s bytes from s
moved_up : (n : ℕ) (m : List ℕ) (s d a : ℕ) → d + n ≤ 4 * length m → s < d → d ≤ a → a < d + n
    → byte_in (moved m s d n) a ≡ byte_in m (s + (a - d) % (d - s))
unfolding moved
moved_up zero m s d a h v p q = absurd (omega arith)
moved_up (suc n) m s d a h v p q =
    let m₁ : List ℕ = set_byte_in m d (byte_in m s) in
    let l : d + 1 + n ≤ 4 * length m₁ = omega (arith, set-byte-length m d (byte_in m s)) in
    elim (ℕ_discrete d a) [
      | yes e ↦
          let z : a - d ≡ 0 = omega arith in
          let y : 0 % (d - s) ≡ 0 = mod-eq_of_lt (omega arith) in
          moved_out n m₁ (s + 1) (d + 1) a l (λ x y. omega arith)
          ∙ rw (z, y, ← e, byte-same m d (byte_in m s) (omega arith) (byte_in_lt m s)) (ap (byte_in m) (omega arith))
      | no e ↦
          let per : d + 1 - (s + 1) ≡ d - s = omega arith in
          let k : ℕ = a - (d + 1) in
          let r : k % (d - s) < d - s = mod-lt k (omega arith) in
          let one : a - d ≡ k + 1 = omega arith in
          let step : (k % (d - s) + 1) % (d - s) ≡ (k + 1) % (d - s) = mod-add-mod k (d - s) 1 in
          moved_up n m₁ (s + 1) (d + 1) a l (omega arith) (omega arith) (omega arith)
          ∙ rw (per, one, ← step)
          (elim (dec_lt (k % (d - s) + 1) (d - s)) [
            | yes f ↦
                let z : s + 1 + k % (d - s) ≡ s + (k % (d - s) + 1) = omega arith in
                rw (mod-eq_of_lt f, z)
                (byte-other m d (byte_in m s) (omega arith) (byte_in_lt m s) (s + (k % (d - s) + 1)) (λ g. omega arith))
            | no f ↦
                let z : s + 1 + k % (d - s) ≡ d = omega arith in
                let y : k % (d - s) + 1 ≡ d - s = omega arith in
                rw (z, y, mod_self (d - s), byte-same m d (byte_in m s) (omega arith) (byte_in_lt m s))
                (ap (byte_in m) (omega arith))
          ])
    ]

-- the byte at any place after a move
pub came-byte : (m : List ℕ) (s d n a : ℕ) → d + n ≤ 4 * length m → byte_in (moved m s d n) a ≡ byte_in m (came_from s d n a)
unfolding came_from
came-byte m s d n a h =
    elim (dec_lt a d) [
      | yes p ↦ rw (yes_lt p) (moved_out n m s d a h (λ x y. omega arith))
      | no p ↦
          let p' : d ≤ a = omega arith in
          elim (dec_lt a (d + n)) [
            | yes q ↦ elim (dec_lt s d) [
              | yes r ↦ rw (no_lt p', yes_lt q, yes_lt r) (moved_up n m s d a h r p' q)
              | no r ↦ let r' : d ≤ s = omega arith in rw (no_lt p', yes_lt q, no_lt r') (moved_down n m s d a h r' p' q)
            ]
            | no q ↦
                let q' : d + n ≤ a = omega arith in
                rw (no_lt p', no_lt q') (moved_out n m s d a h (λ x y. omega arith))
          ]
    ]

-- a byte comes from inside memory
pub came_lt : (l s d n a : ℕ) → s + n ≤ l → d + n ≤ l → a < l → came_from s d n a < l
unfolding came_from
came_lt l s d n a h k b =
    elim (dec_lt a d) [
      | yes p ↦ rw (yes_lt p) b
      | no p ↦
          let p' : d ≤ a = omega arith in
          elim (dec_lt a (d + n)) [
            | yes q ↦ elim (dec_lt s d) [
              | yes r ↦ rw (no_lt p', yes_lt q, yes_lt r) (omega (arith, mod-lt (a - d) {m = d - s} (omega arith)))
              | no r ↦ let r' : d ≤ s = omega arith in rw (no_lt p', yes_lt q, no_lt r') (omega arith)
            ]
            | no q ↦ let q' : d + n ≤ a = omega arith in rw (no_lt p', no_lt q') b
          ]
    ]

-- ---- words after a move

-- a move keeps words below 2 ^ 32
pub moved_small : (n : ℕ) (m : List ℕ) (s d i : ℕ) → d + n ≤ 4 * length m → get_or m i 0 < 2 ^ 32
    → get_or (moved m s d n) i 0 < 2 ^ 32
unfolding moved set_byte_in
moved_small zero m s d i h b = b
moved_small (suc n) m s d i h b =
    let w : ℕ = with_byte (d % 4) (byte_in m s) (get_or m (d / 4) 0) in
    let l : d + 1 + n ≤ 4 * length (set m (d / 4) w) = omega (arith, length-set m (d / 4) w) in
    let q : d / 4 < length m = omega arith in
    moved_small n (set m (d / 4) w) (s + 1) (d + 1) i l
    (elim (ℕ_discrete i (d / 4)) [
      | yes e ↦
          rw (e, get_or-set_same m (d / 4) w 0 q)
          (with_small (d % 4) (byte_in m s) (get_or m (d / 4) 0) (omega arith) (byte_in_lt m s) (rw e at b))
      | no e ↦ rw (get_or-set_other m (d / 4) i w 0 e) b
    ])

-- a word that the move does not reach stays
pub moved_word : (n : ℕ) (m : List ℕ) (s d i : ℕ) → (d / 4 ≤ i → 4 * i < d + n → ⊥) → get_or (moved m s d n) i 0 ≡ get_or m i 0
unfolding moved set_byte_in
moved_word zero m s d i o = refl
moved_word (suc n) m s d i o =
    moved_word n (set_byte_in m d (byte_in m s)) (s + 1) (d + 1) i (λ p q. o (omega arith) (omega arith))
    ∙ get_or-set_other m (d / 4) i (with_byte (d % 4) (byte_in m s) (get_or m (d / 4) 0)) 0 (λ e. o (omega arith) (omega arith))
