-- One turn of the loop of pending::no_request, and its end.
use mathlib.Core.Path.{◌≡◌}
use mathlib.Core.Bool.{Bool, false}
use mathlib.Core.List.{List}
use Prim.Native.Nat.{ℕ, zero, suc, ◌+◌, ◌-◌, ◌*◌, ◌/◌, ◌%◌, ◌<◌}
use native.Mathlib.Omega.{arith}
use native.Mathlib.Numerals.{add-one}
use lib.Bits.{bit_and, bit_or, and_high, or_shr, or_mod, or_add_and, and_le_l, and_le_r}
use lib.Dec.{eqb}
use lib.ListN.{get_or}
use Rattle.rules.specs.Tests.{if_eq}
use Rattle.rules.specs.Registers.{channel_reg}
use Rattle.rules.proofs.Tests.{yes_eq, no_eq, by_bool, cases_eq}
use Rattle.step_pending.specs.NothingPending as pending

-- the bits of a request, of two words ORed
module _ (a b : ℕ) where
  ored : bit_and (bit_or a b) 24 ≡ bit_or (a / 8 % 4) (b / 8 % 4) * 8
  ored = omega (arith, and_high (bit_or a b) 2 3, or_shr a b 3, or_mod (a / 8) (b / 8) 2)

  neither : bit_and a 24 ≡ 0 → bit_and b 24 ≡ 0 → bit_and (bit_or a b) 24 ≡ 0
  neither p q = omega (arith, ored, and_high a 2 3, and_high b 2 3, or_add_and (a / 8 % 4) (b / 8 % 4))

  first : (bit_and a 24 ≡ 0 → ⊥) → bit_and (bit_or a b) 24 ≡ 0 → ⊥
  first p h = omega (arith, ored, and_high a 2 3, or_add_and (a / 8 % 4) (b / 8 % 4), and_le_r (a / 8 % 4) (b / 8 % 4))

  second : (bit_and b 24 ≡ 0 → ⊥) → bit_and (bit_or a b) 24 ≡ 0 → ⊥
  second p h = omega (arith, ored, and_high b 2 3, or_add_and (a / 8 % 4) (b / 8 % 4), and_le_l (a / 8 % 4) (b / 8 % 4))

module _ (r : List ℕ) where
  -- no request in the flags so far, nor in those of the n channels from c on
  abbrev pub quiet : ℕ → ℕ → ℕ → Bool
  quiet flags c n = if_eq (bit_and flags 24) 0 (pending.no_request c n r) false

  pub quiet_on : (n c flags : ℕ) → 0 < n → quiet flags c n ≡ quiet (bit_or flags (get_or r (channel_reg c) 0)) (c + 1) (n - 1)
  unfolding pending.no_request
  quiet_on zero c flags l = absurd (omega arith)
  quiet_on (suc n) c flags l =
      let e : suc n - 1 ≡ n = omega arith in
      let x = get_or r (channel_reg c) 0 in
      rw (e, add-one c)
      (cases_eq (bit_and flags 24) 0
      (λ p. cases_eq (bit_and x 24) 0
      (λ q. rw (yes_eq p, yes_eq q, yes_eq (neither flags x p q)))
      (λ q. rw (yes_eq p, no_eq q, no_eq (second flags x q))))
      (λ p. rw (no_eq p, no_eq (first flags x p))))

  pub quiet-end : (c flags : ℕ) → quiet flags c 0 ≡ eqb (bit_and flags 24) 0
  unfolding pending.no_request if_eq
  quiet-end c flags = by_bool (eqb (bit_and flags 24) 0) (λ h. rw h) (λ h. rw h)
