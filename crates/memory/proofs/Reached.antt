-- The first access of a move outside memory, in closed form.
use mathlib.Core.Path.{◌≡◌, refl, ap, ◌∙◌}
use mathlib.Core.List.{List}
use Prim.Native.Nat.{ℕ, zero, suc, ◌-◌, ◌*◌, ◌^◌, ◌≤◌, ◌<◌, min}
use native.Mathlib.Omega.{arith}
use lib.ListN.{length}
use Rattle.rules.specs.Words.{range, at_byte, offset, index}
use Rattle.rules.specs.Work.{kind_load, kind_store, first_outside, move_accesses, move_outside}
use Rattle.rules.proofs.Tests.{yes_lt, no_lt, cases_lt}
use Rattle.memory.specs.Places.{reach}

module _ (size a n : ℕ) where
  reach_in : index a < size → reach size a (suc n) ≡ suc (reach size (at_byte a 1) n)
  unfolding reach
  reach_in h = rw (yes_lt h)

  reach_out : size ≤ index a → reach size a (suc n) ≡ 0
  unfolding reach
  reach_out h = rw (no_lt h)

pub reach_le : (n size a : ℕ) → reach size a n ≤ n
unfolding reach
reach_le zero size a = omega arith
reach_le (suc n) size a =
    cases_lt (index a) size
    (λ h. omega (arith, reach_in size a n h, reach_le n size (at_byte a 1)))
    (λ h. omega (arith, reach_out size a n h))

-- a memory below 2 ^ 32 bytes ends before addresses wrap
pub reach-is : (n size a : ℕ) → size < 2 ^ 30 → reach size a n ≡ min n (4 * size - offset a)
unfolding reach
reach-is zero size a h = omega arith
reach-is (suc n) size a h =
    cases_lt (index a) size
    (λ p. omega (arith, reach_in size a n p, reach-is n size (at_byte a 1) h))
    (λ p. omega (arith, reach_out size a n p))

-- a memory of 2 ^ 32 bytes or more has every address
pub reach_all : (n size a : ℕ) → 2 ^ 30 ≤ size → reach size a n ≡ n
unfolding reach
reach_all zero size a h = refl
reach_all (suc n) size a h =
    let p : index a < size = omega arith in
    omega (arith, reach_in size a n p, reach_all n size (at_byte a 1) h)

-- ---- the first access outside memory, by the reach of source and destination

module _ (m : List ℕ) where
  abbrev size : ℕ
  size = length m

  pub outside-none : (n s d : ℕ) → reach size s n ≡ n → reach size d n ≡ n → move_outside m s d n ≡ (0, 0)
  unfolding move_outside move_accesses first_outside
  outside-none zero s d p q = refl
  outside-none (suc n) s d p q =
      cases_lt (index s) size
      (λ x.
      cases_lt (index d) size
      (λ y.
      rw (yes_lt x, yes_lt y)
      (outside-none n (at_byte s 1) (at_byte d 1) (omega (arith, reach_in size s n x)) (omega (arith, reach_in size d n y))))
      (λ y. absurd (omega (arith, reach_out size d n y))))
      (λ x. absurd (omega (arith, reach_out size s n x)))

  pub outside_load : (n s d : ℕ) → s < range → reach size s n < n → reach size s n ≤ reach size d n
      → move_outside m s d n ≡ (kind_load, at_byte s (reach size s n))
  unfolding move_outside move_accesses first_outside
  outside_load zero s d b p q = absurd (omega arith)
  outside_load (suc n) s d b p q =
      cases_lt (index s) size
      (λ x.
      let i = reach_in size s n x in
      cases_lt (index d) size
      (λ y.
      let j = reach_in size d n y in
      rw (yes_lt x, yes_lt y)
      (outside_load n (at_byte s 1) (at_byte d 1) (omega arith) (omega arith) (omega arith)
      ∙ ap (λ (z : ℕ). (kind_load, z)) (omega arith)))
      (λ y. absurd (omega (arith, reach_out size d n y))))
      (λ x. rw (no_lt x) (ap (λ (z : ℕ). (kind_load, z)) (omega (arith, reach_out size s n x))))

  pub outside_store : (n s d : ℕ) → d < range → reach size d n < reach size s n
      → move_outside m s d n ≡ (kind_store, at_byte d (reach size d n))
  unfolding move_outside move_accesses first_outside
  outside_store zero s d b p = absurd (omega (arith, reach_le 0 size s))
  outside_store (suc n) s d b p =
      cases_lt (index s) size
      (λ x.
      let i = reach_in size s n x in
      cases_lt (index d) size
      (λ y.
      let j = reach_in size d n y in
      rw (yes_lt x, yes_lt y)
      (outside_store n (at_byte s 1) (at_byte d 1) (omega arith) (omega arith)
      ∙ ap (λ (z : ℕ). (kind_store, z)) (omega arith)))
      (λ y. rw (yes_lt x, no_lt y) (ap (λ (z : ℕ). (kind_store, z)) (omega (arith, reach_out size d n y)))))
      (λ x. absurd (omega (arith, reach_out size s n x)))
