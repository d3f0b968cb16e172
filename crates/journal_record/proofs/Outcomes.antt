-- The outcomes of a commit and of an undo, from the tests and results of the code.
use mathlib.Core.Path.{◌≡◌, refl}
use mathlib.Core.Bool.{true, false}
use mathlib.Core.List.{List}
use Prim.Native.Nat.{ℕ, ◌+◌, ◌-◌, ◌≤◌, ◌<◌}
use native.Mathlib.Omega.{arith}
use lib.ListN.{length, get_or, take, drop}
use lib.Seq.{sets}
use Rattle.rules.specs.Registers.{registers}
use Rattle.rules.specs.Journal.{record_length, record_of, last_pairs, last_start, last_regs, pairs_at, write_back, strays}
use Rattle.rules.specs.Calls.{numbered, outcome_of, refused, machine_of, recorded, undone, undo_last}
use Rattle.rules.specs.declared.Machine.{Machine}
use Rattle.rules.specs.declared.Answer.TheVariants.{Done}
use Rattle.rules.proofs.Tests.{yes_lt, no_lt, yes, no}

pub number-done : numbered Done ≡ (0, 0, 0)
unfolding numbered
number-done = refl

-- ---- commit

module _ (m : Machine) (mem j : List ℕ) (byte : ℕ) (regs ks after : List ℕ) where
  pub commit-full : length j < m.used + record_length (length ks) → refused 12 m mem j ≡ recorded m mem j byte regs ks after
  unfolding recorded
  commit-full h = rw (yes_lt h)

  pub commit-done :
      (n : ℕ) (mem' j' : List ℕ)
      → length ks ≡ n
      → m.used + record_length n ≤ length j
      → mem' ≡ after
      → j' ≡ sets j m.used (record_of mem m.regs ks)
      → outcome_of (record { machine = machine_of regs (m.depth + 1) (m.used + record_length n); answer = Done; byte = byte }) mem' j' ≡ recorded m mem j byte regs ks after
  unfolding recorded
  commit-done n mem' j' e h p q =
      let g : m.used + record_length (length ks) ≤ length j = omega arith in
      rw (no_lt g, e, number-done, p, q)

-- ---- undo

module _ (m : Machine) (mem j : List ℕ) (n : ℕ) (e : get_or j (m.used - 1) 0 ≡ n) where
  pairs_are : last_pairs j m.used ≡ n
  unfolding last_pairs
  pairs_are = e

  start_is : last_start j m.used ≡ m.used - record_length n
  unfolding last_start
  start_is = rw pairs_are

  pub undo_short : m.used < record_length n → refused 4 m mem j ≡ undo_last m mem j
  unfolding undo_last
  undo_short h = let g : m.used < record_length (last_pairs j m.used) = omega (arith, pairs_are) in rw (yes_lt g)

  module _ (h : record_length n ≤ m.used) where
    goes_on : undo_last m mem j ≡ undone m mem j (pairs_at j (m.used - record_length n) n)
    unfolding undo_last
    goes_on =
        let g : record_length (last_pairs j m.used) ≤ m.used = omega (arith, pairs_are) in
        rw (no_lt g, start_is, pairs_are)

    pub undo_stray : strays (length mem) (pairs_at j (m.used - record_length n) n) ≡ true → refused 4 m mem j ≡ undo_last m mem j
    unfolding undone
    undo_stray s = rw (goes_on, yes s)

    pub undo-done :
        (regs mem' : List ℕ)
        → strays (length mem) (pairs_at j (m.used - record_length n) n) ≡ false
        → regs ≡ take registers (drop (m.used - record_length 0) j)
        → mem' ≡ write_back mem (pairs_at j (m.used - record_length n) n)
        → outcome_of (record { machine = machine_of regs (m.depth - 1) (m.used - record_length n); answer = Done; byte = 0 }) mem' j ≡ undo_last m mem j
    unfolding undone last_regs
    undo-done regs mem' s p q = rw (goes_on, no s, start_is, number-done, p, q)
