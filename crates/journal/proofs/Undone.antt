-- The law of undo: after any recorded stores, undo restores registers, memory, depth and used.
use mathlib.Core.Path.{◌≡◌, ◌∙◌}
use mathlib.Core.Bool.{false}
use mathlib.Core.List.{List, ◌++◌}
use Prim.Native.Nat.{ℕ, ◌+◌, ◌-◌, ◌≤◌}
use native.Mathlib.Omega.{arith}
use lib.ListN.{length, take, drop, length-append}
use lib.Seq.{sets, sets-eq, length-sets, length-take-le, take_at}
use Rattle.rules.specs.Registers.{registers}
use Rattle.rules.specs.Memory.{Store, stores, touched}
use Rattle.rules.specs.Journal.{record_length, record_of, bounds_bad, last_pairs, last_start, last_regs, pairs_at, write_back, strays}
use Rattle.rules.specs.Calls.{Outcome, accepted, machine_of, size_bad, checked, recorded, undone, undo_last, undo}
use Rattle.rules.specs.declared.Machine.{Machine}
use Rattle.rules.proofs.Tests.{yes_lt, no_lt, no_eq, cases_lt}
use Rattle.laws.proofs.Stores.{length-stores}
use Rattle.laws.proofs.Touched.{touched_below, outside-touched, length_record}
use Rattle.history.proofs.Records.{pairs_of, strays-none, written_back, last_pairs_lem, last-start, last-regs, last_read}
use Rattle.journal_record.proofs.JournalBounds.{bounds_good, bounds-is}

module _
    (m : Machine) (mem j : List ℕ) (byte : ℕ) (regs : List ℕ) (ss : List Store) (lr : length m.regs ≡ registers)
    (size : size_bad mem j ≡ false) (bounds : bounds_bad (length j) m.depth m.used ≡ false) where
  abbrev ks : List ℕ
  ks = touched (length mem) ss

  abbrev rec : List ℕ
  rec = record_of mem m.regs ks

  -- memory, journal and used after the call
  abbrev mem' : List ℕ
  mem' = stores mem ss

  abbrev j' : List ℕ
  j' = sets j m.used rec

  abbrev used' : ℕ
  used' = m.used + record_length (length ks)

  module _ (fit : used' ≤ length j) where
    front : length (take m.used j) ≡ m.used
    front = length-take-le m.used j (omega arith)

    whole : length (take m.used j) + length rec ≡ used'
    whole = omega (arith, front, length_record mem m.regs ks lr)

    stands : take (length (take m.used j) + length rec) j' ≡ take m.used j ++ rec
    stands =
        rw (sets-eq rec j m.used (omega (arith, length_record mem m.regs ks lr)))
        (take_at (take m.used j ++ rec) (drop (m.used + length rec) j) (length (take m.used j) + length rec) (length-append (take m.used j) rec))

    count : last_pairs j' used' ≡ length ks
    count = rw whole at (last_pairs_lem (take m.used j) j' mem m.regs ks lr stands)

    start : last_start j' used' ≡ m.used
    start = (rw whole at (last-start (take m.used j) j' mem m.regs ks lr stands)) ∙ front

    registers-back : last_regs j' used' ≡ m.regs
    registers-back = rw whole at (last-regs (take m.used j) j' mem m.regs ks lr stands)

    pairs : pairs_at j' m.used (length ks) ≡ pairs_of mem ks
    pairs = rw front at (last_read (take m.used j) j' mem m.regs ks lr stands)

    memory-back : write_back mem' (pairs_of mem ks) ≡ mem
    memory-back = written_back ks mem mem' (length-stores mem ss) (λ k o. outside-touched mem ss k o)

    inside : strays (length mem') (pairs_of mem ks) ≡ false
    inside = rw (length-stores mem ss) (strays-none (length mem) mem ks (touched_below (length mem) ss))

    size' : size_bad mem' j' ≡ false
    unfolding size_bad
    size' = rw (length-stores mem ss, length-sets j m.used rec) size

    bounds' : bounds_bad (length j') (m.depth + 1) used' ≡ false
    bounds' =
        let f = bounds_good (length j) m.depth m.used bounds in
        rw (length-sets j m.used rec) (bounds-is (length j) (m.depth + 1) used' fit (omega arith))

    back : undo (machine_of regs (m.depth + 1) used') mem' j' ≡ accepted 0 m mem j'
    unfolding undo checked undo_last undone
    back =
        let deep : m.depth + 1 ≡ 0 → ⊥ = λ e. omega arith in
        let long : record_length (last_pairs j' used') ≤ used' = omega (arith, count) in
        let d : m.depth + 1 - 1 ≡ m.depth = omega arith in
        rw (size', bounds', no_eq deep, no_lt long, start, count, pairs, inside, registers-back, memory-back, d)

  abbrev done : Outcome
  done = recorded m mem j byte regs ks mem'

  pub undo-recorded : done.answer ≡ 0 → undo done.machine done.memory done.journal ≡ accepted 0 m mem done.journal
  unfolding recorded
  undo-recorded a =
      cases_lt (length j) used'
      (λ h. let z : ◌≡◌ {A = ℕ} 12 0 = rw (yes_lt h) at a in absurd (omega arith))
      (λ h. rw (no_lt h) (back h))
