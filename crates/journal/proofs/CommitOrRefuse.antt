-- The outcome of a call after the checks: of a plan, an undo, a clear.
use mathlib.Core.Path.{◌≡◌, sym, subst}
use mathlib.Core.Bool.{Bool, true, false, ◌||◌}
use mathlib.Core.List.{List}
use Prim.Native.Nat.{ℕ, ◌≤◌}
use native.Mathlib.Omega.{arith}
use lib.ListN.{length}
use Rattle.rules.specs.Tests.{if_eq}
use Rattle.rules.specs.Registers.{registers}
use Rattle.rules.specs.Work.{Work, begin}
use Rattle.rules.specs.Links as links
use Rattle.rules.specs.Step as steps
use Rattle.rules.specs.Journal.{bounds_bad}
use Rattle.rules.specs.Calls.{refused, accepted, memory_size_bad, journal_size_bad, size_bad, clear, machine_of, undo, undo_last}
use Rattle.std.specs.Prelude.{None}
use Rattle.rules.specs.declared.Machine.{Machine}
use Rattle.rules.proofs.Tests.{yes_eq, no_eq}
use Rattle.laws.specs.Answers.{Known}
use Rattle.laws.proofs.Fine.{Fine, fine-begin, turns-known}
use Rattle.laws.proofs.FineLinks.{fine-take, fine-give, fine-event}
use Rattle.laws.proofs.FineStep.{fine-step}
use Rattle.plan.specs.declared.Plan.{Plan}
use Rattle.plan.specs.View.{work_of}
use Rattle.journal.specs.Checks.{first_bad}
use Rattle.journal.proofs.Refusing.{passed, fits, bounds_good}

-- what `commit_or_refuse` requires of memory and journal
pub ready :
    (bad_channel : Bool) (m : Machine) (mem j : List ℕ)
    → first_bad bad_channel (length mem) (length j) m.depth m.used ≡ None
    → (length mem ≤ 16384) × (length j ≤ 65536) × (bounds_bad (length j) m.depth m.used ≡ false)
ready bad_channel m mem j h =
    let f = fits bad_channel m mem j h in
    (f.0, f.1, bounds_good bad_channel m mem j h)

-- ---- the outcome of a plan

-- number, part and address of work are those of an answer
abbrev KnownWork : Work → Type 0
KnownWork w = Known w.answer w.kind w.address

known_of : (p : Plan) (w : Work) → work_of p ≡ w → Fine Known w → KnownWork (work_of p)
known_of p w e f = subst KnownWork (sym e) f.known

pub step-known : (old : List ℕ) → length old ≡ registers → (mem : List ℕ) → KnownWork (steps.step mem (begin old))
step-known old h mem =
    (fine-step mem (turns-known _ (omega arith)) (turns-known _ (omega arith)) (turns-known _ (omega arith)) (turns-known _ (omega arith)) (turns-known _ (omega arith)) (fine-begin old h)).known

-- old are the registers before the call, p its plan
module _ (old : List ℕ) (h : length old ≡ registers) (p : Plan) where
  pub event-known : work_of p ≡ links.event (begin old) → KnownWork (work_of p)
  event-known e = known_of p _ e (fine-event (turns-known _ (omega arith)) (fine-begin old h))

  pub take-known : (mem : List ℕ) (c : ℕ) → work_of p ≡ links.take mem c (begin old) → KnownWork (work_of p)
  take-known mem c e = known_of p _ e (fine-take mem c (turns-known _ (omega arith)) (fine-begin old h))

  pub give-known : (mem : List ℕ) (c byte : ℕ) → work_of p ≡ links.give mem c byte (begin old) → KnownWork (work_of p)
  give-known mem c byte e = known_of p _ e (fine-give mem c byte (turns-known _ (omega arith)) (fine-begin old h))

-- ---- undo and clear

module _ (m : Machine) (mem j : List ℕ) where
  pub undo-none : first_bad false (length mem) (length j) m.depth m.used ≡ None → m.depth ≡ 0 → refused 5 m mem j ≡ undo m mem j
  unfolding undo
  undo-none h e = rw (← passed false m mem j h (if_eq m.depth 0 (refused 5 m mem j) (undo_last m mem j)), yes_eq e)

  pub undo-some :
      first_bad false (length mem) (length j) m.depth m.used ≡ None → (m.depth ≡ 0 → ⊥) → undo_last m mem j ≡ undo m mem j
  unfolding undo
  undo-some h e = rw (← passed false m mem j h (if_eq m.depth 0 (refused 5 m mem j) (undo_last m mem j)), no_eq e)

  pub clear-refused : memory_size_bad (length mem) || journal_size_bad (length j) ≡ true → refused 1 m mem j ≡ clear m mem j
  unfolding clear size_bad
  clear-refused h = rw h

  pub clear-done :
      memory_size_bad (length mem) || journal_size_bad (length j) ≡ false
      → accepted 0 (machine_of m.regs 0 0) mem j ≡ clear m mem j
  unfolding clear size_bad
  clear-done h = rw h
