-- Clean refusals: a refused call returns byte 0 and leaves registers, depth, used, memory and journal as they were; after a refused fresh
-- the machine is all 0.
use mathlib.Core.Path.{◌≡◌, ap, ◌∙◌}
use mathlib.Core.List.{List}
use Prim.Native.Nat.{ℕ}
use Rattle.rules.specs.Calls.{Outcome, outcome_of, refused_at, no_machine}
use Rattle.rules.specs.declared.Machine.{Machine}
use Rattle.rules.specs.declared.Reply.{Reply}
use Rattle.laws.specs.Calls.{Refusing}
use Rattle.laws.proofs.Calls.{refused-step, refused-tick, refused-take, refused-give, refused-event, refused-undo, refused-clear, refused-fresh}
use Rattle.history.specs.CallContracts.{FreshContract, StepContract, TickContract, TakeContract, GiveContract, EventContract, UndoContract, ClearContract, number, Unchanged, RefusesCleanly}

unchanged : (m : Machine) (mem j : List ℕ) (o : Outcome) → Refusing m mem j o → (r : Reply) (mem' j' : List ℕ) → outcome_of r mem' j' ≡ o
    → (number r ≡ 0 → ⊥) → Unchanged m mem j r mem' j'
unchanged m mem j o k r mem' j' e h =
    let same : outcome_of r mem' j' ≡ refused_at o.answer o.part o.address m mem j = e ∙ k.same (λ z. h (ap (λ (x : Outcome). x.answer) e ∙ z)) in
    record {
      byte = ap (λ (x : Outcome). x.byte) same;
      registers = ap (λ (x : Outcome). x.machine.regs) same;
      depth = ap (λ (x : Outcome). x.machine.depth) same;
      used = ap (λ (x : Outcome). x.machine.used) same;
      memory = ap (λ (x : Outcome). x.memory) same;
      journal = ap (λ (x : Outcome). x.journal) same;
    }

pub fresh-refused : (code : List ℕ) → RefusesCleanly no_machine (FreshContract code)
fresh-refused code mem j r mem' j' e h = unchanged no_machine mem j _ (refused-fresh code mem j) r mem' j' e h

module _ (m : Machine) where
  pub step-refused : RefusesCleanly m (StepContract m)
  step-refused mem j r mem' j' e h = unchanged m mem j _ (refused-step m mem j) r mem' j' e h

  pub tick-refused : RefusesCleanly m (TickContract m)
  tick-refused mem j r mem' j' e h = unchanged m mem j _ (refused-tick m mem j) r mem' j' e h

  pub take-refused : (channel : ℕ) → RefusesCleanly m (TakeContract channel m)
  take-refused channel mem j r mem' j' e h = unchanged m mem j _ (refused-take m mem j channel) r mem' j' e h

  pub give-refused : (channel byte : ℕ) → RefusesCleanly m (GiveContract channel byte m)
  give-refused channel byte mem j r mem' j' e h = unchanged m mem j _ (refused-give m mem j channel byte) r mem' j' e h

  pub event-refused : RefusesCleanly m (EventContract m)
  event-refused mem j r mem' j' e h = unchanged m mem j _ (refused-event m mem j) r mem' j' e h

  pub undo-refused : RefusesCleanly m (UndoContract m)
  undo-refused mem j r mem' j' e h = unchanged m mem j _ (refused-undo m mem j) r mem' j' e h

  pub clear-refused : RefusesCleanly m (ClearContract m)
  clear-refused mem j r mem' j' e h = unchanged m mem j _ (refused-clear m mem j) r mem' j' e h
