-- One answer only: two results that meet the contract of a public function from the same inputs are the same in answer (number, part and address),
-- byte, registers, depth, used and every lent word. And some result meets the contract.
use mathlib.Core.Path.{◌≡◌, ap}
use mathlib.Core.List.{List}
use Prim.Native.Nat.{ℕ}
use lib.ListN.{length}
use Rattle.rules.specs.Registers.{registers}
use Rattle.rules.specs.Calls.{Outcome, outcome_of}
use Rattle.rules.specs.Calls as rules
use Rattle.rules.specs.declared.Machine.{Machine}
use Rattle.rules.specs.declared.Reply.{Reply}
use Rattle.laws.specs.Answers.{answer_of, Known}
use Rattle.laws.proofs.Unique.{one_outcome, number-answer}
use Rattle.laws.proofs.Calls.{kept_step, kept-tick, kept-take, kept-give, kept-event, kept-undo, kept-clear, kept_fresh}
use Rattle.history.specs.CallContracts.{FreshContract, StepContract, TickContract, TakeContract, GiveContract, EventContract, UndoContract, ClearContract, Same, OneAnswer, Total}

pub same : (o : Outcome) (r r' : Reply) (mem mem' j j' : List ℕ) → outcome_of r mem j ≡ o → outcome_of r' mem' j' ≡ o → Same r r' mem mem' j j'
same o r r' mem mem' j j' a b =
    let one = one_outcome r r' mem mem' j j' o a b in
    record {
      answer = ap (λ (x : Reply). x.answer) one.0;
      byte = ap (λ (x : Reply). x.byte) one.0;
      registers = ap (λ (x : Reply). x.machine.regs) one.0;
      depth = ap (λ (x : Reply). x.machine.depth) one.0;
      used = ap (λ (x : Reply). x.machine.used) one.0;
      memory = one.1;
      journal = one.2;
    }

-- ---- no second result meets the contract

pub fresh_unique : (code : List ℕ) → OneAnswer (FreshContract code)
fresh_unique code mem j r₁ r₂ mem₁ mem₂ j₁ j₂ a b = same (rules.fresh code mem j) r₁ r₂ mem₁ mem₂ j₁ j₂ a b

module _ (m : Machine) where
  pub step_unique : OneAnswer (StepContract m)
  step_unique mem j r₁ r₂ mem₁ mem₂ j₁ j₂ a b = same (rules.step m mem j) r₁ r₂ mem₁ mem₂ j₁ j₂ a b

  pub tick_unique : OneAnswer (TickContract m)
  tick_unique mem j r₁ r₂ mem₁ mem₂ j₁ j₂ a b = same (rules.tick m mem j) r₁ r₂ mem₁ mem₂ j₁ j₂ a b

  pub take_unique : (channel : ℕ) → OneAnswer (TakeContract channel m)
  take_unique channel mem j r₁ r₂ mem₁ mem₂ j₁ j₂ a b = same (rules.take channel m mem j) r₁ r₂ mem₁ mem₂ j₁ j₂ a b

  pub give_unique : (channel byte : ℕ) → OneAnswer (GiveContract channel byte m)
  give_unique channel byte mem j r₁ r₂ mem₁ mem₂ j₁ j₂ a b = same (rules.give channel byte m mem j) r₁ r₂ mem₁ mem₂ j₁ j₂ a b

  pub event_unique : OneAnswer (EventContract m)
  event_unique mem j r₁ r₂ mem₁ mem₂ j₁ j₂ a b = same (rules.event m mem j) r₁ r₂ mem₁ mem₂ j₁ j₂ a b

  pub undo_unique : OneAnswer (UndoContract m)
  undo_unique mem j r₁ r₂ mem₁ mem₂ j₁ j₂ a b = same (rules.undo m mem j) r₁ r₂ mem₁ mem₂ j₁ j₂ a b

  pub clear_unique : OneAnswer (ClearContract m)
  clear_unique mem j r₁ r₂ mem₁ mem₂ j₁ j₂ a b = same (rules.clear m mem j) r₁ r₂ mem₁ mem₂ j₁ j₂ a b

-- ---- some result meets the contract: the rules give no number but 01's, each with a part and address that an answer can tell

-- the reply of an outcome
abbrev pub reply_of : Outcome → Reply
reply_of o = record { machine = o.machine; answer = answer_of o.answer o.part o.address; byte = o.byte }

pub told : (o : Outcome) → Known o.answer o.part o.address → outcome_of (reply_of o) o.memory o.journal ≡ o
told o k =
    ap
    (λ (t : ℕ × ℕ × ℕ). record { answer = t.0; part = t.1; address = t.2; byte = o.byte; machine = o.machine; memory = o.memory; journal = o.journal })
    (number-answer o.answer o.part o.address k)

pub fresh_total : (code : List ℕ) → Total (FreshContract code)
fresh_total code mem j =
    let o = rules.fresh code mem j in
    record { reply = reply_of o; memory = o.memory; journal = o.journal; meets = told o (kept_fresh code mem j).known }

-- for any machine of 45 registers
module _ (m : Machine) (h : length m.regs ≡ registers) where
  pub step_total : Total (StepContract m)
  step_total mem j =
      let o = rules.step m mem j in
      record { reply = reply_of o; memory = o.memory; journal = o.journal; meets = told o (kept_step m mem j h).known }

  pub tick_total : Total (TickContract m)
  tick_total mem j =
      let o = rules.tick m mem j in
      record { reply = reply_of o; memory = o.memory; journal = o.journal; meets = told o (kept-tick m mem j h).known }

  pub take_total : (channel : ℕ) → Total (TakeContract channel m)
  take_total channel mem j =
      let o = rules.take channel m mem j in
      record { reply = reply_of o; memory = o.memory; journal = o.journal; meets = told o (kept-take m mem j h channel).known }

  pub give_total : (channel byte : ℕ) → Total (GiveContract channel byte m)
  give_total channel byte mem j =
      let o = rules.give channel byte m mem j in
      record { reply = reply_of o; memory = o.memory; journal = o.journal; meets = told o (kept-give m mem j h channel byte).known }

  pub event_total : Total (EventContract m)
  event_total mem j =
      let o = rules.event m mem j in
      record { reply = reply_of o; memory = o.memory; journal = o.journal; meets = told o (kept-event m mem j h).known }

  pub undo_total : Total (UndoContract m)
  undo_total mem j =
      let o = rules.undo m mem j in
      record { reply = reply_of o; memory = o.memory; journal = o.journal; meets = told o (kept-undo m mem j h).known }

  pub clear_total : Total (ClearContract m)
  clear_total mem j =
      let o = rules.clear m mem j in
      record { reply = reply_of o; memory = o.memory; journal = o.journal; meets = told o (kept-clear m mem j h).known }
