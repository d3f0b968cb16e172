-- Exact refusals: a call answers a refusal, with its part and address, exactly when its condition in 01's table holds and none before it; it is
-- accepted exactly when no condition holds. The conditions are the definitions of crates/refusals/specs/Conditions.antt.
use mathlib.Core.Path.{◌≡◌, refl, sym, ap, subst, ◌∙◌}
use mathlib.Core.Logic.{◌↔◌}
use mathlib.Core.Bool.{Bool, true, false}
use mathlib.Core.List.{List, [], ◌∷◌}
use Prim.Native.Nat.{ℕ}
use lib.ListN.{length}
use Rattle.rules.specs.Tests.{pick}
use Rattle.rules.specs.Registers.{registers}
use Rattle.rules.specs.Calls.{Outcome, outcome_of}
use Rattle.rules.specs.Calls as rules
use Rattle.rules.specs.declared.Machine.{Machine}
use Rattle.rules.specs.declared.Reply.{Reply}
use Rattle.refusals.specs.Conditions.{Refusal, refusal_of, Row, first_of, fresh_refusals, step_refusals, tick_refusals, take_refusals, give_refusals, event_refusals, undo_refusals, clear_refusals}
use Rattle.refusals.proofs.Exactly as rules-are
use Rattle.history.specs.CallContracts.{FreshContract, StepContract, TickContract, TakeContract, GiveContract, EventContract, UndoContract, ClearContract, refusal}
use Rattle.history.specs.Given.{Given, none, holds, later, AnswersExactly}

-- the refusal of `first_of` is `Given`
given_first : (es : List Row) → Given (first_of es) es
unfolding first_of
given_first [] = none
given_first (e ∷ es) = go e.1 refl (given_first es)
  where
    go : (t : Bool) → e.1 ≡ t → Given (first_of es) es → Given (pick t e.0 (first_of es)) ((e.0, e.1) ∷ es)
    go true h g = holds h
    go false h g = later h g

first-given : {t : Refusal} {es : List Row} → Given t es → first_of es ≡ t
unfolding first_of
first-given none = refl
first-given (holds h) = rw h
first-given (later h g) = rw h (first-given g)

exactly : (es : List Row) (o : Outcome) (r : Reply) (mem j : List ℕ) → outcome_of r mem j ≡ o → refusal_of o ≡ first_of es → (t : Refusal)
    → (refusal r ≡ t) ↔ Given t es
exactly es o r mem j e first t =
    let a : refusal r ≡ first_of es = ap refusal_of e ∙ first in
    (λ q. subst (λ (u : Refusal). Given u es) (sym a ∙ q) (given_first es), λ g. a ∙ first-given g)

pub fresh_exactly : (code : List ℕ) → AnswersExactly (fresh_refusals code) (FreshContract code)
fresh_exactly code mem j r mem' j' e t = exactly (fresh_refusals code mem j) _ r mem' j' e (rules-are.fresh_exactly rules.no_machine mem j code) t

-- for a machine of 45 registers
pub step_exactly : (m : Machine) → length m.regs ≡ registers → AnswersExactly (step_refusals m) (StepContract m)
step_exactly m h mem j r mem' j' e t = exactly (step_refusals m mem j) _ r mem' j' e (rules-are.step_exactly m mem j h) t

module _ (m : Machine) where
  pub tick_exactly : AnswersExactly (tick_refusals m) (TickContract m)
  tick_exactly mem j r mem' j' e t = exactly (tick_refusals m mem j) _ r mem' j' e (rules-are.tick_exactly m mem j) t

  pub take_exactly : (channel : ℕ) → AnswersExactly (take_refusals channel m) (TakeContract channel m)
  take_exactly channel mem j r mem' j' e t = exactly (take_refusals channel m mem j) _ r mem' j' e (rules-are.take_exactly m mem j channel) t

  pub give_exactly : (channel byte : ℕ) → AnswersExactly (give_refusals channel m) (GiveContract channel byte m)
  give_exactly channel byte mem j r mem' j' e t = exactly (give_refusals channel m mem j) _ r mem' j' e (rules-are.give_exactly m mem j channel byte) t

  pub event_exactly : AnswersExactly (event_refusals m) (EventContract m)
  event_exactly mem j r mem' j' e t = exactly (event_refusals m mem j) _ r mem' j' e (rules-are.event_exactly m mem j) t

  pub undo_exactly : AnswersExactly (undo_refusals m) (UndoContract m)
  undo_exactly mem j r mem' j' e t = exactly (undo_refusals m mem j) _ r mem' j' e (rules-are.undo_exactly m mem j) t

  pub clear_exactly : AnswersExactly (clear_refusals m) (ClearContract m)
  clear_exactly mem j r mem' j' e t = exactly (clear_refusals m mem j) _ r mem' j' e (rules-are.clear_exactly m mem j) t
