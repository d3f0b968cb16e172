-- 10 and 11 of a step, by its contract. The answer is 10a, 10b or 10c with an address exactly where the first of the step's accesses that is outside
-- memory has that kind and address; 10a exactly where (c) applies and Iptr is outside. A result with another answer, in a memory of 64 words or more,
-- is the result with any words appended, up to 16,384 in all. The answer is 11 exactly where the step Stops.
use mathlib.Core.Path.{◌≡◌, sym, ap, subst, ◌∙◌}
use mathlib.Core.Logic.{◌↔◌}
use mathlib.Core.Bool.{true, false}
use mathlib.Core.List.{List, ◌++◌}
use Prim.Native.Nat.{ℕ, ◌≤◌}
use lib.ListN.{length, get_or}
use Rattle.rules.specs.Words.{index}
use Rattle.rules.specs.Registers.{registers, iptr_reg}
use Rattle.rules.specs.Work.{outside, stop, kind_fetch, kind_store, first_outside}
use Rattle.rules.specs.Step as steps
use Rattle.rules.specs.Calls.{Outcome, size_bad}
use Rattle.rules.specs.Calls as rules
use Rattle.rules.specs.declared.Machine.{Machine}
use Rattle.rules.specs.declared.Reply.{Reply}
use Rattle.refusals.specs.Conditions.{refusal_of, bad_journal, is_halted, is_idle, fetch_outside, stops}
use Rattle.refusals.specs.Outside.{appended}
use Rattle.refusals.proofs.Outside as refusals
use Rattle.refusals.proofs.Rings as rings
use Rattle.history.specs.CallContracts.{StepContract, Same, number, part, address, refusal}
use Rattle.history.proofs.Unique.{same}

module _ (m : Machine) (h : length m.regs ≡ registers) (mem j : List ℕ) (r : Reply) (mem' j' : List ℕ) (step : StepContract m mem j r mem' j') where
  -- the answer is 10a, 10b or 10c (k is 1, 2 or 3) with the address a exactly where neither 1 nor 4 holds, and the first of the step's accesses that
  -- is outside memory is of that kind and at that address
  pub step-accesses : (k a : ℕ) → kind_fetch ≤ k
      → (refusal r ≡ (outside, k, a)) ↔ ((size_bad mem j ≡ false) × (bad_journal m j ≡ false) × (first_outside mem (steps.accesses mem m.regs) ≡ (k, a)))
  step-accesses k a some =
      let told = refusals.step-accesses m mem j h k a some in
      let e = ap refusal_of step in
      ((λ q. told.0 (sym e ∙ q)), λ q. e ∙ told.1 q)

  -- an answer 10 has a part, 1 to 3, and an address outside memory
  pub step_witness : number r ≡ outside → (kind_fetch ≤ part r) × (part r ≤ kind_store) × (length mem ≤ index (address r))
  step_witness e =
      subst (λ (o : Outcome). (kind_fetch ≤ o.part) × (o.part ≤ kind_store) × (length mem ≤ index o.address)) (sym step)
      (refusals.step_witness m mem j h (sym (ap (λ (o : Outcome). o.answer) step) ∙ e))

  -- the outcome with any other answer is the outcome in the longer memory, without the appended words, which stay unchanged
  pub step_longer : (number r ≡ outside → ⊥) → (x : List ℕ) → 64 ≤ length mem → length (mem ++ x) ≤ 16384
      → (r₂ : Reply) (mem₂ j₂ : List ℕ) → StepContract m (mem ++ x) j r₂ mem₂ j₂ → Same r₂ r mem₂ (mem' ++ x) j₂ j'
  step_longer n x l k r₂ mem₂ j₂ c =
      same (rules.step m (mem ++ x) j) r₂ r mem₂ (mem' ++ x) j₂ j' c
      (ap (appended x) step ∙ sym (refusals.step_longer m mem x j h l k (λ e. n (ap (λ (o : Outcome). o.answer) step ∙ e))))

  -- where no earlier number holds, the answer is 10a with the address a exactly where (c) applies and Iptr is outside memory; a is Iptr
  pub step-fetch : size_bad mem j ≡ false → bad_journal m j ≡ false → is_halted m.regs ≡ false → is_idle m.regs ≡ false → (a : ℕ)
      → (refusal r ≡ (outside, kind_fetch, a)) ↔ ((fetch_outside m.regs mem ≡ true) × (a ≡ get_or m.regs iptr_reg 0))
  step-fetch s f k i a =
      let told = refusals.step-fetch m mem j h s f k i a in
      let e = ap refusal_of step in
      ((λ q. told.0 (sym e ∙ q)), λ q. e ∙ told.1 q)

  -- the answer is 11 exactly where the step reaches a place that Stops
  pub step-stops : size_bad mem j ≡ false → bad_journal m j ≡ false → is_halted m.regs ≡ false → is_idle m.regs ≡ false → (number r ≡ stop) ↔ (stops m.regs mem ≡ true)
  step-stops s f k i =
      let told = rings.step-stops m mem j h s f k i in
      let e = ap (λ (o : Outcome). o.answer) step in
      ((λ q. told.0 (sym e ∙ q)), λ q. e ∙ told.1 q)
