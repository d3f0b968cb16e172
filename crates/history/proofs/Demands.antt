-- The three demands (01, What the contracts have to say) on the contracts of the eight public functions (specs/CallContracts.antt), on one page. The
-- proofs are in the files imported here.
--
-- 1. TOTAL. Every call, from any input, gives one of 01's answers; a refused call changes nothing.
-- 2. EXACT. The contract determines the answer with its part and address, the registers, depth, used and every lent word, and no second result meets
--    it; the answer is a row of the table exactly when its condition holds and none before it; depth and used count the records.
-- 3. REVERSIBLE. After any sequence the machine is the one that the standing calls (accepted and not undone) give; undos lead back through the
--    sequence.
use mathlib.Core.Path.{◌≡◌}
use mathlib.Core.Logic.{◌↔◌}
use mathlib.Core.List.{List, [], ◌++◌}
use mathlib.Core.Bool.{true, false}
use Prim.Native.Nat.{ℕ, ◌≤◌}
use lib.ListN.{length, get_or, drop, replicate}
use Rattle.rules.specs.Words.{index}
use Rattle.rules.specs.Registers.{registers, iptr_reg}
use Rattle.rules.specs.Work.{outside, stop, kind_fetch, kind_store, first_outside}
use Rattle.rules.specs.Step as steps
use Rattle.rules.specs.Calls.{no_machine, size_bad}
use Rattle.rules.specs.declared.Machine.{Machine}
use Rattle.rules.specs.declared.Reply.{Reply}
use Rattle.refusals.specs.Conditions.{Row, bad_journal, is_halted, is_idle, fetch_outside, stops, fresh_refusals, step_refusals, tick_refusals, take_refusals, give_refusals, event_refusals, undo_refusals, clear_refusals}
use Rattle.history.specs.Machine.{Act, undo, in_order}
use Rattle.history.specs.T414.{Call, step, tick, take, give, event, Whole, run, shown}
use Rattle.history.specs.T414 as calls
use Rattle.history.specs.CallContracts.{Contract, FreshContract, StepContract, TickContract, TakeContract, GiveContract, EventContract, UndoContract, ClearContract, number, part, address, refusal, Same, OneAnswer, Total, RefusesCleanly}
use Rattle.history.specs.Given.{AnswersExactly}
use Rattle.history.specs.Counted.{Counted, one_more, one_less, no_record}
use Rattle.history.specs.Chain.{left, Chain, stands, Moment, given, plain}
use Rattle.history.specs.Functions.{Functions, MeetContracts, Reversible}
use Rattle.history.proofs.Unique.{fresh_unique, step_unique, tick_unique, take_unique, give_unique, event_unique, undo_unique, clear_unique}
use Rattle.history.proofs.Unique.{fresh_total, step_total, tick_total, take_total, give_total, event_total, undo_total, clear_total}
use Rattle.history.proofs.Refused.{fresh-refused, step-refused, tick-refused, take-refused, give-refused, event-refused, undo-refused, clear-refused}
use Rattle.history.proofs.Exactly.{fresh_exactly, step_exactly, tick_exactly, take_exactly, give_exactly, event_exactly, undo_exactly, clear_exactly}
use Rattle.history.proofs.Outside.{step-accesses, step_witness, step-fetch, step_longer, step-stops}
use Rattle.history.proofs.Counted.{fresh_counted, step_counted, tick_counted, take_counted, give_counted, event_counted, undo_counted, clear_counted}
use Rattle.history.proofs.Public.{public_history, public-records, public-undone}
use Rattle.history.proofs.Functions.{by_the_rules, rules_meet, reversible}

-- demands 1 and 2 of one call: some result meets its contract, and no second one; it refuses exactly by its table, and cleanly (m is the machine
-- before it); an accepted call leaves the depth and used that `counts` gives
pub record TotalAndExact (C : Contract) (table : List ℕ → List ℕ → List Row) (counts : List ℕ → List ℕ → ℕ × ℕ) (m : Machine) : Type 0 where
  pub total : Total C
  pub refuses_cleanly : RefusesCleanly m C
  pub one_answer : OneAnswer C
  pub answers_exactly : AnswersExactly table C
  pub counted : Counted C counts

-- ---- demands 1 and 2, of the eight calls

pub fresh_demands : (code : List ℕ) → TotalAndExact (FreshContract code) (fresh_refusals code) no_record no_machine
fresh_demands code = record { total = fresh_total code; refuses_cleanly = fresh-refused code; one_answer = fresh_unique code; answers_exactly = fresh_exactly code; counted = fresh_counted code }

-- a machine has 45 registers, of any value; depth and used are any numbers
module _ (m : Machine) (h : length m.regs ≡ registers) where
  pub step_demands : TotalAndExact (StepContract m) (step_refusals m) (one_more step m) m
  step_demands = record { total = step_total m h; refuses_cleanly = step-refused m; one_answer = step_unique m; answers_exactly = step_exactly m h; counted = step_counted m }

  pub tick_demands : TotalAndExact (TickContract m) (tick_refusals m) (one_more tick m) m
  tick_demands = record { total = tick_total m h; refuses_cleanly = tick-refused m; one_answer = tick_unique m; answers_exactly = tick_exactly m; counted = tick_counted m }

  pub take_demands : (channel : ℕ) → TotalAndExact (TakeContract channel m) (take_refusals channel m) (one_more (take channel) m) m
  take_demands channel = record { total = take_total m h channel; refuses_cleanly = take-refused m channel; one_answer = take_unique m channel; answers_exactly = take_exactly m channel; counted = take_counted m channel }

  pub give_demands : (channel byte : ℕ) → TotalAndExact (GiveContract channel byte m) (give_refusals channel m) (one_more (give channel byte) m) m
  give_demands channel byte = record { total = give_total m h channel byte; refuses_cleanly = give-refused m channel byte; one_answer = give_unique m channel byte; answers_exactly = give_exactly m channel byte; counted = give_counted m channel byte }

  pub event_demands : TotalAndExact (EventContract m) (event_refusals m) (one_more event m) m
  event_demands = record { total = event_total m h; refuses_cleanly = event-refused m; one_answer = event_unique m; answers_exactly = event_exactly m; counted = event_counted m }

  pub undo_demands : TotalAndExact (UndoContract m) (undo_refusals m) (one_less m) m
  undo_demands = record { total = undo_total m h; refuses_cleanly = undo-refused m; one_answer = undo_unique m; answers_exactly = undo_exactly m; counted = undo_counted m }

  pub clear_demands : TotalAndExact (ClearContract m) (clear_refusals m) no_record m
  clear_demands = record { total = clear_total m h; refuses_cleanly = clear-refused m; one_answer = clear_unique m; answers_exactly = clear_exactly m; counted = clear_counted m }

-- ---- 10 and 11 of a step, by its accesses and not by its answer

module _ (m : Machine) (h : length m.regs ≡ registers) (mem j : List ℕ) (r : Reply) (mem' j' : List ℕ) (step : StepContract m mem j r mem' j') where
  -- the answer is 10a, 10b or 10c (k is 1, 2 or 3) with the address a exactly where neither 1 nor 4 holds, and the first of the step's accesses that
  -- is outside memory is of that kind and at that address. The accesses are listed in 000's order (crates/rules/specs/Step.antt)
  pub access_demand : (k a : ℕ) → kind_fetch ≤ k
      → (refusal r ≡ (outside, k, a)) ↔ ((size_bad mem j ≡ false) × (bad_journal m j ≡ false) × (first_outside mem (steps.accesses mem m.regs) ≡ (k, a)))
  access_demand = step-accesses m h mem j r mem' j' step

  -- no access inside memory is refused: an answer 10 has a part, 1 to 3, and an address outside memory
  pub outside_demand : number r ≡ outside → (kind_fetch ≤ part r) × (part r ≤ kind_store) × (length mem ≤ index (address r))
  outside_demand = step_witness m h mem j r mem' j' step

  -- where no earlier number holds, the answer is 10a exactly where (c) applies and Iptr is outside memory, and its address is Iptr
  pub fetch_demand : size_bad mem j ≡ false → bad_journal m j ≡ false → is_halted m.regs ≡ false → is_idle m.regs ≡ false → (a : ℕ)
      → (refusal r ≡ (outside, kind_fetch, a)) ↔ ((fetch_outside m.regs mem ≡ true) × (a ≡ get_or m.regs iptr_reg 0))
  fetch_demand = step-fetch m h mem j r mem' j' step

  -- the result does not depend on words behind memory: any other result is the result in a memory with words appended, which stay unchanged
  pub inside_demand : (number r ≡ outside → ⊥) → (x : List ℕ) → 64 ≤ length mem → length (mem ++ x) ≤ 16384
      → (r₂ : Reply) (mem₂ j₂ : List ℕ) → StepContract m (mem ++ x) j r₂ mem₂ j₂ → Same r₂ r mem₂ (mem' ++ x) j₂ j'
  inside_demand = step_longer m h mem j r mem' j' step

  -- where no earlier number holds, the answer is 11 exactly where the step reaches one of the places that Stop (crates/laws/specs/Stops.antt)
  pub stop_demand : size_bad mem j ≡ false → bad_journal m j ≡ false → is_halted m.regs ≡ false → is_idle m.regs ≡ false
      → (number r ≡ stop) ↔ (stops m.regs mem ≡ true)
  stop_demand = step-stops m h mem j r mem' j' step

-- ---- demand 3, of the contracts

-- from any fresh machine and any list of steps, ticks, takes, gives, events and undos, some refused, each from the state that the call before left
module _
    (code mem j : List ℕ) (r₀ : Reply) (mem₀ j₀ : List ℕ) (fresh : FreshContract code mem j r₀ mem₀ j₀)
    (acts : List (Act Call)) (numbers : List ℕ) (t : Whole) (made : Chain (left r₀ mem₀ j₀) acts numbers t)
  where
    -- the state after fresh
    abbrev pub begun : Whole
    begun = left r₀ mem₀ j₀

    -- the standing calls: accepted, no undos, and not undone; the last call first
    abbrev pub standing : List Call
    standing = stands acts numbers []

    -- the registers and all memory are those that the rules give for the standing calls, in order
    pub history_demand : plain t ≡ given (plain begun) standing
    history_demand = (public_history code mem j r₀ mem₀ j₀ fresh acts numbers t made).0

    -- depth is the number of standing calls
    pub depth_demand : t.machine.depth ≡ length standing
    depth_demand = (public_history code mem j r₀ mem₀ j₀ fresh acts numbers t made).1

    -- the visible state, with used and the journal's words in use, is that of a run of the standing calls alone, in order; in that run none is refused
    pub records_demand : (shown t ≡ shown (run (in_order standing) begun)) × (calls.standing (in_order standing) begun [] ≡ standing)
    records_demand = public-records code mem j r₀ mem₀ j₀ fresh acts numbers t made

    -- n undos where at least n calls stand: every undo is accepted, and registers, memory, depth and used (and the journal's words in use) are as
    -- before the last n standing calls, at a moment of the same sequence when all the others stood
    pub undo_demand : (n : ℕ) → n ≤ length standing → (others : List ℕ) (u : Whole) → Chain t (replicate n undo) others u
        → (others ≡ replicate n 0)
        × (m : Moment begun acts numbers t) × (stands m.calls-before m.numbers-before [] ≡ drop n standing)
        × (shown u ≡ shown m.state)
    undo_demand = public-undone code mem j r₀ mem₀ j₀ fresh acts numbers t made

-- ---- demand 3, of functions

-- any eight functions that meet the contracts satisfy demand 3, run from fresh: the four theorems above, and the standing calls, made again by the
-- functions, give the same state (specs/Functions.antt)
pub functions_demand : (F : Functions) → MeetContracts F → Reversible F
functions_demand = reversible

-- such functions exist
pub functions_exist : MeetContracts by_the_rules
functions_exist = rules_meet
