-- Wrong functions ruled out (01, What the contracts have to say). No function that refuses always, gives one fixed answer, leaves the machine as it
-- was, undoes nothing, or after a first step only moves Iptr, meets the contract. Demand 3 does not hold of eight functions with an undo that does
-- nothing, a step that then only moves Iptr, or a step that invents depth or used. Each is shown on states for which the rules are computed.
use mathlib.Core.Path.{◌≡◌, refl, sym, ap, ◌∙◌}
use mathlib.Core.List.{List, [], ◌∷◌}
use Prim.Native.Nat.{ℕ, ◌+◌, ◌*◌}
use native.Mathlib.Omega.{arith}
use borrow.Author.Tests.{ne_eqb}
use lib.ListN.{length, get_or, set, replicate}
use lib.Seq.{get_or-set_other}
use Rattle.rules.specs.Tests.{if_lt, if_le, if_eq}
use Rattle.rules.specs.Words.{sign, restore_to_range, overflows}
use Rattle.rules.specs.Core.{overflow_check}
use Rattle.rules.specs.Stack.{clocks_run}
use Rattle.rules.specs.Registers.{registers, areg, iptr_reg, flags_reg, clock_reg, pointer_reg, count_reg, channel_reg, active_bit, core_of, with_core}
use Rattle.rules.specs.Memory.{stores, storing, hit, touched, touched_from}
use Rattle.rules.specs.Work.{put, raise, lower, put_core, refuse_at, word_at, byte_at, access}
use Rattle.rules.specs.Scheduling.{mem_start, act_on_snp, j, time_slice, slice_if_running}
use Rattle.rules.specs.Timers.{timer_due, timer_ready}
use Rattle.rules.specs.Channels.{request_from, requested}
use Rattle.rules.specs.Links as links
use Rattle.rules.specs.Operations.{functions, function}
use Rattle.rules.specs.Step as steps
use Rattle.rules.specs.Journal.{record_length, olds, record_of, bounds_bad, last_pairs, last_start, last_regs, pairs_at, write_back, strays}
use Rattle.rules.specs.Calls.{numbered, Outcome, outcome_of, memory_size_bad, journal_size_bad, size_bad, code_bad, not_output, not_input, recorded, commit_or_refuse, checked, undone, undo_last, code_word, fresh_word, fresh_memory, fresh_regs, machine_of, fresh}
use Rattle.rules.specs.Calls as rules
use Rattle.rules.specs.declared.Machine.{Machine}
use Rattle.rules.proofs.Tests.{yes_eq, no_eq, cases_eq}
use Rattle.laws.specs.Answers.{answer_of, Known}
use Rattle.laws.proofs.Fine.{proper-refuse}
use Rattle.laws.proofs.Unique.{number-answer}
use Rattle.laws.proofs.Calls.{kept_step, kept_fresh}
use Rattle.history.specs.Machine.{call, undo}
use Rattle.history.specs.T414.{step, Whole, after, run, Shown, shown, Plain}
use Rattle.history.specs.CallContracts.{FreshContract, StepContract, TickContract, TakeContract, GiveContract, EventContract, UndoContract, ClearContract, number}
use Rattle.history.specs.Chain.{stands, worked, given, plain}
use Rattle.history.specs.Functions.{Result, Function, Meets, MeetsFresh, Functions, hands_on, made, ran, answers, stood, Reversible}
use Rattle.history.specs.Wrong.{RefusesAlways, AnswersOnly, LeavesRegisters, LeavesDepth, LeavesMemory, ThenMovesIptr, FirstProperly, MovesOn, InventsCounts, Accepts, TwoAnswers}
use Rattle.history.proofs.Unique.{told}
use Rattle.history.proofs.Counted.{step_counted}
use Rattle.history.proofs.Functions.{result_of, rules_meet}

-- ---- the states: fresh with code 41 81, with clocks that run and link 0 moving one byte; after one step of it; and no memory at all

abbrev pub code : List ℕ
code = 0x41 ∷ 0x81 ∷ []

abbrev pub lent : List ℕ
lent = replicate 64 0

abbrev pub paper : List ℕ
paper = replicate (3 * record_length 0) 0

abbrev pub begun : Whole
begun =
    record {
      machine = machine_of (set (set (set (set (fresh_regs 2) flags_reg clocks_run) (pointer_reg 0) mem_start) (count_reg 0) 1) (channel_reg 0) active_bit) 0 0;
      memory = fresh_memory code 0 64;
      journal = paper;
    }

abbrev pub second : Whole
second = after (rules.step begun.machine begun.memory begun.journal)

abbrev pub nowhere : Whole
nowhere = record { machine = begun.machine; memory = []; journal = [] }

abbrev Rule : Type 0
Rule = Machine → List ℕ → List ℕ → Outcome

abbrev at : Rule → Whole → Outcome
at rule s = rule s.machine s.memory s.journal

-- the rules at a state, computed: the answer, and a register before the call and after it
abbrev Says : Rule → Whole → ℕ → ℕ → ℕ → ℕ → Type 0
Says rule s n k v v' = ((at rule s).answer ≡ n) × (get_or s.machine.regs k 0 ≡ v) × (get_or (at rule s).machine.regs k 0 ≡ v')

abbrev fresh_rule : Rule
fresh_rule m mem j = rules.fresh code mem j

computed : Says rules.step begun 0 areg 0 1
    × Says rules.step second 0 areg 1 2
    × (second.machine.depth ≡ 1)
    × Says rules.tick begun 0 (clock_reg 0) 0 1
    × Says (rules.take 0) begun 0 (count_reg 0) 1 0
    × Says (rules.give 4 7) begun 0 (channel_reg 4) 0 1796
    × Says rules.event begun 0 (channel_reg 8) 0 4
    × Says rules.undo second 0 areg 1 0
    × ((rules.clear second.machine second.memory second.journal).answer ≡ 0)
    × ((rules.clear second.machine second.memory second.journal).machine.depth ≡ 0)
    × ((fresh code lent paper).answer ≡ 0)
    × (get_or (fresh code lent paper).memory 0 0 ≡ 0x8000_0000)
unfolding fresh fresh_regs fresh_memory fresh_word code_word code_bad memory_size_bad journal_size_bad size_bad not_output not_input if_lt if_le if_eq rules.step rules.tick rules.take rules.give rules.event rules.undo rules.clear checked commit_or_refuse recorded undone undo_last bounds_bad last_pairs last_start last_regs pairs_at write_back strays olds record_of touched touched_from hit stores storing steps.step steps.choose steps.channels_first steps.timers_first steps.instruction_unless_idle steps.instruction steps.decode steps.execute steps.fetched steps.halt_on_error steps.halt_if_asked links.tick links.tick_clocks links.tick_prescaler links.tick_slice links.take links.taken links.take_byte links.advance links.end_at_zero links.transfer_ends links.give links.hold links.notice_held links.receive links.event links.event_meets links.event_holds function functions requested request_from timer_ready timer_due put raise lower put_core core_of with_core word_at byte_at access refuse_at act_on_snp j time_slice slice_if_running overflow_check overflows sign restore_to_range
computed = ((refl, refl, refl), (refl, refl, refl), refl, (refl, refl, refl), (refl, refl, refl), (refl, refl, refl), (refl, refl, refl), (refl, refl, refl), refl, refl, refl, refl)

-- without memory each call is refused with 1
computed-nowhere : ((at rules.step nowhere).answer ≡ 1)
    × ((at rules.tick nowhere).answer ≡ 1)
    × ((at (rules.take 0) nowhere).answer ≡ 1)
    × ((at (rules.give 4 7) nowhere).answer ≡ 1)
    × ((at rules.event nowhere).answer ≡ 1)
    × ((at rules.undo nowhere).answer ≡ 1)
    × ((at rules.clear nowhere).answer ≡ 1)
    × ((at fresh_rule nowhere).answer ≡ 1)
unfolding rules.step rules.tick rules.take rules.give rules.event rules.undo rules.clear fresh checked size_bad memory_size_bad
computed-nowhere = (refl, refl, refl, refl, refl, refl, refl, refl)

-- ---- no function with one answer, refusing or not

begun45 : length begun.machine.regs ≡ registers
unfolding fresh_regs
begun45 = refl

second45 : length second.machine.regs ≡ registers
second45 = (kept_step begun.machine begun.memory begun.journal begun45).count

abbrev Obeys : Rule → Function → Type 0
Obeys rule = Meets (λ m mem j r mem' j'. outcome_of r mem' j' ≡ rule m mem j)

module _ (rule : Rule) (s : Whole) (h : length s.machine.regs ≡ registers) where
  number_at : (f : Function) → Obeys rule f → number (f s.machine s.memory s.journal).reply ≡ (at rule s).answer
  number_at f o = ap (λ (x : Outcome). x.answer) (o s.machine h s.memory s.journal)

  refuses_wrongly : (at rule s).answer ≡ 0 → (f : Function) → RefusesAlways f → Obeys rule f → ⊥
  refuses_wrongly a f w o = w s.machine h s.memory s.journal (number_at f o ∙ a)

  answers_wrongly : (at rule s).answer ≡ 0 → (at rule nowhere).answer ≡ 1 → (f : Function) (n : ℕ) → AnswersOnly n f → Obeys rule f → ⊥
  answers_wrongly a b f n w o =
      let zero-here : n ≡ 0 = sym (w s.machine h s.memory s.journal) ∙ number_at f o ∙ a in
      let one-there : n ≡ 1 = sym (w begun.machine begun45 [] []) ∙ ap (λ (x : Outcome). x.answer) (o begun.machine begun45 [] []) ∙ b in
      omega (arith, zero-here, one-there)

  -- a register that the rules change
  leaves_wrongly : (k v v' : ℕ) → (v ≡ v' → ⊥) → get_or s.machine.regs k 0 ≡ v → get_or (at rule s).machine.regs k 0 ≡ v'
      → (f : Function) → LeavesRegisters f → Obeys rule f → ⊥
  leaves_wrongly k v v' d a b f w o =
      d (sym a ∙ ap (λ (r : List ℕ). get_or r k 0) (sym (w s.machine h s.memory s.journal) ∙ ap (λ (x : Outcome). x.machine.regs) (o s.machine h s.memory s.journal)) ∙ b)

  two-answers : (at rule s).answer ≡ 0 → (at rule nowhere).answer ≡ 1 → TwoAnswers (λ m mem j r mem' j'. outcome_of r mem' j' ≡ rule m mem j)
  two-answers a b = record { not_refusing = refuses_wrongly a; not_fixed = answers_wrongly a b }

pub step-answers : TwoAnswers StepContract
step-answers = two-answers rules.step begun begun45 computed.0.0 computed-nowhere.0

pub tick-answers : TwoAnswers TickContract
tick-answers = two-answers rules.tick begun begun45 computed.3.0 computed-nowhere.1

pub take-answers : TwoAnswers (TakeContract 0)
take-answers = two-answers (rules.take 0) begun begun45 computed.4.0 computed-nowhere.2

pub give-answers : TwoAnswers (GiveContract 4 7)
give-answers = two-answers (rules.give 4 7) begun begun45 computed.5.0 computed-nowhere.3

pub event-answers : TwoAnswers EventContract
event-answers = two-answers rules.event begun begun45 computed.6.0 computed-nowhere.4

pub undo-answers : TwoAnswers UndoContract
undo-answers = two-answers rules.undo second second45 computed.7.0 computed-nowhere.5

pub clear-answers : TwoAnswers ClearContract
clear-answers = two-answers rules.clear second second45 computed.8 computed-nowhere.6

-- fresh takes no machine
pub fresh-answers : TwoAnswers (λ m. FreshContract code)
fresh-answers =
    two-answers fresh_rule (record { machine = begun.machine; memory = lent; journal = paper }) begun45 computed.10 computed-nowhere.7

-- ---- leaving the machine as it was; an undo that does nothing

pub step_leaves : (f : Function) → LeavesRegisters f → Meets StepContract f → ⊥
step_leaves = leaves_wrongly rules.step begun begun45 areg 0 1 (λ e. omega (arith, e)) computed.0.1 computed.0.2

pub tick_leaves : (f : Function) → LeavesRegisters f → Meets TickContract f → ⊥
tick_leaves = leaves_wrongly rules.tick begun begun45 (clock_reg 0) 0 1 (λ e. omega (arith, e)) computed.3.1 computed.3.2

pub take_leaves : (f : Function) → LeavesRegisters f → Meets (TakeContract 0) f → ⊥
take_leaves = leaves_wrongly (rules.take 0) begun begun45 (count_reg 0) 1 0 (λ e. omega (arith, e)) computed.4.1 computed.4.2

pub give_leaves : (f : Function) → LeavesRegisters f → Meets (GiveContract 4 7) f → ⊥
give_leaves = leaves_wrongly (rules.give 4 7) begun begun45 (channel_reg 4) 0 1796 (λ e. omega (arith, e)) computed.5.1 computed.5.2

pub event_leaves : (f : Function) → LeavesRegisters f → Meets EventContract f → ⊥
event_leaves = leaves_wrongly rules.event begun begun45 (channel_reg 8) 0 4 (λ e. omega (arith, e)) computed.6.1 computed.6.2

pub undo_leaves : (f : Function) → LeavesRegisters f → Meets UndoContract f → ⊥
undo_leaves = leaves_wrongly rules.undo second second45 areg 1 0 (λ e. omega (arith, e)) computed.7.1 computed.7.2

-- clear leaves the registers; it must not leave the depth
pub clear_leaves : (f : Function) → LeavesDepth f → Meets ClearContract f → ⊥
clear_leaves f w o =
    let e : second.machine.depth ≡ 0 =
    sym (w second.machine second45 second.memory second.journal)
    ∙ ap (λ (x : Outcome). x.machine.depth) (o second.machine second45 second.memory second.journal)
    ∙ computed.9 in
    omega (arith, e, computed.2)

-- fresh must not leave the memory
pub fresh_leaves : (f : Function) → LeavesMemory f → Meets (λ m. FreshContract code) f → ⊥
fresh_leaves f w o =
    let e : ◌≡◌ {A = ℕ} 0 0x8000_0000 =
    ap (λ (l : List ℕ). get_or l 0 0) (sym (w begun.machine begun45 lent paper) ∙ ap (λ (x : Outcome). x.memory) (o begun.machine begun45 lent paper))
    ∙ computed.11 in
    omega (arith, e)

-- ---- the first step properly and then only moving Iptr

pub step-moves_iptr : (f : Function) → ThenMovesIptr f → Meets StepContract f → ⊥
step-moves_iptr f w o =
    let stays : get_or (f second.machine second.memory second.journal).reply.machine.regs areg 0 ≡ get_or second.machine.regs areg 0 =
    w second.machine second45 second.memory second.journal (λ e. omega (arith, e, computed.2)) areg (λ e. omega (arith, e)) in
    let e : ◌≡◌ {A = ℕ} 1 2 =
    sym computed.1.1
    ∙ sym stays
    ∙ ap (λ (x : Outcome). get_or x.machine.regs areg 0) (o second.machine second45 second.memory second.journal)
    ∙ computed.1.2 in
    omega (arith, e)

-- ---- the last two do not satisfy demand 3, by a sequence from fresh

-- fresh, and after one step
abbrev start : Whole
start = after (fresh code lent paper)

abbrev next : Whole
next = after (at rules.step start)

-- both steps are accepted; A is 0, then 1; the rules give 2 for two steps
computed-start : Says rules.step start 0 areg 0 1
    × (start.machine.depth ≡ 0)
    × (next.machine.depth ≡ 1)
    × ((at rules.step next).answer ≡ 0)
    × (get_or (given (plain start) (step ∷ step ∷ [])).regs areg 0 ≡ 2)
unfolding given worked fresh fresh_regs fresh_memory fresh_word code_word code_bad memory_size_bad journal_size_bad size_bad not_output not_input if_lt if_le if_eq rules.step rules.tick rules.take rules.give rules.event rules.undo rules.clear checked commit_or_refuse recorded undone undo_last bounds_bad last_pairs last_start last_regs pairs_at write_back strays olds record_of touched touched_from hit stores storing steps.step steps.choose steps.channels_first steps.timers_first steps.instruction_unless_idle steps.instruction steps.decode steps.execute steps.fetched steps.halt_on_error steps.halt_if_asked links.tick links.tick_clocks links.tick_prescaler links.tick_slice links.take links.taken links.take_byte links.advance links.end_at_zero links.transfer_ends links.give links.hold links.notice_held links.receive links.event links.event_meets links.event_holds function functions requested request_from timer_ready timer_due put raise lower put_core core_of with_core word_at byte_at access refuse_at act_on_snp j time_slice slice_if_running overflow_check overflows sign restore_to_range
computed-start = ((refl, refl, refl), refl, refl, refl, refl)

start45 : length start.machine.regs ≡ registers
start45 = (kept_fresh code lent paper).count

next45 : length next.machine.regs ≡ registers
next45 = (kept_step start.machine start.memory start.journal start45).count

abbrev areg_of : Whole → ℕ
areg_of s = get_or s.machine.regs areg 0

-- eight functions of which fresh meets its contract
module _ (F : Functions) (f : MeetsFresh F.fresh) where
  abbrev there : Whole
  there = hands_on (F.fresh code lent paper)

  there-is : there ≡ start
  there-is = ap after (f code lent paper)

  there45 : length there.machine.regs ≡ registers
  there45 = ap (λ (w : Whole). length w.machine.regs) there-is ∙ start45

  there_accepts : (at rules.step there).answer ≡ 0
  there_accepts = ap (λ (w : Whole). (at rules.step w).answer) there-is ∙ computed-start.0.0

  abbrev first : Result
  first = made F (call step) there

  -- an invented depth or used: where the function accepts every step that the rules accept, one step from fresh shows it
  pub step_invented : Accepts F.step → InventsCounts F.step → Reversible F → ⊥
  unfolding ran answers stands run
  step_invented a w d =
      let accepted : number first.reply ≡ 0 = a there.machine there45 there.memory there.journal there_accepts in
      let same : shown (hands_on first) ≡ shown (after (at rules.step there)) = rw accepted at (d code lent paper (call step ∷ [])).records in
      let meets = rules_meet.step there.machine there45 there.memory there.journal in
      let counted = step_counted there.machine there.memory there.journal _ _ _ meets (ap (λ (o : Outcome). o.answer) meets ∙ there_accepts) in
      w there.machine there45 there.memory there.journal accepted
      (ap (λ (x : Shown). x.depth) same ∙ counted.0, ap (λ (x : Shown). x.used) same ∙ counted.1)

  -- and of which step meets its contract where no record stands; the others are any functions
  module _ (p : FirstProperly F.step) where
    first-is : outcome_of first.reply first.memory first.journal ≡ at rules.step start
    first-is =
        p there.machine there45 there.memory there.journal (ap (λ (w : Whole). w.machine.depth) there-is ∙ computed-start.1)
        ∙ ap (λ (w : Whole). at rules.step w) there-is

    -- the first step is accepted, and leaves the state that the rules leave
    first-accepted : number first.reply ≡ 0
    first-accepted = ap (λ (o : Outcome). o.answer) first-is ∙ computed-start.0.0

    first_leaves : hands_on first ≡ next
    first_leaves = ap after first-is

    first45 : length (hands_on first).machine.regs ≡ registers
    first45 = ap (λ (w : Whole). length w.machine.regs) first_leaves ∙ next45

    aregs : (areg_of there ≡ 0) × (areg_of (hands_on first) ≡ 1)
    aregs = (ap areg_of there-is ∙ computed-start.0.1, ap areg_of first_leaves ∙ computed-start.0.2)

    -- an undo that does nothing: it must be accepted, so that no call stands; but A is still 1, not 0
    pub undo_nothing : LeavesRegisters F.undo → Reversible F → ⊥
    unfolding ran answers stands given
    undo_nothing w d =
        let stands-first : stood F (call step ∷ []) there ≡ step ∷ [] = rw first-accepted in
        let undone : Result = made F undo (hands_on first) in
        let accepted : number undone.reply ≡ 0 =
        ap (λ (l : List ℕ). get_or l 0 1) ((d code lent paper (call step ∷ [])).undoing 1 (rw stands-first (omega arith))).accepted in
        let state : plain (hands_on undone) ≡ plain there = rw (first-accepted, accepted) at (d code lent paper (call step ∷ undo ∷ [])).state in
        let e : ◌≡◌ {A = ℕ} 1 0 =
        sym aregs.1
        ∙ ap (λ (r : List ℕ). get_or r areg 0) (sym (w (hands_on first).machine first45 (hands_on first).memory (hands_on first).journal))
        ∙ ap (λ (x : Plain). get_or x.regs areg 0) state
        ∙ aregs.0 in
        omega (arith, e)

    -- a step that then only moves Iptr: where it is accepted, two steps stand, but A is still 1, not 2; where it is refused, one step stands, but
    -- Iptr is not the one that this step gives
    pub step_iptr-moved : ThenMovesIptr F.step → MovesOn F.step → Reversible F → ⊥
    unfolding ran answers stands given
    step_iptr-moved w g d = cases_eq (number again.reply) 0 accepted refused
      where
        again : Result
        again = made F (call step) (hands_on first)

        stays : areg_of (hands_on again) ≡ areg_of (hands_on first)
        stays =
            w (hands_on first).machine first45 (hands_on first).memory (hands_on first).journal
            (λ z. omega (arith, z, ap (λ (x : Whole). x.machine.depth) first_leaves, computed-start.2))
            areg
            (λ z. omega (arith, z))

        accepted : number again.reply ≡ 0 → ⊥
        accepted a =
            let state : plain (hands_on again) ≡ given (plain there) (step ∷ step ∷ []) =
            rw (first-accepted, a) at (d code lent paper (call step ∷ call step ∷ [])).state in
            let e : ◌≡◌ {A = ℕ} 1 2 =
            sym aregs.1
            ∙ sym stays
            ∙ ap (λ (x : Plain). get_or x.regs areg 0) (state ∙ ap (λ (x : Whole). given (plain x) (step ∷ step ∷ [])) there-is)
            ∙ computed-start.4 in
            omega (arith, e)

        refused : (number again.reply ≡ 0 → ⊥) → ⊥
        refused n =
            let before : plain (hands_on first) ≡ given (plain there) (step ∷ []) = rw first-accepted at (d code lent paper (call step ∷ [])).state in
            let state : plain (hands_on again) ≡ given (plain there) (step ∷ []) =
            rw (first-accepted, ne_eqb (number again.reply) 0 n) at (d code lent paper (call step ∷ call step ∷ [])).state in
            g (hands_on first).machine first45 (hands_on first).memory (hands_on first).journal
            (ap (λ (x : Whole). (at rules.step x).answer) first_leaves ∙ computed-start.3)
            n
            (ap (λ (x : Plain). get_or x.regs iptr_reg 0) (state ∙ sym before))

-- ---- such functions exist

-- an undo that is accepted and changes nothing
abbrev idle_undo : Function
idle_undo m mem j = result_of (rules.accepted 0 m mem j)

-- the step of the rules where no record stands; else Iptr is moved by one, and a call is counted
abbrev iptr_step : Function
iptr_step m mem j =
    result_of
    (if_eq m.depth 0 (rules.step m mem j)
    (rules.accepted 0 (machine_of (set m.regs iptr_reg (get_or m.regs iptr_reg 0 + 1)) (m.depth + 1) m.used) mem j))

-- a step that answers as the rules do and changes nothing, not even depth and used
abbrev idle_step : Function
idle_step m mem j = result_of (rules.refused_at (rules.step m mem j).answer (rules.step m mem j).part (rules.step m mem j).address m mem j)

pub wrong_exist : LeavesRegisters idle_undo
    × FirstProperly iptr_step
    × ThenMovesIptr iptr_step
    × MovesOn iptr_step
    × Accepts idle_step
    × InventsCounts idle_step
wrong_exist = (
  λ m h mem j. refl,
  λ m h mem j e. rw (yes_eq e) (told _ (kept_step m mem j h).known),
  λ m h mem j e k d. rw (no_eq e) (get_or-set_other m.regs iptr_reg k _ 0 d),
  λ m h mem j a n. absurd (n (cases_eq m.depth 0 (λ e. rw (yes_eq e) (answers_so m h mem j ∙ a)) (λ e. rw (no_eq e) (ap (λ (t : ℕ × ℕ × ℕ). t.0) (number-answer 0 0 0 done))))),
  λ m h mem j a. answers_so m h mem j ∙ a,
  λ m h mem j a c. omega (arith, c.0),
)
  where
    done : Known 0 0 0
    done = record { most = omega arith; proper = proper-refuse 0 (λ e. omega (arith, e)) }

    answers_so : (m : Machine) → length m.regs ≡ registers → (mem j : List ℕ)
        → (numbered (answer_of (rules.step m mem j).answer (rules.step m mem j).part (rules.step m mem j).address)).0 ≡ (rules.step m mem j).answer
    answers_so m h mem j =
        ap (λ (t : ℕ × ℕ × ℕ). t.0) (number-answer (rules.step m mem j).answer (rules.step m mem j).part (rules.step m mem j).address (kept_step m mem j h).known)
