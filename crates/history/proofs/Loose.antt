-- Each of the eight contracts has two results when it leaves one part open: memory, journal, registers, depth, used, byte or answer; from any
-- machine of 45 registers, and any memory and journal of at least one word. Where the answer is 10, of a step, take or give, so it has without the
-- answer's part or without its address.
use mathlib.Core.Path.{◌≡◌, refl, sym, ap, ◌∙◌}
use mathlib.Core.List.{List}
use Prim.Native.Nat.{ℕ, ◌+◌, ◌-◌, ◌%◌, ◌≤◌, ◌<◌}
use native.Mathlib.Omega.{arith}
use lib.ListN.{length, get_or, set, length-set}
use lib.Seq.{get_or-set_same}
use Rattle.rules.specs.Registers.{registers}
use Rattle.rules.specs.Work.{outside, kind_fetch, kind_store}
use Rattle.rules.specs.Calls.{numbered, Outcome, outcome_of, machine_of}
use Rattle.rules.specs.Calls as rules
use Rattle.rules.specs.declared.Answer.{Answer}
use Rattle.rules.specs.declared.Machine.{Machine}
use Rattle.rules.specs.declared.Reply.{Reply}
use Rattle.laws.specs.Answers.{answer_of, Known}
use Rattle.laws.specs.Calls.{Kept}
use Rattle.laws.proofs.Fine.{proper-access, proper-refuse}
use Rattle.laws.proofs.Unique.{number-answer}
use Rattle.laws.proofs.Calls.{kept_step, kept-tick, kept-take, kept-give, kept-event, kept-undo, kept-clear, kept_fresh}
use Rattle.history.specs.CallContracts.{FreshContract, StepContract, TickContract, TakeContract, GiveContract, EventContract, UndoContract, ClearContract}
use Rattle.history.specs.Functions.{Result}
use Rattle.history.specs.Loose.{AllNeeded, AccessNeeded}
use Rattle.history.proofs.Unique.{reply_of, told}
use Rattle.history.proofs.Functions.{result_of}

-- another number, 0 or 1
other-number : (n : ℕ) → n ≡ 1 - n → ⊥
other-number n e = omega (arith, e)

-- another part
other-part : (p : ℕ) → (kind_fetch ≤ p) × (p ≤ kind_store) → p ≡ 1 + p % 3 → ⊥
other-part p h e = omega (arith, e, h)

-- another list of the same length: its first word differs
abbrev other_list : List ℕ → List ℕ
other_list l = set l 0 (1 - get_or l 0 0)

other-list : (l : List ℕ) → 0 < length l → l ≡ other_list l → ⊥
other-list l h e = other-number (get_or l 0 0) (ap (λ (x : List ℕ). get_or x 0 0) e ∙ get_or-set_same l 0 (1 - get_or l 0 0) 0 h)

-- it is the number of an answer
small : (n : ℕ) → Known (1 - n) 0 0
small n = record { most = omega arith; proper = proper-refuse (1 - n) (λ e. omega (arith, e)) }

-- 10 has any of three parts, and any address
known_ten : (part a : ℕ) → part < 3 → Known outside (1 + part) a
known_ten part a h = record { most = omega arith; proper = proper-access (1 + part) a (omega arith) (omega arith) }

module _ (rule : List ℕ → List ℕ → Outcome) (mem j : List ℕ) (k : Kept mem j (rule mem j)) (hm : 0 < length mem) (hj : 0 < length j) where
  abbrev o : Outcome
  o = rule mem j

  abbrev r : Reply
  r = reply_of o

  tells : outcome_of r o.memory o.journal ≡ o
  tells = told o k.known

  here : numbered r.answer ≡ (o.answer, o.part, o.address)
  here = number-answer o.answer o.part o.address k.known

  -- the result of the rules, and the same result with another reply
  abbrev same : Result
  same = result_of o

  abbrev replying : Machine → Answer → ℕ → Result
  replying m answer byte = record { reply = record { machine = m; answer = answer; byte = byte }; memory = o.memory; journal = o.journal }

  needed : AllNeeded (λ mem j r mem' j'. outcome_of r mem' j' ≡ rule mem j) mem j
  needed =
      record {
        memory =
            record {
              one = same;
              other = record { reply = r; memory = other_list o.memory; journal = o.journal };
              one-meets = (o.memory, tells);
              other-meets = (o.memory, tells);
              lengths = (refl, sym (length-set o.memory 0 _), refl);
              differ = λ e. other-list o.memory (omega (arith, k.memory)) e.memory;
            };
        journal =
            record {
              one = same;
              other = record { reply = r; memory = o.memory; journal = other_list o.journal };
              one-meets = (o.journal, tells);
              other-meets = (o.journal, tells);
              lengths = (refl, refl, sym (length-set o.journal 0 _));
              differ = λ e. other-list o.journal (omega (arith, k.journal)) e.journal;
            };
        registers =
            record {
              one = same;
              other = replying (machine_of (other_list o.machine.regs) o.machine.depth o.machine.used) r.answer o.byte;
              one-meets = (o.machine.regs, tells);
              other-meets = (o.machine.regs, tells);
              lengths = (sym (length-set o.machine.regs 0 _), refl, refl);
              differ = λ e. other-list o.machine.regs (omega (arith, k.count)) e.registers;
            };
        depth =
            record {
              one = same;
              other = replying (machine_of o.machine.regs (1 - o.machine.depth) o.machine.used) r.answer o.byte;
              one-meets = (o.machine.depth, tells);
              other-meets = (o.machine.depth, tells);
              lengths = (refl, refl, refl);
              differ = λ e. other-number o.machine.depth e.depth;
            };
        used =
            record {
              one = same;
              other = replying (machine_of o.machine.regs o.machine.depth (1 - o.machine.used)) r.answer o.byte;
              one-meets = (o.machine.used, tells);
              other-meets = (o.machine.used, tells);
              lengths = (refl, refl, refl);
              differ = λ e. other-number o.machine.used e.used;
            };
        byte =
            record {
              one = same;
              other = replying o.machine r.answer (1 - o.byte);
              one-meets = (o.byte, tells);
              other-meets = (o.byte, tells);
              lengths = (refl, refl, refl);
              differ = λ e. other-number o.byte e.byte;
            };
        answer =
            record {
              one = same;
              other = replying o.machine (answer_of (1 - o.answer) 0 0) o.byte;
              one-meets = (r.answer, tells);
              other-meets = (r.answer, tells);
              lengths = (refl, refl, refl);
              differ = λ e.
                  other-number o.answer
                  (ap (λ (t : ℕ × ℕ × ℕ). t.0) (sym here ∙ ap numbered e.answer ∙ number-answer (1 - o.answer) 0 0 (small o.answer)));
            };
      }

  -- where the answer is 10: with another part, and with another address
  module _ (ten : o.answer ≡ outside) where
    abbrev other_part : ℕ
    other_part = 1 + o.part % 3

    parted : numbered (answer_of outside other_part o.address) ≡ (outside, other_part, o.address)
    parted = number-answer outside other_part o.address (known_ten (o.part % 3) o.address (omega arith))

    addressed : numbered (answer_of outside o.part (1 - o.address)) ≡ (outside, o.part, 1 - o.address)
    addressed =
        number-answer outside o.part (1 - o.address)
        (record { most = omega arith; proper = let p = k.known.proper.parts ten in proper-access o.part (1 - o.address) p.0 p.1 })

    access_needed : AccessNeeded (λ mem j r mem' j'. outcome_of r mem' j' ≡ rule mem j) mem j
    access_needed =
        record {
          part =
              record {
                one = same;
                other = replying o.machine (answer_of outside other_part o.address) o.byte;
                one-meets = (r.answer, refl, refl, tells);
                other-meets = (r.answer, number_is ∙ sym (ap (λ (t : ℕ × ℕ × ℕ). t.0) parted), ap (λ (t : ℕ × ℕ × ℕ). t.2) here ∙ sym (ap (λ (t : ℕ × ℕ × ℕ). t.2) parted), tells);
                lengths = (refl, refl, refl);
                differ = λ e. other-part o.part (k.known.proper.parts ten) (ap (λ (t : ℕ × ℕ × ℕ). t.1) (sym here ∙ ap numbered e.answer ∙ parted));
              };
          address =
              record {
                one = same;
                other = replying o.machine (answer_of outside o.part (1 - o.address)) o.byte;
                one-meets = (r.answer, refl, refl, tells);
                other-meets = (r.answer, number_is ∙ sym (ap (λ (t : ℕ × ℕ × ℕ). t.0) addressed), ap (λ (t : ℕ × ℕ × ℕ). t.1) here ∙ sym (ap (λ (t : ℕ × ℕ × ℕ). t.1) addressed), tells);
                lengths = (refl, refl, refl);
                differ = λ e. other-number o.address (ap (λ (t : ℕ × ℕ × ℕ). t.2) (sym here ∙ ap numbered e.answer ∙ addressed));
              };
        }
      where
        number_is : (numbered r.answer).0 ≡ outside
        number_is = ap (λ (t : ℕ × ℕ × ℕ). t.0) here ∙ ten

module _ (mem j : List ℕ) (hm : 0 < length mem) (hj : 0 < length j) where
  pub fresh_needed : (code : List ℕ) → AllNeeded (FreshContract code) mem j
  fresh_needed code = needed (rules.fresh code) mem j (kept_fresh code mem j) hm hj

  module _ (m : Machine) (h : length m.regs ≡ registers) where
    pub step_needed : AllNeeded (StepContract m) mem j
    step_needed = needed (rules.step m) mem j (kept_step m mem j h) hm hj

    pub tick_needed : AllNeeded (TickContract m) mem j
    tick_needed = needed (rules.tick m) mem j (kept-tick m mem j h) hm hj

    pub take_needed : (channel : ℕ) → AllNeeded (TakeContract channel m) mem j
    take_needed channel = needed (rules.take channel m) mem j (kept-take m mem j h channel) hm hj

    pub give_needed : (channel byte : ℕ) → AllNeeded (GiveContract channel byte m) mem j
    give_needed channel byte = needed (rules.give channel byte m) mem j (kept-give m mem j h channel byte) hm hj

    pub event_needed : AllNeeded (EventContract m) mem j
    event_needed = needed (rules.event m) mem j (kept-event m mem j h) hm hj

    pub undo_needed : AllNeeded (UndoContract m) mem j
    undo_needed = needed (rules.undo m) mem j (kept-undo m mem j h) hm hj

    pub clear_needed : AllNeeded (ClearContract m) mem j
    clear_needed = needed (rules.clear m) mem j (kept-clear m mem j h) hm hj

    -- of the calls that answer 10
    pub step-access_needed : (rules.step m mem j).answer ≡ outside → AccessNeeded (StepContract m) mem j
    step-access_needed ten = access_needed (rules.step m) mem j (kept_step m mem j h) hm hj ten

    pub take-access_needed : (channel : ℕ) → (rules.take channel m mem j).answer ≡ outside → AccessNeeded (TakeContract channel m) mem j
    take-access_needed channel ten = access_needed (rules.take channel m) mem j (kept-take m mem j h channel) hm hj ten

    pub give-access_needed : (channel byte : ℕ) → (rules.give channel byte m mem j).answer ≡ outside → AccessNeeded (GiveContract channel byte m) mem j
    give-access_needed channel byte ten = access_needed (rules.give channel byte m) mem j (kept-give m mem j h channel byte) hm hj ten
