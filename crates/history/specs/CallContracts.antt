-- The contracts of the eight public functions (crates/t414), each as one definition: a relation of the machine, memory and journal before the
-- call with the reply, memory and journal after it. Each is the whole `ensures` of its function; no function has a `requires`.
use Rattle.std.specs.Prelude.{◌≡◌, List, ℕ}
use Rattle.rules.specs.Calls.{numbered, outcome_of}
use Rattle.rules.specs.Calls as rules
use Rattle.rules.specs.declared.Machine.{Machine}
use Rattle.rules.specs.declared.Reply.{Reply}

-- a contract: of memory and journal before the call, and the reply, memory and journal after it (01, What the contracts have to say)
abbrev pub Contract : Type 1
Contract = (mem j : List ℕ) (r : Reply) (mem' j' : List ℕ) → Type 0

-- the contract of fresh (01, What the contracts have to say), by its definition (01, Memory and registers)
abbrev pub FreshContract : (code : List ℕ) → Contract
FreshContract code mem j r mem' j' = outcome_of r mem' j' ≡ rules.fresh code mem j

-- the contract of step (01, What the contracts have to say), by its definition (01, One step)
abbrev pub StepContract : Machine → Contract
StepContract m mem j r mem' j' = outcome_of r mem' j' ≡ rules.step m mem j

-- the contract of tick (01, What the contracts have to say), by its definition (01, Links, clocks, slice)
abbrev pub TickContract : Machine → Contract
TickContract m mem j r mem' j' = outcome_of r mem' j' ≡ rules.tick m mem j

-- the contract of take (01, What the contracts have to say), by its definition (01, Links, clocks, slice)
abbrev pub TakeContract : (channel : ℕ) → Machine → Contract
TakeContract channel m mem j r mem' j' = outcome_of r mem' j' ≡ rules.take channel m mem j

-- the contract of give (01, What the contracts have to say), by its definition (01, Links, clocks, slice)
abbrev pub GiveContract : (channel byte : ℕ) → Machine → Contract
GiveContract channel byte m mem j r mem' j' = outcome_of r mem' j' ≡ rules.give channel byte m mem j

-- the contract of event (01, What the contracts have to say), by its definition (01, Links, clocks, slice)
abbrev pub EventContract : Machine → Contract
EventContract m mem j r mem' j' = outcome_of r mem' j' ≡ rules.event m mem j

-- the contract of undo (01, What the contracts have to say), by its definition (01, The journal)
abbrev pub UndoContract : Machine → Contract
UndoContract m mem j r mem' j' = outcome_of r mem' j' ≡ rules.undo m mem j

-- the contract of clear (01, What the contracts have to say), by its definition (01, The part of the T414 that we build)
abbrev pub ClearContract : Machine → Contract
ClearContract m mem j r mem' j' = outcome_of r mem' j' ≡ rules.clear m mem j

-- ---- properties of contracts, for the theorems

-- two results of a call are the same: answer (number, part and address), byte, registers, depth, used and every lent word
-- (01, What the contracts have to say; DECISIONS 58)
pub record Same (r r' : Reply) (mem mem' j j' : List ℕ) : Type 0 where
  pub answer : r.answer ≡ r'.answer
  pub byte : r.byte ≡ r'.byte
  pub registers : r.machine.regs ≡ r'.machine.regs
  pub depth : r.machine.depth ≡ r'.machine.depth
  pub used : r.machine.used ≡ r'.machine.used
  pub memory : mem ≡ mem'
  pub journal : j ≡ j'

-- only one result meets the contract: any two that meet it are the same (01, What the contracts have to say)
abbrev pub OneAnswer : Contract → Type 0
OneAnswer C = (mem j : List ℕ) (r₁ r₂ : Reply) (mem₁ mem₂ j₁ j₂ : List ℕ) → C mem j r₁ mem₁ j₁ → C mem j r₂ mem₂ j₂ → Same r₁ r₂ mem₁ mem₂ j₁ j₂

-- some result meets the contract, from this memory and journal (01, What the contracts have to say)
pub record Answered (C : Contract) (mem j : List ℕ) : Type 0 where
  pub reply : Reply
  pub memory : List ℕ
  pub journal : List ℕ
  pub meets : C mem j reply memory journal

-- some result meets the contract, from any memory and journal (01, What the contracts have to say: from any input)
abbrev pub Total : Contract → Type 0
Total C = (mem j : List ℕ) → Answered C mem j

-- the number of a reply's answer (01, Answers by number; DECISIONS 45)
abbrev pub number : Reply → ℕ
number r = (numbered r.answer).0

-- the part of a reply's answer: 1 for 10a, 2 for 10b, 3 for 10c, else 0 (02, No. 1; DECISIONS 58)
abbrev pub part : Reply → ℕ
part r = (numbered r.answer).1

-- the byte address of a reply's answer: of the access that was outside memory, else 0 (02, No. 1; DECISIONS 58)
abbrev pub address : Reply → ℕ
address r = (numbered r.answer).2

-- number, part and address of a reply's answer (01, Answers by number; 02, No. 1; DECISIONS 58)
abbrev pub refusal : Reply → ℕ × ℕ × ℕ
refusal r = numbered r.answer

-- byte 0, and machine, memory and journal as before the call (01, Answers by number)
pub record Unchanged (m : Machine) (mem j : List ℕ) (r : Reply) (mem' j' : List ℕ) : Type 0 where
  pub byte : r.byte ≡ 0
  pub registers : r.machine.regs ≡ m.regs
  pub depth : r.machine.depth ≡ m.depth
  pub used : r.machine.used ≡ m.used
  pub memory : mem' ≡ mem
  pub journal : j' ≡ j

-- a refused call changes nothing; m is the machine before it, for fresh the machine that is all 0 (01, Answers by number)
abbrev pub RefusesCleanly : Machine → Contract → Type 0
RefusesCleanly m C = (mem j : List ℕ) (r : Reply) (mem' j' : List ℕ) → C mem j r mem' j' → (number r ≡ 0 → ⊥) → Unchanged m mem j r mem' j'
