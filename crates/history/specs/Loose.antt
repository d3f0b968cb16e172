-- Contracts without one part: without the memory, without the journal, and so on. Each such contract has two results, so no part of a
-- contract follows from the others (01, What the contracts have to say).
use Rattle.std.specs.Prelude.{◌≡◌, List, ℕ, length}
use Rattle.rules.specs.Calls.{numbered, machine_of}
use Rattle.rules.specs.declared.Answer.{Answer}
use Rattle.history.specs.CallContracts.{Contract, Same, number, part, address}
use Rattle.history.specs.Functions.{Result}

-- the contract without the memory after the call: some memory in its place meets the contract (01, What the contracts have to say)
abbrev pub WithoutMemory : Contract → Contract
WithoutMemory C mem j r mem' j' = (x : List ℕ) × C mem j r x j'

-- without the journal after the call (01, What the contracts have to say)
abbrev pub WithoutJournal : Contract → Contract
WithoutJournal C mem j r mem' j' = (x : List ℕ) × C mem j r mem' x

-- without the registers (01, What the contracts have to say)
abbrev pub WithoutRegisters : Contract → Contract
WithoutRegisters C mem j r mem' j' =
    (x : List ℕ) × C mem j (record { machine = machine_of x r.machine.depth r.machine.used; answer = r.answer; byte = r.byte }) mem' j'

-- without depth (01, What the contracts have to say)
abbrev pub WithoutDepth : Contract → Contract
WithoutDepth C mem j r mem' j' =
    (x : ℕ) × C mem j (record { machine = machine_of r.machine.regs x r.machine.used; answer = r.answer; byte = r.byte }) mem' j'

-- without used (01, What the contracts have to say)
abbrev pub WithoutUsed : Contract → Contract
WithoutUsed C mem j r mem' j' =
    (x : ℕ) × C mem j (record { machine = machine_of r.machine.regs r.machine.depth x; answer = r.answer; byte = r.byte }) mem' j'

-- without the byte (01, What the contracts have to say)
abbrev pub WithoutByte : Contract → Contract
WithoutByte C mem j r mem' j' = (x : ℕ) × C mem j (record { machine = r.machine; answer = r.answer; byte = x }) mem' j'

-- without the answer (01, What the contracts have to say)
abbrev pub WithoutAnswer : Contract → Contract
WithoutAnswer C mem j r mem' j' = (x : Answer) × C mem j (record { machine = r.machine; answer = x; byte = r.byte }) mem' j'

-- without the part of the answer: some answer with the same number and address in its place (02, No. 1; 01, What the contracts have to say)
abbrev pub WithoutPart : Contract → Contract
WithoutPart C mem j r mem' j' =
    (x : Answer) × ((numbered x).0 ≡ number r) × ((numbered x).2 ≡ address r) × C mem j (record { machine = r.machine; answer = x; byte = r.byte }) mem' j'

-- without the address of the answer: some answer with the same number and part in its place (02, No. 1; 01, What the contracts have to say)
abbrev pub WithoutAddress : Contract → Contract
WithoutAddress C mem j r mem' j' =
    (x : Answer) × ((numbered x).0 ≡ number r) × ((numbered x).1 ≡ part r) × C mem j (record { machine = r.machine; answer = x; byte = r.byte }) mem' j'

-- two different results meet the contract; their lengths agree, so a function could return either (01, What the contracts have to say)
pub record TwoResults (C : Contract) (mem j : List ℕ) : Type 0 where
  pub one : Result
  pub other : Result
  pub one-meets : C mem j one.reply one.memory one.journal
  pub other-meets : C mem j other.reply other.memory other.journal
  pub lengths : (length one.reply.machine.regs ≡ length other.reply.machine.regs) × (length one.memory ≡ length other.memory) × (length one.journal ≡ length other.journal)
  pub differ : Same one.reply other.reply one.memory other.memory one.journal other.journal → ⊥

-- every part of the contract is needed: without it there are two results (01, What the contracts have to say)
pub record AllNeeded (C : Contract) (mem j : List ℕ) : Type 0 where
  pub memory : TwoResults (WithoutMemory C) mem j
  pub journal : TwoResults (WithoutJournal C) mem j
  pub registers : TwoResults (WithoutRegisters C) mem j
  pub depth : TwoResults (WithoutDepth C) mem j
  pub used : TwoResults (WithoutUsed C) mem j
  pub byte : TwoResults (WithoutByte C) mem j
  pub answer : TwoResults (WithoutAnswer C) mem j

-- part and address of the answer 10 are needed too; no other answer has them (02, No. 1; DECISIONS 58)
pub record AccessNeeded (C : Contract) (mem j : List ℕ) : Type 0 where
  pub part : TwoResults (WithoutPart C) mem j
  pub address : TwoResults (WithoutAddress C) mem j
