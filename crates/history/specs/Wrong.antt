-- 01's wrong functions, as properties of a function: it refuses always, has one fixed answer, leaves the machine as it was, undoes nothing, runs
-- the first step properly and then only moves Iptr, invents depth or used (01, What the contracts have to say).
use Rattle.std.specs.Prelude.{◌≡◌, ℕ, get_or}
use Rattle.rules.specs.Registers.{iptr_reg}
use Rattle.rules.specs.Calls as rules
use Rattle.rules.specs.declared.Machine.{Machine}
use Rattle.history.specs.CallContracts.{Contract, StepContract, number}
use Rattle.history.specs.T414.{step}
use Rattle.history.specs.Counted.{one_more}
use Rattle.history.specs.Functions.{Function, EveryCall, Meets}

-- refusing always (01, What the contracts have to say)
abbrev pub RefusesAlways : Function → Type 0
RefusesAlways = EveryCall (λ m mem j r. number r.reply ≡ 0 → ⊥)

-- one fixed answer, the number n (01, What the contracts have to say)
abbrev pub AnswersOnly : ℕ → Function → Type 0
AnswersOnly n = EveryCall (λ m mem j r. number r.reply ≡ n)

-- leaving the machine as it was: the registers. Of undo: doing nothing (01, What the contracts have to say)
abbrev pub LeavesRegisters : Function → Type 0
LeavesRegisters = EveryCall (λ m mem j r. r.reply.machine.regs ≡ m.regs)

-- leaving the machine as it was: the depth, which clear makes 0 (01, What the contracts have to say)
abbrev pub LeavesDepth : Function → Type 0
LeavesDepth = EveryCall (λ m mem j r. r.reply.machine.depth ≡ m.depth)

-- leaving the machine as it was: of fresh, the memory (01, What the contracts have to say)
abbrev pub LeavesMemory : Function → Type 0
LeavesMemory = EveryCall (λ m mem j r. r.memory ≡ mem)

-- only moving Iptr: where a record stands already, no other register changes (01, What the contracts have to say)
abbrev pub ThenMovesIptr : Function → Type 0
ThenMovesIptr =
    EveryCall
    (λ m mem j r. (m.depth ≡ 0 → ⊥) → (k : ℕ) → (k ≡ iptr_reg → ⊥) → get_or r.reply.machine.regs k 0 ≡ get_or m.regs k 0)

-- running the first step properly: it meets the contract where no record stands (01, What the contracts have to say)
abbrev pub FirstProperly : Function → Type 0
FirstProperly = EveryCall (λ m mem j r. m.depth ≡ 0 → StepContract m mem j r.reply r.memory r.journal)

-- moving on: where the rules accept a step, the function accepts it, or moves Iptr though it refuses. A function that refuses from then on and
-- moves nothing is ruled out by demand 2 alone: its state is the one that the standing calls give (01, What the contracts have to say)
abbrev pub MovesOn : Function → Type 0
MovesOn =
    EveryCall
    (λ m mem j r.
    (rules.step m mem j).answer ≡ 0 → (number r.reply ≡ 0 → ⊥)
    → get_or r.reply.machine.regs iptr_reg 0 ≡ get_or m.regs iptr_reg 0 → ⊥)

-- inventing depth or used: an accepted step leaves other counts than those of one record more (01, What the contracts have to say)
abbrev pub InventsCounts : Function → Type 0
InventsCounts =
    EveryCall
    (λ m mem j r.
    number r.reply ≡ 0
    → (r.reply.machine.depth ≡ (one_more step m mem j).0) × (r.reply.machine.used ≡ (one_more step m mem j).1) → ⊥)

-- accepting every step that the rules accept, with any result (01, What the contracts have to say)
abbrev pub Accepts : Function → Type 0
Accepts = EveryCall (λ m mem j r. (rules.step m mem j).answer ≡ 0 → number r.reply ≡ 0)

-- neither a function that refuses always nor one with one fixed answer meets the contract (01, What the contracts have to say)
pub record TwoAnswers (C : Machine → Contract) : Type 0 where
  pub not_refusing : (f : Function) → RefusesAlways f → Meets C f → ⊥
  pub not_fixed : (f : Function) (n : ℕ) → AnswersOnly n f → Meets C f → ⊥
