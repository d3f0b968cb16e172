-- Properties of the outcome of a call, for the laws.
use Rattle.std.specs.Prelude.{◌≡◌, List, ℕ, length}
use Rattle.rules.specs.Registers.{registers}
use Rattle.rules.specs.Calls.{Outcome, refused_at}
use Rattle.rules.specs.declared.Machine.{Machine}
use Rattle.laws.specs.Answers.{Known}

-- the registers are still 45, memory and journal are as long as before, and number, part and address are those of an answer
-- (01, Memory and registers; 01, Answers by number)
pub record Kept (mem j : List ℕ) (o : Outcome) : Type 0 where
  pub count : length o.machine.regs ≡ registers
  pub memory : length o.memory ≡ length mem
  pub journal : length o.journal ≡ length j
  pub known : Known o.answer o.part o.address

-- where the call is refused: byte 0, and machine, memory and journal as before (01, Answers by number)
pub record Refusing (m : Machine) (mem j : List ℕ) (o : Outcome) : Type 0 where
  pub same : (o.answer ≡ 0 → ⊥) → o ≡ refused_at o.answer o.part o.address m mem j

-- no journal word is written: by undo (01, The journal), by fresh (01, Memory and registers), by clear
-- (01, The part of the T414 that we build)
pub record Unwritten (j : List ℕ) (o : Outcome) : Type 0 where
  pub journal : o.journal ≡ j
