use borrow.Author.Rules.{rules}
use Rattle.rules.specs.Tests.{if_eq}
use Rattle.rules.specs.Step as steps
use Rattle.step_engine.proofs.choose.Goals as goal

pub returns-then-between_instructions : goal.returns-then-between_instructions
unfolding steps.choose if_eq
returns-then-between_instructions c =
    (rw (← c.between_instructions.ensures, c.if-between_instructions.true) c.channels_first.ensures.0, search rules)

pub returns-else-between_instructions : goal.returns-else-between_instructions
unfolding steps.choose if_eq
returns-else-between_instructions c =
    (rw (← c.between_instructions.ensures, c.if-between_instructions.false) c.instruction_unless_idle.ensures.0, search rules)
