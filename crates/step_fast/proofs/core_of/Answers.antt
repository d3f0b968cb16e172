use Rattle.rules.specs.Registers.{core_of}
use borrow.Author.Rules.{rules}
use Rattle.step_fast.proofs.core_of.Goals as goal

pub returns : goal.returns
unfolding core_of
returns c = search rules
