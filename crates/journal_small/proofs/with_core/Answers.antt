use borrow.Author.Rules.{rules}
use Rattle.rules.specs.Registers.{with_core}
use Rattle.journal_small.proofs.with_core.Goals as goal

pub returns : goal.returns
unfolding with_core
returns c = search rules
