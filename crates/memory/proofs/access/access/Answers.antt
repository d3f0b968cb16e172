use Rattle.std.proofs.Common.{rules}
use Rattle.rules.proofs.Tests.{yes_lt, no_lt}
use Rattle.rules.specs.Work.{access}
use Rattle.memory.proofs.access.access.Goals as goal

pub returns-then-index_of-mem : goal.returns-then-index_of-mem
unfolding access
returns-then-index_of-mem c = (λ regs. rw (← c.index_of.ensures, yes_lt c.if-index_of-mem.true), search rules)

pub returns : goal.returns
unfolding access
returns c = (λ regs. rw (← c.index_of.ensures, no_lt c.if-index_of-mem.false) (c.refuse_at.ensures.0 regs), search rules)
