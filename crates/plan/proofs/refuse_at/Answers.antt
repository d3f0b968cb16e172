use Rattle.std.proofs.Common.{rules}
use Rattle.rules.proofs.Tests.{yes_eq, no_eq}
use Rattle.rules.specs.Work.{refuse_at}
use Rattle.plan.specs.View.{stores_of}
use Rattle.plan.proofs.refuse_at.Goals as goal

pub returns-then-log-eq0 : goal.returns-then-log-eq0
unfolding refuse_at stores_of
returns-then-log-eq0 c = (λ regs. rw (yes_eq c.if-log-eq0.true), search rules)

pub returns-else-log-eq0 : goal.returns-else-log-eq0
unfolding refuse_at
returns-else-log-eq0 c = (λ regs. rw (no_eq c.if-log-eq0.false), search rules)
