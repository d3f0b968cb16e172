use Rattle.std.proofs.Common.{rules}
use Rattle.rules.specs.Work.{attempted}
use Rattle.plan.proofs.attempted.Goals as goal

pub returns-in-None : goal.returns-in-None
unfolding attempted
returns-in-None c = (rw c.in-None.is (c.refuse.ensures.0 _), search rules)

pub returns-in-Some : goal.returns-in-Some
unfolding attempted
returns-in-Some c = (rw c.in-Some.is (c.put_core.ensures _), search rules)
