use Rattle.rules.proofs.Tests.{yes_lt, no_lt}
use Rattle.memory.specs.Places.{came_from}
use Rattle.memory.proofs.through.came_from.Goals as goal

pub returns-then-a-d : goal.returns-then-a-d
unfolding came_from
returns-then-a-d c = rw (yes_lt c.if-a-d.true)

pub returns-then-s-d : goal.returns-then-s-d
unfolding came_from
returns-then-s-d c = rw (no_lt c.if-a-d.false, yes_lt c.if-a-d-2.true, yes_lt c.if-s-d.true)

pub returns-then-a-d-2 : goal.returns-then-a-d-2
unfolding came_from
returns-then-a-d-2 c = rw (no_lt c.if-a-d.false, yes_lt c.if-a-d-2.true, no_lt c.if-s-d.false)

pub returns : goal.returns
unfolding came_from
returns c = rw (no_lt c.if-a-d.false, no_lt c.if-a-d-2.false)
