use borrow.Author.Rules.{rules}
use Rattle.rules.specs.Timers.{tin}
use Rattle.timers.proofs.waits.tin.Goals as goal

pub returns-then-not-later : goal.returns-then-not-later
unfolding tin
returns-then-not-later c = (
  rw (
    ← c.clock.ensures c.args.plan.now.log,
    ← c.later.ensures,
    c.if-not-later.true,
    ← c.next_time.ensures,
  ) c.insert_first_step.ensures.0,
  search rules,
)

pub returns-else-not-later : goal.returns-else-not-later
unfolding tin
returns-else-not-later c = (rw (← c.clock.ensures c.args.plan.now.log, ← c.later.ensures, c.if-not-later.false), search rules)
