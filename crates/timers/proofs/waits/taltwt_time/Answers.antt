use borrow.Author.Rules.{rules}
use Rattle.rules.specs.Timers.{taltwt_time}
use Rattle.timers.proofs.waits.taltwt_time.Goals as goal

pub returns-then-later : goal.returns-then-later
unfolding taltwt_time
returns-then-later c = (
  rw (
    ← c.clock.ensures c.args.plan.now.log,
    ← c.later.ensures,
    c.if-later.true,
    ← c.w_index_word.ensures.0,
  ) c.time_now.ensures.0,
  search rules,
)

pub returns-else-later : goal.returns-else-later
unfolding taltwt_time
returns-else-later c = (
  rw (
    ← c.clock.ensures c.args.plan.now.log,
    ← c.later.ensures,
    c.if-later.false,
    ← c.next_time.ensures,
  ) c.insert_first_step.ensures.0,
  search rules,
)
