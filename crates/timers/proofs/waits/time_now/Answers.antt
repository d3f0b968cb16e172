use borrow.Author.Rules.{rules}
use Rattle.rules.specs.Timers.{time_now}
use Rattle.timers.proofs.waits.time_now.Goals as goal

pub returns : goal.returns
unfolding time_now
returns c = (rw (← c.clock.ensures c.args.plan.now.log) (c.w_index_word.ensures.0 _), search rules, search rules)
