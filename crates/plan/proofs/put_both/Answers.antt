use Rattle.rules.specs.Work.{put_both}
use Rattle.plan.proofs.put_both.Goals as goal

pub returns : goal.returns
unfolding put_both
returns c = λ log. rw (← c.put_core.ensures) (c.put_system.ensures _)
