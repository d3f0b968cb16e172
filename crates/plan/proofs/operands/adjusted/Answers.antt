use Rattle.rules.specs.Data.{adjusted}
use Rattle.rules.specs.Work.{put}
use Rattle.plan.proofs.operands.adjusted.Goals as goal

pub returns : goal.returns
unfolding adjusted put
returns c = λ log. rw (← c.at_word-wptr.ensures)
