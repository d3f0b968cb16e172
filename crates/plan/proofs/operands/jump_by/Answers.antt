use Rattle.rules.specs.Data.{jump_by}
use Rattle.rules.specs.Work.{put}
use Rattle.plan.proofs.operands.jump_by.Goals as goal

pub returns : goal.returns
unfolding jump_by put
returns c = λ log. rw (← c.at_byte.ensures)
