use Rattle.rules.specs.Data.{move_done}
use Rattle.rules.specs.Work.{put}
use Rattle.plan.proofs.operands.move_done.Goals as goal

pub returns : goal.returns
unfolding move_done put
returns c = λ log. rw (
  ← c.at_byte-destination.ensures,
  ← c.at_byte-source.ensures,
)
