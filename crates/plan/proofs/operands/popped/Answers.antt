use Rattle.std.proofs.Common.{refl}
use Rattle.rules.specs.Data.{popped}
use Rattle.rules.specs.Work.{put}
use Rattle.plan.proofs.operands.popped.Goals as goal

pub returns : goal.returns
unfolding popped put
returns c = λ log. refl
