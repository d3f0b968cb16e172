use Rattle.std.proofs.Common.{refl}
use Rattle.rules.specs.Data.{pushed}
use Rattle.rules.specs.Work.{put}
use Rattle.plan.proofs.operands.pushed.Goals as goal

pub returns : goal.returns
unfolding pushed put
returns c = λ log. refl
