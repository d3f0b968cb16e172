use Rattle.std.proofs.Common.{refl}
use Rattle.rules.specs.Work.{put, raise}
use Rattle.plan.proofs.raise.Goals as goal

pub returns : goal.returns
unfolding raise put
returns c = λ log. refl
