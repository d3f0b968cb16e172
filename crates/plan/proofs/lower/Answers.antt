use Rattle.std.proofs.Common.{refl}
use Rattle.rules.specs.Work.{put, lower}
use Rattle.plan.proofs.lower.Goals as goal

pub returns : goal.returns
unfolding lower put
returns c = λ log. refl
