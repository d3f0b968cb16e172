use Rattle.std.proofs.Common.{refl}
use Rattle.rules.specs.Work.{put_core}
use Rattle.rules.specs.Registers.{with_core}
use Rattle.plan.proofs.put_core.Goals as goal

pub returns : goal.returns
unfolding put_core with_core
returns c = λ log. refl
