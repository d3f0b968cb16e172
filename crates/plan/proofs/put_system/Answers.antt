use Rattle.std.proofs.Common.{refl}
use Rattle.rules.specs.Work.{put_system}
use Rattle.rules.specs.Registers.{with_system}
use Rattle.plan.proofs.put_system.Goals as goal

pub returns : goal.returns
unfolding put_system with_system
returns c = λ log. refl
