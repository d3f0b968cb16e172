use Rattle.std.proofs.Common.{refl}
use Rattle.rules.specs.Registers.{system_of}
use Rattle.plan.proofs.system_of.Goals as goal

pub returns : goal.returns
unfolding system_of
returns c = refl
