use Rattle.std.proofs.Common.{refl}
use Rattle.rules.specs.Registers.{core_of}
use Rattle.plan.proofs.core_of.Goals as goal

pub returns : goal.returns
unfolding core_of
returns c = refl
