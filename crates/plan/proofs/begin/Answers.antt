use Rattle.std.proofs.Common.{refl, rules}
use Rattle.plan.specs.View.{stores_of, logged}
use Rattle.plan.proofs.begin.Goals as goal

pub returns : goal.returns
unfolding stores_of logged
returns c = (λ regs. refl, (search rules, search rules), refl)
