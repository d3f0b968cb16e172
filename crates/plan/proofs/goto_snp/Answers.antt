use Rattle.rules.specs.Work.{goto_snp}
use Rattle.plan.proofs.goto_snp.Goals as goal

pub returns : goal.returns
unfolding goto_snp
returns c = c.raise.ensures
