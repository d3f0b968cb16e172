use Rattle.assembly.proofs.Demands.{list-within}
use Rattle.t414_list.proofs.gathered.list.Goals as goal

pub returns : goal.returns
returns c = (list-within _ _ _ _ c.list.ensures).0
