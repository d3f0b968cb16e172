use mathlib.Core.Path.{refl}
use Rattle.rules.specs.Journal.{olds}
use Rattle.journal_small.proofs.CommonStep.{pairs-more}
use Rattle.journal_small.proofs.put_pairs.Goals as goal

pub loop-k-init : goal.loop-k-init
unfolding olds
loop-k-init c = refl

pub loop-k-preserved : goal.loop-k-preserved
loop-k-preserved c = pairs-more _ _ _ _ _ _ _ c.loop-k.invariant c.put_pair.ensures
