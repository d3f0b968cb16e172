use Rattle.journal_small.proofs.CommonStep.{kept-one, kept-past}
use Rattle.journal_small.proofs.store_word.Goals as goal

pub returns-then-i-mem : goal.returns-then-i-mem
returns-then-i-mem c = kept-one _ _ _ _ _ _ c.if-i-mem.true c.put_pair.ensures

pub returns : goal.returns
returns c = kept-past _ _ _ _ _ c.if-i-mem.false
