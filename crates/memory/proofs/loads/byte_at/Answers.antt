use Rattle.rules.specs.Work.{byte_at}
use Rattle.memory.proofs.loads.byte_at.Goals as goal

pub returns : goal.returns
unfolding byte_at
returns c = (λ rs. rw (← c.selector.ensures.0, ← c.word_at.ensures rs) c.byte_of.ensures.0, c.byte_of.ensures.1)
