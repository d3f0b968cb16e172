use Rattle.std.proofs.Common.{rules}
use Rattle.rules.specs.Work.{store_word}
use Rattle.memory.proofs.store.store_word.Goals as goal

pub returns : goal.returns
unfolding store_word
returns c = (λ regs. rw (← c.access.ensures.0, ← c.index_of.ensures) (c.append_word.ensures.0 regs), search rules)
