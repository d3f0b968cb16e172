use Rattle.std.proofs.Common.{rules}
use Rattle.rules.specs.Work.{w_index_word}
use Rattle.memory.proofs.store.w_index_word.Goals as goal

pub returns : goal.returns
unfolding w_index_word
returns c = (λ regs. rw (← c.at_word.ensures) (c.store_word.ensures.0 regs), search rules)
