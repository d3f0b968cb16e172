use Rattle.std.proofs.Common.{rules}
use Rattle.rules.specs.Work.{store_byte}
use Rattle.memory.proofs.store.store_byte.Goals as goal

pub returns : goal.returns
unfolding store_byte
returns c = (
  λ regs. rw (
    ← c.selector.ensures.0,
    ← c.word_at.ensures,
    ← c.with_byte-v.ensures,
    ← c.access.ensures.0,
    ← c.index_of.ensures,
  ) (c.append_word.ensures.0 regs),
  search rules,
)
