use Rattle.std.proofs.Common.{rules}
use Rattle.rules.specs.Work.{put, r_index_word}
use Rattle.memory.proofs.store.r_index_word.Goals as goal

pub returns : goal.returns
unfolding r_index_word put
returns c = (rw (← c.at_word.ensures, ← c.load_word-v.ensures.0, ← c.load_word-v.ensures.1), search rules)
