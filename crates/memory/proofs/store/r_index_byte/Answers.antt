use Rattle.std.proofs.Common.{rules}
use Rattle.rules.specs.Work.{put, r_index_byte}
use Rattle.memory.proofs.store.r_index_byte.Goals as goal

pub returns : goal.returns
unfolding r_index_byte put
returns c = (rw (← c.load_byte-v.ensures.0, ← c.load_byte-v.ensures.1), search rules)
