use Rattle.std.proofs.lemmas.Bool.{lt-ltb}
use Rattle.rules.specs.Journal.{bounds_bad}
use Rattle.journal_record.proofs.JournalBounds.{bounds_deep}
use Rattle.journal_record.proofs.bounds.bounds_bad.Goals as goal

pub returns-then-size-used : goal.returns-then-size-used
unfolding bounds_bad
returns-then-size-used c = rw (lt-ltb _ _ c.if-size-used.true)

pub returns-else-size-used : goal.returns-else-size-used
returns-else-size-used c = bounds_deep _ _ _ c.if-size-used.false
