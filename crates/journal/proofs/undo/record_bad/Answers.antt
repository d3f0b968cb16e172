use Rattle.std.proofs.Common.{◌∙◌, refl}
use Rattle.journal.proofs.LastRecord.{bad_long, bad-strays}
use Rattle.journal.proofs.undo.record_bad.Goals as goal

pub returns-then-used-size : goal.returns-then-used-size
returns-then-used-size c = bad_long _ _ _ _ refl c.if-used-size.true

pub returns-else-used-size : goal.returns-else-used-size
returns-else-used-size c = c.strays.ensures ∙ bad-strays _ _ _ _ refl c.if-used-size.false
