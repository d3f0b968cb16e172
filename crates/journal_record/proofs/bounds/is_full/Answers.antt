use Rattle.journal_record.proofs.JournalBounds.{full}
use Rattle.journal_record.proofs.bounds.is_full.Goals as goal

pub returns : goal.returns
returns c = full c.args.size c.args.used c.args.n c.requires.0
