use Rattle.journal_small.proofs.CommonStep.{kept-nothing}
use Rattle.journal_small.proofs.store.Goals as goal

pub returns-in-Nothing : goal.returns-in-Nothing
returns-in-Nothing c = rw c.in-Nothing.is (kept-nothing _ _ _)
