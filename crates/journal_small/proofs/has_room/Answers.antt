use Rattle.journal_small.proofs.has_room.Goals as goal

pub returns : goal.returns
returns c = rw c.is_full.ensures
