use Rattle.std.proofs.Common.{◌∙◌, sym}
use Rattle.journal_record.proofs.Within.{within-told}
use Rattle.journal.proofs.Made.{move_in, move_out}
use Rattle.journal.proofs.stores.put_move.Goals as goal

pub move_fast-requires : goal.move_fast-requires
move_fast-requires c = let t = within-told _ _ _ _ (sym c.is_within.ensures ∙ c.if-is_within.true) in t

pub returns-then-is_within : goal.returns-then-is_within
returns-then-is_within c = c.move_fast.ensures ∙ move_in _ _ _ _ (sym c.is_within.ensures ∙ c.if-is_within.true)

pub returns-else-is_within : goal.returns-else-is_within
returns-else-is_within c = move_out _ _ _ _ (sym c.is_within.ensures ∙ c.if-is_within.false)
