use Rattle.std.proofs.Common.{arith, refl}
use Rattle.journal_record.proofs.JournalBounds.{bounds_good}
use Rattle.journal_record.proofs.Outcomes.{undo-done}
use Rattle.journal.proofs.LastRecord.{record_fits}
use Rattle.journal.proofs.undo.undo_last.Goals as goal

pub write_back-requires : goal.write_back-requires
write_back-requires c =
    let last = record_fits _ _ _ c.requires.2 in
    (omega (arith, last.0, bounds_good _ _ _ c.requires.0), last.1)

pub returns : goal.returns
returns c =
    let last = record_fits _ _ _ c.requires.2 in
    undo-done c.args.m c.args.mem.now c.args.journal.now _ refl last.0 c.get_regs.result _ last.1 c.get_regs.ensures c.write_back.ensures

pub overflow_sub-start : goal.overflow_sub-start
overflow_sub-start c = (record_fits _ _ _ c.requires.2).0
