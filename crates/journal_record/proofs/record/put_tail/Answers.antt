use borrow.Author.Rules.{rules}
use mathlib.Core.Path.{◌≡◌}
use lib.ListN.{length, length-set}
use Rattle.rules.specs.Registers.{registers}
use Rattle.journal_record.proofs.Written.{tail_written}
use Rattle.journal_record.proofs.record.put_tail.Goals as goal

pub shape_of-journal : goal.shape_of-journal
shape_of-journal c = simp length-set c.put_regs.auto.journal

pub returns : goal.returns
returns c =
    let a = c.args in
    let long : length a.regs ≡ registers = search rules in
    rw c.put_regs.ensures (tail_written a.journal.now a.regs a.at a.n long)
