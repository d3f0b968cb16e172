use native.Mathlib.Omega.{arith}
use mathlib.Core.Path.{◌∙◌}
use lib.ListN.{length}
use Rattle.rules.specs.Registers.{with_core}
use Rattle.rules.specs.Memory.{touched, stores}
use Rattle.step_fast.specs.Fast.{stores_of}
use Rattle.journal_record.proofs.JournalBounds.{bounds_good}
use Rattle.journal_record.proofs.Outcomes.{commit-done}
use Rattle.journal_record.proofs.Written.{record_written}
use Rattle.journal_small.proofs.CommonStep.{common_outcome}
use Rattle.journal_small.proofs.commit_common.Goals as goal

pub overflow_add-machine : goal.overflow_add-machine
overflow_add-machine c = omega (arith, bounds_good _ _ _ c.requires.0)

pub returns : goal.returns
returns c =
    let a = c.args in
    let n = c.store-n.result in
    let e = c.store-n.ensures in
    let made = stores_of a.m.regs a.t in
    let ks = touched (length a.mem.now) made in
    rw c.with_core-regs.ensures
    (commit-done a.m a.mem.now a.journal.now 0 (with_core a.t.core a.m.regs) ks (stores a.mem.now made) n _ _ e.number (omega (arith, e.few, c.requires.1)) e.values
    (c.put_tail.ensures ∙ rw e.pairs (record_written a.journal.now a.mem.now a.m.regs ks a.m.used n e.number))
    ∙ common_outcome a.m a.mem.now a.journal.now a.t)
