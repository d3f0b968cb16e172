use native.Mathlib.Omega.{arith}
use mathlib.Core.Path.{refl, ◌∙◌}
use mathlib.Core.List.{[]}
use Rattle.journal_record.proofs.JournalBounds.{bounds_good}
use Rattle.journal_record.proofs.Outcomes.{commit-done}
use Rattle.journal_small.proofs.CommonStep.{none_written, regs_outcome}
use Rattle.journal_small.proofs.commit_regs.Goals as goal

pub overflow_add-machine : goal.overflow_add-machine
overflow_add-machine c = omega (arith, bounds_good _ _ _ c.requires.0)

pub returns : goal.returns
returns c =
    let a = c.args in
    commit-done a.m a.mem.now a.journal.now 0 a.regs [] a.mem.now 0 _ _ refl c.requires.1 refl
    (c.put_tail.ensures ∙ none_written a.journal.now a.mem.now a.m.regs a.m.used)
    ∙ regs_outcome a.m a.mem.now a.journal.now a.regs
