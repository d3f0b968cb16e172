use mathlib.Core.Path.{sym, ◌∙◌}
use Rattle.rules.specs.Calls.{numbered}
use Rattle.journal.proofs.CommitOrRefuse.{clear-refused, clear-done}
use Rattle.t414.proofs.clear.Goals as goal

pub returns-then-size_bad : goal.returns-then-size_bad
unfolding numbered
returns-then-size_bad c =
    let a = c.args in
    c.refuse.ensures a.mem.now a.journal.now ∙ clear-refused a.m a.mem.now a.journal.now (sym c.size_bad.ensures ∙ c.if-size_bad.true)

pub returns : goal.returns
unfolding numbered
returns c =
    let a = c.args in
    clear-done a.m a.mem.now a.journal.now (sym c.size_bad.ensures ∙ c.if-size_bad.false)
