use native.Mathlib.Omega.{arith}
use mathlib.Core.Path.{sym, ◌∙◌}
use lib.ListN.{length}
use Rattle.rules.specs.Calls.{numbered}
use Rattle.journal.proofs.Refusing.{size_good}
use Rattle.loading.proofs.Loading.{code_good, fresh-size, fresh-code, fresh-done}
use Rattle.t414.proofs.fresh.Goals as goal

pub returns-then-size_bad : goal.returns-then-size_bad
unfolding numbered
returns-then-size_bad c =
    let a = c.args in
    (rw c.no_machine.ensures at (c.refuse.ensures a.mem.now a.journal.now)) ∙ fresh-size a.code.now a.mem.now a.journal.now (sym c.size_bad.ensures ∙ c.if-size_bad.true)

pub code_bad-requires : goal.code_bad-requires
code_bad-requires c =
    let g = size_good _ _ (sym c.size_bad.ensures ∙ c.if-size_bad.false) in
    (g.0, g.1)

pub returns-then-code_bad : goal.returns-then-code_bad
unfolding numbered
returns-then-code_bad c =
    let a = c.args in
    (rw c.no_machine-then-code_bad.ensures at (c.refuse-then-code_bad.ensures a.mem.now a.journal.now)) ∙ fresh-code a.code.now a.mem.now a.journal.now (sym c.size_bad.ensures ∙ c.if-size_bad.false) (sym c.code_bad.ensures ∙ c.if-code_bad.true)

pub fill-requires : goal.fill-requires
fill-requires c = (size_good _ _ (sym c.size_bad.ensures ∙ c.if-size_bad.false)).1

pub fresh_machine-requires : goal.fresh_machine-requires
fresh_machine-requires c =
    let a = c.args in
    let g = code_good (length a.mem.now) (length a.code.now) (sym c.code_bad.ensures ∙ c.if-code_bad.false) in
    let s = size_good (length a.mem.now) (length a.journal.now) (sym c.size_bad.ensures ∙ c.if-size_bad.false) in
    omega (arith, g, s)

pub returns : goal.returns
unfolding numbered
returns c =
    let a = c.args in
    rw (c.fresh_machine.ensures, c.fill.ensures) (fresh-done a.code.now a.mem.now a.journal.now (sym c.size_bad.ensures ∙ c.if-size_bad.false) (sym c.code_bad.ensures ∙ c.if-code_bad.false))
