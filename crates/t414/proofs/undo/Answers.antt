use Rattle.std.proofs.Common.{◌∙◌, ◌≡◌, arith, false, sym}
use Rattle.rules.specs.Calls.{undo, numbered}
use Rattle.journal.proofs.Refusing.{stopped, bounds_good}
use Rattle.journal.proofs.CommitOrRefuse.{undo-none, undo-some}
use Rattle.journal.proofs.LastRecord.{within, undo_bad_lem}
use Rattle.t414.proofs.undo.Goals as goal

pub returns-in-Some : goal.returns-in-Some
unfolding undo
returns-in-Some c =
    let a = c.args in
    c.refuse.ensures _ _ ∙ stopped false a.m a.mem.now a.journal.now _ c.in-Some.refusal (sym c.in-Some.ensures)

pub returns-then-m-eq0 : goal.returns-then-m-eq0
unfolding numbered
returns-then-m-eq0 c =
    let a = c.args in
    c.refuse-then-m-eq0.ensures _ _ ∙ undo-none a.m a.mem.now a.journal.now (sym c.in_default.ensures) c.if-m-eq0.true

pub record_bad-requires : goal.record_bad-requires
record_bad-requires c =
    let a = c.args in
    let z : a.m.depth ≡ 0 → ⊥ = c.if-m-eq0.false in
    let b = within a.m a.mem.now a.journal.now (sym c.in_default.ensures) in
    (omega (arith, z, b), b.0)

pub returns-then-record_bad : goal.returns-then-record_bad
unfolding numbered
returns-then-record_bad c =
    let a = c.args in
    c.refuse-then-record_bad.ensures _ _
    ∙ undo_bad_lem a.m a.mem.now a.journal.now (sym c.record_bad.ensures ∙ c.if-record_bad.true)
    ∙ undo-some a.m a.mem.now a.journal.now (sym c.in_default.ensures) c.if-m-eq0.false

pub undo_last-requires : goal.undo_last-requires
undo_last-requires c =
    let a = c.args in
    let z : a.m.depth ≡ 0 → ⊥ = c.if-m-eq0.false in
    (bounds_good false a.m a.mem.now a.journal.now (sym c.in_default.ensures), omega (arith, z), sym c.record_bad.ensures ∙ c.if-record_bad.false)

pub returns : goal.returns
returns c =
    let a = c.args in
    c.undo_last.ensures ∙ undo-some a.m a.mem.now a.journal.now (sym c.in_default.ensures) c.if-m-eq0.false
