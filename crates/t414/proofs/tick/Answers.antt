use Rattle.std.proofs.Common.{◌∙◌, false, sym}
use Rattle.std.proofs.lemmas.Bool.{ltb-true, ltb-false}
use Rattle.rules.specs.Calls.{tick, numbered}
use Rattle.journal.proofs.Refusing.{stopped, passed, bounds_good}
use Rattle.journal.proofs.LastRecord.{within}
use Rattle.t414.proofs.Commons.{tick-full}
use Rattle.t414.proofs.tick.Goals as goal

pub returns-in-Some : goal.returns-in-Some
unfolding tick
returns-in-Some c =
    let a = c.args in
    c.refuse.ensures _ _ ∙ stopped false a.m a.mem.now a.journal.now _ c.in-Some.refusal (sym c.in-Some.ensures)

pub is_full_for_registers-requires : goal.is_full_for_registers-requires
is_full_for_registers-requires c =
    let a = c.args in
    (within a.m a.mem.now a.journal.now (sym c.in_default.ensures)).0

pub returns-then-is_full_for_registers : goal.returns-then-is_full_for_registers
unfolding tick numbered
returns-then-is_full_for_registers c =
    let a = c.args in
    c.refuse-then-is_full_for_registers.ensures _ _
    ∙ tick-full a.m a.mem.now a.journal.now (ltb-true _ _ (sym c.is_full_for_registers.ensures ∙ c.if-is_full_for_registers.true))
    ∙ passed false a.m a.mem.now a.journal.now (sym c.in_default.ensures) _

pub commit_regs-requires : goal.commit_regs-requires
commit_regs-requires c =
    let a = c.args in
    (bounds_good false a.m a.mem.now a.journal.now (sym c.in_default.ensures), ltb-false _ _ (sym c.is_full_for_registers.ensures ∙ c.if-is_full_for_registers.false))

pub returns : goal.returns
unfolding tick
returns c =
    let a = c.args in
    (rw c.tick-ticked.ensures at c.commit_regs.ensures) ∙ passed false a.m a.mem.now a.journal.now (sym c.in_default.ensures) _
