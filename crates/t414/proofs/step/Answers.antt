use Rattle.std.proofs.Common.{◌+◌, ◌*◌, ◌≡◌, ◌∙◌, arith, false, refl, rules, sym}
use Rattle.rules.specs.Work.{begin}
use Rattle.rules.specs.Step as steps
use Rattle.rules.specs.Journal.{record_of}
use Rattle.rules.specs.Calls.{step}
use Rattle.journal_record.proofs.Outcomes.{number-done}
use Rattle.journal.proofs.LastRecord.{within}
use Rattle.journal.proofs.Refusing.{stopped, passed}
use Rattle.journal.proofs.CommitOrRefuse.{ready, step-known}
use Rattle.journal.proofs.Effects.{told-known, call-refused, call-done}
use Rattle.t414.proofs.Commons.{common-step-is, room-left}
use Rattle.t414.proofs.step.Goals as goal

pub returns-in-Some : goal.returns-in-Some
unfolding step
returns-in-Some c =
    let a = c.args in
    c.refuse.ensures _ _ ∙ stopped false a.m a.mem.now a.journal.now _ c.in-Some.refusal (sym c.in-Some.ensures)

pub has_room-requires : goal.has_room-requires
has_room-requires c =
    let a = c.args in
    (within a.m a.mem.now a.journal.now (sym c.in_default.ensures)).0

pub commit_common-requires : goal.commit_common-requires
commit_common-requires c =
    let a = c.args in
    ((ready false a.m a.mem.now a.journal.now (sym c.in_default.ensures)).2, room-left _ _ (sym c.has_room.ensures ∙ c.if-has_room.true))

pub returns-in-Some-common_step : goal.returns-in-Some-common_step
unfolding step
returns-in-Some-common_step c =
    let a = c.args in
    c.commit_common.ensures
    ∙ common-step-is a.m a.mem.now a.journal.now c.in-Some-common_step.t (search rules) (cc) c.in-Some-common_step.ensures
    ∙ passed false a.m a.mem.now a.journal.now (sym c.in_default.ensures) _

pub plan_and_commit-requires : goal.plan_and_commit-requires
plan_and_commit-requires c =
    let a = c.args in
    let r = ready false a.m a.mem.now a.journal.now (sym c.in_default.ensures) in
    (refl, r.0, r.1, (within a.m a.mem.now a.journal.now (sym c.in_default.ensures)).0)

pub refuse_at-requires : goal.refuse_at-requires
refuse_at-requires c =
    let a = c.args in
    let w = steps.step a.mem.now (begin a.m.regs) in
    told-known (record_of a.mem.now a.m.regs) a.m.used a.mem.now a.journal.now w.answer w.kind w.address w.stored
    _ c.in-Err.ensures.effect c.in-Err.refusal refl (step-known a.m.regs (search rules) a.mem.now)

pub returns-in-Err : goal.returns-in-Err
unfolding step
returns-in-Err c =
    let a = c.args in
    c.refuse_at.ensures _ _
    ∙ call-refused a.m a.mem.now a.journal.now 0 (steps.step a.mem.now (begin a.m.regs)) _ c.in-Err.ensures.effect c.in-Err.refusal refl
    ∙ passed false a.m a.mem.now a.journal.now (sym c.in_default.ensures) _

pub overflow_add-machine : goal.overflow_add-machine
overflow_add-machine c =
    let a = c.args in
    omega (arith, c.in-Ok.ensures.fits, ready false a.m a.mem.now a.journal.now (sym c.in_default.ensures), within a.m a.mem.now a.journal.now (sym c.in_default.ensures))

pub overflow_mul-machine : goal.overflow_mul-machine
overflow_mul-machine c =
    let a = c.args in
    omega (arith, c.in-Ok.ensures.fits, ready false a.m a.mem.now a.journal.now (sym c.in_default.ensures))

pub returns-in-Ok : goal.returns-in-Ok
unfolding step
returns-in-Ok c =
    let a = c.args in
    let n = c.in-Ok.count in
    let end : a.m.used + 2 * n + 46 ≡ a.m.used + (46 + 2 * n) = omega arith in
    rw (end, c.plan_and_commit.ensures.registers, number-done)
    (call-done a.m a.mem.now a.journal.now 0 (steps.step a.mem.now (begin a.m.regs)) _ c.in-Ok.ensures.effect n refl)
    ∙ passed false a.m a.mem.now a.journal.now (sym c.in_default.ensures) _
