use Rattle.std.proofs.Common.{◌+◌, ◌*◌, ◌≡◌, ◌∙◌, arith, refl}
use Rattle.rules.specs.Journal.{olds}
use Rattle.plan.specs.View.{work_of, answer_of, kind_of, address_of, stores_of}
use Rattle.journal_record.proofs.Outcomes.{number-done}
use Rattle.journal.proofs.Effects.{told-known, ended-refused, ended-done, call-refused, call-done}
use Rattle.journal.proofs.outcome.commit_or_refuse.Goals as goal

pub refuse_at-requires : goal.refuse_at-requires
refuse_at-requires c =
    let a = c.args in
    told-known (olds a.mem.now) a.m.used a.mem.now a.journal.now (answer_of a.plan.now.log) (kind_of a.plan.now.log) (address_of a.plan.now.log) (stores_of a.plan.now.log)
    _ c.in-Err.ensures.effect c.in-Err.refusal refl c.requires.0

pub returns-in-Err : goal.returns-in-Err
returns-in-Err c =
    let a = c.args in
    let r = c.in-Err.refusal in
    c.refuse_at.ensures _ _
    ∙ call-refused a.m a.mem.now a.journal.now a.byte (work_of a.plan.now) _
    (ended-refused a.m.regs a.m.used a.mem.now a.journal.now (answer_of a.plan.now.log) (kind_of a.plan.now.log) (address_of a.plan.now.log) (stores_of a.plan.now.log) _ c.in-Err.ensures.effect r refl) r refl

pub returns-in-Ok : goal.returns-in-Ok
returns-in-Ok c =
    let a = c.args in
    let n = c.in-Ok.count in
    let end : a.m.used + 2 * n + 46 ≡ a.m.used + (46 + 2 * n) = omega arith in
    rw (c.put_tail.ensures, number-done, end)
    (call-done a.m a.mem.now a.journal.now a.byte (work_of a.plan.now) _
    (ended-done a.m.regs a.m.used a.mem.now a.journal.now (answer_of a.plan.now.log) (kind_of a.plan.now.log) (address_of a.plan.now.log) (stores_of a.plan.now.log) _ c.in-Ok.ensures.effect n refl) n refl)
