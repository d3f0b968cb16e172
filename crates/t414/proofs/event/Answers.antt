use Rattle.std.proofs.Common.{◌∙◌, ap, arith, false, rules, sym}
use Rattle.rules.specs.Links as links
use Rattle.rules.specs.Calls.{event}
use Rattle.journal.proofs.Refusing.{stopped, passed}
use Rattle.journal.proofs.CommitOrRefuse.{ready, event-known}
use Rattle.t414.proofs.event.Goals as goal

pub returns-in-Some : goal.returns-in-Some
unfolding event
returns-in-Some c =
    let a = c.args in
    c.refuse.ensures _ _ ∙ stopped false a.m a.mem.now a.journal.now _ c.in-Some.refusal (sym c.in-Some.ensures)

pub commit_or_refuse-requires : goal.commit_or_refuse-requires
commit_or_refuse-requires c =
    let a = c.args in
    let e = c.event.ensures.0 ∙ ap links.event (c.empty_log.ensures.0 a.m.regs) in
    let r = ready false a.m a.mem.now a.journal.now (sym c.in_default.ensures) in
    (event-known a.m.regs (search rules) _ e, (omega (arith, c.event.ensures.1, c.empty_log.ensures.1), omega (arith, c.event.ensures.1, c.empty_log.ensures.1)), r.0, r.1, r.2)

pub returns : goal.returns
unfolding event
returns c =
    let a = c.args in
    (rw (c.event.ensures.0, c.empty_log.ensures.0 a.m.regs) at c.commit_or_refuse.ensures)
    ∙ passed false a.m a.mem.now a.journal.now (sym c.in_default.ensures) _
