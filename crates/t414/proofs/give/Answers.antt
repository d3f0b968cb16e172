use borrow.Author.Rules.{rules}
use native.Mathlib.Omega.{arith}
use mathlib.Core.Path.{sym, ap, ◌∙◌}
use Rattle.rules.specs.Links as links
use Rattle.rules.specs.Calls.{give, not_input}
use Rattle.journal.proofs.Refusing.{stopped, passed, channel_good, input_good}
use Rattle.journal.proofs.CommitOrRefuse.{ready, give-known}
use Rattle.t414.proofs.give.Goals as goal

pub returns-in-Some : goal.returns-in-Some
unfolding give
returns-in-Some c =
    let a = c.args in
    rw (← c.not_input-wrong.ensures) (c.refuse.ensures _ _ ∙ stopped c.not_input-wrong.result a.m a.mem.now a.journal.now _ c.in-Some.refusal (sym c.in-Some.ensures))

pub unwrap-c-requires : goal.unwrap-c-requires
unfolding not_input
unwrap-c-requires c =
    let a = c.args in
    let g = input_good a.channel (sym c.not_input-wrong.ensures ∙ channel_good c.not_input-wrong.result a.m a.mem.now a.journal.now (sym c.in_default.ensures)) in
    search (rules, c.new.ensures.hard, g)

pub give-requires : goal.give-requires
give-requires c = (search rules, (omega (arith, c.empty_log.ensures.1), omega (arith, c.empty_log.ensures.1)))

pub commit_or_refuse-requires : goal.commit_or_refuse-requires
commit_or_refuse-requires c =
    let a = c.args in
    let e = (rw (rw c.unwrap-c.ensures at c.new.ensures.same) at c.give.ensures.0) ∙ ap (links.give a.mem.now a.channel a.byte) (c.empty_log.ensures.0 a.m.regs) in
    let r = ready c.not_input-wrong.result a.m a.mem.now a.journal.now (sym c.in_default.ensures) in
    (give-known a.m.regs (search rules) _ a.mem.now a.channel a.byte e, (omega (arith, c.give.ensures.1, c.empty_log.ensures.1), omega (arith, c.give.ensures.1, c.empty_log.ensures.1)), r.0, r.1, r.2)

pub returns : goal.returns
unfolding give
returns c =
    let a = c.args in
    rw (← c.not_input-wrong.ensures) ((rw (c.give.ensures.0, rw c.unwrap-c.ensures at c.new.ensures.same, c.empty_log.ensures.0 a.m.regs) at c.commit_or_refuse.ensures) ∙ passed c.not_input-wrong.result a.m a.mem.now a.journal.now (sym c.in_default.ensures) _)
