use borrow.Author.Rules.{rules}
use native.Mathlib.Omega.{arith}
use mathlib.Core.Path.{sym, ap, ◌∙◌}
use Rattle.rules.specs.Links as links
use Rattle.rules.specs.Calls.{take, not_output}
use Rattle.journal.proofs.Refusing.{stopped, passed, channel_good, output_good}
use Rattle.journal.proofs.CommitOrRefuse.{ready, take-known}
use Rattle.t414.proofs.take.Goals as goal

pub returns-in-Some : goal.returns-in-Some
unfolding take
returns-in-Some c =
    let a = c.args in
    rw (← c.not_output-wrong.ensures) (c.refuse.ensures _ _ ∙ stopped c.not_output-wrong.result a.m a.mem.now a.journal.now _ c.in-Some.refusal (sym c.in-Some.ensures))

pub unwrap-c-requires : goal.unwrap-c-requires
unfolding not_output
unwrap-c-requires c =
    let a = c.args in
    let g = output_good a.channel (sym c.not_output-wrong.ensures ∙ channel_good c.not_output-wrong.result a.m a.mem.now a.journal.now (sym c.in_default.ensures)) in
    search (rules, c.new.ensures.hard, g)

pub taken-byte-requires : goal.taken-byte-requires
taken-byte-requires c = (omega (arith, c.empty_log.ensures.1), omega (arith, c.empty_log.ensures.1))

pub take-requires : goal.take-requires
take-requires c = (omega (arith, c.empty_log.ensures.1), omega (arith, c.empty_log.ensures.1))

pub commit_or_refuse-requires : goal.commit_or_refuse-requires
commit_or_refuse-requires c =
    let a = c.args in
    let e = (rw (rw c.unwrap-c.ensures at c.new.ensures.same) at c.take.ensures.0) ∙ ap (links.take a.mem.now a.channel) (c.empty_log.ensures.0 a.m.regs) in
    let r = ready c.not_output-wrong.result a.m a.mem.now a.journal.now (sym c.in_default.ensures) in
    (take-known a.m.regs (search rules) _ a.mem.now a.channel e, (omega (arith, c.take.ensures.1, c.empty_log.ensures.1), omega (arith, c.take.ensures.1, c.empty_log.ensures.1)), r.0, r.1, r.2)

pub returns : goal.returns
unfolding take
returns c =
    let a = c.args in
    rw (← c.not_output-wrong.ensures) ((rw (c.take.ensures.0, c.taken-byte.ensures.0, rw c.unwrap-c.ensures at c.new.ensures.same, c.empty_log.ensures.0 a.m.regs) at c.commit_or_refuse.ensures) ∙ passed c.not_output-wrong.result a.m a.mem.now a.journal.now (sym c.in_default.ensures) _)
