use Rattle.std.proofs.Common.{sym, ◌∙◌, refl}
use Rattle.memory.proofs.Logged.{through_last, through_rest, through_none}
use Rattle.memory.proofs.through.latest.Goals as goal

pub loop-single-init : goal.loop-single-init
loop-single-init c =
    λ m l. rw (c.into_iter-single-iterator.ensures.into_iter_gives, c.rev-single-items.ensures.source, c.iter.ensures.rest) refl

pub returns-then-single-i : goal.returns-then-single-i
returns-then-single-i c =
    λ m l e.
    sym (through_last c.next.new.self.iter.rest.now m c.args.i c.in-Some.single.now l c.if-single-i.true)
    ∙ rw c.in-Some.ensures.steps at (c.loop-single.invariant m l)

pub loop-single-preserved : goal.loop-single-preserved
loop-single-preserved c =
    λ m l.
    sym (through_rest c.next.new.self.iter.rest.now m c.args.i c.in-Some.single.now c.if-single-i.false)
    ∙ rw c.in-Some.ensures.steps at (c.loop-single.invariant m l)

pub returns : goal.returns
returns c =
    λ m l e.
    sym (through_none c.loop-single.single-iterator.iter.rest.now m c.args.i c.in-None.ensures.steps.0 ∙ e) ∙ c.loop-single.invariant m l
