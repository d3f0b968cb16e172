use borrow.Author.Rules.{rules}
use native.Mathlib.Omega.{arith}
use Prim.Native.Nat.{◌+◌, ◌-◌}
use mathlib.Core.Path.{sym, ◌∙◌}
use Rattle.timers.proofs.Turns.{insert_out, insert-end, insert_here, insert_on}
use Rattle.timers.proofs.insertion.insert_walk.Goals as goal

pub returns-then-subsequent : goal.returns-then-subsequent
returns-then-subsequent c =
    let l = c.loop in
    (c.insert_final_step.ensures.0 ∙ sym (l.invariant.0 ∙ insert-end _ _ (c.args.turns - l.counter) (c.args.turns - (l.counter + 1)) _ _ _ _ (omega arith) (c.load_word-subsequent.ensures.0 l.plan.regs) (c.load_word-subsequent.ensures.1 l.plan.regs) c.if-subsequent.true), search rules)

pub loop-preserved : goal.loop-preserved
loop-preserved c =
    let l = c.loop in
    (l.invariant.0 ∙ insert_on _ _ (c.args.turns - l.counter) (c.args.turns - (l.counter + 1)) _ _ _ _ (omega arith) (c.load_word-subsequent.ensures.0 l.plan.regs) (c.load_word-subsequent.ensures.1 l.plan.regs) _ _ _ c.if-subsequent.false c.at_word-a.ensures (c.load_word-other.ensures.0 l.plan.regs) (c.load_word-other.ensures.1 l.plan.regs) _ c.at_word-place.ensures (sym c.later.ensures ∙ c.if-not-later.false), search rules)

pub returns-then-not-later : goal.returns-then-not-later
returns-then-not-later c =
    let l = c.loop in
    (c.insert_final_step-then-not-later.ensures.0 ∙ sym (l.invariant.0 ∙ insert_here _ _ (c.args.turns - l.counter) (c.args.turns - (l.counter + 1)) _ _ _ _ (omega arith) (c.load_word-subsequent.ensures.0 l.plan.regs) (c.load_word-subsequent.ensures.1 l.plan.regs) _ _ _ c.if-subsequent.false c.at_word-a.ensures (c.load_word-other.ensures.0 l.plan.regs) (c.load_word-other.ensures.1 l.plan.regs) (sym c.later.ensures ∙ c.if-not-later.true)), search rules)

pub returns : goal.returns
returns c =
    let l = c.loop in
    (c.refuse.ensures.0 _ ∙ sym (l.invariant.0 ∙ insert_out _ _ _ _ _ (omega arith)), search rules)
