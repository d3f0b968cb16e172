use borrow.Author.Rules.{rules}
use native.Mathlib.Omega.{arith}
use Prim.Native.Nat.{◌+◌, ◌-◌}
use mathlib.Core.Path.{sym, ◌∙◌}
use Rattle.timers.proofs.Turns.{delete_out, delete_here, delete_on}
use Rattle.timers.proofs.deletion.delete_walk.Goals as goal

pub returns-then-subsequent-wptr : goal.returns-then-subsequent-wptr
returns-then-subsequent-wptr c =
    let l = c.loop in
    (c.delete_final_step.ensures.0 ∙ sym (l.invariant.0 ∙ delete_here _ (c.args.turns - l.counter) (c.args.turns - (l.counter + 1)) _ _ _ _ (omega arith) (c.load_word-subsequent.ensures.0 l.plan.regs) (c.load_word-subsequent.ensures.1 l.plan.regs) c.if-subsequent-wptr.true), search rules)

pub loop-preserved : goal.loop-preserved
loop-preserved c =
    let l = c.loop in
    (l.invariant.0 ∙ delete_on _ (c.args.turns - l.counter) (c.args.turns - (l.counter + 1)) _ _ _ _ (omega arith) (c.load_word-subsequent.ensures.0 l.plan.regs) (c.load_word-subsequent.ensures.1 l.plan.regs) _ c.at_word-place.ensures c.if-subsequent-wptr.false, search rules)

pub returns : goal.returns
returns c =
    let l = c.loop in
    (c.refuse.ensures.0 _ ∙ sym (l.invariant.0 ∙ delete_out _ _ _ _ (omega arith)), search rules)
