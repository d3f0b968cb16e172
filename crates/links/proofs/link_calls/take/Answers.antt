use borrow.Author.Rules.{rules}
use mathlib.Core.Path.{sym, ◌∙◌}
use Rattle.links.proofs.Motion.{moving_yes, moving_no}
use Rattle.rules.specs.Links.{take}
use Rattle.links.proofs.link_calls.take.Goals as goal

pub returns-then-moving : goal.returns-then-moving
unfolding take
returns-then-moving c =
    (rw (moving_yes _ _ (sym (c.moving.ensures c.args.plan.now.log) ∙ c.if-moving.true)) c.take_byte.ensures.0, search rules)

pub returns-else-moving : goal.returns-else-moving
unfolding take
returns-else-moving c =
    (rw (moving_no _ _ (sym (c.moving.ensures c.args.plan.now.log) ∙ c.if-moving.false)) (c.refuse.ensures.0 _), search rules)
