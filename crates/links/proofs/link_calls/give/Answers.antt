use borrow.Author.Rules.{rules}
use mathlib.Core.Path.{sym, ◌∙◌}
use Rattle.rules.proofs.Tests.{yes_eq, no_eq}
use Rattle.links.proofs.Motion.{moving_yes, moving_no}
use Rattle.rules.specs.Links.{give}
use Rattle.links.proofs.link_calls.give.Goals as goal

pub returns-then-moving : goal.returns-then-moving
unfolding give
returns-then-moving c =
    (rw (moving_yes _ _ (sym (c.moving.ensures c.args.plan.now.log) ∙ c.if-moving.true)) c.receive.ensures.0, search rules)

pub returns-then-plan-flags-eq0 : goal.returns-then-plan-flags-eq0
unfolding give
returns-then-plan-flags-eq0 c = (
  rw (
    moving_no _ _ (sym (c.moving.ensures c.args.plan.now.log) ∙ c.if-moving.false),
    yes_eq (rw c.flags.ensures.0 at c.if-plan-flags-eq0.true),
  ) (c.hold.ensures _),
  search rules,
)

pub returns-else-plan-flags-eq0 : goal.returns-else-plan-flags-eq0
unfolding give
returns-else-plan-flags-eq0 c = (
  rw (
    moving_no _ _ (sym (c.moving.ensures c.args.plan.now.log) ∙ c.if-moving.false),
    no_eq (rw c.flags.ensures.0 at c.if-plan-flags-eq0.false),
  ) (c.refuse.ensures.0 _),
  search rules,
)
