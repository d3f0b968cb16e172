use Rattle.std.proofs.Common.{rules}
use Rattle.rules.proofs.Tests.{yes_eq, no_eq}
use Rattle.rules.specs.Work.{append}
use Rattle.plan.specs.View.{stores_of, number_of, cut_of, source_of, target_of, count_of}
use Rattle.plan.proofs.Logged.{logged-more}
use Rattle.plan.proofs.append_word.Goals as goal

pub returns-then-log-eq0 : goal.returns-then-log-eq0
unfolding append stores_of
returns-then-log-eq0 c =
    let g = c.args.log.now in (
      λ regs. rw (
        yes_eq c.if-log-eq0.true,
        logged-more g.singles (search rules) (number_of g) (cut_of g) (source_of g) (target_of g) (count_of g) (record { index = c.args.i; value = c.args.v }) (search rules) (search rules),
      ),
      search rules,
    )

pub returns-else-log-eq0 : goal.returns-else-log-eq0
unfolding append
returns-else-log-eq0 c = (λ regs. rw (no_eq c.if-log-eq0.false), search rules)
