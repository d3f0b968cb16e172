use Rattle.std.proofs.Common.{rules, refl}
use Rattle.rules.proofs.Tests.{yes_eq, no_eq}
use Rattle.rules.specs.Work.{transfer, move_or_refuse}
use Rattle.memory.proofs.block_move.transfer.Goals as goal

pub returns-then-n-eq0 : goal.returns-then-n-eq0
unfolding transfer
returns-then-n-eq0 c = (λ regs. rw (yes_eq c.if-n-eq0.true), search rules)

pub returns-in-None : goal.returns-in-None
unfolding transfer move_or_refuse
returns-in-None c = (
  λ regs. rw (
    no_eq c.if-n-eq0.false,
    ← c.in-None.ensures,
    yes_eq {a = 0} {b = 0} refl,
    ← c.offset.ensures,
    ← c.offset-in-None.ensures,
  ) (c.append_move.ensures.0 regs),
  search rules,
)

pub returns-in-Some-Load : goal.returns-in-Some-Load
unfolding transfer move_or_refuse
returns-in-Some-Load c = (
  λ regs. rw (no_eq c.if-n-eq0.false, ← (rw c.in-Some-Load.field-0-is at c.in-Some-Load.ensures), no_eq {a = 2} {b = 0} (search rules))
      (c.refuse_at.ensures.0 regs),
  search rules,
)

pub returns-in-Some-Store : goal.returns-in-Some-Store
unfolding transfer move_or_refuse
returns-in-Some-Store c = (
  λ regs. rw (no_eq c.if-n-eq0.false, ← (rw c.in-Some-Store.field-0-is at c.in-Some-Store.ensures), no_eq {a = 3} {b = 0} (search rules))
      (c.refuse_at-in-Some-Store.ensures.0 regs),
  search rules,
)
