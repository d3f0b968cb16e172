-- The timer that a step serves (01, One step (b)).
use Rattle.std.specs.Prelude.{Option, Some, None}
use Rattle.plan.specs.declared.level.Level.{Level}
use Rattle.plan.specs.declared.level.Level.TheVariants.{High, Low}
use Rattle.rules.specs.Tests.{pick}
use Rattle.rules.specs.Work.{Work}
use Rattle.rules.specs.Timers.{timer_ready}

-- the ready timer to serve: 0 before 1, as timers_first of rules/specs/Step.antt has it; none where neither is ready (01, One step (b))
unfoldable pub first_ready : Work → Option Level
first_ready w = pick (timer_ready 0 w) (Some High) (pick (timer_ready 1 w) (Some Low) None)
