use mathlib.Core.Path.{◌≡◌}
use Prim.Native.Nat.{◌-◌}
use Rattle.rules.specs.Timers.{delete_walk}
use Rattle.plan.specs.View.{work_of, Grown}
use Rattle.timers.proofs.deletion.delete_walk.Given as goal

abbrev pub invariant-loop : goal.invariant-loop
invariant-loop l = (delete_walk l.mem l.turns l.previous (work_of l.initial.plan) ≡ delete_walk l.mem (l.turns - l.counter) l.place (work_of l.plan)) × Grown 0 l.initial.plan.log l.plan.log
