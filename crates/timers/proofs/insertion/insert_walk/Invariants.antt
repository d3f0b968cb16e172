use mathlib.Core.Path.{◌≡◌}
use Prim.Native.Nat.{◌-◌}
use Rattle.rules.specs.Timers.{insert_walk}
use Rattle.plan.specs.View.{work_of, Grown}
use Rattle.timers.proofs.insertion.insert_walk.Given as goal

abbrev pub invariant-loop : goal.invariant-loop
invariant-loop l = (insert_walk l.mem l.turns l.time l.previous (work_of l.initial.plan) ≡ insert_walk l.mem (l.turns - l.counter) l.time l.place (work_of l.plan)) × Grown 0 l.initial.plan.log l.plan.log
