use mathlib.Core.Path.{◌≡◌}
use Prim.Native.Nat.{◌-◌}
use Rattle.plan.specs.declared.Log.{Log}
use Rattle.plan.specs.View.{view}
use Rattle.rules.specs.Channels.{requested, request_from}
use Rattle.step_pending.proofs.service.requested.Given as goal

abbrev pub invariant-loop-number : goal.invariant-loop-number
invariant-loop-number l = (log : Log) → requested (view l.regs log) ≡ request_from l.number (9 - l.number) (view l.regs log)
