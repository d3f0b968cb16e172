use mathlib.Core.Path.{◌≡◌}
use Prim.Native.Nat.{◌-◌, ◌≤◌}
use Rattle.step_pending.specs.NothingPending as pending
use Rattle.step_pending.proofs.Requests.{quiet}
use Rattle.step_pending.proofs.pending.no_request.Given as goal

abbrev pub invariant-loop-c : goal.invariant-loop-c
invariant-loop-c l = (l.c ≤ 9) × (pending.no_request 0 9 l.regs ≡ quiet l.regs l.flags l.c (9 - l.c))
