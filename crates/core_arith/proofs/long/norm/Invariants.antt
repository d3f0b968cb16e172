use Rattle.std.proofs.Common.{◌≡◌, ◌-◌, ◌*◌, ◌^◌, ◌<◌, ◌≤◌}
use Rattle.core_arith.proofs.long.norm.Given as goal

abbrev pub invariant-loop-v : goal.invariant-loop-v
invariant-loop-v l = (l.v ≡ l.initial.v * 2 ^ l.n) × (0 < l.v) × (2 ^ l.n ≤ l.v) × (l.v < 2 ^ 64)

abbrev pub decreases-loop-v : goal.decreases-loop-v
decreases-loop-v l = 2 ^ 63 - l.v
