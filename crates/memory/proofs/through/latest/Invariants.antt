use Rattle.std.proofs.Common.{◌≡◌, List, ℕ, ◌<◌, length, get_or}
use Rattle.rules.specs.Memory.{stores}
use Rattle.plan.specs.View.{singles}
use Rattle.memory.proofs.through.latest.Given as goal

abbrev pub invariant-loop-single : goal.invariant-loop-single
invariant-loop-single l =
    (m : List ℕ) → l.i < length m
    → get_or (stores m (singles l.single-iterator.iter.rest.now)) l.i 0 ≡ get_or (stores m (singles l.singles)) l.i 0
