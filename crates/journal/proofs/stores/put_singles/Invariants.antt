use Rattle.std.proofs.Common.{◌≡◌, drop}
use Rattle.rules.specs.Memory.{stores}
use Rattle.plan.specs.View.{singles}
use Rattle.journal.proofs.stores.put_singles.Given as goal

abbrev pub invariant-loop-single : goal.invariant-loop-single
invariant-loop-single l =
    stores l.mem (singles (drop l.single-index l.list)) ≡ stores l.initial.mem (singles l.list)
