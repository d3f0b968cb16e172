use Rattle.assembler.proofs.Rest.{Measured}
use Rattle.assembler.proofs.passes.has_room.Given as goal

abbrev pub invariant-loop-i : goal.invariant-loop-i
invariant-loop-i l = Measured l.code l.room l.left l.oreg l.start l.i
