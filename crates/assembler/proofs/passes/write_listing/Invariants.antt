use Rattle.assembler.proofs.Rest.{Listed}
use Rattle.assembler.proofs.passes.write_listing.Given as goal

abbrev pub invariant-loop-i : goal.invariant-loop-i
invariant-loop-i l = Listed l.code l.fn.text l.text l.end l.oreg l.start l.i
