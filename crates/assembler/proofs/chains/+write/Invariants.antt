use Rattle.assembler.proofs.chains.+write.Given as goal

abbrev pub decreases-write : goal.decreases-write
decreases-write l = l.operand
