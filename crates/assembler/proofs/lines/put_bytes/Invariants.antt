use Rattle.std.proofs.Common.{length}
use Rattle.assembler.proofs.Rest.{Turn}
use Rattle.assembler.proofs.lines.put_bytes.Given as goal

abbrev pub invariant-loop-byte : goal.invariant-loop-byte
invariant-loop-byte l = Turn l.chain l.fn.text l.text l.at l.rest l.end

abbrev pub decreases-loop-byte : goal.decreases-loop-byte
decreases-loop-byte l = length l.rest
