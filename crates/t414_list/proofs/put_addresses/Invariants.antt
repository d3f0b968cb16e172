use Rattle.std.specs.Prelude.{◌≡◌}
use Rattle.std.proofs.Common.{length}
use Rattle.t414_list.proofs.put_addresses.Given as goal

abbrev pub invariant-loop-rest : goal.invariant-loop-rest
invariant-loop-rest l = length l.text.buffer.now ≡ length l.fn.text.buffer.now

abbrev pub decreases-loop-rest : goal.decreases-loop-rest
decreases-loop-rest l = length l.rest
