use Rattle.std.specs.Prelude.{◌≡◌}
use Rattle.std.proofs.Common.{length}
use Rattle.t414_list.proofs.put_head.Given as goal

abbrev pub invariant-loop-byte : goal.invariant-loop-byte
invariant-loop-byte l = length l.text.buffer.now ≡ length l.fn.text.buffer.now

abbrev pub invariant-loop : goal.invariant-loop
invariant-loop l = length l.text.buffer.now ≡ length l.fn.text.buffer.now
