use Rattle.std.proofs.Common.{◌+◌, ◌≤◌, length}
use Rattle.program_io.specs.Sizes.{most_response}
use Rattle.t414_batch.proofs.answer_all.Given as goal

abbrev pub invariant-loop : goal.invariant-loop
invariant-loop l = l.output.used + most_response ≤ length l.output.buffer.now
