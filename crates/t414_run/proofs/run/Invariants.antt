use Rattle.std.proofs.Common.{◌≡◌, ◌-◌}
use Rattle.t414_run.specs.Program.{run}
use Rattle.t414_run.proofs.run.Given as goal

abbrev pub invariant-loop-steps : goal.invariant-loop-steps
invariant-loop-steps l = run (100 - l.steps) l.steps l.machine l.mem l.journal ≡ run 100 0 l.initial.machine l.initial.mem l.initial.journal
