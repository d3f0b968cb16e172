use Rattle.std.proofs.Common.{sym, ◌∙◌, arith}
use Rattle.t414_run.proofs.Running.{run_on, run_end, run-full}
use Rattle.t414_run.proofs.run.Goals as goal

pub returns-then-is_some : goal.returns-then-is_some
returns-then-is_some c =
    let l = c.loop-steps in
    run_end l.machine l.mem l.journal c.step-reply.result _ _ c.refusal_of-refusal.result c.step-reply.ensures c.refusal_of-refusal.ensures l.steps
    (omega arith) (sym c.is_some.ensures ∙ c.if-is_some.true)
    ∙ l.invariant

pub loop-steps-preserved : goal.loop-steps-preserved
loop-steps-preserved c =
    let l = c.loop-steps in
    run_on l.machine l.mem l.journal c.step-reply.result _ _ c.refusal_of-refusal.result c.step-reply.ensures c.refusal_of-refusal.ensures l.steps
    (omega arith) (sym c.is_some.ensures ∙ c.if-is_some.false)
    ∙ l.invariant

pub returns : goal.returns
returns c =
    let l = c.loop-steps in
    run-full l.machine l.mem l.journal l.steps (omega arith) ∙ l.invariant
