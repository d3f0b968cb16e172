use Rattle.std.proofs.Common.{ℕ, List, ◌∙◌, ◌≡◌, Err, ap, arith, refl, rules}
use Rattle.rules.specs.Journal.{record_of}
use Rattle.rules.specs.Work.{Work, begin}
use Rattle.rules.specs.Step as steps
use Rattle.plan.specs.View.{work_of}
use Rattle.plan.specs.declared.Plan.{Plan}
use Rattle.journal.specs.Effect.{committed}
use Rattle.journal.proofs.Effects.{ended-refused, ended-done}
use Rattle.step_engine.proofs.plan_and_commit.Goals as goal

-- the work of a step, from that of the plan before and after it
stepped : (mem old : List ℕ) (p q : Plan) (w : Work) → w ≡ begin p.regs → work_of q ≡ steps.step mem w → p.regs ≡ old → work_of q ≡ steps.step mem (begin old)
stepped mem old p q w b s r = s ∙ ap (steps.step mem) b ∙ ap (λ (x : List ℕ). steps.step mem (begin x)) r

pub commit-requires : goal.commit-requires
commit-requires c =
    ((omega (arith, c.step.ensures.1, c.begin.ensures.1), omega (arith, c.step.ensures.1, c.begin.ensures.1)), c.requires.1, c.requires.2, c.requires.3)

pub returns-clause-effect : goal.returns-clause-effect
returns-clause-effect c =
    let a = c.args in
    let e = stepped a.mem.now a.old a.plan.now c.step.new.plan _ (c.begin.ensures.0 a.plan.now.regs) c.step.ensures.0 c.requires.0 in
    rw c.put_tail.ensures (ended-done a.old a.used a.mem.now a.journal.now _ _ _ _ _ c.in_ok-count.ensures.effect c.in_ok-count.count refl)
    ∙ ap (λ (w : Work). committed (record_of a.mem.now a.old) a.used a.mem.now a.journal.now w.answer w.kind w.address w.stored) e

pub returns-clause-registers : goal.returns-clause-registers
returns-clause-registers c =
    let a = c.args in
    ap (λ (w : Work). w.regs) (stepped a.mem.now a.old a.plan.now c.step.new.plan _ (c.begin.ensures.0 a.plan.now.regs) c.step.ensures.0 c.requires.0)

pub returns-in_err-count-clause-effect : goal.returns-in_err-count-clause-effect
returns-in_err-count-clause-effect c =
    let a = c.args in
    let e = stepped a.mem.now a.old a.plan.now c.step.new.plan _ (c.begin.ensures.0 a.plan.now.regs) c.step.ensures.0 c.requires.0 in
    let r : c.from_residual.result ≡ Err c.in_err-count.field-0.0 = search rules in
    rw r (ended-refused a.old a.used a.mem.now a.journal.now _ _ _ _ _ c.in_err-count.ensures.effect c.in_err-count.field-0.0 refl)
    ∙ ap (λ (w : Work). committed (record_of a.mem.now a.old) a.used a.mem.now a.journal.now w.answer w.kind w.address w.stored) e

pub returns-in_err-count-clause-registers : goal.returns-in_err-count-clause-registers
returns-in_err-count-clause-registers c =
    let a = c.args in
    ap (λ (w : Work). w.regs) (stepped a.mem.now a.old a.plan.now c.step.new.plan _ (c.begin.ensures.0 a.plan.now.regs) c.step.ensures.0 c.requires.0)
