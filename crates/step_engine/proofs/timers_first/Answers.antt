use borrow.Author.Rules.{rules}
use mathlib.Core.Path.{◌≡◌, refl}
use mathlib.Core.Bool.{Bool, true, false}
use mathlib.Core.List.{List}
use Prim.Native.Nat.{ℕ}
use Rattle.std.specs.Prelude.{Option, Some, None}
use Rattle.rules.specs.Tests.{pick}
use Rattle.rules.specs.Work.{Work}
use Rattle.rules.specs.Scheduling.{act_on_snp}
use Rattle.rules.specs.Timers.{timer_ready, handle_timer_request}
use Rattle.rules.specs.Step as steps
use Rattle.plan.specs.declared.level.Level.{Level}
use Rattle.plan.specs.declared.level.Level.TheVariants.{High, Low}
use Rattle.plan.specs.Level.{number}
use Rattle.step_pending.specs.Timer.{first_ready}
use Rattle.step_engine.proofs.timers_first.Goals as goal

-- a timer that is served, or none
abbrev either_of : {A : Type 0} → Option Level → (ℕ → A) → A → A
either_of (Some l) f z = f (number l)
either_of None f z = z

-- to serve the one of two that is ready is to serve the first that is ready
by_number : {A : Type 0} (b0 b1 : Bool) (f : ℕ → A) (z : A) →
    pick b0 (f 0) (pick b1 (f 1) z) ≡ either_of (pick b0 (Some High) (pick b1 (Some Low) None)) f z
by_number true b1 f z = refl
by_number false true f z = refl
by_number false false f z = refl

module _ (m : List ℕ) (w : Work) where
  by_first : steps.timers_first m w ≡ either_of (first_ready w) (λ k. act_on_snp m (handle_timer_request m k w)) (steps.instruction_unless_idle m w)
  unfolding steps.timers_first first_ready
  by_first = by_number (timer_ready 0 w) (timer_ready 1 w) (λ k. act_on_snp m (handle_timer_request m k w)) (steps.instruction_unless_idle m w)

pub returns-in-Some : goal.returns-in-Some
returns-in-Some c = (
  rw (
    by_first _ _,
    ← c.ready_timer.ensures,
    c.in-Some.is,
    ← c.handle_timer_request.ensures.0,
  ) c.act_on_snp.ensures.0,
  search rules,
)

pub returns-in-None : goal.returns-in-None
returns-in-None c = (
  rw (by_first _ _, ← c.ready_timer.ensures, c.in-None.is)
      c.instruction_unless_idle.ensures.0,
  search rules,
)
