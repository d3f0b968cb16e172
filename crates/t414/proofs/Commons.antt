-- The outcomes of a common step, which is the step of rules, and of a tick with a full journal.
use mathlib.Core.Path.{◌≡◌, refl, sym}
use mathlib.Core.Bool.{true, not}
use mathlib.Core.List.{List, []}
use Prim.Native.Nat.{ℕ, ◌+◌, ◌≤◌, ◌<◌}
use native.Mathlib.Omega.{arith}
use lib.Dec.{ltb}
use Rattle.std.specs.Prelude.{Some}
use lib.ListN.{length}
use borrow.Author.Tests.{ltb-false}
use Rattle.rules.specs.Registers.{registers, core_of}
use Rattle.rules.specs.Work.{Work, begin, put}
use Rattle.rules.specs.Journal.{record_length}
use Rattle.rules.specs.Links as links
use Rattle.rules.specs.Step as steps
use Rattle.rules.specs.Calls.{refused, commit_or_refuse}
use Rattle.rules.specs.declared.Machine.{Machine}
use Rattle.rules.proofs.Tests.{by_bool, on_eq, on_lt, on_le}
use Rattle.step_pending.specs.NothingPending.{nothing_pending}
use Rattle.step_fast.specs.declared.FastStep.{FastStep}
use Rattle.step_fast.specs.Fast as fast
use Rattle.step_fast.proofs.Step.{fast-step}
use Rattle.journal_small.proofs.CommonStep.{bare-refused}

pub common-step-is :
    (m : Machine) (mem j : List ℕ) (t : FastStep)
    → length m.regs ≡ registers
    → true ≡ nothing_pending m.regs
    → Some t ≡ fast.fetch mem m.regs (core_of m.regs)
    → commit_or_refuse m mem j 0 (fast.fast_work m.regs t) ≡ commit_or_refuse m mem j 0 (steps.step mem (begin m.regs))
unfolding fast.fast
common-step-is m mem j t l k e =
    let s : fast.fast mem m.regs ≡ Some t = rw (← k) (sym e) in
    rw (fast-step mem m.regs t (omega arith) s)

-- the test for room, read back
pub room-left : (size end : ℕ) → not (ltb size end) ≡ true → end ≤ size
room-left size end e =
    by_bool (ltb size end)
    (λ t. let f = rw t at e in let z : ◌≡◌ {A = ℕ} 0 1 = cc in absurd (omega arith))
    (λ f. ltb-false size end f)

-- a work that is not refused and stores nothing
abbrev Bare : Work → Type 0
Bare w = (w.answer ≡ 0) × (w.stored ≡ [])

tick-bare : (r : List ℕ) → Bare (links.tick (begin r))
unfolding links.tick links.tick_clocks links.tick_prescaler links.tick_slice put
tick-bare r =
    on_eq Bare _ _ (refl, refl)
    (on_lt Bare _ _
    (on_eq Bare _ _ (on_le Bare _ _ (refl, refl) (refl, refl)) (on_eq Bare _ _ (on_le Bare _ _ (refl, refl) (refl, refl)) (on_le Bare _ _ (refl, refl) (refl, refl))))
    (on_le Bare _ _ (refl, refl) (refl, refl)))

pub tick-full :
    (m : Machine) (mem j : List ℕ)
    → length j < m.used + record_length 0
    → refused 12 m mem j ≡ commit_or_refuse m mem j 0 (links.tick (begin m.regs))
tick-full m mem j h = bare-refused m mem j (links.tick (begin m.regs)) (tick-bare m.regs) h
