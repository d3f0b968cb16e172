use mathlib.Core.Path.{◌≡◌, refl, sym, ◌∙◌}
use Prim.Native.Nat.{◌+◌, ◌-◌}
use native.Mathlib.Omega.{arith}
use Rattle.rules.specs.Channels.{requested}
use Rattle.step_pending.proofs.Lowest.{search-ends, found_here, not_here}
use Rattle.step_pending.proofs.service.requested.Goals as goal

pub loop-number-init : goal.loop-number-init
unfolding requested
loop-number-init c = λ log. refl

pub returns-then-regs-flags-ne0-clause-lowest : goal.returns-then-regs-flags-ne0-clause-lowest
returns-then-regs-flags-ne0-clause-lowest c =
    λ log. let k = c.loop-number.number in
    let here : c.unwrap-c.result ≡ k = rw c.unwrap-c.ensures at c.new.ensures.same in
    here ∙ sym (c.loop-number.invariant log ∙ found_here k (9 - k) _ (8 - k) (omega arith) (rw (c.flags.ensures.0, here) at c.if-regs-flags-ne0.true))

pub loop-number-preserved : goal.loop-number-preserved
loop-number-preserved c =
    λ log. let k = c.loop-number.number in
    let here : c.unwrap-c.result ≡ k = rw c.unwrap-c.ensures at c.new.ensures.same in
    c.loop-number.invariant log ∙ not_here k (9 - k) _ (9 - (k + 1)) (omega arith) (rw (c.flags.ensures.0, here) at c.if-regs-flags-ne0.false)

pub returns-clause-lowest : goal.returns-clause-lowest
returns-clause-lowest c =
    λ log. let k = c.loop-number.number in
    sym (c.loop-number.invariant log ∙ search-ends k (9 - k) _ (omega arith))
