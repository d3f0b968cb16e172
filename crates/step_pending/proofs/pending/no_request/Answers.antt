use borrow.Author.Rules.{rules}
use native.Mathlib.Omega.{arith}
use mathlib.Core.Path.{◌≡◌, refl, sym, ◌∙◌}
use Prim.Native.Nat.{◌+◌, ◌-◌}
use Rattle.rules.specs.Tests.{if_eq}
use Rattle.step_pending.proofs.Requests.{quiet_on, quiet-end}
use Rattle.step_pending.proofs.pending.no_request.Goals as goal

pub loop-c-init : goal.loop-c-init
unfolding if_eq
loop-c-init c = (search rules, refl)

pub loop-c-preserved : goal.loop-c-preserved
loop-c-preserved c =
    let e : 9 - (c.loop-c.c + 1) ≡ 9 - c.loop-c.c - 1 = omega arith in
    (omega arith, rw e (c.loop-c.invariant.1 ∙ quiet_on c.args.regs (9 - c.loop-c.c) c.loop-c.c c.loop-c.flags (omega arith)))

pub returns : goal.returns
returns c =
    let e : 9 - c.loop-c.c ≡ 0 = omega arith in
    sym ((rw e at c.loop-c.invariant.1) ∙ quiet-end c.args.regs c.loop-c.c c.loop-c.flags)
