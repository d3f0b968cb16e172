use Rattle.std.proofs.Common.{◌≡◌, ◌^◌, ◌<◌, sym, ◌∙◌, arith, pow-add}
use lib.Count.{count_leading_zeros}
use Rattle.rules.proofs.Tests.{yes_eq, no_eq}
use Rattle.rules.specs.Stack.{norm}
use Rattle.core_arith.proofs.Normal.{pow_lt_cancel, shift_is}
use Rattle.core_arith.proofs.long.norm.Goals as goal

pub returns-then-v-eq0 : goal.returns-then-v-eq0
unfolding norm
returns-then-v-eq0 c = rw (yes_eq (sym c.double-v.ensures ∙ c.if-v-eq0.true))

pub loop-v-init : goal.loop-v-init
loop-v-init c = omega arith

pub overflow_mul-v : goal.overflow_mul-v
overflow_mul-v c = omega arith

pub overflow_add-n : goal.overflow_add-n
overflow_add-n c =
    let h : 2 ^ c.loop-v.n < 2 ^ 63 = omega arith in
    omega (arith, pow_lt_cancel {a = c.loop-v.n} {b = 63} h)

pub loop-v-smaller : goal.loop-v-smaller
loop-v-smaller c = omega arith

pub loop-v-preserved : goal.loop-v-preserved
loop-v-preserved c = rw (pow-add 2 c.loop-v.n 1) (omega arith)

pub returns : goal.returns
unfolding norm
returns c =
    let v = c.double-v.result in
    let n = c.loop-v.n in
    let w = c.loop-v.invariant.0 in
    let l : n < 64 = pow_lt_cancel {a = n} {b = 64} (omega arith) in
    let e : count_leading_zeros 64 v ≡ n = shift_is v n (omega arith) (omega arith) (omega arith) in
    rw (← c.double-v.ensures, no_eq c.if-v-eq0.false, e, ← w, ← c.low_word.ensures, ← c.high_word.ensures) c.split.ensures
