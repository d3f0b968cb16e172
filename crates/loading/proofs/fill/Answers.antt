use Rattle.std.proofs.Common.{◌+◌, ◌-◌, ◌≡◌, ◌∙◌, arith, length, refl}
use Rattle.rules.specs.Calls.{fresh_memory}
use Rattle.loading.proofs.Loading.{fresh_turn, fresh_all}
use Rattle.loading.proofs.fill.Goals as goal

pub loop-i-preserved : goal.loop-i-preserved
loop-i-preserved c =
    let l = c.loop-i in
    let n = length c.args.mem.now in
    fresh_turn c.args.code.now l.mem l.i (n - l.i) (n - (l.i + 1)) c.fresh_word.result (omega arith) (omega arith) c.fresh_word.ensures
    ∙ l.invariant

pub returns : goal.returns
unfolding fresh_memory
returns c =
    let l = c.loop-i in
    let n = length c.args.mem.now in
    let e : n - l.i ≡ 0 = omega arith in
    (rw e at l.invariant) ∙ fresh_all c.args.code.now c.args.mem.now n refl
