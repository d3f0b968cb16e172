use Rattle.std.proofs.Common.{◌*◌, ◌+◌, ◌-◌, ◌∙◌, arith, sym}
use Rattle.rules.specs.Journal.{strays}
use Rattle.journal.proofs.Pairs.{pairs-none, strays_here, strays_on}
use Rattle.journal.proofs.undo.strays.Goals as goal

pub returns-then-size-journal : goal.returns-then-size-journal
returns-then-size-journal c =
    let a = c.args in
    let k = c.loop-k.k in
    sym
    (strays_here a.journal.now (a.at + 2 * k) (a.n - k) (a.at + 2 * (k + 1)) (a.n - (k + 1)) (omega arith) (omega arith) (omega arith) a.size c.if-size-journal.true)
    ∙ c.loop-k.invariant

pub loop-k-preserved : goal.loop-k-preserved
loop-k-preserved c =
    let a = c.args in
    let k = c.loop-k.k in
    sym
    (strays_on a.journal.now (a.at + 2 * k) (a.n - k) (a.at + 2 * (k + 1)) (a.n - (k + 1)) (omega arith) (omega arith) (omega arith) a.size (omega arith))
    ∙ c.loop-k.invariant

pub returns : goal.returns
unfolding strays
returns c =
    let a = c.args in
    let k = c.loop-k.k in
    rw (pairs-none a.journal.now (a.at + 2 * k) (a.n - k) (omega arith)) at c.loop-k.invariant
