use Rattle.std.proofs.Common.{arith, ◌≡◌, ◌∙◌, [], sym, drop, get_or}
use Rattle.std.proofs.Math.ListN.{drop_of_length-le}
use Rattle.std.proofs.Math.Seq.{set_out}
use Rattle.plan.proofs.Logged.{unused}
use Rattle.journal.proofs.Made.{stores_turn, stores-none}
use Rattle.journal.proofs.stores.put_singles.Goals as goal
use Rattle.journal.proofs.stores.put_singles.Goals.{then-i-mem, else-i-mem}

pub loop-single-preserved : goal.loop-single-preserved
loop-single-preserved c =
    let xs = c.args.list.now in
    let l = c.loop-single in
    let x = get_or xs l.single-index unused in
    let e = sym (stores_turn l.mem xs l.single-index (omega arith)) ∙ l.invariant in
    elim c.if-i-mem.branch [
      | then-i-mem w ↦ rw w.mem-is e
      | else-i-mem w ↦ rw (w.mem-is, ← set_out l.mem x.index x.value (omega arith)) e
    ]

pub returns : goal.returns
returns c =
    let xs = c.args.list.now in
    let l = c.loop-single in
    let e : drop l.single-index xs ≡ [] = drop_of_length-le xs (omega arith) in
    sym (stores-none l.mem) ∙ (rw e at l.invariant)
