use Rattle.std.proofs.Common.{arith, take, sym}
use Rattle.std.proofs.Math.ListN.{get_or-eq_default}
use Rattle.rules.specs.Memory.{stores}
use Rattle.rules.specs.Work.{word_at}
use Rattle.plan.specs.View.{singles, moves, stores_of, number_of, cut_of, source_of, target_of, count_of}
use Rattle.memory.proofs.Logged.{singles-slice, through_log}
use Rattle.memory.proofs.Stored.{stores-length}
use Rattle.memory.proofs.loads.word_at.Goals as goal

pub returns-then-mem-i : goal.returns-then-mem-i
unfolding word_at
returns-then-mem-i c =
    let a = c.args in
    let log = stores_of a.log.now in
    λ rs. rw (← c.index_of-i.ensures) (sym (get_or-eq_default (stores a.mem.now log) 0 (omega (arith, stores-length log a.mem.now))))

pub returns : goal.returns
unfolding word_at stores_of
returns c =
    let a = c.args in
    let g = a.log.now in
    let m = a.mem.now in
    let pre = take (cut_of g) (singles g.singles) in
    let mid = moves (source_of g) (target_of g) (count_of g) in
    λ rs. rw (← c.index_of-i.ensures, through_log m g.singles (number_of g) (cut_of g) (source_of g) (target_of g) (count_of g))
    (rw (singles-slice (cut_of g) (number_of g) g.singles c.requires.0) at c.latest.ensures (stores (stores m pre) mid) (omega (arith, stores-length mid (stores m pre), stores-length pre m)) (sym c.word_between.ensures))
