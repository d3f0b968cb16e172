use Rattle.std.proofs.Common.{arith, take}
use Rattle.rules.specs.Memory.{stores}
use Rattle.plan.specs.View.{singles, cut_of, source_of, target_of, count_of}
use Rattle.memory.proofs.Stored.{stores-length, no_move, move-inside, source-outside, target-outside}
use Rattle.memory.proofs.through.word_between.Goals as goal

pub returns-then-count-eq0 : goal.returns-then-count-eq0
returns-then-count-eq0 c =
    let a = c.args in
    let g = a.log.now in
    rw (no_move (stores a.mem.now (take (cut_of g) (singles g.singles))) (source_of g) (target_of g) (count_of g) (omega arith)) c.word_before.ensures

pub returns-then-mem-source : goal.returns-then-mem-source
returns-then-mem-source c =
    let a = c.args in
    let g = a.log.now in
    let pre = take (cut_of g) (singles g.singles) in
    rw (source-outside (stores a.mem.now pre) (source_of g) (target_of g) (count_of g) (omega (arith, stores-length pre a.mem.now))) c.word_before-then-mem-source.ensures

pub returns-then-mem-target : goal.returns-then-mem-target
returns-then-mem-target c =
    let a = c.args in
    let g = a.log.now in
    let pre = take (cut_of g) (singles g.singles) in
    rw (target-outside (stores a.mem.now pre) (source_of g) (target_of g) (count_of g) (omega (arith, stores-length pre a.mem.now))) c.word_before-then-mem-target.ensures

pub returns : goal.returns
returns c =
    let a = c.args in
    let g = a.log.now in
    let pre = take (cut_of g) (singles g.singles) in
    rw (move-inside (stores a.mem.now pre) (source_of g) (target_of g) (count_of g) (omega (arith, stores-length pre a.mem.now)) (omega (arith, stores-length pre a.mem.now))) c.word_moved.ensures
