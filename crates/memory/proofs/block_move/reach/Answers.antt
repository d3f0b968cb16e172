use Rattle.std.proofs.Common.{arith, length, sym}
use Rattle.memory.proofs.Reached.{reach-is, reach_all}
use Rattle.memory.proofs.block_move.reach.Goals as goal

pub returns-then-mem-ge1073741824 : goal.returns-then-mem-ge1073741824
returns-then-mem-ge1073741824 c =
    let a = c.args in
    sym (reach_all a.n (length a.mem.now) a.a c.if-mem-ge1073741824.true)

pub returns-then-end-at : goal.returns-then-end-at
returns-then-end-at c =
    let a = c.args in
    omega (arith, reach-is a.n (length a.mem.now) a.a (omega arith), c.offset-at.ensures)

pub returns-then-n-room : goal.returns-then-n-room
returns-then-n-room c =
    let a = c.args in
    omega (arith, reach-is a.n (length a.mem.now) a.a (omega arith), c.offset-at.ensures)

pub returns : goal.returns
returns c =
    let a = c.args in
    omega (arith, reach-is a.n (length a.mem.now) a.a (omega arith), c.offset-at.ensures)
