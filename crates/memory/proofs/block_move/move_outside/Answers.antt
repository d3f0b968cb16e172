use Rattle.std.proofs.Common.{rules, arith, ℕ, length, sym, ap}
use Rattle.memory.proofs.Reached.{reach_le, outside-none, outside_load, outside_store}
use Rattle.memory.proofs.block_move.move_outside.Goals as goal

pub returns-then-d-s : goal.returns-then-d-s
returns-then-d-s c =
    let a = c.args in
    rw (outside_store a.mem.now a.n a.source a.destination (search rules) (omega (arith, c.reach-s.ensures, c.reach-d.ensures, c.if-d-s.true)), ← c.reach-d.ensures) (ap (λ (z : ℕ). (3, z)) c.at_byte.ensures)

pub returns-then-s-n : goal.returns-then-s-n
returns-then-s-n c =
    let a = c.args in
    rw (outside_load a.mem.now a.n a.source a.destination (search rules) (omega (arith, c.reach-s.ensures, c.if-s-n.true)) (omega (arith, c.reach-s.ensures, c.reach-d.ensures, c.if-d-s.false)), ← c.reach-s.ensures) (ap (λ (z : ℕ). (2, z)) c.at_byte-then-s-n.ensures)

pub returns : goal.returns
returns c =
    let a = c.args in
    let l = length a.mem.now in
    let p = reach_le a.n l a.source in
    let q = reach_le a.n l a.destination in
    sym (outside-none a.mem.now a.n a.source a.destination (omega (arith, p, c.reach-s.ensures, c.if-s-n.false)) (omega (arith, q, c.reach-s.ensures, c.reach-d.ensures, c.if-s-n.false, c.if-d-s.false)))
