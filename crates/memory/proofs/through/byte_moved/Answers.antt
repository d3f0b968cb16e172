use Rattle.std.proofs.Common.{arith, ◌≡◌, ◌*◌, length, take, sym, ap, ◌∙◌}
use Rattle.rules.specs.Memory.{byte_in, stores}
use Rattle.plan.specs.View.{singles, cut_of, source_of, target_of, count_of}
use Rattle.memory.specs.Places.{came_from}
use Rattle.memory.proofs.Moved.{came-byte, came_lt}
use Rattle.memory.proofs.Stored.{stores-length}
use Rattle.memory.proofs.through.byte_moved.Goals as goal

pub overflow_cast-from : goal.overflow_cast-from
overflow_cast-from c =
    let a = c.args in
    let g = a.log.now in
    let f : c.came_from-from.result ≡ came_from (source_of g) (target_of g) (count_of g) a.a = c.came_from-from.ensures in
    omega (arith, came_lt 17179869184 (source_of g) (target_of g) (count_of g) a.a (omega arith) (omega arith) (omega arith), f)

pub word_before-x-requires : goal.word_before-x-requires
word_before-x-requires c =
    let a = c.args in
    let g = a.log.now in
    let f : c.came_from-from.result ≡ came_from (source_of g) (target_of g) (count_of g) a.a = c.came_from-from.ensures in
    let h = came_lt (4 * length a.mem.now) (source_of g) (target_of g) (count_of g) a.a c.requires.2 c.requires.3 c.requires.0 in
    (omega (arith, h, f), c.requires.4)

pub returns : goal.returns
unfolding byte_in
returns c =
    let a = c.args in
    let g = a.log.now in
    let f : c.came_from-from.result ≡ came_from (source_of g) (target_of g) (count_of g) a.a = c.came_from-from.ensures in
    let pre = take (cut_of g) (singles g.singles) in
    let m = stores a.mem.now pre in
    let e : c.byte_of.result ≡ byte_in m c.came_from-from.result = rw (← c.word_before-x.ensures) c.byte_of.ensures.0 in
    e ∙ ap (byte_in m) f ∙ sym (came-byte m (source_of g) (target_of g) (count_of g) a.a (omega (arith, c.requires.3, stores-length pre a.mem.now)))
