use Rattle.std.proofs.Common.{arith, ◌+◌, ◌*◌, ◌≤◌, ◌≡◌, get_or, length, take, sym, ◌∙◌}
use Rattle.rules.specs.Memory.{moved, stores}
use Rattle.plan.specs.View.{singles, cut_of, source_of, target_of, count_of}
use Rattle.memory.proofs.Bytes.{from_bytes}
use Rattle.memory.proofs.Moved.{moved_word, moved_small}
use Rattle.memory.proofs.Stored.{stores-length}
use Rattle.memory.proofs.through.word_moved.Goals as goal

pub returns-then-end-a : goal.returns-then-end-a
returns-then-end-a c =
    let a = c.args in
    let g = a.log.now in
    c.word_before-x.ensures ∙ sym (moved_word (count_of g) (stores a.mem.now (take (cut_of g) (singles g.singles))) (source_of g) (target_of g) a.i (λ p q. omega arith))

pub returns-then-a-d : goal.returns-then-a-d
returns-then-a-d c =
    let a = c.args in
    let g = a.log.now in
    c.word_before-x.ensures ∙ sym (moved_word (count_of g) (stores a.mem.now (take (cut_of g) (singles g.singles))) (source_of g) (target_of g) a.i (λ p q. omega arith))

pub returns : goal.returns
returns c =
    let a = c.args in
    let g = a.log.now in
    let pre = take (cut_of g) (singles g.singles) in
    let m = stores a.mem.now pre in
    let l : target_of g + count_of g ≤ 4 * length m = omega (arith, c.requires.3, stores-length pre a.mem.now) in
    let e : c.byte_moved.result + 256 * c.byte_moved-2.result + 65536 * c.byte_moved-3.result + 16777216 * c.byte_moved-4.result ≡ get_or (moved m (source_of g) (target_of g) (count_of g)) a.i 0 = from_bytes (moved m (source_of g) (target_of g) (count_of g)) a.i _ _ _ _
    (moved_small (count_of g) m (source_of g) (target_of g) a.i l (omega (arith, c.word_before-x.ensures, c.word_before-x.type_inv)))
    c.byte_moved.ensures
    c.byte_moved-2.ensures
    c.byte_moved-3.ensures
    c.byte_moved-4.ensures in
    omega (arith, e, c.from_le_bytes.ensures)
