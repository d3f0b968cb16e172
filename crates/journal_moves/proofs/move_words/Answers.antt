use Rattle.std.proofs.Common.{◌%◌, ◌*◌, ◌/◌, ◌+◌, ◌-◌, ◌∙◌, ◌≡◌, ap, arith, sym}
use Rattle.rules.specs.Memory.{moved}
use Rattle.journal_moves.specs.Four.{four_bytes}
use Rattle.journal_moves.proofs.Bytes.{moved-zero, small-set}
use Rattle.journal_moves.proofs.FourBytes.{four_lt, words_more}
use Rattle.journal_moves.proofs.move_words.Goals as goal

pub loop-to-init : goal.loop-to-init
loop-to-init c =
    let a = c.args in
    record {
      small = λ k. omega (arith, c.type_inv.mem k);
      word = omega arith;
      moves = sym (moved-zero a.mem.now a.src a.dst (4 * (a.dst / 4 - a.dst / 4)) (omega arith));
    }

pub loop-to-preserved : goal.loop-to-preserved
loop-to-preserved c =
    let a = c.args in
    let l = c.loop-to in
    let w = c.four_bytes in
    let k = l.to - a.dst / 4 in
    let at : a.dst / 4 + k ≡ l.to = omega arith in
    let next : 4 * (k + 1) ≡ 4 * (l.to + 1 - a.dst / 4) = omega arith in
    let place : 4 * l.from + a.src % 4 ≡ a.src + 4 * k = omega arith in
    let more =
    words_more a.mem.now l.mem a.src a.dst k w.result
    l.invariant.moves
    c.requires.0
    (omega arith)
    (l.invariant.small (a.dst / 4 + k))
    c.requires.3
    (w.ensures ∙ ap (four_bytes l.mem) place) in
    record {
      small = small-set l.mem l.to w.result l.invariant.small (omega (arith, w.ensures, four_lt l.mem (4 * l.from + a.src % 4)));
      word = omega arith;
      moves = (rw at at more) ∙ ap (moved a.mem.now a.src a.dst) next;
    }
