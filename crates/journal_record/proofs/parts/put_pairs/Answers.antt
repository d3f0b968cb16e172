use Rattle.std.proofs.Common.{arith, rules, ◌+◌, ◌*◌, ◌≡◌, length}
use Rattle.std.proofs.Math.Seq.{length-slice}
use Rattle.std.proofs.lemmas.Slice.{between_is}
use Rattle.journal_record.proofs.Written.{pairs_written}
use Rattle.journal_record.proofs.parts.put_pairs.Goals as goal

pub put_single_pairs-requires-2 : goal.put_single_pairs-requires-2
put_single_pairs-requires-2 c =
    let o = c.args.o.now in
    let fit = c.requires.0 in
    rw (between_is o.ix o.mid o.end) (omega (arith, length-slice o.mid o.end o.ix (omega arith)), fit.end_below)

pub returns : goal.returns
returns c =
    let a = c.args in
    let o = a.o.now in
    let place : a.at + 2 * o.low + 2 * o.span.c ≡ a.at + 2 * (o.low + o.span.c) = omega arith in
    rw
    (c.put_single_pairs-2.ensures, c.put_range_pairs.ensures, c.put_single_pairs.ensures, between_is o.ix o.mid o.end, place)
    (pairs_written (length a.mem.now) o c.requires.0 (search rules) a.journal.now a.mem.now a.at)
