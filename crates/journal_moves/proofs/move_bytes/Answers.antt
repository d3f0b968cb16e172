use Rattle.journal_moves.proofs.Bytes.{moved_more}
use Rattle.journal_moves.proofs.move_bytes.Goals as goal

pub loop-k-preserved : goal.loop-k-preserved
loop-k-preserved c =
    let l = c.loop-k in
    moved_more c.args.mem.now l.mem c.args.src c.args.dst l.k _ _ l.invariant c.byte_of-b.ensures.0 c.with_byte.ensures
