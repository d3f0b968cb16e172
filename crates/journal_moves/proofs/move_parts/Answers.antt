use Rattle.std.proofs.Common.{sym}
use Rattle.journal_moves.proofs.Bytes.{moved-split}
use Rattle.journal_moves.proofs.move_parts.Goals as goal

pub returns : goal.returns
returns c =
    let a = c.args in
    rw (c.move_aligned.ensures, c.move_bytes.ensures) (sym (moved-split a.head a.rest a.mem.now a.src a.dst))
