use native.Mathlib.Omega.{arith}
use Rattle.std.proofs.Common.{rules}
use Rattle.journal_small.proofs.CommonStep.{kept-frame, no-frame, frame-past, copied}
use Rattle.journal_small.proofs.store_frame.Goals as goal
use Rattle.journal_small.proofs.store_frame.Goals.{then-index-ge-FRAME_LIMIT-via-then-index-ge-FRAME_LIMIT, then-index-ge-FRAME_LIMIT-via-else-index-ge-FRAME_LIMIT+then-mem-i}

pub returns-then-index-ge-FRAME_LIMIT : goal.returns-then-index-ge-FRAME_LIMIT
returns-then-index-ge-FRAME_LIMIT c =
    elim c.then-index-ge-FRAME_LIMIT.branch [
      | then-index-ge-FRAME_LIMIT-via-then-index-ge-FRAME_LIMIT w ↦ no-frame _ _ _ _ c.args.frame w.if-index-ge-FRAME_LIMIT.true
      | then-index-ge-FRAME_LIMIT-via-else-index-ge-FRAME_LIMIT+then-mem-i w ↦ frame-past _ _ _ _ c.args.frame (search rules) w.if-mem-i.true
    ]

pub returns : goal.returns
returns c =
    kept-frame _ _ _ _ _ _ _ _ (search rules) c.if-index-ge-FRAME_LIMIT.false (omega (arith, c.min-n.ensures))
    (copied _ _ _ _ _ _ _ (omega arith) (omega arith) (search rules) (omega (arith, c.min-n.ensures)) c.copy_from_slice.ensures.after)
    c.put_pairs.ensures
