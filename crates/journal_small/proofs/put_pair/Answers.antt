use native.Mathlib.Omega.{arith}
use lib.ListN.{length-set}
use native.Mathlib.Numerals.{add-one}
use Rattle.journal_small.proofs.put_pair.Goals as goal

pub bounds-journal-next : goal.bounds-journal-next
bounds-journal-next c = simp length-set (omega arith)

pub shape_of-journal : goal.shape_of-journal
shape_of-journal c = simp length-set

pub returns : goal.returns
returns c = rw (add-one c.args.at)
