use Rattle.std.proofs.lemmas.Slice.{between_is}
use Rattle.plan.specs.View.{number_of, cut_of, source_of, target_of, count_of, stores_of}
use Rattle.journal.proofs.Made.{log-made}
use Rattle.journal.proofs.stores.make.Goals as goal

pub returns : goal.returns
unfolding stores_of
returns c =
    let g = c.args.log.now in
    rw
    (c.put_singles-2.ensures, c.put_move.ensures, c.put_singles.ensures, between_is g.singles g.cut g.number)
    (log-made c.args.mem.now g.singles (number_of g) (cut_of g) (source_of g) (target_of g) (count_of g))
