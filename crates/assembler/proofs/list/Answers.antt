use Rattle.std.proofs.Common.{length, leb-true, leb-false, sym, ◌∙◌, arith}
use Rattle.assembly.specs.Listing.{listing}
use Rattle.assembler.proofs.Assembled.{list-refused, list_done}
use Rattle.assembler.proofs.list.Goals as goal

pub returns-then-has_room : goal.returns-then-has_room
returns-then-has_room c =
    let fits = leb-true (length (listing c.args.code.now)) (length c.args.out.now) (sym c.has_room.ensures ∙ c.if-has_room.true) in
    list_done c.args.code.now c.args.out.now c.write_listing.result _ fits
    (omega (arith, fits, c.write_listing.ensures.0, c.well_formed), c.write_listing.ensures.1)

pub returns : goal.returns
returns c =
    list-refused c.args.code.now c.args.out.now
    (leb-false (length (listing c.args.code.now)) (length c.args.out.now) (sym c.has_room.ensures ∙ c.if-has_room.false))
