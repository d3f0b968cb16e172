use Rattle.std.proofs.Common.{[], ◌∷◌, length, length-append, append_assoc, ◌/◌, ap, arith, rules}
use Rattle.assembly.specs.Listing.{digits}
use Rattle.assembler.proofs.Digits.{last, digits-one, digits_more, more-length, digits-few}
use Rattle.assembler.proofs.lines.+put_digits.Goals as goal

pub returns-then-x-lt10 : goal.returns-then-x-lt10
returns-then-x-lt10 t c = rw (digits-one c.args.x c.if-x-lt10.true) c.push.ensures

pub push-requires-2 : goal.push-requires-2
push-requires-2 t c =
    let m = more-length c.args.x c.if-x-lt10.false (search rules) in
    omega (arith, simp length-append at (ap length c.put_digits.ensures), m, digits-few 10 c.args.x, c.requires)

pub returns : goal.returns
returns t c =
    rw (c.push-2.ensures, c.put_digits.ensures, digits_more c.args.x c.if-x-lt10.false (search rules))
    (append_assoc c.args.line.now (digits 10 (c.args.x / 10)) (last c.args.x ∷ []))
