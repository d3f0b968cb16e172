use Rattle.std.proofs.Common.{◌≡◌, [], ◌∷◌, ◌-◌, append_assoc, arith}
use Rattle.rules.specs.Words.{range}
use Rattle.assembly.specs.Listing.{digits, minus_sign}
use Rattle.assembler.proofs.Text.{up-decimal, down-decimal}
use Rattle.assembler.proofs.lines.put_operand.Goals as goal

pub returns-then-x-lt2147483648 : goal.returns-then-x-lt2147483648
returns-then-x-lt2147483648 c = rw (up-decimal c.args.x c.if-x-lt2147483648.true) c.put_digits.ensures

pub returns : goal.returns
returns c =
    let m : range - c.args.x ≡ c.wrapping_neg.result = omega (arith, c.wrapping_neg.ensures, c.if-x-lt2147483648.false) in
    rw (down-decimal c.args.x c.if-x-lt2147483648.false, m, c.put_digits-2.ensures, c.push.ensures)
    (append_assoc c.args.line.now (minus_sign ∷ []) (digits 10 c.wrapping_neg.result))
