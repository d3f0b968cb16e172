use Rattle.std.proofs.Common.{ap, length, length-append, append_assoc, arith}
use Rattle.assembly.specs.Listing.{function_line}
use Rattle.assembler.proofs.Tables.{function-short}
use Rattle.assembler.proofs.Text.{decimal-few}
use Rattle.assembler.proofs.lines.function_line.Goals as goal

pub push-requires : goal.push-requires
push-requires c =
    omega
    (arith, simp length-append at (ap length c.put_function_name.ensures), ap length c.new-line.ensures, function-short c.args.function c.requires)

pub put_operand-requires : goal.put_operand-requires
put_operand-requires c =
    omega
    (arith, simp length-append at (ap length c.push.ensures), simp length-append at (ap length c.put_function_name.ensures), ap length c.new-line.ensures, function-short c.args.function c.requires)

pub push-requires-2 : goal.push-requires-2
push-requires-2 c =
    omega
    (arith, simp length-append at (ap length c.put_operand.ensures), simp length-append at (ap length c.push.ensures), simp length-append at (ap length c.put_function_name.ensures), ap length c.new-line.ensures, function-short c.args.function c.requires, decimal-few c.args.operand)

pub returns : goal.returns
unfolding function_line
returns c = rw (c.push-2.ensures, c.put_operand.ensures, c.push.ensures, c.put_function_name.ensures, c.new-line.ensures) (simp append_assoc)
