use Rattle.std.proofs.Common.{arith}
use Rattle.assembler.proofs.Rest.{turn_next, turn_end}
use Rattle.assembler.proofs.lines.put_bytes.Goals as goal

pub loop-byte-preserved : goal.loop-byte-preserved
loop-byte-preserved c =
    turn_next c.args.chain.now c.args.text.now c.loop-byte.text _ c.args.at c.loop-byte.end c.put_three-end.result c.in-Some.byte.now c.hex_digit-high.result
    c.hex_digit-low.result c.separator.result c.loop-byte.rest.now c.in-Some.others.now c.loop-byte.invariant (omega (arith, c.well_formed))
    c.in-Some.ensures.cases.0 c.hex_digit-high.ensures c.hex_digit-low.ensures c.separator.ensures c.put_three-end.ensures

pub returns : goal.returns
returns c =
    turn_end c.args.chain.now c.args.text.now c.loop-byte.text c.args.at c.loop-byte.rest.now c.loop-byte.end c.loop-byte.invariant
    c.in_default.ensures.cases
