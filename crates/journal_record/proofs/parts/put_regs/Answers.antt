use Rattle.std.proofs.Common.{◌+◌, ◌≡◌, [], suc, arith, drop, length, rules}
use Rattle.std.proofs.Math.ListN.{drop_of_length-le}
use Rattle.rules.specs.Registers.{registers}
use Rattle.journal_record.proofs.Sorting.{drop_here}
use Rattle.journal_record.proofs.parts.put_regs.Goals as goal

pub loop-k-preserved : goal.loop-k-preserved
loop-k-preserved c =
    let k = c.loop-k.k in
    let long : length c.args.regs ≡ registers = search rules in
    let e : c.args.at + (k + 1) ≡ suc (c.args.at + k) = omega arith in
    rw e (rw (drop_here c.args.regs k (omega arith)) at c.loop-k.invariant)

pub returns : goal.returns
returns c =
    let long : length c.args.regs ≡ registers = search rules in
    let e : drop c.loop-k.k c.args.regs ≡ [] = drop_of_length-le c.args.regs (omega arith) in
    rw e at c.loop-k.invariant
