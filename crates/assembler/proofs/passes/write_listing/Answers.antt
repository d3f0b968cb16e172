use Rattle.std.proofs.Common.{sym, ap, ◌∙◌, arith}
use Rattle.std.proofs.lemmas.List.{take_rest}
use Rattle.assembly.specs.Chain.{function_of}
use Rattle.assembler.proofs.Rest.{listed-prefix, listed_line, listed-end}
use Rattle.assembler.proofs.passes.write_listing.Goals as goal
use Rattle.assembler.proofs.passes.write_listing.Goals.{then-is_prefix, else-is_prefix}

pub loop-i-preserved : goal.loop-i-preserved
loop-i-preserved c =
    let inv = c.loop-i.invariant in
    let word = c.from-word.ensures in
    elim c.if-is_prefix.branch [
      | then-is_prefix w ↦
          rw (w.text-is, w.end-is, w.oreg-is, w.start-is)
          (listed-prefix c.args.code.now c.args.text.now c.loop-i.text c.loop-i.end c.loop-i.oreg c.loop-i.start c.loop-i.i c.from-word.result inv
          c.loop-i-test.true word w.after_prefix-oreg.result (sym c.is_prefix.ensures ∙ w.if-is_prefix.true) w.after_prefix-oreg.ensures)
      | else-is_prefix w ↦
          let put = rw w.line_of-line.ensures at w.put-end.ensures in
          rw (w.text-is, w.end-is, w.oreg-is, w.start-is)
          (listed_line c.args.code.now c.args.text.now c.loop-i.text c.loop-i.end c.loop-i.oreg c.loop-i.start c.loop-i.i c.from-word.result inv
          c.loop-i-test.true word w.function_of.result w.with_nibble.result w.put-end.result _ (sym c.is_prefix.ensures ∙ w.if-is_prefix.false)
          (w.function_of.ensures.0 ∙ ap function_of (sym word)) w.with_nibble.ensures (omega (arith, c.well_formed)) put)
    ]

pub returns : goal.returns
returns c =
    listed-end c.args.code.now c.args.text.now c.loop-i.text c.loop-i.end c.loop-i.oreg c.loop-i.start c.loop-i.i c.put_bytes.result _
    c.loop-i.invariant c.loop-i-test.false (omega (arith, c.well_formed)) (rw take_rest at c.put_bytes.ensures)
