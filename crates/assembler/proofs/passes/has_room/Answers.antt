use Rattle.std.proofs.Common.{sym, ap, ◌∙◌, length, le-leb, arith}
use Rattle.assembly.specs.Chain.{function_of}
use Rattle.assembly.specs.Listing.{listing}
use Rattle.assembler.proofs.Most.{listing-most}
use Rattle.assembler.proofs.Rest.{measured-start, measured-prefix, measured_line, measured_short, measured-end}
use Rattle.assembler.proofs.passes.has_room.Goals as goal
use Rattle.assembler.proofs.passes.has_room.Goals.{then-is_prefix, else-is_prefix+else-left-size}

pub returns-then-code-room : goal.returns-then-code-room
returns-then-code-room c =
    sym (le-leb (length (listing c.args.code.now)) c.args.room (omega (arith, listing-most c.args.code.now, c.if-code-room.true)))

pub loop-i-init : goal.loop-i-init
loop-i-init c = measured-start c.args.code.now c.args.room

pub returns-then-left-size : goal.returns-then-left-size
returns-then-left-size c =
    measured_short c.args.code.now c.args.room c.loop-i.left c.loop-i.oreg c.loop-i.start c.loop-i.i c.from-word.result c.loop-i.invariant c.loop-i-test.true
    c.from-word.ensures c.function_of.result c.with_nibble.result c.len-size.result (sym c.is_prefix.ensures ∙ c.if-is_prefix.false)
    (c.function_of.ensures.0 ∙ ap function_of (sym c.from-word.ensures)) c.with_nibble.ensures
    (c.len-size.ensures.0 ∙ ap length c.line_of.ensures) c.if-left-size.true

pub loop-i-preserved : goal.loop-i-preserved
loop-i-preserved c =
    let inv = c.loop-i.invariant in
    let word = c.from-word.ensures in
    elim c.if-is_prefix.branch [
      | then-is_prefix w ↦
          rw (w.left-is, w.oreg-is, w.start-is)
          (measured-prefix c.args.code.now c.args.room c.loop-i.left c.loop-i.oreg c.loop-i.start c.loop-i.i c.from-word.result inv c.loop-i-test.true word
          w.after_prefix-oreg.result (sym c.is_prefix.ensures ∙ w.if-is_prefix.true) w.after_prefix-oreg.ensures)
      | else-is_prefix+else-left-size w ↦
          rw (w.left-is, w.oreg-is, w.start-is)
          (measured_line c.args.code.now c.args.room c.loop-i.left c.loop-i.oreg c.loop-i.start c.loop-i.i c.from-word.result inv c.loop-i-test.true word
          w.function_of.result w.with_nibble.result w.len-size.result (sym c.is_prefix.ensures ∙ w.if-is_prefix.false)
          (w.function_of.ensures.0 ∙ ap function_of (sym word)) w.with_nibble.ensures (w.len-size.ensures.0 ∙ ap length w.line_of.ensures)
          w.if-left-size.false)
    ]

pub overflow_sub-result : goal.overflow_sub-result
overflow_sub-result c = omega (arith, c.loop-i.invariant.here, c.loop-i.invariant.order)

pub returns : goal.returns
returns c =
    measured-end c.args.code.now c.args.room c.loop-i.left c.loop-i.oreg c.loop-i.start c.loop-i.i c.loop-i.invariant c.loop-i-test.false
