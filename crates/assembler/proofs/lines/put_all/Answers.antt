use Rattle.std.proofs.Common.{◌≡◌, ◌+◌, ◌-◌, length, refl, sym, ◌∙◌, arith}
use Rattle.assembler.proofs.Stores.{part-written, fit-written, sets-past}
use Rattle.assembler.proofs.lines.put_all.Goals as goal
use Rattle.assembler.proofs.lines.put_all.Goals.{then-at-text+then-bytes-room, then-at-text+else-bytes-room, else-at-text}

pub returns : goal.returns
returns c = (
  c.saturating_add.ensures,
  elim c.if-at-text.branch [
    | then-at-text+then-bytes-room w ↦
        let n = length c.args.bytes.now in
        let size : c.args.at + n - c.args.at ≡ n = omega arith in
        w.text-is
        ∙ rw (size, w.copy_from_slice.ensures.after)
        (part-written c.args.at n c.args.text.now c.args.bytes.now refl (omega (arith, w.if-at-text.true, w.if-bytes-room.true)))
    | then-at-text+else-bytes-room w ↦
        let room = length c.args.text.now - c.args.at in
        w.text-is
        ∙ fit-written c.args.at room c.args.text.now c.args.bytes.now w.copy_from_slice-else-bytes-room.new.self (omega (arith, w.if-bytes-room.false))
        w.if-at-text.true w.copy_from_slice-else-bytes-room.ensures.after
    | else-at-text w ↦ w.text-is ∙ sym (sets-past c.args.text.now c.args.at c.args.bytes.now w.if-at-text.false)
  ],
)
