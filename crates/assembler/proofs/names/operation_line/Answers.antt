use Rattle.std.proofs.Common.{◌≡◌, [], refl, ap, length, length-append, arith}
use Rattle.rules.specs.Tests.{look}
use Rattle.assembly.specs.Names.{letters, operation_names}
use Rattle.assembler.specs.Text.{name_line}
use Rattle.assembler.proofs.Tables.{values, text_of, text_at, named, operation_rows, operation_at, no_operation_at, no_operation, operation-short}
use Rattle.assembler.proofs.names.operation_line.Goals as goal
use Rattle.assembler.proofs.names.operation_line.Goals.{then-row-lt90+in_default, else-row-lt90}

pub push_str-requires : goal.push_str-requires
unfolding values text_of named operation_rows operation_names letters
push_str-requires c =
    let t = rw text_at at (ap text_of c.in-Some.is) in
    let e = operation_at c.args.code _ c.in-Some.name.now c.if-row-lt90.true t in
    omega (arith, ap length c.new-line.ensures, ap length e.0, operation-short c.args.code)

pub push-requires : goal.push-requires
unfolding values text_of named operation_rows operation_names letters
push-requires c =
    let t = rw text_at at (ap text_of c.in-Some.is) in
    let e = operation_at c.args.code _ c.in-Some.name.now c.if-row-lt90.true t in
    omega
    (arith, simp length-append at (ap length c.push_str.ensures), ap length c.new-line.ensures, ap length e.0, operation-short c.args.code)

pub returns-in-Some : goal.returns-in-Some
unfolding values text_of named operation_rows operation_names letters
returns-in-Some c =
    let t = rw text_at at (ap text_of c.in-Some.is) in
    let e = operation_at c.args.code _ c.in-Some.name.now c.if-row-lt90.true t in
    rw (c.push.ensures, c.push_str.ensures, c.new-line.ensures) e.1

pub returns : goal.returns
unfolding values text_of named operation_rows operation_names letters name_line
returns c =
    let e : look operation_names c.args.code [] ≡ [] =
    elim c.if-row-lt90.branch [
      | then-row-lt90+in_default w ↦
          let t = rw text_at at (ap text_of w.in_default.is) in
          no_operation_at c.args.code _ w.if-row-lt90.true t
      | else-row-lt90 w ↦ no_operation c.args.code w.if-row-lt90.false
    ] in
    rw e refl
