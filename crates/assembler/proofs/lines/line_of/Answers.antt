use Rattle.std.proofs.Common.{◌≡◌, ◌∙◌}
use Rattle.assembly.specs.Listing.{function_line, line_of}
use Rattle.assembler.proofs.Text.{line_named, line_unnamed, line-function}
use Rattle.assembler.proofs.lines.line_of.Goals as goal
use Rattle.assembler.proofs.lines.line_of.Goals.{then-function-eq-OPR+in_default, else-function-eq-OPR}

pub returns-in-Some : goal.returns-in-Some
returns-in-Some c = line_named c.args.function c.args.operand c.in-Some.line c.if-function-eq-OPR.true c.in-Some.ensures

pub returns : goal.returns
returns c =
    let e : function_line c.args.function c.args.operand ≡ line_of c.args.function c.args.operand =
    elim c.if-function-eq-OPR.branch [
      | then-function-eq-OPR+in_default w ↦ line_unnamed c.args.function c.args.operand w.if-function-eq-OPR.true w.in_default.ensures
      | else-function-eq-OPR w ↦ line-function c.args.function c.args.operand w.if-function-eq-OPR.false
    ] in
    c.function_line.ensures ∙ e
