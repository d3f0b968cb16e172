use Rattle.std.proofs.Common.{◌≡◌, false, ℕ, ◌<◌, replicate, refl, sym, ◌∙◌, arith}
use Rattle.assembly.specs.Calls.{function_bad}
use Rattle.assembly.proofs.Functions.{good-function}
use Rattle.assembler.proofs.Assembled.{bad-function, too_long, no_room, assembled}
use Rattle.assembler.proofs.assemble.Goals as goal

-- a function that is not refused has four bits
below : (f : ℕ) → function_bad f ≡ false → f < 16
below f t = omega (arith, (good-function f t).0)

pub returns-then-function_bad : goal.returns-then-function_bad
returns-then-function_bad c =
    bad-function c.args.function c.args.operand c.args.out.now (sym c.function_bad.ensures ∙ c.if-function_bad.true)

pub write-size-requires : goal.write-size-requires
write-size-requires c = below c.args.function (sym c.function_bad.ensures ∙ c.if-function_bad.false)

pub returns-then-size-gt8 : goal.returns-then-size-gt8
returns-then-size-gt8 c =
    too_long c.args.function c.args.operand c.args.out.now (sym c.function_bad.ensures ∙ c.if-function_bad.false)
    (omega (arith, c.write-size.ensures.0))

pub returns-then-size-out : goal.returns-then-size-out
returns-then-size-out c =
    no_room c.args.function c.args.operand c.args.out.now (sym c.function_bad.ensures ∙ c.if-function_bad.false)
    (omega (arith, c.write-size.ensures.0)) (omega (arith, c.write-size.ensures.0))

pub returns : goal.returns
returns c =
    assembled c.args.function c.args.operand c.args.out.now (sym c.function_bad.ensures ∙ c.if-function_bad.false)
    c.write-size.result (replicate 8 0) _ _ c.write-size.ensures refl c.if-size-gt8.false c.if-size-out.false c.copy_from_slice.ensures.after
