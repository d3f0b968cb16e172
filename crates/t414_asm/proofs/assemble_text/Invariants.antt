use Rattle.std.proofs.Common.{◌≡◌, ◌≤◌, length}
use Rattle.t414_asm.proofs.assemble_text.Given as goal

abbrev pub invariant-loop-line : goal.invariant-loop-line
invariant-loop-line l =
    (goal.iterator-loop-line).can_next l.line-iterator ×
    (goal.iterator-loop-line).is_finite l.line-iterator ×
    (l.size ≤ length l.out) × (length l.out ≡ length l.initial.out)
