-- A priority as a number, as 000 has it in FptrReg[level] and in a process descriptor.
use Rattle.std.specs.Prelude.{ℕ}
use Rattle.plan.specs.declared.level.Level.{Level}
use Rattle.plan.specs.declared.level.Level.TheVariants.{High, Low}

-- level 0 is high, level 1 low (000 1.2)
abbrev pub number : Level → ℕ
number High = 0
number Low = 1
