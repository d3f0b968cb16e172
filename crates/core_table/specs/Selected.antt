-- What the table of operations on registers alone gives for a code.
use Rattle.std.specs.Prelude.{ℕ, List, [], ◌∷◌, Option, Some, None}
use Rattle.rules.specs.Tests.{look}
use Rattle.rules.specs.Operations.{register_operations}
use Rattle.rules.specs.declared.Core.{Core}

-- the registers after an operation of the table (DECISIONS 54)
abbrev pub found : Core → Option Core
found s = Some s

-- the table has no operation (DECISIONS 54)
abbrev pub none : Core → Option Core
none s = None

-- the rows of a table, each with what it gives (DECISIONS 54)
abbrev pub selecting : List (ℕ × (Core → Core)) → List (ℕ × (Core → Option Core))
selecting [] = []
selecting (e ∷ t) = (e.0, λ s. found (e.1 s)) ∷ selecting t

-- what the table gives for a code (000 1.11, Operations; DECISIONS 54)
unfoldable pub register_operation : ℕ → Core → Option Core
register_operation code s = look (selecting register_operations) code none s
