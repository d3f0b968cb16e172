-- The second table of operations, looked up.
use Rattle.std.specs.Prelude.{ℕ}
use Rattle.rules.specs.Tests.{look}
use Rattle.rules.specs.Operations.{Action, other_operations, unlisted_action}

-- the operation of a code in the second table; a code without a row is 9 Unlisted (01, Answers by number; DECISIONS 1)
unfoldable pub other_operation : ℕ → Action
other_operation code m w = look other_operations code unlisted_action m w
