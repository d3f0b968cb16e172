-- The tests of the definitions, decided by the facts of the code's branches, for the tactics of the crates above.
use Rattle.rules.proofs.Tests.{yes_eq, no_eq, yes_lt, no_lt, yes_le, no_le}

pub ruleset tests = (yes_eq, no_eq, yes_lt, no_lt, yes_le, no_le)
