use borrow.Author.Rules.{rules}
use Rattle.core_table.proofs.Tables.{either, operate-is}
use Rattle.step_dispatch.specs.Others.{other_operation}
use Rattle.step_dispatch.proofs.operate.Goals as goal

pub returns-in-Some : goal.returns-in-Some
unfolding either
returns-in-Some c =
    (rw (operate-is, ← c.core_of.ensures, ← c.register_operation.ensures, c.in-Some.is) (c.put_core.ensures _), search rules)

pub returns-in-None : goal.returns-in-None
unfolding either other_operation
returns-in-None c =
    (rw (operate-is, ← c.core_of.ensures, ← c.register_operation.ensures, c.in-None.is) c.other_operation.ensures.0, search rules)
