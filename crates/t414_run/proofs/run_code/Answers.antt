use Rattle.std.proofs.Common.{sym, ◌∙◌}
use Rattle.t414_run.proofs.Running.{program_on, program-end}
use Rattle.t414_run.proofs.run_code.Goals as goal

pub returns-then-is_some : goal.returns-then-is_some
returns-then-is_some c =
    let a = c.args in
    program-end a.code.now a.mem.now a.journal.now c.fresh-reply.result _ _ c.refusal_of-refusal.result c.fresh-reply.ensures
    c.refusal_of-refusal.ensures (sym c.is_some.ensures ∙ c.if-is_some.true)

pub returns : goal.returns
returns c =
    let a = c.args in
    c.run.ensures
    ∙ program_on a.code.now a.mem.now a.journal.now c.fresh-reply.result _ _ c.refusal_of-refusal.result c.fresh-reply.ensures
    c.refusal_of-refusal.ensures (sym c.is_some.ensures ∙ c.if-is_some.false)
