use Rattle.std.proofs.Common.{rules, refl}
use Rattle.plan.specs.View.{cut_of}
use Rattle.memory.proofs.Logged.{singles-take}
use Rattle.memory.proofs.through.word_before.Goals as goal

pub returns : goal.returns
returns c =
    let a = c.args in
    let g = a.log.now in
    rw (← singles-take (cut_of g) g.singles) (c.latest.ensures a.mem.now (search rules) refl)
