use Rattle.std.proofs.Common.{ap, ◌∙◌, ℕ}
use Rattle.rules.specs.Calls.{numbered, refused_at}
use Rattle.laws.proofs.Unique.{number-answer}
use Rattle.journal.proofs.checks.refuse_at.Goals as goal

pub returns : goal.returns
returns c =
    let a = c.args in
    let r = a.refusal in
    let e = ap numbered c.answer_of.ensures ∙ number-answer r.number r.kind r.address c.requires in
    λ mem j. c.refuse.ensures mem j ∙ ap (λ (t : ℕ × ℕ × ℕ). refused_at t.0 t.1 t.2 a.m mem j) e
