-- What a step does keeps work fine.
use mathlib.Core.List.{List}
use Prim.Native.Nat.{ℕ}
use Rattle.rules.specs.Work.{Work, outside, halted, idle, stop, unlisted}
use Rattle.rules.specs.Step.{step}
use Rattle.laws.proofs.Fine.{Fine, Turns}
use Rattle.laws.proofs.Lawful.{kept}
use Rattle.laws.proofs.LawfulStep.{lawful-step}

pub fine-step : {P : ℕ → ℕ → ℕ → Type 0} (m : List ℕ) → Turns P outside → Turns P stop → Turns P unlisted → Turns P idle → Turns P halted
    → {w : Work} → Fine P w → Fine P (step m w)
fine-step m o s h i k f = kept (lawful-step o s h i k) m f
