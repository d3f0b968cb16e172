-- What take, give, event and tick do keeps work fine.
use mathlib.Core.List.{List, []}
use Prim.Native.Nat.{ℕ}
use Rattle.rules.specs.Work.{Work, not_ready}
use Rattle.rules.specs.Links.{event, tick, take, give}
use Rattle.laws.proofs.Fine.{Fine, Turns}
use Rattle.laws.proofs.Lawful.{kept}
use Rattle.laws.proofs.LawfulLinks.{lawful-event, lawful-tick, lawful-take, lawful-give}

module _ {P : ℕ → ℕ → ℕ → Type 0} where
  pub fine-event : Turns P not_ready → {w : Work} → Fine P w → Fine P (event w)
  fine-event h f = kept (lawful-event h) [] f

  pub fine-tick : {w : Work} → Fine P w → Fine P (tick w)
  fine-tick f = kept lawful-tick [] f

  pub fine-take : (m : List ℕ) (c : ℕ) → Turns P not_ready → {w : Work} → Fine P w → Fine P (take m c w)
  fine-take m c h f = kept (lawful-take h c) m f

  pub fine-give : (m : List ℕ) (c byte : ℕ) → Turns P not_ready → {w : Work} → Fine P w → Fine P (give m c byte w)
  fine-give m c byte h f = kept (lawful-give h c byte) m f
