-- 000's InsertFirstStep and DeleteFirstStep are refused with Stop exactly where the walk along the timer queue comes again to a pointer value
-- that it has passed (01, Answers by number, 11; DECISIONS 27).
use mathlib.Core.Path.{◌≡◌, refl, ◌∙◌}
use mathlib.Core.List.{List}
use Prim.Native.Nat.{ℕ, ◌≤◌, ◌<◌}
use native.Mathlib.Omega.{arith}
use lib.Bits.{and_mask}
use lib.ListN.{length}
use Rattle.rules.specs.Words.{index}
use Rattle.rules.specs.Registers.{wdesc_reg, areg}
use Rattle.rules.specs.Work.{Work, reg, put, lower, priority, stop}
use Rattle.rules.specs.Timers.{tptr_loc, insert_first_step, delete_first_step}
use Rattle.laws.specs.Alike.{Ordinary}
use Rattle.laws.specs.Stops.{going, insert_started, delete_started, insert_stops, delete_stops}
use Rattle.laws.proofs.Lawful.{kept, lawful-lower, lawful-w_index_word}
use Rattle.laws.proofs.LawfulTimerQueues.{lawful-insert_walk}
use Rattle.laws.proofs.Calm.{Calm, any_fine, Tells, regroup, tells-going}
use Rattle.laws.proofs.TimerRings.{insert_tells, delete_tells}

-- TPtrLoc is words 9 and 10
queue-word : (queue : ℕ) → queue < 2 → index (tptr_loc queue) < 64
queue-word queue h = omega arith

pub queue-inside : (m : List ℕ) (w : Work) → 64 ≤ length m → index (tptr_loc (priority w)) < length m
queue-inside m w h =
    let low : priority w < 2 = omega (arith, and_mask (reg wdesc_reg w) 1) in
    omega (arith, queue-word (priority w) low)

lower-answer : (k mask : ℕ) (w : Work) → (lower k mask w).answer ≡ w.answer
unfolding lower put
lower-answer k mask w = refl

module _ (m : List ℕ) (w : Work) (o : Ordinary w) where
  pub started-ordinary : Ordinary (insert_started m w)
  started-ordinary = (kept (lawful-w_index_word _ _ _) m (kept (lawful-w_index_word _ _ _) m (any_fine w o))).ordinary

  pub off-ordinary : Ordinary (delete_started w)
  off-ordinary = (kept (lawful-lower _ _) m (any_fine w o)).ordinary

  pub off-answer : w.answer ≡ 0 → (delete_started w).answer ≡ 0
  off-answer e = lower-answer _ _ w ∙ e

  -- and the tests of the places tell it
  pub delete-stops : w.answer ≡ 0 → Tells (delete_stops m w) (delete_first_step m w)
  unfolding delete_first_step delete_stops
  delete-stops e = delete_tells m _ off-ordinary (off-answer e) (tptr_loc (priority w))

pub insert-stops : (m : List ℕ) {w : Work} → Calm w → Tells (insert_stops m w) (insert_first_step m w)
unfolding insert_first_step insert_stops
insert-stops m {w} c =
    regroup (going (insert_started m w)) _ _ (insert_first_step m w)
    (tells-going (insert_started m w) (insert_first_step m w) _ (kept (lawful-w_index_word _ _ _) m (kept (lawful-w_index_word _ _ _) m c)) (λ P t f. kept (lawful-insert_walk (t stop) _ _ _) m f)
    (λ e. insert_tells m (reg areg w) _ (started-ordinary m w c.ordinary) e (tptr_loc (priority w))))
