-- One turn of the walks along a timer queue, and their end where the budget runs out, by the words that the code has read.
use mathlib.Core.Path.{◌≡◌}
use mathlib.Core.Bool.{true, false}
use mathlib.Core.List.{List}
use Prim.Native.Nat.{ℕ, suc}
use Rattle.rules.specs.Words.{at_word, later}
use Rattle.rules.specs.Work.{Work, wptr, stop, refuse, word_at, access, kind_load}
use Rattle.rules.specs.Scheduling.{not_process, tlink_s, time_s}
use Rattle.rules.specs.Timers.{insert_walk, insert_final_step, delete_walk, delete_final_step}
use Rattle.rules.proofs.Tests.{yes_eq, no_eq}

module _ (m : List ℕ) (time : ℕ) where
  pub insert_out : (left place : ℕ) (w : Work) → left ≡ 0 → insert_walk m left time place w ≡ refuse stop w
  unfolding insert_walk
  insert_out left place w h = rw h

  -- s is the next process
  module _ (left n place s : ℕ) (w w₁ : Work) (el : left ≡ suc n) (es : s ≡ word_at m place w) (e₁ : w₁ ≡ access m kind_load place w) where
    pub insert-end : s ≡ not_process → insert_walk m left time place w ≡ insert_final_step m place s w₁
    unfolding insert_walk
    insert-end h = rw (el, ← es, ← e₁, yes_eq h)

    -- a is the address of its time, and that time is t
    module _ (a t : ℕ) (w₂ : Work) (no : s ≡ not_process → ⊥) (ea : a ≡ at_word s time_s) (et : t ≡ word_at m a w₁)
        (e₂ : w₂ ≡ access m kind_load a w₁) where
      pub insert_here : later time t ≡ false → insert_walk m left time place w ≡ insert_final_step m place s w₂
      unfolding insert_walk
      insert_here l = rw (el, ← es, ← e₁, no_eq no, ← ea, ← et, ← e₂, l)

      pub insert_on :
          (p : ℕ) →
          p ≡ at_word s tlink_s →
          later time t ≡ true →
          insert_walk m left time place w ≡ insert_walk m n time p w₂
      unfolding insert_walk
      insert_on p ep l = rw (el, ← es, ← e₁, no_eq no, ← ea, ← et, ← e₂, l, ← ep)

module _ (m : List ℕ) where
  pub delete_out : (left place : ℕ) (w : Work) → left ≡ 0 → delete_walk m left place w ≡ refuse stop w
  unfolding delete_walk
  delete_out left place w h = rw h

  -- s is the next process
  module _ (left n place s : ℕ) (w w₁ : Work) (el : left ≡ suc n) (es : s ≡ word_at m place w) (e₁ : w₁ ≡ access m kind_load place w) where
    pub delete_here : s ≡ wptr w → delete_walk m left place w ≡ delete_final_step m place w₁
    unfolding delete_walk
    delete_here h = rw (el, ← es, ← e₁, yes_eq h)

    pub delete_on : (p : ℕ) → p ≡ at_word s tlink_s → (s ≡ wptr w → ⊥) → delete_walk m left place w ≡ delete_walk m n p w₁
    unfolding delete_walk
    delete_on p ep h = rw (el, ← es, ← e₁, no_eq h, ← ep)
