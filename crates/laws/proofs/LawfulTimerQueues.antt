-- Insertion into and deletion from a timer queue (Timers.antt) are lawful.
use Prim.Native.Nat.{ℕ, zero, suc}
use Rattle.rules.specs.Tests.{pick, if_eq}
use Rattle.rules.specs.Words.{at_word, later}
use Rattle.rules.specs.Work.{wptr, stop, read_word}
use Rattle.rules.specs.Scheduling.{not_process, time_s, tlink_s}
use Rattle.rules.specs.Timers.{set_next, insert_next, insert_link, insert_final_step, insert_walk, delete_next, delete_link, delete_final_step, delete_walk}
use Rattle.laws.proofs.Lawful.{Law, law, ◌then◌, unchanged, lawful_eq, lawful-goto_snp, lawful-pick, lawful-put, lawful-raise, lawful_read, lawful-r_index_word, lawful-stop, lawful-w_index_word}
use Rattle.laws.proofs.LawfulScheduling.{lawful-save_iptr}

module _ {A : ℕ → Type 0} where
  pub lawful-set_next : (queue process : ℕ) → Law A (λ mem. set_next mem queue process)
  unfolding set_next
  lawful-set_next queue process = law (λ w. (lawful-r_index_word _ _ _).at w then lawful-raise _ _)

  pub lawful-insert_next : Law A insert_next
  unfolding insert_next
  lawful-insert_next = law (λ w. (lawful-set_next _ _).at w then lawful-goto_snp)

  pub lawful-insert_link : (previous subsequent : ℕ) → Law A (λ mem. insert_link mem previous subsequent)
  unfolding insert_link
  lawful-insert_link previous subsequent = law (λ w. (lawful-w_index_word _ _ _).at w then lawful-w_index_word _ _ _ then lawful-save_iptr)

  pub lawful-insert_final_step : (previous subsequent : ℕ) → Law A (λ mem. insert_final_step mem previous subsequent)
  unfolding insert_final_step
  lawful-insert_final_step previous subsequent = law (λ w. (lawful-insert_link _ _).at w then lawful-put _ _ then lawful-r_index_word _ _ _ then lawful-insert_next)

  -- a walk with a given budget; the budget of a memory is that of LawfulTimers
  pub lawful-insert_walk : A stop → (turns time previous : ℕ) → Law A (λ mem. insert_walk mem turns time previous)
  unfolding insert_walk
  lawful-insert_walk s zero time previous = law (λ w. (lawful-stop s).at w)
  lawful-insert_walk s (suc turns) time previous =
      lawful_read previous
      {next = λ mem p here. if_eq p not_process (insert_final_step mem previous p here) (read_word mem (at_word p time_s) (λ its there. pick (later time its) (insert_walk mem turns time (at_word p tlink_s) there) (insert_final_step mem previous p there)) here)}
      (λ p. law (λ here. lawful_eq p not_process ((lawful-insert_final_step previous p).at here)
      ((lawful_read (at_word p time_s)
      {next = λ mem its there. pick (later time its) (insert_walk mem turns time (at_word p tlink_s) there) (insert_final_step mem previous p there)}
      (λ its. law (λ there. lawful-pick (later time its) ((lawful-insert_walk s turns time (at_word p tlink_s)).at there) ((lawful-insert_final_step previous p).at there)))
      ).at here)))

  pub lawful-delete_next : Law A delete_next
  unfolding delete_next
  lawful-delete_next = law (λ w. lawful_eq _ _ unchanged ((lawful-set_next _ _).at w))

  pub lawful-delete_link : (previous : ℕ) → Law A (λ mem. delete_link mem previous)
  unfolding delete_link
  lawful-delete_link previous = law (λ w. (lawful-w_index_word _ _ _).at w then lawful-w_index_word _ _ _)

  pub lawful-delete_final_step : (previous : ℕ) → Law A (λ mem. delete_final_step mem previous)
  unfolding delete_final_step
  lawful-delete_final_step previous = law (λ w. (lawful-r_index_word _ _ _).at w then lawful-delete_link _ then lawful-r_index_word _ _ _ then lawful-delete_next)

  pub lawful-delete_walk : A stop → (turns previous : ℕ) → Law A (λ mem. delete_walk mem turns previous)
  unfolding delete_walk
  lawful-delete_walk s zero previous = law (λ w. (lawful-stop s).at w)
  lawful-delete_walk s (suc turns) previous =
      law (λ w.
      (lawful_read previous
      {next = λ mem p here. if_eq p (wptr w) (delete_final_step mem previous here) (delete_walk mem turns (at_word p tlink_s) here)}
      (λ p. law (λ here. lawful_eq p (wptr w) ((lawful-delete_final_step previous).at here) ((lawful-delete_walk s turns (at_word p tlink_s)).at here)))).at w)
