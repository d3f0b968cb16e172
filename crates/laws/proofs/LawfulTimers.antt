-- Every definition of Timers.antt (timer queues) is lawful; a walk that Stops in a memory Stops in a longer memory, whose budget is larger.
use mathlib.Core.Path.{◌≡◌, refl, sym, ap, ◌∙◌}
use mathlib.Core.Bool.{Bool, true, false}
use mathlib.Core.List.{List, ◌++◌}
use Prim.Native.Nat.{ℕ, zero, suc, ◌+◌, ◌≤◌}
use native.Mathlib.Omega.{arith}
use borrow.Author.Tests.{lt-leb, ne_eqb}
use lib.ListN.{length, length-append}
use lib.Dec.{eqb}
use Rattle.rules.specs.Tests.{pick, if_eq}
use Rattle.rules.specs.Words.{at_word, index, later}
use Rattle.rules.specs.Registers.{areg, breg, creg, clock_reg}
use Rattle.rules.specs.Work.{untraced, Work, reg, wptr, priority, outside, stop, kind_load, refuse_at, refuse, access, word_at}
use Rattle.rules.specs.Scheduling.{not_process, time_s, tlink_s}
use Rattle.rules.specs.Timers.{next_time, drop_b, timed_out, timer_status, timer_wake, timer_next, timer_unlink, timer_front, timer_serve, handle_timer_request, insert_walk, insert_first_step, delete_walk, delete_first_step, select_first, is_this_selected_process, tin, talt, time_now, taltwt_time, taltwt_link, taltwt_state, taltwt, enbt_first, enbt_earlier, enbt_link, enbt_guard, enbt, dist_ready, dist_set, dist_link, dist}
use Rattle.rules.proofs.Tests.{no_eq, cases_eq}
use Rattle.laws.specs.Alike.{Unrefused, Alike, beyond, refused, same}
use Rattle.laws.specs.Ring.{insert_ends, delete_ends}
use Rattle.laws.specs.Listed.{retrace}
use Rattle.laws.proofs.Fine.{refused_with_lem}
use Rattle.laws.proofs.Calm.{any_fine}
use Rattle.laws.proofs.Listed.{unrefused-plain}
use Rattle.laws.proofs.TimerRings.{walk_longer, insert-goes, insert_walk_lem, delete-goes, delete_walk_lem}
use Rattle.laws.proofs.Lawful.{Law, law, kept, longer, same_word, ◌then◌, unchanged, lawful_eq, lawful-lower, lawful-pick, lawful-put, lawful_read, lawful-r_index_word, lawful-stop, lawful-w_index_word}
use Rattle.laws.proofs.LawfulScheduling.{lawful-run, lawful-wait}
use Rattle.laws.proofs.LawfulTimerQueues.{lawful-set_next, lawful-insert_walk, lawful-delete_walk}

-- ---- a walk with a budget of N + 2 turns, in a memory of N words

-- b is a, if a is not refused
abbrev More : Work → Work → Type 0
More a b = a.answer ≡ 0 → b ≡ a

more-pick : (t : Bool) {a b a' b' : Work} → More a a' → More b b' → More (pick t a b) (pick t a' b')
more-pick true p q = p
more-pick false p q = q

more_eq : (i j : ℕ) {a b a' b' : Work} → More a a' → More b b' → More (if_eq i j a b) (if_eq i j a' b')
unfolding if_eq
more_eq i j p q = more-pick (eqb i j) p q

more-stop : (w v : Work) → More (refuse stop w) v
unfolding refuse_at
more-stop w v e = absurd (cases_eq w.answer 0 (λ z. omega (arith, ap (λ (u : Work). u.answer) (refused_with_lem stop 0 0 w z), e)) (λ z. z (rw (no_eq z) at e)))

-- no other refusal than 10 or 11
abbrev Only : ℕ → ℕ → ℕ → Type 0
Only n k a = (n ≡ 0 → ⊥) → (n ≡ outside → ⊥) → n ≡ stop

module _ (walk : ℕ → List ℕ → Work → Work) (walks : (A : ℕ → Type 0) → A stop → (turns : ℕ) → Law A (walk turns))
    -- more turns do the same, unless the walk is refused
    (more : (turns turns' : ℕ) → turns ≤ turns' → (mem : List ℕ) (w : Work) → More (walk turns mem w) (walk turns' mem w))
    -- a walk that Stops does so in a longer memory
    (ring : (m x : List ℕ) (w : Work) → Unrefused (length m) w → (walk (length m + 2) m w).answer ≡ stop → (walk (length (m ++ x) + 2) (m ++ x) w).answer ≡ stop) where
  -- the same budget in both memories, then the larger one in the longer memory
  module _ (w : Work) where
    only : (mem : List ℕ) {size : ℕ} → Unrefused size w → Only (walk (length mem + 2) mem w).answer 0 0
    only mem u =
        (kept {P = Only} (walks _ (λ k a z kind address p n o. refl) (length mem + 2)) mem
        (record { ordinary = u.ordinary; known = λ n o. absurd (n u.none); ten = λ k a z kind address low high n o. absurd (o refl) })).known

    go : (m x : List ℕ) → Unrefused (length m) w → Alike (length m) (walk (length m + 2) m w) (walk (length m + 2) (m ++ x) w)
        → Alike (length m) (walk (length m + 2) m w) (walk (length (m ++ x) + 2) (m ++ x) w)
    go m x u (beyond e c t) = beyond e c t
    go m x u (refused n o e c c') =
        let z = only m u n o in
        refused n o (z ∙ sym (ring m x w u z)) c (kept (walks _ (λ k a z kind address p. tt) (length (m ++ x) + 2)) (m ++ x) (any_fine w u.ordinary)).ordinary
    go m x u (same e v) =
        same (e ∙ sym (more (length m + 2) (length (m ++ x) + 2) (omega (arith, length-append m x)) (m ++ x) w (ap (λ (y : Work). y.answer) (sym e) ∙ v.none))) v

  lawful_budget : {A : ℕ → Type 0} → A stop → Law A (λ mem. walk (length mem + 2) mem)
  lawful_budget {A} s =
      law (λ w. record {
        keeps = λ P t mem f. ((walks A s (length mem + 2)).at w).keeps P t mem f;
        alike = λ m x small u. go (retrace untraced w) m x (unrefused-plain w u) (((walks A s (length m + 2)).at w).alike m x small u);
        lists = λ mem c made. ((walks A s (length mem + 2)).at w).lists mem c made;
      })

module _ (time previous : ℕ) where
  insert-more : (turns turns' previous : ℕ) → turns ≤ turns' → (mem : List ℕ) (w : Work) → More (insert_walk mem turns time previous w) (insert_walk mem turns' time previous w)
  unfolding insert_walk
  insert-more zero turns' previous l mem w = more-stop w _
  insert-more (suc turns) zero previous l mem w = absurd (omega arith)
  insert-more (suc turns) (suc turns') previous l mem w =
      let p = word_at mem previous w in
      more_eq p not_process (λ e. refl)
      (more-pick (later time (word_at mem (at_word p time_s) (access mem kind_load previous w))) (insert-more turns turns' (at_word p tlink_s) (omega arith) mem _) (λ e. refl))

  insert-again : (m x : List ℕ) (w : Work) → Unrefused (length m) w
      → (insert_walk m (length m + 2) time previous w).answer ≡ stop → (insert_walk (m ++ x) (length (m ++ x) + 2) time previous w).answer ≡ stop
  unfolding insert_ends
  insert-again m x w u =
      walk_longer m x (insert_walk_lem m time w u.ordinary u.none) (insert_walk_lem (m ++ x) time w u.ordinary u.none) u
      (λ p e. let g = insert-goes m time w u.ordinary u.none p e in
      rw (ne_eqb p not_process g.0, lt-leb (length (m ++ x)) (index (at_word p time_s)) (longer m x _ g.1), same_word m x (at_word p time_s) w u g.1, g.2)
      (lt-leb (length (m ++ x)) (index (at_word p tlink_s)) (longer m x _ g.3)))
      previous

  lawful_insert_budget : {A : ℕ → Type 0} → A stop → Law A (λ mem. insert_walk mem (length mem + 2) time previous)
  lawful_insert_budget s = lawful_budget (λ turns mem. insert_walk mem turns time previous) (λ A s turns. lawful-insert_walk s turns time previous) (λ turns turns'. insert-more turns turns' previous) insert-again s

module _ (previous : ℕ) where
  delete-more : (turns turns' previous : ℕ) → turns ≤ turns' → (mem : List ℕ) (w : Work) → More (delete_walk mem turns previous w) (delete_walk mem turns' previous w)
  unfolding delete_walk
  delete-more zero turns' previous l mem w = more-stop w _
  delete-more (suc turns) zero previous l mem w = absurd (omega arith)
  delete-more (suc turns) (suc turns') previous l mem w = more_eq _ _ (λ e. refl) (delete-more turns turns' _ (omega arith) mem _)

  delete-again : (m x : List ℕ) (w : Work) → Unrefused (length m) w
      → (delete_walk m (length m + 2) previous w).answer ≡ stop → (delete_walk (m ++ x) (length (m ++ x) + 2) previous w).answer ≡ stop
  unfolding delete_ends
  delete-again m x w u =
      walk_longer m x (delete_walk_lem m w u.ordinary u.none) (delete_walk_lem (m ++ x) w u.ordinary u.none) u
      (λ p e. let g = delete-goes m w u.ordinary u.none p e in
      rw (ne_eqb p (wptr w) g.0) (lt-leb (length (m ++ x)) (index (at_word p tlink_s)) (longer m x _ g.1)))
      previous

  lawful_delete_budget : {A : ℕ → Type 0} → A stop → Law A (λ mem. delete_walk mem (length mem + 2) previous)
  lawful_delete_budget s = lawful_budget (λ turns mem. delete_walk mem turns previous) (λ A s turns. lawful-delete_walk s turns previous) (λ turns turns'. delete-more turns turns' previous) delete-again s

module _ {A : ℕ → Type 0} where
  pub lawful-next_time : Law A (λ mem. next_time)
  unfolding next_time
  lawful-next_time = law (λ w. (lawful-put _ _).at w)

  pub lawful-drop_b : Law A (λ mem. drop_b)
  unfolding drop_b
  lawful-drop_b = law (λ w. (lawful-put _ _).at w)

  pub lawful-timed_out : (queue front : ℕ) → Law A (λ mem. timed_out mem queue front)
  unfolding timed_out
  lawful-timed_out queue front = law (λ w. (lawful-w_index_word _ _ _).at w then lawful-run _)

  pub lawful-timer_status : A stop → (queue front status : ℕ) → Law A (λ mem. timer_status mem queue front status)
  unfolding timer_status
  lawful-timer_status s queue front status = law (λ w. lawful_eq _ _ unchanged (lawful_eq _ _ ((lawful-timed_out _ _).at w) ((lawful-stop s).at w)))

  pub lawful-timer_wake : A stop → (queue front : ℕ) → Law A (λ mem. timer_wake mem queue front)
  unfolding timer_wake
  lawful-timer_wake s queue front = law (λ w. (lawful_read _ (lawful-timer_status s _ _)).at w)

  pub lawful-timer_next : (queue second : ℕ) → Law A (λ mem. timer_next mem queue second)
  unfolding timer_next
  lawful-timer_next queue second = law (λ w. lawful_eq _ _ unchanged ((lawful-set_next _ _).at w))

  pub lawful-timer_unlink : (queue front second : ℕ) → Law A (λ mem. timer_unlink mem queue front second)
  unfolding timer_unlink
  lawful-timer_unlink queue front second = law (λ w. (lawful-w_index_word _ _ _).at w then lawful-w_index_word _ _ _ then lawful-timer_next _ _)

  pub lawful-timer_front : A stop → (queue front : ℕ) → Law A (λ mem. timer_front mem queue front)
  unfolding timer_front
  lawful-timer_front s queue front = law (λ w. (lawful_read _ (lawful-timer_unlink _ _)).at w then lawful-timer_wake s _ _)

  pub lawful-timer_serve : A stop → (queue : ℕ) → Law A (λ mem. timer_serve mem queue)
  unfolding timer_serve
  lawful-timer_serve s queue = law (λ w. (lawful_read _ (lawful-timer_front s _)).at w)

  pub lawful-handle_timer_request : A stop → (queue : ℕ) → Law A (λ mem. handle_timer_request mem queue)
  unfolding handle_timer_request
  lawful-handle_timer_request s queue = law (λ w. (lawful-lower _ _).at w then lawful-timer_serve s _)

  pub lawful-insert_first_step : A stop → Law A insert_first_step
  unfolding insert_first_step
  lawful-insert_first_step s = law (λ w. (lawful-w_index_word _ _ _).at w then lawful-w_index_word _ _ _ then lawful_insert_budget _ _ s)

  pub lawful-delete_first_step : A stop → Law A delete_first_step
  unfolding delete_first_step
  lawful-delete_first_step s = law (λ w. (lawful-lower _ _).at w then lawful_delete_budget _ s)

  pub lawful-select_first : (status : ℕ) → Law A (λ mem. select_first mem status)
  unfolding select_first
  lawful-select_first status = law (λ w. lawful_eq _ _ ((lawful-w_index_word _ _ _).at w then lawful-put _ _) ((lawful-put _ _).at w))

  pub lawful-is_this_selected_process : Law A is_this_selected_process
  unfolding is_this_selected_process
  lawful-is_this_selected_process = law (λ w. (lawful_read _ lawful-select_first).at w)

  pub lawful-tin : A stop → Law A tin
  unfolding tin
  lawful-tin s = law (λ w. lawful-pick (later (reg (clock_reg (priority w)) w) (reg areg w)) unchanged (lawful-next_time.at w then lawful-insert_first_step s))

  pub lawful-talt : Law A talt
  unfolding talt
  lawful-talt = law (λ w. (lawful-w_index_word _ _ _).at w then lawful-w_index_word _ _ _)

  pub lawful-time_now : Law A time_now
  unfolding time_now
  lawful-time_now = law (λ w. (lawful-w_index_word _ _ _).at w)

  pub lawful-taltwt_time : A stop → Law A taltwt_time
  unfolding taltwt_time
  lawful-taltwt_time s = law (λ w. lawful-pick (later (reg (clock_reg (priority w)) w) (reg areg w)) ((lawful-w_index_word _ _ _).at w then lawful-time_now) (lawful-next_time.at w then lawful-insert_first_step s))

  pub lawful-taltwt_link : A stop → Law A taltwt_link
  unfolding taltwt_link
  lawful-taltwt_link s = law (λ w. lawful_eq _ _ (lawful-wait.at w) (lawful_eq _ _ ((lawful-r_index_word _ _ _).at w then lawful-taltwt_time s) ((lawful-stop s).at w)))

  pub lawful-taltwt_state : A stop → Law A taltwt_state
  unfolding taltwt_state
  lawful-taltwt_state s = law (λ w. lawful_eq _ _ (lawful-time_now.at w) ((lawful-r_index_word _ _ _).at w then lawful-taltwt_link s))

  pub lawful-taltwt : A stop → Law A taltwt
  unfolding taltwt
  lawful-taltwt s = law (λ w. (lawful-w_index_word _ _ _).at w then lawful-r_index_word _ _ _ then lawful-taltwt_state s)

  pub lawful-enbt_first : Law A enbt_first
  unfolding enbt_first
  lawful-enbt_first = law (λ w. (lawful-w_index_word _ _ _).at w then lawful-w_index_word _ _ _)

  pub lawful-enbt_earlier : (time : ℕ) → Law A (λ mem. enbt_earlier mem time)
  unfolding enbt_earlier
  lawful-enbt_earlier time = law (λ w. lawful-pick (later time (reg breg w)) ((lawful-w_index_word _ _ _).at w) unchanged)

  pub lawful-enbt_link : A stop → (link : ℕ) → Law A (λ mem. enbt_link mem link)
  unfolding enbt_link
  lawful-enbt_link s link = law (λ w. lawful_eq _ _ (lawful-enbt_first.at w) (lawful_eq _ _ ((lawful_read _ lawful-enbt_earlier).at w) ((lawful-stop s).at w)))

  pub lawful-enbt_guard : A stop → Law A enbt_guard
  unfolding enbt_guard
  lawful-enbt_guard s = law (λ w. lawful_eq _ _ unchanged ((lawful_read _ (lawful-enbt_link s)).at w))

  pub lawful-enbt : A stop → Law A enbt
  unfolding enbt
  lawful-enbt s = law (λ w. (lawful-enbt_guard s).at w then lawful-drop_b)

  pub lawful-dist_ready : (time : ℕ) → Law A (λ mem. dist_ready mem time)
  unfolding dist_ready
  lawful-dist_ready time = law (λ w. lawful-pick (later time (reg creg w)) (lawful-is_this_selected_process.at w) ((lawful-put _ _).at w))

  pub lawful-dist_set : A stop → (link : ℕ) → Law A (λ mem. dist_set mem link)
  unfolding dist_set
  lawful-dist_set s link = law (λ w. lawful_eq _ _ ((lawful_read _ lawful-dist_ready).at w) ((lawful-delete_first_step s).at w then lawful-put _ _))

  pub lawful-dist_link : A stop → (link : ℕ) → Law A (λ mem. dist_link mem link)
  unfolding dist_link
  lawful-dist_link s link = law (λ w. lawful_eq _ _ ((lawful-put _ _).at w) ((lawful-dist_set s _).at w))

  pub lawful-dist : A stop → Law A dist
  unfolding dist
  lawful-dist s = law (λ w. lawful_eq _ _ ((lawful-put _ _).at w) ((lawful_read _ (lawful-dist_link s)).at w))
