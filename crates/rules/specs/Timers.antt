-- Timer queues (000 1.8, 1.10, 1.11). Insertion and deletion are done in one step (01, One step). A walk passes at most N + 1 pointer
-- values before a value comes again, so a budget of N + 2 turns runs out exactly in a ring (DECISIONS 27; proved in the crate `laws`).
use Rattle.std.specs.Prelude.{ℕ, zero, suc, ◌+◌, Bool, false, not, List, length}
use Rattle.std.specs.Int.Bits.{bit_or}
use Rattle.rules.specs.Tests.{pick, if_eq, if_set}
use Rattle.rules.specs.Words.{wrap_add, at_word, later}
use Rattle.rules.specs.Registers.{areg, breg, creg, clock_reg, tnext_reg, flags_reg, t_enabled}
use Rattle.rules.specs.Work.{Work, reg, put, raise, lower, wptr, priority, goto_snp, stop, refuse, read_word, r_index_word, w_index_word}
use Rattle.rules.specs.Scheduling.{not_process, enabling, waiting, ready, time_set, time_not_set, none_selected, timer_base, state_s, pointer_s, tlink_s, time_s, save_iptr, run, wait}

-- a timer is enabled, and NOT (TNextReg AFTER ClockReg) (000 1.8; DECISIONS 16)
unfoldable pub timer_due : ℕ → Work → Bool
timer_due queue w =
    if_set (t_enabled queue) (reg flags_reg w) (not (later (reg (tnext_reg queue) w) (reg (clock_reg queue) w))) false

-- a timer is ready by 000; timer 1 only at low priority (01, One step (b); DECISIONS 16)
unfoldable pub timer_ready : ℕ → Work → Bool
timer_ready queue w = if_eq queue 0 (timer_due 0 w) (if_eq (priority w) 0 false (timer_due 1 w))

-- Areg := Areg + 1; RestoreToRange (Areg) (000 1.11, timer input and timer alt wait)
unfoldable pub next_time : Work → Work
next_time w = put areg (wrap_add (reg areg w) 1) w

-- Breg := Creg (000 1.11, disable skip, enable channel and enable timer)
unfoldable pub drop_b : Work → Work
drop_b w = put breg (reg creg w) w

-- the address of the word TPtrLoc[queue] (01, Memory and registers; DECISIONS 40)
abbrev pub tptr_loc : ℕ → ℕ
tptr_loc queue = at_word timer_base queue

module _ (m : List ℕ) where
  -- TNextReg[queue] := the time of a process; TEnabled[queue] := TRUE (000 1.8, HandleTimerRequest; 1.10, InsertFinalStep)
  unfoldable pub set_next : ℕ → ℕ → Work → Work
  set_next queue process w = raise flags_reg (t_enabled queue) (r_index_word m process time_s (tnext_reg queue) w)

  -- ---- PROC HandleTimerRequest (QueueId)

  -- status = Waiting.p (000 1.8, HandleTimerRequest)
  unfoldable pub timed_out : ℕ → ℕ → Work → Work
  timed_out queue front w = run m (bit_or front queue) (w_index_word m front pointer_s ready w)

  -- the IF on status (000 1.8, HandleTimerRequest); any other value is a Stop (DECISIONS 26)
  unfoldable pub timer_status : ℕ → ℕ → ℕ → Work → Work
  timer_status queue front status w =
      if_eq status ready w (if_eq status waiting (timed_out queue front w) (refuse stop w))

  -- status is read at the front process's Pointer.s (000 1.8)
  unfoldable pub timer_wake : ℕ → ℕ → Work → Work
  timer_wake queue front w =
      read_word m (at_word front pointer_s) (timer_status queue front) w

  -- the IF on secondProcess (000 1.8, HandleTimerRequest)
  unfoldable pub timer_next : ℕ → ℕ → Work → Work
  timer_next queue second w = if_eq second not_process w (set_next queue second w)

  -- the front process leaves the queue (000 1.8)
  unfoldable pub timer_unlink : ℕ → ℕ → ℕ → Work → Work
  timer_unlink queue front second w =
      timer_next queue second (w_index_word m timer_base queue second (w_index_word m front tlink_s time_set w))

  -- the front process is unlinked first, then woken (000 1.8; DECISIONS 41)
  unfoldable pub timer_front : ℕ → ℕ → Work → Work
  timer_front queue front w =
      timer_wake queue front (read_word m (at_word front tlink_s) (timer_unlink queue front) w)

  -- frontProcess is read at TPtrLoc (000 1.8)
  unfoldable pub timer_serve : ℕ → Work → Work
  timer_serve queue w = read_word m (tptr_loc queue) (timer_front queue) w

  -- PROC HandleTimerRequest (000 1.8)
  unfoldable pub handle_timer_request : ℕ → Work → Work
  handle_timer_request queue w = timer_serve queue (lower flags_reg (t_enabled queue) w)

  -- ---- insertion: Areg is the time, Breg previous, Creg subsequent

  -- the earliest time into TNextReg, then GotoSNPBit (000 1.10, InsertFinalStep)
  unfoldable pub insert_next : Work → Work
  insert_next w = goto_snp (set_next (priority w) (reg breg w) w)

  -- enqueue new timer process (000 1.10, InsertFinalStep)
  unfoldable pub insert_link : ℕ → ℕ → Work → Work
  insert_link previous subsequent w =
      save_iptr m (w_index_word m (wptr w) tlink_s subsequent (w_index_word m previous 0 (wptr w) w))

  -- PROC InsertFinalStep (000 1.10); Breg and Creg as DECISIONS 15 says
  unfoldable pub insert_final_step : ℕ → ℕ → Work → Work
  insert_final_step previous subsequent w =
      insert_next (r_index_word m timer_base (priority w) breg (put creg subsequent (insert_link previous subsequent w)))

  -- PROC InsertTest and InsertMiddleStep, until the place is found; a budget used up is Stop (000 1.10; DECISIONS 46)
  unfoldable pub insert_walk : ℕ → ℕ → ℕ → Work → Work
  insert_walk zero time previous w = refuse stop w
  insert_walk (suc turns) time previous w =
      read_word m previous
      (λ subsequent here.
      if_eq subsequent not_process (insert_final_step previous subsequent here)
      (read_word m (at_word subsequent time_s)
      (λ its there.
      pick (later time its) (insert_walk turns time (at_word subsequent tlink_s) there)
      (insert_final_step previous subsequent there))
      here))
      w

  -- PROC InsertFirstStep (000 1.10); the budget is N + 2 (DECISIONS 46)
  unfoldable pub insert_first_step : Work → Work
  insert_first_step w =
      insert_walk (length m + 2) (reg areg w) (tptr_loc (priority w))
      (w_index_word m (wptr w) time_s (reg areg w) (w_index_word m (wptr w) state_s waiting w))

  -- ---- deletion: Breg is previous, Creg subsequent

  -- the IF on previous (000 1.10, DeleteFinalStep)
  unfoldable pub delete_next : Work → Work
  delete_next w = if_eq (reg breg w) not_process w (set_next (priority w) (reg breg w) w)

  -- delete the current process from the timer queue (000 1.10, DeleteFinalStep)
  unfoldable pub delete_link : ℕ → Work → Work
  delete_link previous w =
      w_index_word m (wptr w) tlink_s time_not_set (w_index_word m previous 0 (reg creg w) w)

  -- PROC DeleteFinalStep (000 1.10); Breg and Creg as DECISIONS 15 says
  unfoldable pub delete_final_step : ℕ → Work → Work
  delete_final_step previous w =
      delete_next
      (r_index_word m timer_base (priority w) breg (delete_link previous (r_index_word m (wptr w) tlink_s creg w)))

  -- PROC DeleteTest and DeleteMiddleStep, until the process is found; a budget used up is Stop (000 1.10; DECISIONS 46)
  unfoldable pub delete_walk : ℕ → ℕ → Work → Work
  delete_walk zero previous w = refuse stop w
  delete_walk (suc turns) previous w =
      read_word m previous
      (λ subsequent here.
      if_eq subsequent (wptr w) (delete_final_step previous here) (delete_walk turns (at_word subsequent tlink_s) here))
      w

  -- PROC DeleteFirstStep (000 1.10); the budget is N + 2 (DECISIONS 46)
  unfoldable pub delete_first_step : Work → Work
  delete_first_step w =
      delete_walk (length m + 2) (tptr_loc (priority w)) (lower flags_reg (t_enabled (priority w)) w)

  -- ---- PROC IsThisSelectedProcess

  -- the IF on disableStatus (000 1.10, IsThisSelectedProcess; DECISIONS 11)
  unfoldable pub select_first : ℕ → Work → Work
  select_first status w = if_eq status none_selected (put areg 1 (w_index_word m (wptr w) 0 (reg areg w) w)) (put areg 0 w)

  -- PROC IsThisSelectedProcess (000 1.10)
  unfoldable pub is_this_selected_process : Work → Work
  is_this_selected_process w =
      read_word m (at_word (wptr w) 0) select_first w

  -- ---- operations

  -- timer input (000 1.11)
  unfoldable pub tin : Work → Work
  tin w = pick (later (reg (clock_reg (priority w)) w) (reg areg w)) w (insert_first_step (next_time w))

  -- timer alt start (000 1.11)
  unfoldable pub talt : Work → Work
  talt w = w_index_word m (wptr w) state_s enabling (w_index_word m (wptr w) tlink_s time_not_set w)

  -- WIndexWord (Wptr, Time.s, ClockReg[Priority]) (000 1.11, timer alt wait)
  unfoldable pub time_now : Work → Work
  time_now w = w_index_word m (wptr w) time_s (reg (clock_reg (priority w)) w) w

  -- Breg = TimeSet.p: the IF on laterFlag (000 1.11, timer alt wait)
  unfoldable pub taltwt_time : Work → Work
  taltwt_time w =
      pick (later (reg (clock_reg (priority w)) w) (reg areg w))
      (time_now (w_index_word m (wptr w) state_s ready w))
      (insert_first_step (next_time w))

  -- the IF on Breg (000 1.11, timer alt wait); any word but TimeNotSet.p and TimeSet.p is a Stop (DECISIONS 26)
  unfoldable pub taltwt_link : Work → Work
  taltwt_link w =
      if_eq (reg breg w) time_not_set (wait m w)
      (if_eq (reg breg w) time_set (taltwt_time (r_index_word m (wptr w) time_s areg w)) (refuse stop w))

  -- the IF on Creg (000 1.11, timer alt wait)
  unfoldable pub taltwt_state : Work → Work
  taltwt_state w =
      if_eq (reg creg w) ready (time_now w) (taltwt_link (r_index_word m (wptr w) tlink_s breg w))

  -- timer alt wait (000 1.11): Creg is the state, then Breg the TLink, then Areg the time (DECISIONS 10)
  unfoldable pub taltwt : Work → Work
  taltwt w = taltwt_state (r_index_word m (wptr w) state_s creg (w_index_word m (wptr w) 0 none_selected w))

  -- temp = TimeNotSet.p: the first timer guard (000 1.11, enable timer)
  unfoldable pub enbt_first : Work → Work
  enbt_first w = w_index_word m (wptr w) time_s (reg breg w) (w_index_word m (wptr w) tlink_s time_set w)

  -- update earliest time if this guard is earlier (000 1.11, enable timer)
  unfoldable pub enbt_earlier : ℕ → Work → Work
  enbt_earlier time w = pick (later time (reg breg w)) (w_index_word m (wptr w) time_s (reg breg w) w) w

  -- the IF on temp (000 1.11, enable timer); any word but TimeNotSet.p and TimeSet.p is a Stop (DECISIONS 26)
  unfoldable pub enbt_link : ℕ → Work → Work
  enbt_link link w =
      if_eq link time_not_set (enbt_first w)
      (if_eq link time_set
      (read_word m (at_word (wptr w) time_s) enbt_earlier w)
      (refuse stop w))

  -- the IF on Areg (000 1.11, enable timer)
  unfoldable pub enbt_guard : Work → Work
  enbt_guard w =
      if_eq (reg areg w) 0 w
      (read_word m (at_word (wptr w) tlink_s) enbt_link w)

  -- enable timer (000 1.11)
  unfoldable pub enbt : Work → Work
  enbt w = drop_b (enbt_guard w)

  -- the IF on laterFlag (000 1.11, disable timer)
  unfoldable pub dist_ready : ℕ → Work → Work
  dist_ready time w = pick (later time (reg creg w)) (is_this_selected_process w) (put areg 0 w)

  -- Oreg = TimeSet.p, or removed from the queue (000 1.11, disable timer)
  unfoldable pub dist_set : ℕ → Work → Work
  dist_set link w =
      if_eq link time_set
      (read_word m (at_word (wptr w) time_s) dist_ready w)
      (put areg 0 (delete_first_step w))

  -- the IF on Oreg (000 1.11, disable timer)
  unfoldable pub dist_link : ℕ → Work → Work
  dist_link link w = if_eq link time_not_set (put areg 0 w) (dist_set link w)

  -- disable timer (000 1.11); 000 loads into Oreg, which the step sets to 0
  unfoldable pub dist : Work → Work
  dist w =
      if_eq (reg breg w) 0 (put areg 0 w)
      (read_word m (at_word (wptr w) tlink_s) dist_link w)
