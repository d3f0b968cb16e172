-- Every definition of Scheduling.antt (scheduling procedures) is lawful.
use Prim.Native.Nat.{ℕ}
use Rattle.rules.specs.Work.{reg}
use Rattle.rules.specs.Scheduling.{set_idle, clear_idle, start_slice, resumed, mask_status, add_to_c, link_behind, enqueue, unlink_front, dequeue, activate_process, save, save_rest, save_ereg, save_registers, restore, restore_rest, restore_registers, interrupt, run_low, run_over_low, run, start_queued, start_low, resume_or_start, next_high, next_low, next_process, start_next_process, act_on_snp, save_iptr, stopp, wait, slice_out, slice_if_long, slice_if_running, time_slice, j, startp, end_last, end_one, end_counted, endp, runp, stoperr, loop_back, count_up, loop_on, count_down, store_count, lend}
use Rattle.rules.specs.Words.{positive}
use Rattle.rules.specs.Registers.{creg}
use Rattle.laws.proofs.Lawful.{Law, law, ◌then◌, unchanged, lawful-pick, lawful_le, lawful_eq, lawful-put, lawful-raise, lawful-lower, lawful-goto_snp, lawful_read, lawful-r_index_word, lawful-w_index_word}

module _ {A : ℕ → Type 0} where
  pub lawful-set_idle : Law A (λ mem. set_idle)
  unfolding set_idle
  lawful-set_idle = law (λ w. (lawful-raise _ _).at w)

  pub lawful-clear_idle : Law A (λ mem. clear_idle)
  unfolding clear_idle
  lawful-clear_idle = law (λ w. (lawful-lower _ _).at w)

  pub lawful-start_slice : (level : ℕ) → Law A (λ mem. start_slice level)
  unfolding start_slice
  lawful-start_slice level = law (λ w. lawful_eq _ _ unchanged ((lawful-put _ _).at w))

  pub lawful-resumed : Law A (λ mem. resumed)
  unfolding resumed
  lawful-resumed = law (λ w. lawful_eq _ _ unchanged (lawful-clear_idle.at w))

  pub lawful-mask_status : Law A (λ mem. mask_status)
  unfolding mask_status
  lawful-mask_status = law (λ w. (lawful-put _ _).at w)

  pub lawful-add_to_c : (n : ℕ) → Law A (λ mem. add_to_c n)
  unfolding add_to_c
  lawful-add_to_c n = law (λ w. (lawful-put _ _).at w)

  pub lawful-link_behind : (proc_ptr fptr bptr : ℕ) → Law A (λ mem. link_behind mem proc_ptr fptr bptr)
  unfolding link_behind
  lawful-link_behind proc_ptr fptr bptr = law (λ w. lawful_eq _ _ ((lawful-put _ _).at w) ((lawful-w_index_word _ _ _).at w))

  pub lawful-enqueue : (proc_ptr fptr bptr : ℕ) → Law A (λ mem. enqueue mem proc_ptr fptr bptr)
  unfolding enqueue
  lawful-enqueue proc_ptr fptr bptr = law (λ w. (lawful-link_behind _ _ _).at w then lawful-put _ _)

  pub lawful-unlink_front : (level : ℕ) → Law A (λ mem. unlink_front mem level)
  unfolding unlink_front
  lawful-unlink_front level = law (λ w. lawful_eq _ _ ((lawful-put _ _).at w) ((lawful-r_index_word _ _ _).at w))

  pub lawful-dequeue : (level : ℕ) → Law A (λ mem. dequeue mem level)
  unfolding dequeue
  lawful-dequeue level = law (λ w. (lawful-put _ _).at w then lawful-start_slice _ then lawful-unlink_front _)

  pub lawful-activate_process : Law A activate_process
  unfolding activate_process
  lawful-activate_process = law (λ w. lawful-clear_idle.at w then lawful-put _ _ then lawful-r_index_word _ _ _)

  pub lawful-save : (place k : ℕ) → Law A (λ mem. save mem place k)
  unfolding save
  lawful-save place k = law (λ w. (lawful-w_index_word _ _ _).at w)

  pub lawful-save_rest : Law A save_rest
  unfolding save_rest
  lawful-save_rest = law (λ w. lawful_eq _ _ unchanged ((lawful-save _ _).at w then lawful-save _ _ then lawful-save _ _ then lawful-save _ _ then lawful-save _ _))

  pub lawful-save_ereg : (status : ℕ) → Law A (λ mem. save_ereg mem status)
  unfolding save_ereg
  lawful-save_ereg status = law (λ w. lawful_eq _ _ unchanged ((lawful-w_index_word _ _ _).at w))

  pub lawful-save_registers : (status : ℕ) → Law A (λ mem. save_registers mem status)
  unfolding save_registers
  lawful-save_registers status = law (λ w. (lawful-save _ _).at w then lawful-save_rest then lawful-save_ereg _)

  pub lawful-restore : (place k : ℕ) → Law A (λ mem. restore mem place k)
  unfolding restore
  lawful-restore place k = law (λ w. (lawful-r_index_word _ _ _).at w)

  pub lawful-restore_rest : Law A restore_rest
  unfolding restore_rest
  lawful-restore_rest = law (λ w. lawful_eq _ _ unchanged ((lawful-restore _ _).at w then lawful-restore _ _ then lawful-restore _ _ then lawful-restore _ _ then lawful-restore _ _))

  pub lawful-restore_registers : Law A restore_registers
  unfolding restore_registers
  lawful-restore_registers = law (λ w. (lawful-restore _ _).at w then lawful-restore_rest then lawful-resumed)

  pub lawful-interrupt : (proc_desc : ℕ) → Law A (λ mem. interrupt mem proc_desc)
  unfolding interrupt
  lawful-interrupt proc_desc = law (λ w. (lawful-save_registers _).at w then lawful-put _ _ then lawful-mask_status then lawful-activate_process)

  pub lawful-run_low : (proc_desc : ℕ) → Law A (λ mem. run_low mem proc_desc)
  unfolding run_low
  lawful-run_low proc_desc = law (λ w. lawful_eq _ _ ((lawful-put _ _).at w then lawful-activate_process) ((lawful-enqueue _ _ _).at w))

  pub lawful-run_over_low : (proc_desc : ℕ) → Law A (λ mem. run_over_low mem proc_desc)
  unfolding run_over_low
  lawful-run_over_low proc_desc = law (λ w. lawful_eq _ _ ((lawful-interrupt _).at w) ((lawful-run_low _).at w))

  pub lawful-run : (proc_desc : ℕ) → Law A (λ mem. run mem proc_desc)
  unfolding run
  lawful-run proc_desc = law (λ w. lawful_eq _ _ ((lawful-enqueue _ _ _).at w) ((lawful-run_over_low _).at w))

  pub lawful-start_queued : (level : ℕ) → Law A (λ mem. start_queued mem level)
  unfolding start_queued
  lawful-start_queued level = law (λ w. (lawful-dequeue _).at w then lawful-activate_process)

  pub lawful-start_low : Law A start_low
  unfolding start_low
  lawful-start_low = law (λ w. lawful_eq _ _ (lawful-set_idle.at w) ((lawful-start_queued _).at w))

  pub lawful-resume_or_start : Law A resume_or_start
  unfolding resume_or_start
  lawful-resume_or_start = law (λ w. lawful_eq _ _ (lawful-start_low.at w) unchanged)

  pub lawful-next_high : Law A next_high
  unfolding next_high
  lawful-next_high = law (λ w. lawful_eq _ _ (lawful-restore_registers.at w then lawful-resume_or_start) ((lawful-start_queued _).at w))

  pub lawful-next_low : Law A next_low
  unfolding next_low
  lawful-next_low = law (λ w. lawful_eq _ _ ((lawful-put _ _).at w then lawful-set_idle) ((lawful-start_queued _).at w))

  pub lawful-next_process : Law A next_process
  unfolding next_process
  lawful-next_process = law (λ w. lawful_eq _ _ (lawful-next_high.at w) (lawful-next_low.at w))

  pub lawful-start_next_process : Law A start_next_process
  unfolding start_next_process
  lawful-start_next_process = law (λ w. (lawful-lower _ _).at w then lawful-next_process)

  pub lawful-act_on_snp : Law A act_on_snp
  unfolding act_on_snp
  lawful-act_on_snp = law (λ w. lawful_eq _ _ unchanged (lawful-start_next_process.at w))

  pub lawful-save_iptr : Law A save_iptr
  unfolding save_iptr
  lawful-save_iptr = law (λ w. (lawful-w_index_word _ _ _).at w)

  pub lawful-stopp : Law A stopp
  unfolding stopp
  lawful-stopp = law (λ w. lawful-save_iptr.at w then lawful-goto_snp)

  pub lawful-wait : Law A wait
  unfolding wait
  lawful-wait = law (λ w. (lawful-w_index_word _ _ _).at w then lawful-stopp)

  pub lawful-slice_out : Law A slice_out
  unfolding slice_out
  lawful-slice_out = law (λ w. lawful-save_iptr.at w then lawful-run _ then lawful-goto_snp)

  pub lawful-slice_if_long : Law A slice_if_long
  unfolding slice_if_long
  lawful-slice_if_long = law (λ w. lawful_le _ _ (lawful-slice_out.at w) unchanged)

  pub lawful-slice_if_running : Law A slice_if_running
  unfolding slice_if_running
  lawful-slice_if_running = law (λ w. lawful_eq _ _ unchanged (lawful-slice_if_long.at w))

  pub lawful-time_slice : Law A time_slice
  unfolding time_slice
  lawful-time_slice = law (λ w. lawful_eq _ _ unchanged (lawful-slice_if_running.at w))

  pub lawful-j : Law A j
  unfolding j
  lawful-j = law (λ w. (lawful-put _ _).at w then lawful-time_slice)

  pub lawful-startp : Law A startp
  unfolding startp
  lawful-startp = law (λ w. (lawful-w_index_word _ _ _).at w then lawful-run _)

  pub lawful-end_last : Law A end_last
  unfolding end_last
  lawful-end_last = law (λ w. (lawful-r_index_word _ _ _).at w then lawful-put _ _)

  pub lawful-end_one : (count : ℕ) → Law A (λ mem. end_one mem count)
  unfolding end_one
  lawful-end_one count = law (λ w. (lawful-w_index_word _ _ _).at w then lawful-goto_snp)

  pub lawful-end_counted : (count : ℕ) → Law A (λ mem. end_counted mem count)
  unfolding end_counted
  lawful-end_counted count = law (λ w. lawful_eq _ _ (lawful-end_last.at w) ((lawful-end_one _).at w))

  pub lawful-endp : Law A endp
  unfolding endp
  lawful-endp = law (λ w. (lawful_read _ lawful-end_counted).at w)

  pub lawful-runp : Law A runp
  unfolding runp
  lawful-runp = law (λ w. (lawful-run _).at w)

  pub lawful-stoperr : Law A stoperr
  unfolding stoperr
  lawful-stoperr = law (λ w. lawful_eq _ _ unchanged (lawful-stopp.at w))

  pub lawful-loop_back : Law A loop_back
  unfolding loop_back
  lawful-loop_back = law (λ w. (lawful-w_index_word _ _ _).at w then lawful-put _ _)

  pub lawful-count_up : Law A count_up
  unfolding count_up
  lawful-count_up = law (λ w. (lawful-r_index_word _ _ _).at w then lawful-add_to_c _)

  pub lawful-loop_on : Law A loop_on
  unfolding loop_on
  lawful-loop_on = law (λ w. lawful-pick (positive (reg creg w)) (lawful-count_up.at w then lawful-loop_back) unchanged)

  pub lawful-count_down : Law A count_down
  unfolding count_down
  lawful-count_down = law (λ w. (lawful-r_index_word _ _ _).at w then lawful-add_to_c _)

  pub lawful-store_count : Law A store_count
  unfolding store_count
  lawful-store_count = law (λ w. (lawful-w_index_word _ _ _).at w)

  pub lawful-lend : Law A lend
  unfolding lend
  lawful-lend = law (λ w. lawful-count_down.at w then lawful-store_count then lawful-loop_on then lawful-time_slice)
