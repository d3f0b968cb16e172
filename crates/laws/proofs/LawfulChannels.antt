-- Every definition of Channels.antt (channels and alternatives) is lawful.
use Prim.Native.Nat.{ℕ}
use Rattle.rules.specs.Words.{at_word, index}
use Rattle.rules.specs.Registers.{areg}
use Rattle.rules.specs.Work.{reg, put, stop, w_index_word}
use Rattle.rules.specs.Scheduling.{not_process}
use Rattle.rules.specs.Channels.{start_transfer, input_regs, run_content, handle_run_request, ready_waiting, ready_status, ready_content, handle_ready_request, handle_channel_request, hard_start, hard_output, meet_held, hard_input_held, hard_input_start, hard_input, save_regs_pending_soft_io, soft_wait, move_message, input_ready, soft_input, input, output_message, output_enabling, output_waiting, output_to, output_ready, soft_output, output, output_local, outword, outbyte, reset_hard, resetch, alt, altwt_state, altwt, state_ready, enbs, diss_guard, diss, claim_channel, enbc_soft, enbc_hard, enbc_channel, enbc_guard, enbc, disclaim, disc_soft, disc_answer, disc_hard, disc_channel, disc}
use Rattle.laws.proofs.Lawful.{Law, law, ◌then◌, unchanged, lawful_eq, lawful-goto_snp, lawful-lower, lawful_lt, lawful-put, lawful-raise, lawful_read, lawful-r_index_word, lawful-stop, lawful-transfer, lawful-w_index_word}
use Rattle.laws.proofs.LawfulScheduling.{lawful-run, lawful-save_iptr, lawful-wait}
use Rattle.laws.proofs.LawfulData.{lawful-move_done}
use Rattle.laws.proofs.LawfulTimers.{lawful-drop_b, lawful-is_this_selected_process}
use Rattle.laws.proofs.LawfulLinks.{lawful-event_meets, lawful-receive}

module _ {A : ℕ → Type 0} where
  pub lawful-start_transfer : (c : ℕ) → Law A (λ mem. start_transfer c)
  unfolding start_transfer
  lawful-start_transfer c = law (λ w. (lawful-put _ _).at w then lawful-put _ _ then lawful-raise _ _)

  pub lawful-input_regs : (source_ptr : ℕ) → Law A (λ mem. input_regs source_ptr)
  unfolding input_regs
  lawful-input_regs source_ptr = law (λ w. (lawful-put _ _).at w then lawful-put _ _)

  pub lawful-run_content : (hc content : ℕ) → Law A (λ mem. run_content mem hc content)
  unfolding run_content
  lawful-run_content hc content = law (λ w. lawful_eq _ _ unchanged ((lawful-w_index_word _ _ _).at w then lawful-run _))

  pub lawful-handle_run_request : (hc : ℕ) → Law A (λ mem. handle_run_request mem hc)
  unfolding handle_run_request
  lawful-handle_run_request hc = law (λ w. (lawful_read _ (lawful-run_content _)).at w)

  pub lawful-ready_waiting : (content : ℕ) → Law A (λ mem. ready_waiting mem content)
  unfolding ready_waiting
  lawful-ready_waiting content = law (λ w. (lawful-w_index_word _ _ _).at w then lawful-run _)

  pub lawful-ready_status : A stop → (content status : ℕ) → Law A (λ mem. ready_status mem content status)
  unfolding ready_status
  lawful-ready_status s content status = law (λ w. lawful_eq _ _ ((lawful-w_index_word _ _ _).at w) (lawful_eq _ _ unchanged (lawful_eq _ _ ((lawful-ready_waiting _).at w) ((lawful-stop s).at w))))

  pub lawful-ready_content : A stop → (content : ℕ) → Law A (λ mem. ready_content mem content)
  unfolding ready_content
  lawful-ready_content s content = law (λ w. (lawful_read _ (lawful-ready_status s _)).at w)

  pub lawful-handle_ready_request : A stop → (hc : ℕ) → Law A (λ mem. handle_ready_request mem hc)
  unfolding handle_ready_request
  lawful-handle_ready_request s hc = law (λ w. (lawful_read _ (lawful-ready_content s)).at w)

  pub lawful-handle_channel_request : A stop → (hc : ℕ) → Law A (λ mem. handle_channel_request mem hc)
  unfolding handle_channel_request
  lawful-handle_channel_request s hc = law (λ w. lawful_eq _ _ ((lawful-lower _ _).at w then lawful-handle_ready_request s _) ((lawful-lower _ _).at w then lawful-handle_run_request _))

  pub lawful-hard_start : (c : ℕ) → Law A (λ mem. hard_start mem c)
  unfolding hard_start
  lawful-hard_start c = law (λ w. (lawful-w_index_word _ _ _).at w then lawful-save_iptr then lawful-start_transfer _)

  pub lawful-hard_output : (c : ℕ) → Law A (λ mem. hard_output mem c)
  unfolding hard_output
  lawful-hard_output c = law (λ w. lawful_eq _ _ unchanged ((lawful-hard_start _).at w then lawful-goto_snp))

  pub lawful-meet_held : (c : ℕ) → Law A (λ mem. meet_held mem c)
  unfolding meet_held
  lawful-meet_held c = law (λ w. lawful_eq _ _ (lawful-event_meets.at w) ((lawful-receive _ _).at w))

  pub lawful-hard_input_held : (c : ℕ) → Law A (λ mem. hard_input_held mem c)
  unfolding hard_input_held
  lawful-hard_input_held c = law (λ w. (lawful-hard_start _).at w then lawful-lower _ _ then lawful-meet_held _ then lawful-goto_snp)

  pub lawful-hard_input_start : (c : ℕ) → Law A (λ mem. hard_input_start mem c)
  unfolding hard_input_start
  lawful-hard_input_start c = law (λ w. lawful_lt _ _ ((lawful-hard_start _).at w then lawful-goto_snp) (lawful_eq _ _ ((lawful-hard_start _).at w then lawful-goto_snp) ((lawful-hard_input_held _).at w)))

  pub lawful-hard_input : (c : ℕ) → Law A (λ mem. hard_input mem c)
  unfolding hard_input
  lawful-hard_input c = law (λ w. lawful_eq _ _ unchanged ((lawful-hard_input_start _).at w))

  pub lawful-save_regs_pending_soft_io : Law A save_regs_pending_soft_io
  unfolding save_regs_pending_soft_io
  lawful-save_regs_pending_soft_io = law (λ w. (lawful-w_index_word _ _ _).at w then lawful-save_iptr then lawful-w_index_word _ _ _)

  pub lawful-soft_wait : Law A soft_wait
  unfolding soft_wait
  lawful-soft_wait = law (λ w. lawful-save_regs_pending_soft_io.at w then lawful-goto_snp)

  pub lawful-move_message : (proc_desc : ℕ) → Law A (λ mem. move_message mem proc_desc)
  unfolding move_message
  lawful-move_message proc_desc = law (λ w. (lawful-transfer _ _ _).at w then lawful-move_done _ then lawful-run _)

  pub lawful-input_ready : (proc_desc : ℕ) → Law A (λ mem. input_ready mem proc_desc)
  unfolding input_ready
  lawful-input_ready proc_desc = law (λ w. (lawful_read _ lawful-input_regs).at w then lawful-move_message _)

  pub lawful-soft_input : (proc_desc : ℕ) → Law A (λ mem. soft_input mem proc_desc)
  unfolding soft_input
  lawful-soft_input proc_desc = law (λ w. lawful_eq _ _ (lawful-soft_wait.at w) ((lawful-w_index_word _ _ _).at w then lawful-input_ready _))

  pub lawful-input : Law A input
  unfolding input
  lawful-input = law (λ w. lawful_lt _ _ ((lawful-hard_input _).at w) ((lawful_read _ lawful-soft_input).at w))

  pub lawful-output_message : (proc_desc dest_ptr : ℕ) → Law A (λ mem. output_message mem proc_desc dest_ptr)
  unfolding output_message
  lawful-output_message proc_desc dest_ptr = law (λ w. (lawful-w_index_word _ _ _).at w then lawful-put _ _ then lawful-move_message _)

  pub lawful-output_enabling : (proc_desc : ℕ) → Law A (λ mem. output_enabling mem proc_desc)
  unfolding output_enabling
  lawful-output_enabling proc_desc = law (λ w. (lawful-w_index_word _ _ _).at w then lawful-soft_wait)

  pub lawful-output_waiting : (proc_desc : ℕ) → Law A (λ mem. output_waiting mem proc_desc)
  unfolding output_waiting
  lawful-output_waiting proc_desc = law (λ w. (lawful-output_enabling _).at w then lawful-run _)

  pub lawful-output_to : (proc_desc dest_ptr : ℕ) → Law A (λ mem. output_to mem proc_desc dest_ptr)
  unfolding output_to
  lawful-output_to proc_desc dest_ptr = law (λ w. lawful_eq _ _ ((lawful-output_enabling _).at w) (lawful_eq _ _ ((lawful-output_waiting _).at w) (lawful_eq _ _ (lawful-soft_wait.at w) ((lawful-output_message _ _).at w))))

  pub lawful-output_ready : (proc_desc : ℕ) → Law A (λ mem. output_ready mem proc_desc)
  unfolding output_ready
  lawful-output_ready proc_desc = law (λ w. (lawful_read _ (lawful-output_to _)).at w)

  pub lawful-soft_output : (proc_desc : ℕ) → Law A (λ mem. soft_output mem proc_desc)
  unfolding soft_output
  lawful-soft_output proc_desc = law (λ w. lawful_eq _ _ (lawful-soft_wait.at w) ((lawful-output_ready _).at w))

  pub lawful-output : Law A output
  unfolding output
  lawful-output = law (λ w. lawful_lt _ _ ((lawful-hard_output _).at w) ((lawful_read _ lawful-soft_output).at w))

  pub lawful-output_local : (count : ℕ) → Law A (λ mem. output_local mem count)
  unfolding output_local
  lawful-output_local count = law (λ w. (lawful-w_index_word _ _ _).at w then lawful-put _ _ then lawful-put _ _ then lawful-output)

  pub lawful-outword : Law A outword
  lawful-outword = law (λ w. (lawful-output_local _).at w)

  pub lawful-outbyte : Law A outbyte
  lawful-outbyte = law (λ w. (lawful-output_local _).at w)

  pub lawful-reset_hard : (c : ℕ) → Law A (λ mem. reset_hard mem c)
  unfolding reset_hard
  lawful-reset_hard c = law (λ w. lawful_lt _ _ ((lawful-lower _ _).at w) unchanged)

  pub lawful-resetch : Law A resetch
  unfolding resetch
  lawful-resetch =
      law (λ w.
      (lawful_read (at_word (reg areg w) 0)
      {next = λ mem content after. put areg content (reset_hard mem (index (reg areg w)) (w_index_word mem (reg areg w) 0 not_process after))}
      (λ content. law (λ after. (lawful-w_index_word (reg areg w) 0 not_process).at after then lawful-reset_hard (index (reg areg w)) then lawful-put areg content))).at w)

  pub lawful-alt : Law A alt
  unfolding alt
  lawful-alt = law (λ w. (lawful-w_index_word _ _ _).at w)

  pub lawful-altwt_state : Law A altwt_state
  unfolding altwt_state
  lawful-altwt_state = law (λ w. lawful_eq _ _ unchanged (lawful-wait.at w))

  pub lawful-altwt : Law A altwt
  unfolding altwt
  lawful-altwt = law (λ w. (lawful-w_index_word _ _ _).at w then lawful-r_index_word _ _ _ then lawful-altwt_state)

  pub lawful-state_ready : Law A state_ready
  unfolding state_ready
  lawful-state_ready = law (λ w. (lawful-w_index_word _ _ _).at w)

  pub lawful-enbs : Law A enbs
  unfolding enbs
  lawful-enbs = law (λ w. lawful_eq _ _ unchanged (lawful-state_ready.at w))

  pub lawful-diss_guard : Law A diss_guard
  unfolding diss_guard
  lawful-diss_guard = law (λ w. lawful_eq _ _ ((lawful-put _ _).at w) (lawful-is_this_selected_process.at w))

  pub lawful-diss : Law A diss
  unfolding diss
  lawful-diss = law (λ w. lawful-diss_guard.at w then lawful-drop_b)

  pub lawful-claim_channel : Law A claim_channel
  unfolding claim_channel
  lawful-claim_channel = law (λ w. (lawful-w_index_word _ _ _).at w)

  pub lawful-enbc_soft : (content : ℕ) → Law A (λ mem. enbc_soft mem content)
  unfolding enbc_soft
  lawful-enbc_soft content = law (λ w. lawful_eq _ _ (lawful-claim_channel.at w) (lawful_eq _ _ unchanged (lawful-state_ready.at w)))

  pub lawful-enbc_hard : (c : ℕ) → Law A (λ mem. enbc_hard mem c)
  unfolding enbc_hard
  lawful-enbc_hard c = law (λ w. lawful_eq _ _ ((lawful-raise _ _).at w then lawful-claim_channel) (lawful-state_ready.at w))

  pub lawful-enbc_channel : Law A enbc_channel
  unfolding enbc_channel
  lawful-enbc_channel = law (λ w. lawful_lt _ _ ((lawful-enbc_hard _).at w) ((lawful_read _ lawful-enbc_soft).at w))

  pub lawful-enbc_guard : Law A enbc_guard
  unfolding enbc_guard
  lawful-enbc_guard = law (λ w. lawful_eq _ _ unchanged (lawful-enbc_channel.at w))

  pub lawful-enbc : Law A enbc
  unfolding enbc
  lawful-enbc = law (λ w. lawful-enbc_guard.at w then lawful-drop_b)

  pub lawful-disclaim : Law A disclaim
  unfolding disclaim
  lawful-disclaim = law (λ w. (lawful-w_index_word _ _ _).at w then lawful-put _ _)

  pub lawful-disc_soft : Law A disc_soft
  unfolding disc_soft
  lawful-disc_soft = law (λ w. lawful_eq _ _ ((lawful-put _ _).at w) (lawful_eq _ _ (lawful-disclaim.at w) (lawful-is_this_selected_process.at w)))

  pub lawful-disc_answer : (c : ℕ) → Law A (λ mem. disc_answer mem c)
  unfolding disc_answer
  lawful-disc_answer c = law (λ w. lawful_eq _ _ ((lawful-put _ _).at w) (lawful-is_this_selected_process.at w))

  pub lawful-disc_hard : (c : ℕ) → Law A (λ mem. disc_hard mem c)
  unfolding disc_hard
  lawful-disc_hard c = law (λ w. (lawful-w_index_word _ _ _).at w then lawful-lower _ _ then lawful-disc_answer _)

  pub lawful-disc_channel : Law A disc_channel
  unfolding disc_channel
  lawful-disc_channel = law (λ w. lawful_lt _ _ ((lawful-disc_hard _).at w) ((lawful-r_index_word _ _ _).at w then lawful-disc_soft))

  pub lawful-disc : Law A disc
  unfolding disc
  lawful-disc = law (λ w. lawful_eq _ _ ((lawful-put _ _).at w) (lawful-disc_channel.at w))
