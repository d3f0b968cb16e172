-- Channels, soft and hard (000 1.8, 1.10, 1.11; 01, Links, clocks, slice), and alternatives.
use Rattle.std.specs.Prelude.{ℕ, zero, suc, ◌+◌, List}
use Rattle.rules.specs.Tests.{if_lt, if_eq, if_set}
use Rattle.rules.specs.Words.{at_word, index, held_byte}
use Rattle.rules.specs.Core.{wptr_of}
use Rattle.rules.specs.Registers.{wdesc_reg, areg, breg, creg, pointer_reg, count_reg, channel_reg, active_bit, enabled_bit, held_bit, run_request, ready_request, link_chans, event_channel}
use Rattle.rules.specs.Work.{Work, reg, put, raise, lower, wptr, goto_snp, stop, refuse, read_word, r_index_word, w_index_word, transfer}
use Rattle.rules.specs.Scheduling.{not_process, enabling, waiting, ready, none_selected, port_base, state_s, pointer_s, save_iptr, run, wait}
use Rattle.rules.specs.Data.{move_done}
use Rattle.rules.specs.Timers.{drop_b, is_this_selected_process}
use Rattle.rules.specs.Links.{event_meets, receive}

-- ---- requests

-- the lowest channel with a run or a ready request, of the n channels from c on; 9 where there is none (01, One step (a))
unfoldable pub request_from : ℕ → ℕ → Work → ℕ
request_from c zero w = link_chans
request_from c (suc n) w =
    if_set (run_request + ready_request) (reg (channel_reg c) w) c (request_from (suc c) n w)

-- the lowest channel with a request (01, One step (a))
unfoldable pub requested : Work → ℕ
requested w = request_from 0 link_chans w

-- starting a transfer sets pointer, count and active; the other bits stay (DECISIONS 31)
unfoldable pub start_transfer : ℕ → Work → Work
start_transfer c w =
    raise (channel_reg c) active_bit (put (count_reg c) (reg areg w) (put (pointer_reg c) (reg creg w) w))

-- Breg := Creg; Creg := sourcePtr (000 1.10, Input; DECISIONS 14)
unfoldable pub input_regs : ℕ → Work → Work
input_regs source_ptr w = put creg source_ptr (put breg (reg creg w) w)

module _ (m : List ℕ) where
  -- ---- PROC HandleChannelRequest

  -- the IF on channelContent; NotProcess.p only clears the request (000 1.8, HandleChannelRequest; DECISIONS 34)
  unfoldable pub run_content : ℕ → ℕ → Work → Work
  run_content hc content w =
      if_eq content not_process w (run m content (w_index_word m port_base hc not_process w))

  -- Request = RunRequest (000 1.8)
  unfoldable pub handle_run_request : ℕ → Work → Work
  handle_run_request hc w = read_word m (at_word port_base hc) (run_content hc) w

  -- status = Waiting.p (000 1.8)
  unfoldable pub ready_waiting : ℕ → Work → Work
  ready_waiting content w = run m content (w_index_word m (wptr_of content) pointer_s ready w)

  -- the IF on status (000 1.8, HandleChannelRequest); any status but the three is a Stop (DECISIONS 26)
  unfoldable pub ready_status : ℕ → ℕ → Work → Work
  ready_status content status w =
      if_eq status enabling (w_index_word m (wptr_of content) pointer_s ready w)
      (if_eq status ready w (if_eq status waiting (ready_waiting content w) (refuse stop w)))

  -- status is read at the process's Pointer.s (000 1.8)
  unfoldable pub ready_content : ℕ → Work → Work
  ready_content content w =
      read_word m (at_word (wptr_of content) pointer_s) (ready_status content) w

  -- Request = ReadyRequest (000 1.8)
  unfoldable pub handle_ready_request : ℕ → Work → Work
  handle_ready_request hc w = read_word m (at_word port_base hc) ready_content w

  -- the run request is served before the ready request; the bit of the one that is served is cleared (01, One step)
  unfoldable pub handle_channel_request : ℕ → Work → Work
  handle_channel_request hc w =
      if_set run_request (reg (channel_reg hc) w) (handle_run_request hc (lower (channel_reg hc) run_request w))
      (handle_ready_request hc (lower (channel_reg hc) ready_request w))

  -- ---- hard channels

  -- PROC HardChannelInputOutputAction: the transfer is started (000 1.10; 01, Links, clocks, slice)
  unfoldable pub hard_start : ℕ → Work → Work
  hard_start c w = start_transfer c (save_iptr m (w_index_word m (reg breg w) 0 (reg wdesc_reg w) w))

  -- a count of 0 touches neither link nor channel word and the process goes on (DECISIONS 28)
  unfoldable pub hard_output : ℕ → Work → Work
  hard_output c w = if_eq (reg areg w) 0 w (goto_snp (hard_start c w))

  -- the transfer meets the byte or event held, as it would a give or an event (01, Links, clocks, slice; DECISIONS 29)
  unfoldable pub meet_held : ℕ → Work → Work
  meet_held c w = if_eq c event_channel (event_meets w) (receive m c (held_byte (reg (channel_reg c) w)) w)

  -- an `in` that finds a byte or an event held (01, Links, clocks, slice; DECISIONS 29)
  unfoldable pub hard_input_held : ℕ → Work → Work
  hard_input_held c w = goto_snp (meet_held c (lower (channel_reg c) held_bit (hard_start c w)))

  -- of the transfers only an `in` on channels 4 to 8 looks at the held bit (DECISIONS 29)
  unfoldable pub hard_input_start : ℕ → Work → Work
  hard_input_start c w =
      if_lt c 4 (goto_snp (hard_start c w))
      (if_set held_bit (reg (channel_reg c) w) (hard_input_held c w) (goto_snp (hard_start c w)))

  -- an `in` on a hard channel; a count of 0 does nothing (DECISIONS 28)
  unfoldable pub hard_input : ℕ → Work → Work
  hard_input c w = if_eq (reg areg w) 0 w (hard_input_start c w)

  -- ---- soft channels

  -- PROC SaveRegsPendingSoftIO (000 1.10)
  unfoldable pub save_regs_pending_soft_io : Work → Work
  save_regs_pending_soft_io w =
      w_index_word m (wptr w) pointer_s (reg creg w) (save_iptr m (w_index_word m (reg breg w) 0 (reg wdesc_reg w) w))

  -- not ready: wait (000 1.10, Input and Output)
  unfoldable pub soft_wait : Work → Work
  soft_wait w = goto_snp (save_regs_pending_soft_io w)

  -- the message is moved, then the partner runs (000 1.10, BlockMoveFinalStep); 000's parameters are references (DECISIONS 14)
  unfoldable pub move_message : ℕ → Work → Work
  move_message proc_desc w =
      run m proc_desc (move_done (reg areg w) (transfer m (reg creg w) (reg breg w) (reg areg w) w))

  -- ready, after the channel is reset: sourcePtr is read at the partner's Pointer.s (000 1.10, Input; DECISIONS 51)
  unfoldable pub input_ready : ℕ → Work → Work
  input_ready proc_desc w =
      move_message proc_desc (read_word m (at_word (wptr_of proc_desc) pointer_s) input_regs w)

  -- the IF on procDesc (000 1.10, Input)
  unfoldable pub soft_input : ℕ → Work → Work
  soft_input proc_desc w =
      if_eq proc_desc not_process (soft_wait w) (input_ready proc_desc (w_index_word m (reg breg w) 0 not_process w))

  -- PROC Input (000 1.10); also input message (000 1.11)
  unfoldable pub input : Work → Work
  input w =
      if_lt (index (reg breg w)) link_chans (hard_input (index (reg breg w)) w)
      (read_word m (at_word (reg breg w) 0) soft_input w)

  -- destPtr is a valid pointer: the channel is reset, the message moved (000 1.10, Output; DECISIONS 14)
  unfoldable pub output_message : ℕ → ℕ → Work → Work
  output_message proc_desc dest_ptr w =
      move_message proc_desc (put breg dest_ptr (w_index_word m (reg breg w) 0 not_process w))

  -- destPtr = Enabling.p: the scheduler's interlock for ALT (000 1.10, Output)
  unfoldable pub output_enabling : ℕ → Work → Work
  output_enabling proc_desc w = soft_wait (w_index_word m (wptr_of proc_desc) pointer_s ready w)

  -- destPtr = Waiting.p: the process runs last (000 1.10, Output)
  unfoldable pub output_waiting : ℕ → Work → Work
  output_waiting proc_desc w = run m proc_desc (output_enabling proc_desc w)

  -- the IF on destPtr (000 1.10, Output)
  unfoldable pub output_to : ℕ → ℕ → Work → Work
  output_to proc_desc dest_ptr w =
      if_eq dest_ptr enabling (output_enabling proc_desc w)
      (if_eq dest_ptr waiting (output_waiting proc_desc w)
      (if_eq dest_ptr ready (soft_wait w) (output_message proc_desc dest_ptr w)))

  -- destPtr is read at the partner's Pointer.s (000 1.10, Output)
  unfoldable pub output_ready : ℕ → Work → Work
  output_ready proc_desc w =
      read_word m (at_word (wptr_of proc_desc) pointer_s) (output_to proc_desc) w

  -- the IF on procDesc (000 1.10, Output)
  unfoldable pub soft_output : ℕ → Work → Work
  soft_output proc_desc w = if_eq proc_desc not_process (soft_wait w) (output_ready proc_desc w)

  -- PROC Output (000 1.10); also output message (000 1.11)
  unfoldable pub output : Work → Work
  output w =
      if_lt (index (reg breg w)) link_chans (hard_output (index (reg breg w)) w)
      (read_word m (at_word (reg breg w) 0) soft_output w)

  -- ---- operations

  -- output word and output byte, by their count (DECISIONS 42)
  unfoldable pub output_local : ℕ → Work → Work
  output_local count w = output (put creg (wptr w) (put areg count (w_index_word m (wptr w) 0 (reg areg w) w)))

  -- output word (000 1.11)
  abbrev pub outword : Work → Work
  outword w = output_local 4 w

  -- output byte (000 1.11)
  abbrev pub outbyte : Work → Work
  outbyte w = output_local 1 w

  -- reset channel: bits 0 to 4 of a hard channel's flags are cleared (01, Links, clocks, slice)
  unfoldable pub reset_hard : ℕ → Work → Work
  reset_hard c w = if_lt c link_chans (lower (channel_reg c) 0x1F w) w

  -- reset channel (000 1.11)
  unfoldable pub resetch : Work → Work
  resetch w =
      read_word m (at_word (reg areg w) 0)
      (λ content after. put areg content (reset_hard (index (reg areg w)) (w_index_word m (reg areg w) 0 not_process after)))
      w

  -- alt start (000 1.11)
  unfoldable pub alt : Work → Work
  alt w = w_index_word m (wptr w) state_s enabling w

  -- the IF on Areg (000 1.11, alt wait)
  unfoldable pub altwt_state : Work → Work
  altwt_state w = if_eq (reg areg w) ready w (wait m w)

  -- alt wait (000 1.11); State.s is left in Areg (DECISIONS 10)
  unfoldable pub altwt : Work → Work
  altwt w = altwt_state (r_index_word m (wptr w) state_s areg (w_index_word m (wptr w) 0 none_selected w))

  -- WIndexWord (Wptr, State.s, Ready.p) (000 1.11, enable skip and enable channel)
  unfoldable pub state_ready : Work → Work
  state_ready w = w_index_word m (wptr w) state_s ready w

  -- enable skip (000 1.11)
  unfoldable pub enbs : Work → Work
  enbs w = if_eq (reg areg w) 0 w (state_ready w)

  -- the IF on Breg (000 1.11, disable skip)
  unfoldable pub diss_guard : Work → Work
  diss_guard w = if_eq (reg breg w) 0 (put areg 0 w) (is_this_selected_process m w)

  -- disable skip (000 1.11)
  unfoldable pub diss : Work → Work
  diss w = drop_b (diss_guard w)

  -- WIndexWord (Breg, 0, WdescReg) (000 1.11, enable channel)
  unfoldable pub claim_channel : Work → Work
  claim_channel w = w_index_word m (reg breg w) 0 (reg wdesc_reg w) w

  -- an internal channel (000 1.11, enable channel)
  unfoldable pub enbc_soft : ℕ → Work → Work
  enbc_soft content w =
      if_eq content not_process (claim_channel w) (if_eq content (reg wdesc_reg w) w (state_ready w))

  -- a hard channel with a byte held is ready at once; with none held, enabled is set (DECISIONS 30)
  unfoldable pub enbc_hard : ℕ → Work → Work
  enbc_hard c w =
      if_set held_bit (reg (channel_reg c) w) (state_ready w) (claim_channel (raise (channel_reg c) enabled_bit w))

  -- the IF on chanNum (000 1.11, enable channel)
  unfoldable pub enbc_channel : Work → Work
  enbc_channel w =
      if_lt (index (reg breg w)) link_chans (enbc_hard (index (reg breg w)) w)
      (read_word m (at_word (reg breg w) 0) enbc_soft w)

  -- the guard is enabled only where Areg is not FALSE (000 1.11; DECISIONS 13)
  unfoldable pub enbc_guard : Work → Work
  enbc_guard w = if_eq (reg areg w) 0 w (enbc_channel w)

  -- enable channel (000 1.11)
  unfoldable pub enbc : Work → Work
  enbc w = drop_b (enbc_guard w)

  -- Breg = WdescReg: WIndexWord (Creg, 0, NotProcess.p); Areg := MachineFALSE (000 1.11, disable channel)
  unfoldable pub disclaim : Work → Work
  disclaim w = put areg 0 (w_index_word m (reg creg w) 0 not_process w)

  -- an internal channel (000 1.11, disable channel); Breg is left with the channel word (DECISIONS 11)
  unfoldable pub disc_soft : Work → Work
  disc_soft w =
      if_eq (reg breg w) not_process (put areg 0 w)
      (if_eq (reg breg w) (reg wdesc_reg w) (disclaim w) (is_this_selected_process m w))

  -- ready exactly when a byte is held (01, Links, clocks, slice; DECISIONS 30)
  unfoldable pub disc_answer : ℕ → Work → Work
  disc_answer c w = if_set held_bit (reg (channel_reg c) w) (is_this_selected_process m w) (put areg 0 w)

  -- a hard channel: enabled and the ready request are cleared, after the store (000 1.11, disable channel; DECISIONS 30)
  unfoldable pub disc_hard : ℕ → Work → Work
  disc_hard c w =
      disc_answer c (lower (channel_reg c) (enabled_bit + ready_request) (w_index_word m (reg creg w) 0 not_process w))

  -- the IF on chanNum (000 1.11, disable channel)
  unfoldable pub disc_channel : Work → Work
  disc_channel w =
      if_lt (index (reg creg w)) link_chans (disc_hard (index (reg creg w)) w)
      (disc_soft (r_index_word m (reg creg w) 0 breg w))

  -- disable channel (000 1.11)
  unfoldable pub disc : Work → Work
  disc w = if_eq (reg breg w) 0 (put areg 0 w) (disc_channel w)
