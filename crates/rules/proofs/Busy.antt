-- A card with busy links, by computation.
use mathlib.Core.Path.{◌≡◌, refl}
use mathlib.Core.Bool.{true}
use mathlib.Core.List.{[], ◌∷◌}
use Rattle.rules.specs.Tests.{if_lt, if_le, if_eq}
use Rattle.rules.specs.Words.{sign, restore_to_range, overflows, positive, later}
use Rattle.rules.specs.Core.{overflow_check}
use Rattle.rules.specs.Registers.{wdesc_reg, slice_reg, clock_reg, core_of, with_core, system_of, with_system}
use Rattle.rules.specs.Memory.{byte_in, set_byte_in, stores, storing, touches, hit, touched_from, touched}
use Rattle.rules.specs.Work.{put, raise, lower, goto_snp, put_core, put_system, attempted, put_both, refuse_at, append, word_at, byte_at, access, store_word, store_byte, r_index_word, w_index_word}
use Rattle.rules.specs.Scheduling.{set_idle, clear_idle, start_slice, resumed, mask_status, add_to_c, link_behind, enqueue, unlink_front, dequeue, activate_process, save, save_rest, save_ereg, save_registers, restore, restore_rest, restore_registers, interrupt, run_low, run_over_low, run, start_queued, start_low, resume_or_start, next_high, next_low, next_process, start_next_process, act_on_snp, save_iptr, wait, slice_out, slice_if_long, slice_if_running, time_slice, j, runp}
use Rattle.rules.specs.Data.{popped, stl}
use Rattle.rules.specs.Timers.{timer_due, timer_ready}
use Rattle.rules.specs.Links.{tick_slice, tick_prescaler, tick_clocks, transfer_ends, end_at_zero, advance, receive}
use Rattle.rules.specs.Links as links
use Rattle.rules.specs.Channels.{request_from, requested, start_transfer, input_regs, run_content, handle_run_request, handle_channel_request, hard_start, meet_held, hard_input_held, hard_input_start, hard_input, input}
use Rattle.rules.specs.Operations.{register_operations, other_operations, operations, operate, functions, function}
use Rattle.rules.specs.Step.{halt_if_asked, halt_on_error, fetched, execute, decode, instruction, instruction_unless_idle, timers_first, channels_first, choose}
use Rattle.rules.specs.Step as one
use Rattle.rules.specs.Journal.{olds, record_of, bounds_bad}
use Rattle.rules.specs.Calls.{memory_size_bad, journal_size_bad, size_bad, recorded, commit_or_refuse, checked, not_input, step, give, clear, code_bad, code_word, fresh_word, fresh_memory, fresh_regs, fresh}
use Rattle.rules.specs.Starred.{has, leads}
use Rattle.rules.specs.Busy.{next, times, ticked, busy, link_work}

-- 20 bytes and 2,000 ticks later the low process makes its next jump, a prefix and `j`, and goes on: Wdesc is its own, and slice 0
pub busy-holds : leads 2 (times 20 link_work busy) ((wdesc_reg, 0x8000_0069) ∷ (slice_reg, 0) ∷ (clock_reg 0, 2000) ∷ []) [] ≡ true
unfolding next times ticked busy link_work leads has memory_size_bad journal_size_bad size_bad recorded commit_or_refuse checked not_input step give clear code_bad code_word fresh_word fresh_memory fresh_regs fresh olds record_of bounds_bad halt_if_asked halt_on_error fetched execute decode instruction instruction_unless_idle timers_first channels_first choose one.step register_operations other_operations operations operate functions function request_from requested start_transfer input_regs run_content handle_run_request handle_channel_request hard_start meet_held hard_input_held hard_input_start hard_input input links.tick links.give tick_slice tick_prescaler tick_clocks transfer_ends end_at_zero advance receive popped stl timer_due timer_ready set_idle clear_idle start_slice resumed mask_status add_to_c link_behind enqueue unlink_front dequeue activate_process save save_rest save_ereg save_registers restore restore_rest restore_registers interrupt run_low run_over_low run start_queued start_low resume_or_start next_high next_low next_process start_next_process act_on_snp save_iptr wait slice_out slice_if_long slice_if_running time_slice j runp put raise lower goto_snp put_core put_system attempted put_both refuse_at append word_at byte_at access store_word store_byte r_index_word w_index_word byte_in set_byte_in stores storing touches hit touched_from touched core_of with_core system_of with_system overflow_check sign restore_to_range overflows positive later if_lt if_le if_eq
busy-holds = refl
