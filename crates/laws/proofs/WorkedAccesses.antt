-- Every access of a step at the edge of memory, by computation: just inside it is made, just outside it is refused with 10, its kind and its
-- address, and far outside with 10; what makes no access is not refused; and steps with all their accesses, in order.
use mathlib.Core.Path.{◌≡◌, refl}
use mathlib.Core.Bool.{true}
use Rattle.rules.specs.Tests.{if_lt, if_le, if_eq}
use Rattle.rules.specs.Words.{sign, restore_to_range, overflows, positive, later}
use Rattle.rules.specs.Core.{overflow_check}
use Rattle.rules.specs.Stack as stack
use Rattle.rules.specs.Registers.{core_of, with_core, system_of, with_system}
use Rattle.rules.specs.Memory.{byte_in, set_byte_in, moved, within, storing, stores}
use Rattle.rules.specs.Work.{put, raise, lower, goto_snp, put_core, put_system, attempted, put_both, refuse_at, append, word_at, byte_at, access, store_word, store_byte, r_index_word, r_index_byte, w_index_word, first_outside, up_to_outside, move_accesses, move_outside, move_or_refuse, transfer}
use Rattle.rules.specs.Scheduling.{set_idle, clear_idle, start_slice, resumed, mask_status, add_to_c, link_behind, enqueue, unlink_front, dequeue, activate_process, save, save_rest, save_ereg, save_registers, restore, restore_rest, restore_registers, interrupt, run_low, run_over_low, run, start_queued, start_low, resume_or_start, next_high, next_low, next_process, start_next_process, act_on_snp, save_iptr, stopp, wait, slice_out, slice_if_long, slice_if_running, time_slice, j, startp, end_last, end_one, end_counted, endp, runp, stoperr, loop_back, count_up, loop_on, count_down, store_count, lend}
use Rattle.rules.specs.Data.{pushed, popped, adjusted, move_done, jump_by, entered, ldl, stl, ldnl, stnl, call_frame, call, ret, lb, sb, block_move, save_queue, altend}
use Rattle.rules.specs.Links.{transfer_ends, end_at_zero, advance, event_meets, take_byte, take, receive, give}
use Rattle.rules.specs.Timers.{timer_due, timer_ready, next_time, drop_b, set_next, timed_out, timer_status, timer_wake, timer_next, timer_unlink, timer_front, timer_serve, handle_timer_request, insert_next, insert_link, insert_final_step, insert_walk, insert_first_step, delete_next, delete_link, delete_final_step, delete_walk, delete_first_step, select_first, is_this_selected_process, tin, talt, time_now, taltwt_time, taltwt_link, taltwt_state, taltwt, enbt_first, enbt_earlier, enbt_link, enbt_guard, enbt, dist_ready, dist_set, dist_link, dist}
use Rattle.rules.specs.Channels.{request_from, requested, start_transfer, input_regs, run_content, handle_run_request, ready_waiting, ready_status, ready_content, handle_ready_request, handle_channel_request, hard_start, hard_output, meet_held, hard_input_held, hard_input_start, hard_input, save_regs_pending_soft_io, soft_wait, move_message, input_ready, soft_input, input, output_message, output_enabling, output_waiting, output_to, output_ready, soft_output, output, output_local, reset_hard, resetch, alt, altwt_state, altwt, state_ready, enbs, diss_guard, diss, claim_channel, enbc_soft, enbc_hard, enbc_channel, enbc_guard, enbc, disclaim, disc_soft, disc_answer, disc_hard, disc_channel, disc}
use Rattle.rules.specs.Operations.{register_operations, other_operations, operations, operate, functions, function}
use Rattle.rules.specs.Step.{halt_if_asked, halt_on_error, fetched, execute, decode, instruction, instruction_unless_idle, timers_first, channels_first, choose, step, accesses}
use Rattle.rules.specs.Calls.{code_word, fresh_word, fresh_memory, fresh_regs}
use Rattle.rules.specs.Starred.{with_settings, every}
use Rattle.laws.specs.Accesses.{same_list, makes_just, listings, registers_for, memory_for, answers, work_at, makes, refuses, refuses_far, site, refused, accepted, fetch_sites, data_sites, slice_sites, scheduling_sites, timer_request_sites, insertion_sites, timer_sites, soft_wait_sites, output_local_sites, channel_sites, link_sites, spares, spared, free_functions, free_operations, free_sites}

pub sites-hold : (every fetch_sites ≡ true)
    × (every data_sites ≡ true)
    × (every scheduling_sites ≡ true)
    × (every timer_sites ≡ true)
    × (every channel_sites ≡ true)
    × (every link_sites ≡ true)
    × (every free_sites ≡ true)
    × (every listings ≡ true)
unfolding stack.eqc stack.cj stack.csub0 stack.ccnt1 stack.testerr stack.testhalterr stack.shl stack.shr stack.undivided stack.div stack.rem stack.xword stack.cword stack.xdbl stack.csngl stack.lsum stack.ldiff stack.ldiv stack.norm stack.lshl stack.lshr stack.ldtimer overflow_check overflows put_system attempted put_both system_of with_system spares spared free_functions free_operations free_sites every refuses_far site refused accepted makes refuses work_at answers registers_for memory_for fetch_sites data_sites slice_sites scheduling_sites timer_request_sites insertion_sites timer_sites soft_wait_sites output_local_sites channel_sites link_sites with_settings fresh_regs fresh_memory fresh_word code_word if_lt if_le if_eq sign restore_to_range positive later core_of with_core byte_in set_byte_in moved within storing stores put raise lower goto_snp put_core refuse_at append word_at byte_at access store_word store_byte r_index_word r_index_byte w_index_word first_outside up_to_outside move_accesses move_outside move_or_refuse transfer set_idle clear_idle start_slice resumed mask_status add_to_c link_behind enqueue unlink_front dequeue activate_process save save_rest save_ereg save_registers restore restore_rest restore_registers interrupt run_low run_over_low run start_queued start_low resume_or_start next_high next_low next_process start_next_process act_on_snp save_iptr stopp wait slice_out slice_if_long slice_if_running time_slice j startp end_last end_one end_counted endp runp stoperr loop_back count_up loop_on count_down store_count lend pushed popped adjusted move_done jump_by entered ldl stl ldnl stnl call_frame call ret lb sb block_move save_queue altend transfer_ends end_at_zero advance event_meets take_byte take receive give timer_due timer_ready next_time drop_b set_next timed_out timer_status timer_wake timer_next timer_unlink timer_front timer_serve handle_timer_request insert_next insert_link insert_final_step insert_walk insert_first_step delete_next delete_link delete_final_step delete_walk delete_first_step select_first is_this_selected_process tin talt time_now taltwt_time taltwt_link taltwt_state taltwt enbt_first enbt_earlier enbt_link enbt_guard enbt dist_ready dist_set dist_link dist request_from requested start_transfer input_regs run_content handle_run_request ready_waiting ready_status ready_content handle_ready_request handle_channel_request hard_start hard_output meet_held hard_input_held hard_input_start hard_input save_regs_pending_soft_io soft_wait move_message input_ready soft_input input output_message output_enabling output_waiting output_to output_ready soft_output output output_local reset_hard resetch alt altwt_state altwt state_ready enbs diss_guard diss claim_channel enbc_soft enbc_hard enbc_channel enbc_guard enbc disclaim disc_soft disc_answer disc_hard disc_channel disc register_operations other_operations operations operate functions function halt_if_asked halt_on_error fetched execute decode instruction instruction_unless_idle timers_first channels_first choose step accesses same_list makes_just listings
sites-hold = (refl, refl, refl, refl, refl, refl, refl, refl)
