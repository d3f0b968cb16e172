-- Definitions where a slip of a program would show, by computation.
use mathlib.Core.Path.{◌≡◌, refl}
use mathlib.Core.Bool.{true}
use Rattle.rules.specs.Tests.{if_lt, if_le, if_eq}
use Rattle.rules.specs.Words.{sign, restore_to_range, overflows, positive, later}
use Rattle.rules.specs.Core.{overflow_check}
use Rattle.rules.specs.Stack.{testerr, shl}
use Rattle.rules.specs.Registers.{core_of, with_core}
use Rattle.rules.specs.Memory.{byte_in, set_byte_in, moved, within, storing, stores}
use Rattle.rules.specs.Work.{put, raise, lower, goto_snp, put_core, attempted, refuse_at, append, word_at, byte_at, access, store_word, store_byte, r_index_word, w_index_word}
use Rattle.rules.specs.Scheduling.{set_idle, clear_idle, start_slice, unlink_front, dequeue, activate_process, start_queued, start_low, resume_or_start, next_low, next_process, start_next_process, act_on_snp, save_iptr, end_last, end_one, end_counted, endp}
use Rattle.rules.specs.Data.{move_done}
use Rattle.rules.specs.Timers.{set_next, insert_next, insert_link, insert_final_step, insert_walk, insert_first_step, delete_next, delete_link, delete_final_step, delete_walk, delete_first_step}
use Rattle.rules.specs.Links.{transfer_ends, notice_held, hold, tick_slice, tick_prescaler, tick_clocks, tick, give}
use Rattle.rules.specs.Channels.{request_from, requested, run_content, handle_run_request, handle_channel_request}
use Rattle.rules.specs.Operations.{functions, function}
use Rattle.rules.specs.Step.{fetched, execute, decode, instruction, instruction_unless_idle, channels_first, choose}
use Rattle.rules.specs.Journal.{olds, record_of, pairs_at, write_back}
use Rattle.rules.specs.Calls.{numbered, not_output, code_word, fresh_word, fresh_memory, fresh_regs}
use Rattle.rules.specs.Starred.{with_settings, has, every}
use Rattle.laws.specs.Accesses.{registers_for, memory_for}
use Rattle.laws.specs.Edges.{before, ends, gives, edges}

pub edges-hold : every edges ≡ true
unfolding every edges gives ends before registers_for memory_for with_settings has fresh_regs fresh_memory fresh_word code_word if_lt if_le if_eq sign restore_to_range overflows positive later overflow_check testerr shl core_of with_core byte_in set_byte_in moved within storing stores put raise lower goto_snp put_core attempted refuse_at append word_at byte_at access store_word store_byte r_index_word w_index_word set_idle clear_idle start_slice unlink_front dequeue activate_process start_queued start_low resume_or_start next_low next_process start_next_process act_on_snp save_iptr end_last end_one end_counted endp move_done set_next insert_next insert_link insert_final_step insert_walk insert_first_step delete_next delete_link delete_final_step delete_walk delete_first_step transfer_ends notice_held hold tick_slice tick_prescaler tick_clocks tick give request_from requested run_content handle_run_request handle_channel_request functions function fetched execute decode instruction instruction_unless_idle channels_first choose olds record_of pairs_at write_back numbered not_output
edges-hold = refl
