-- Insertions of a high process whose workspace lies over the word of its queue, by computation: the walk reads what the same call has stored.
use mathlib.Core.Path.{◌≡◌, refl}
use mathlib.Core.List.{List, [], ◌∷◌}
use Prim.Native.Nat.{ℕ}
use lib.ListN.{get_or, set, replicate}
use Rattle.rules.specs.Tests.{if_lt, if_eq}
use Rattle.rules.specs.Words.{positive, sign, restore_to_range, later}
use Rattle.rules.specs.Registers.{registers, iptr_reg, wdesc_reg, areg, breg, creg, status_reg, flags_reg, tnext_reg}
use Rattle.rules.specs.Memory.{word, storing, stores}
use Rattle.rules.specs.Work.{Work, begin, kind_load, outside, put, raise, goto_snp, refuse_at, append, word_at, access, store_word, r_index_word, w_index_word}
use Rattle.rules.specs.Scheduling.{not_process, waiting, mem_start, save_iptr}
use Rattle.rules.specs.Timers.{set_next, insert_next, insert_link, insert_final_step, insert_walk, insert_first_step}

-- 64 words, with a word at TPtrLoc[0]
abbrev pub queued : ℕ → List ℕ
queued front = set (replicate 64 0) 9 front

abbrev pub inserting : ℕ → ℕ → Work
inserting wptr time = begin (set (set (set (replicate registers 0) iptr_reg mem_start) wdesc_reg wptr) areg time)

-- State.s is word 9. The queue was empty; but the walk finds Waiting.p there and asks for the time of that process, outside memory
pub state_over_queue : ((insert_first_step (queued not_process) (inserting 0x8000_0030 0)).answer ≡ outside)
    × ((insert_first_step (queued not_process) (inserting 0x8000_0030 0)).kind ≡ kind_load)
    × ((insert_first_step (queued not_process) (inserting 0x8000_0030 0)).address ≡ 0x7FFF_FFEE)
unfolding insert_first_step insert_walk insert_final_step insert_link insert_next set_next save_iptr w_index_word r_index_word store_word append access refuse_at word_at put raise goto_snp stores storing if_lt if_eq later positive sign restore_to_range
state_over_queue = (refl, refl, refl)

-- Time.s is word 9, and the time is that of NotProcess.p: the process before it in the queue is lost. Then the link to this process comes to stand
-- over its time, so that its own address becomes the next time
abbrev pub over_queue : Work
over_queue = insert_first_step (queued 0x8000_0080) (inserting 0x8000_0038 not_process)

pub time_over_queue : (over_queue.answer ≡ 0)
    × (over_queue.stored
    ≡ word 11 waiting ∷ word 9 not_process ∷ word 9 0x8000_0038 ∷ word 10 not_process ∷ word 13 mem_start ∷ [])
    × (get_or over_queue.regs (tnext_reg 0) 0 ≡ 0x8000_0038)
    × (get_or over_queue.regs breg 0 ≡ 0x8000_0038)
    × (get_or over_queue.regs creg 0 ≡ not_process)
    × (get_or over_queue.regs flags_reg 0 ≡ 2)
    × (get_or over_queue.regs status_reg 0 ≡ 2)
unfolding insert_first_step insert_walk insert_final_step insert_link insert_next set_next save_iptr w_index_word r_index_word store_word append access refuse_at word_at put raise goto_snp stores storing if_lt if_eq later positive sign restore_to_range
time_over_queue = (refl, refl, refl, refl, refl, refl, refl)
