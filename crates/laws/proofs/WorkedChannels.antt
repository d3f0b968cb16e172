-- Messages over the words that the same step reads or stores afterwards, by computation.
use mathlib.Core.Path.{◌≡◌, refl}
use mathlib.Core.List.{List}
use Prim.Native.Nat.{ℕ}
use lib.ListN.{get_or, set, replicate}
use Rattle.rules.specs.Tests.{if_lt, if_eq}
use Rattle.rules.specs.Registers.{registers, iptr_reg, wdesc_reg, areg, breg, creg}
use Rattle.rules.specs.Memory.{byte_in, set_byte_in, moved, within, storing, stores}
use Rattle.rules.specs.Work.{Work, begin, put, raise, lower, refuse_at, append, word_at, access, store_word, r_index_word, w_index_word, first_outside, up_to_outside, move_accesses, move_outside, move_or_refuse, transfer}
use Rattle.rules.specs.Scheduling.{not_process, mem_start, clear_idle, mask_status, activate_process, save, save_rest, save_ereg, save_registers, interrupt, run_over_low, run}
use Rattle.rules.specs.Data.{move_done}
use Rattle.rules.specs.Channels.{move_message, output_message, output_to, output_ready, soft_output, output}

-- 64 words. A high process, whose workspace is at word 32, waits on the channel at word 20 for a message to the address `into`.
-- Words 24 to 30 are the message; the last three of them lie under the workspace, and its Pointer.s is word 29
abbrev pub waits_for : ℕ → List ℕ
waits_for into =
    set (set (set (set (set (replicate 64 0) 20 0x8000_0080) 24 0x8000_0055) 25 0x1111_1111) 26 0x2222_2222) 29 into

-- a low process, at word 48, sends n bytes from word 24
abbrev pub sends : ℕ → Work
sends n =
    begin
    (set
    (set (set (set (set (replicate registers 0) iptr_reg mem_start) wdesc_reg 0x8000_00C1) areg n) breg 0x8000_0050)
    creg
    0x8000_0060)

abbrev pub after : ℕ → ℕ → Work
after into n = output (waits_for into) (sends n)

abbrev pub now : ℕ → ℕ → ℕ → ℕ
now into n i = get_or (stores (waits_for into) (after into n).stored) i 0

-- over the partner's Iptr.s, word 31: the partner, which interrupts the sender, goes on at the address that the message brought
pub over_workspace : ((after 0x8000_007C 4).answer ≡ 0)
    × (get_or (after 0x8000_007C 4).regs wdesc_reg 0 ≡ 0x8000_0080)
    × (get_or (after 0x8000_007C 4).regs iptr_reg 0 ≡ 0x8000_0055)
    × (now 0x8000_007C 4 20 ≡ not_process)
    × (now 0x8000_007C 4 14 ≡ 0x8000_0080)
unfolding output soft_output output_ready output_to output_message move_message move_done transfer move_or_refuse move_outside first_outside up_to_outside move_accesses run run_over_low interrupt save_registers save_rest save_ereg save mask_status activate_process clear_idle w_index_word r_index_word store_word append access refuse_at word_at put raise lower stores storing moved byte_in set_byte_in within if_lt if_eq
over_workspace = (refl, refl, refl, refl, refl)

-- over the end of the save area, words 16 to 18: the sender's registers are saved after the message, so its Status replaces the first word of it
pub over-save_area : ((after 0x8000_0040 12).answer ≡ 0)
    × (now 0x8000_0040 12 11 ≡ 0x8000_00C1)
    × (now 0x8000_0040 12 14 ≡ 0x8000_004C)
    × (now 0x8000_0040 12 16 ≡ 0)
    × (now 0x8000_0040 12 17 ≡ 0x1111_1111)
    × (now 0x8000_0040 12 18 ≡ 0x2222_2222)
unfolding output soft_output output_ready output_to output_message move_message move_done transfer move_or_refuse move_outside first_outside up_to_outside move_accesses run run_over_low interrupt save_registers save_rest save_ereg save mask_status activate_process clear_idle w_index_word r_index_word store_word append access refuse_at word_at put raise lower stores storing moved byte_in set_byte_in within if_lt if_eq
over-save_area = (refl, refl, refl, refl, refl, refl)
