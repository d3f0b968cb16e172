-- Ordinary runs on 64 words, by computation: StartNextProcess in the same step sees what the step stored or moved (DECISIONS 17), and an
-- interrupt saves in 000's order.
use mathlib.Core.Path.{◌≡◌, refl}
use mathlib.Core.List.{List, [], ◌∷◌}
use Prim.Native.Nat.{ℕ, zero, suc, ◌+◌}
use lib.ListN.{replicate, set}
use Rattle.rules.specs.Tests.{if_lt, if_le, if_eq}
use Rattle.rules.specs.Core.{goto_snp_bit}
use Rattle.rules.specs.Registers.{registers}
use Rattle.rules.specs.Memory.{word, bytes, byte_in, set_byte_in, moved, within, storing, stores}
use Rattle.rules.specs.Work.{Work, untraced, begin, put, raise, lower, goto_snp, refuse_at, append, word_at, access, store_word, r_index_word, w_index_word, first_outside, up_to_outside, move_accesses, move_outside, move_or_refuse, transfer}
use Rattle.rules.specs.Scheduling.{not_process, clear_idle, start_slice, resumed, mask_status, unlink_front, dequeue, activate_process, save, save_rest, save_ereg, save_registers, restore, restore_rest, restore_registers, interrupt, run_over_low, run, start_queued, resume_or_start, next_high, next_low, next_process, start_next_process, act_on_snp, save_iptr, stopp}
use Rattle.rules.specs.Data.{popped, move_done, stl, block_move}

-- word i holds 1000 + i
abbrev pub counted : ℕ → ℕ → List ℕ
counted zero i = []
counted (suc n) i = (1000 + i) ∷ counted n (i + 1)

abbrev pub memory : List ℕ
memory = counted 64 0

-- the given values from register 0 on, then 0 in the others
abbrev pub filled : List ℕ → ℕ → List ℕ
filled [] n = replicate n 0
filled (x ∷ xs) zero = []
filled (x ∷ xs) (suc n) = x ∷ filled xs n

-- ---- stopp of the last high process, whose workspace is at word 12: its Iptr.s is word 11, the save area's Wdesc. RestoreRegisters reads
-- there the Iptr that stopp has just stored

abbrev pub stopping : Work
stopping = begin (filled (0x8000_0081 ∷ 0x8000_0030 ∷ 1 ∷ 2 ∷ 3 ∷ 0 ∷ 0 ∷ not_process ∷ 0 ∷ not_process ∷ []) registers)

pub after-stopp :
    act_on_snp memory (stopp memory stopping)
    ≡ record {
      regs =
          filled (1012 ∷ 0x8000_0081 ∷ 1013 ∷ 1014 ∷ 1015 ∷ 0 ∷ 1016 ∷ not_process ∷ 0 ∷ not_process ∷ []) registers;
      stored = word 11 0x8000_0081 ∷ [];
      answer = 0;
      kind = 0;
      address = 0;
      trace = untraced;
    }
unfolding if_lt if_le if_eq put raise lower goto_snp refuse_at append word_at access store_word r_index_word w_index_word stores storing clear_idle resumed restore restore_rest restore_registers resume_or_start next_high next_process start_next_process act_on_snp save_iptr stopp
after-stopp = refl

-- ---- stl with GotoSNP set at entry, over the Iptr.s of the next low process: that process starts at the word just stored

abbrev pub storing_local : Work
storing_local =
    begin
    (filled
    (0x8000_0048 ∷ 0x8000_0081 ∷ 0x8000_0050 ∷ 2 ∷ 3 ∷ 7 ∷ goto_snp_bit ∷ not_process ∷ 0 ∷ 0x8000_00A0 ∷ 0x8000_00A0 ∷ [])
    registers)

pub after-stl :
    act_on_snp memory (stl memory storing_local)
    ≡ record {
      regs =
          filled
          (0x8000_0050 ∷ 0x8000_00A1 ∷ 2 ∷ 3 ∷ 3 ∷ 0 ∷ 0 ∷ not_process ∷ 0 ∷ not_process ∷ 0x8000_00A0 ∷ [])
          registers;
      stored = word 39 0x8000_0050 ∷ [];
      answer = 0;
      kind = 0;
      address = 0;
      trace = untraced;
    }
unfolding if_lt if_le if_eq put raise lower refuse_at append word_at access store_word r_index_word w_index_word stores storing popped stl clear_idle start_slice unlink_front dequeue activate_process start_queued next_low next_process start_next_process act_on_snp
after-stl = refl

-- ---- move of six words over the save area, at high priority with GotoSNP set and no other high process: the registers come out of the
-- moved bytes. Word 32 is the descriptor of a low process

abbrev pub before_move : List ℕ
before_move = set memory 32 0x8000_00C1

abbrev pub moving : Work
moving =
    begin
    (filled
    (0x8000_0048 ∷ 0x8000_0060 ∷ 24 ∷ 0x8000_002C ∷ 0x8000_0080 ∷ 0 ∷ goto_snp_bit ∷ not_process ∷ 0 ∷ not_process ∷ [])
    registers)

pub after_move :
    act_on_snp before_move (block_move before_move moving)
    ≡ record {
      regs =
          filled (1033 ∷ 0x8000_00C1 ∷ 1034 ∷ 1035 ∷ 1036 ∷ 0 ∷ 1037 ∷ not_process ∷ 0 ∷ not_process ∷ []) registers;
      stored = bytes 128 44 24 ∷ [];
      answer = 0;
      kind = 0;
      address = 0;
      trace = untraced;
    }
unfolding if_lt if_le if_eq put raise lower refuse_at append word_at access store_word r_index_word w_index_word first_outside up_to_outside move_accesses move_outside move_or_refuse transfer stores storing within moved byte_in set_byte_in move_done block_move clear_idle resumed restore restore_rest restore_registers resume_or_start next_high next_process start_next_process act_on_snp
after_move = refl

-- ---- a high process interrupts a low one whose Status has bit 3 set: seven stores, in 000's order; bits 31 and 2 to 7 of Status stay

abbrev pub interrupted : Work
interrupted = begin (filled (0x8000_0060 ∷ 0x8000_00A1 ∷ 1 ∷ 2 ∷ 3 ∷ 9 ∷ 0x8000_01FF ∷ []) registers)

pub after_run :
    run memory 0x8000_0080 interrupted
    ≡ record {
      regs = filled (1031 ∷ 0x8000_0080 ∷ 1 ∷ 2 ∷ 3 ∷ 0 ∷ 0x8000_00FC ∷ []) registers;
      stored =
          word 11 0x8000_00A1
          ∷ word 12 0x8000_0060
          ∷ word 13 1
          ∷ word 14 2
          ∷ word 15 3
          ∷ word 16 0x8000_01FF
          ∷ word 17 0
          ∷ [];
      answer = 0;
      kind = 0;
      address = 0;
      trace = untraced;
    }
unfolding if_lt if_le if_eq put raise lower refuse_at append word_at access store_word r_index_word w_index_word stores storing clear_idle mask_status activate_process save save_rest save_ereg save_registers interrupt run_over_low run
after_run = refl
