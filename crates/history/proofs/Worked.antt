-- Worked runs by computation, from fresh with code 41 81 (01, Numbers at the edges), on a memory of 64 words and a journal with room
-- for two records without pairs: refused calls, a refused undo and a full journal among them.
use mathlib.Core.Path.{◌≡◌, refl}
use mathlib.Core.List.{List, [], ◌∷◌}
use Prim.Native.Nat.{ℕ, ◌*◌}
use lib.ListN.{get_or, set, replicate}
use Rattle.rules.specs.Tests.{if_lt, if_le, if_eq}
use Rattle.rules.specs.Words.{sign, restore_to_range, overflows}
use Rattle.rules.specs.Core.{overflow_check}
use Rattle.rules.specs.Registers.{areg, iptr_reg, pointer_reg, count_reg, channel_reg, active_bit, core_of, with_core}
use Rattle.rules.specs.Memory.{stores, storing, hit, touched, touched_from}
use Rattle.rules.specs.Work.{put, raise, lower, put_core, refuse_at, append, word_at, byte_at, access, store_byte}
use Rattle.rules.specs.Scheduling.{act_on_snp, j, time_slice, slice_if_running}
use Rattle.rules.specs.Timers.{timer_due, timer_ready}
use Rattle.rules.specs.Channels.{request_from, requested}
use Rattle.rules.specs.Links as links
use Rattle.rules.specs.Operations.{functions, function}
use Rattle.rules.specs.Step as steps
use Rattle.rules.specs.Journal.{record_length, olds, record_of, bounds_bad, last_pairs, last_start, last_regs, pairs_at, write_back, strays}
use Rattle.rules.specs.Calls.{memory_size_bad, journal_size_bad, size_bad, code_bad, not_output, not_input, recorded, commit_or_refuse, checked, undone, undo_last, code_word, fresh_word, fresh_memory, fresh_regs, machine_of, fresh}
use Rattle.rules.specs.Calls as rules
use Rattle.history.specs.Machine.{Act, call, undo}
use Rattle.history.specs.T414.{Call, step, tick, take, give, Whole, perform, after, run, standing}

abbrev pub begun : Whole
begun = after (fresh (0x41 ∷ 0x81 ∷ []) (replicate 64 0) (replicate (2 * record_length 0) 0))

-- the answers of calls made one after the other
unfoldable pub answers : List (Act Call) → Whole → List ℕ
answers [] s = []
answers (a ∷ acts) s = (perform a s).answer ∷ answers acts (after (perform a s))

-- A, depth and used
abbrev pub facts : Whole → List ℕ
facts s = get_or s.machine.regs areg 0 ∷ s.machine.depth ∷ s.machine.used ∷ []

-- an undo of nothing; a take from a link that is not moving, and from no link; a tick, undone; a byte given, and a second byte, refused;
-- a step; a step whose record does not fit; three undos; three steps
abbrev pub acts : List (Act Call)
acts =
    undo
    ∷ call (take 0)
    ∷ call (take 4)
    ∷ call tick
    ∷ undo
    ∷ call (give 4 7)
    ∷ call (give 4 8)
    ∷ call step
    ∷ call step
    ∷ undo
    ∷ undo
    ∷ undo
    ∷ call step
    ∷ call step
    ∷ call step
    ∷ []

pub answered : answers acts begun ≡ 5 ∷ 8 ∷ 3 ∷ 0 ∷ 0 ∷ 0 ∷ 8 ∷ 0 ∷ 12 ∷ 0 ∷ 0 ∷ 5 ∷ 0 ∷ 0 ∷ 12 ∷ []
unfolding answers run standing fresh fresh_regs fresh_memory fresh_word code_word code_bad memory_size_bad journal_size_bad size_bad not_output not_input if_lt if_le if_eq rules.step rules.tick rules.take rules.give rules.undo checked commit_or_refuse recorded undone undo_last bounds_bad last_pairs last_start last_regs pairs_at write_back strays olds record_of touched touched_from hit stores storing steps.step steps.choose steps.channels_first steps.timers_first steps.instruction_unless_idle steps.instruction steps.decode steps.execute steps.fetched steps.halt_on_error steps.halt_if_asked links.tick links.take links.taken links.take_byte links.give links.hold links.notice_held links.receive function functions requested request_from timer_ready timer_due put raise lower put_core core_of with_core word_at byte_at access refuse_at act_on_snp j time_slice slice_if_running overflow_check overflows sign restore_to_range
answered = refl

pub ends : (facts (run acts begun) ≡ 2 ∷ 2 ∷ 2 * record_length 0 ∷ []) × (standing acts begun [] ≡ step ∷ step ∷ [])
unfolding answers run standing fresh fresh_regs fresh_memory fresh_word code_word code_bad memory_size_bad journal_size_bad size_bad not_output not_input if_lt if_le if_eq rules.step rules.tick rules.take rules.give rules.undo checked commit_or_refuse recorded undone undo_last bounds_bad last_pairs last_start last_regs pairs_at write_back strays olds record_of touched touched_from hit stores storing steps.step steps.choose steps.channels_first steps.timers_first steps.instruction_unless_idle steps.instruction steps.decode steps.execute steps.fetched steps.halt_on_error steps.halt_if_asked links.tick links.take links.taken links.take_byte links.give links.hold links.notice_held links.receive function functions requested request_from timer_ready timer_due put raise lower put_core core_of with_core word_at byte_at access refuse_at act_on_snp j time_slice slice_if_running overflow_check overflows sign restore_to_range
ends = (refl, refl)

-- number, part and address of the answer of a call
abbrev pub told_by : Act Call → Whole → ℕ × ℕ × ℕ
told_by a s = let o = perform a s in (o.answer, o.part, o.address)

-- begun with one register set
abbrev with_register : ℕ → ℕ → Whole → Whole
with_register k v s = record { machine = machine_of (set s.machine.regs k v) 0 0; memory = s.memory; journal = s.journal }

-- begun with channel c moving one byte at an address
abbrev moving : ℕ → ℕ → Whole
moving c a = with_register (pointer_reg c) a (with_register (count_reg c) 1 (with_register (channel_reg c) active_bit begun))

-- an access outside memory is told by its kind and its address, as computed: 10a of a step, 10b of a take, 10c of a give
pub outside_told : (told_by (call step) (with_register iptr_reg 0x8000_0101 begun) ≡ (10, 1, 0x8000_0101))
    × (told_by (call (take 0)) (moving 0 0x7FFF_FFFF) ≡ (10, 2, 0x7FFF_FFFF))
    × (told_by (call (give 4 7)) (moving 4 3) ≡ (10, 3, 3))
unfolding run standing fresh fresh_regs fresh_memory fresh_word code_word code_bad memory_size_bad journal_size_bad size_bad not_output not_input if_lt if_le if_eq rules.step rules.tick rules.take rules.give rules.undo checked commit_or_refuse recorded undone undo_last bounds_bad last_pairs last_start last_regs pairs_at write_back strays olds record_of touched touched_from hit stores storing steps.step steps.choose steps.channels_first steps.timers_first steps.instruction_unless_idle steps.instruction steps.decode steps.execute steps.fetched steps.halt_on_error steps.halt_if_asked links.tick links.take links.taken links.take_byte links.give links.hold links.notice_held links.receive links.advance links.end_at_zero links.transfer_ends store_byte append function functions requested request_from timer_ready timer_due put raise lower put_core core_of with_core word_at byte_at access refuse_at act_on_snp j time_slice slice_if_running overflow_check overflows sign restore_to_range
outside_told = (refl, refl, refl)
