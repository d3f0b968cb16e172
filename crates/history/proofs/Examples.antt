-- 01's line of code 41 81 (Numbers at the edges), by computation: two steps give A = 2, used 92; undo gives A = 1, used 46; a third undo gives 5.
-- On a memory of 64 words and a journal of 92.
use mathlib.Core.Path.{◌≡◌, refl}
use mathlib.Core.List.{List, [], ◌∷◌}
use Prim.Native.Nat.{ℕ}
use lib.ListN.{get_or, replicate}
use Rattle.rules.specs.Tests.{if_lt, if_le, if_eq}
use Rattle.rules.specs.Words.{sign, restore_to_range, overflows}
use Rattle.rules.specs.Core.{overflow_check}
use Rattle.rules.specs.Registers.{areg, core_of, with_core}
use Rattle.rules.specs.Memory.{stores, storing, hit, touched, touched_from}
use Rattle.rules.specs.Work.{put, put_core, refuse_at, word_at, byte_at, access}
use Rattle.rules.specs.Scheduling.{act_on_snp, j, time_slice, slice_if_running}
use Rattle.rules.specs.Timers.{timer_due, timer_ready}
use Rattle.rules.specs.Channels.{request_from, requested}
use Rattle.rules.specs.Operations.{functions, function}
use Rattle.rules.specs.Step as steps
use Rattle.rules.specs.Journal.{olds, record_of, bounds_bad, last_pairs, last_start, last_regs, pairs_at, write_back, strays}
use Rattle.rules.specs.Calls.{memory_size_bad, journal_size_bad, size_bad, code_bad, recorded, commit_or_refuse, checked, undone, undo_last, code_word, fresh_word, fresh_memory, fresh_regs, fresh}
use Rattle.rules.specs.Calls as calls
use Rattle.history.specs.Machine.{Act, call, undo}
use Rattle.history.specs.T414.{Call, step, Whole, perform, after, run, standing}

abbrev pub begun : Whole
begun = after (fresh (0x41 ∷ 0x81 ∷ []) (replicate 64 0) (replicate 92 0))

-- A, depth, used, and the answer of one more undo
abbrev pub facts : Whole → List ℕ
facts s = get_or s.machine.regs areg 0 ∷ s.machine.depth ∷ s.machine.used ∷ (perform undo s).answer ∷ []

abbrev pub steps2 : List (Act Call)
steps2 = call step ∷ call step ∷ []

-- after the two steps; one and two undos later; the step that stands after one undo; and a third step, whose record does not fit
pub two_steps : (facts (run steps2 begun) ≡ 2 ∷ 2 ∷ 92 ∷ 0 ∷ [])
    × (facts (run (undo ∷ []) (run steps2 begun)) ≡ 1 ∷ 1 ∷ 46 ∷ 0 ∷ [])
    × (facts (run (undo ∷ undo ∷ []) (run steps2 begun)) ≡ 0 ∷ 0 ∷ 0 ∷ 5 ∷ [])
    × (standing (call step ∷ call step ∷ undo ∷ []) begun [] ≡ step ∷ [])
    × ((perform (call step) (run steps2 begun)).answer ≡ 12)
unfolding run standing fresh fresh_regs fresh_memory fresh_word code_word code_bad memory_size_bad journal_size_bad size_bad if_lt if_le if_eq calls.step calls.undo checked commit_or_refuse recorded undone undo_last bounds_bad last_pairs last_start last_regs pairs_at write_back strays olds record_of touched touched_from hit stores storing steps.step steps.choose steps.channels_first steps.timers_first steps.instruction_unless_idle steps.instruction steps.decode steps.execute steps.fetched steps.halt_on_error steps.halt_if_asked function functions requested request_from timer_ready timer_due put put_core core_of with_core word_at byte_at access refuse_at act_on_snp j time_slice slice_if_running overflow_check overflows sign restore_to_range
two_steps = (refl, refl, refl, refl, refl)
