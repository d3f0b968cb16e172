-- 02's worked lines and 01's four lines that load, as one table by computation; and a machine that comes to the end of 02's first line.
use mathlib.Core.Path.{◌≡◌, refl}
use mathlib.Core.List.{List, [], ◌∷◌}
use Prim.Native.Nat.{ℕ}
use native.Mathlib.Omega.{arith}
use Rattle.rules.specs.Tests.{if_lt, if_eq}
use Rattle.rules.specs.Words.{minus}
use Rattle.rules.specs.Registers.{core_of, with_core}
use Rattle.rules.specs.Memory.{stores, storing}
use Rattle.rules.specs.Work.{put, put_core, word_at, byte_at, access}
use Rattle.rules.specs.Timers.{timer_due, timer_ready}
use Rattle.rules.specs.Channels.{request_from, requested}
use Rattle.rules.specs.Step as steps
use Rattle.rules.specs.Calls.{code_word, fresh_word, fresh_memory, fresh_regs}
use Rattle.assembly.specs.Chain.{chain, chain_of, prefix_of, upper_of}
use Rattle.assembly.specs.Meeting.{Undisturbed, Comes}

-- the chains of function 4 with each operand of a list
abbrev loads : List ℕ → List (List ℕ)
loads [] = []
loads (operand ∷ operands) = chain 0x4 operand ∷ loads operands

-- 02: 16, -256, -257. 01: #754, -1, -31, #80000000
pub loads-worked : loads (16 ∷ minus 256 ∷ minus 257 ∷ 0x754 ∷ minus 1 ∷ minus 31 ∷ 0x8000_0000 ∷ [])
    ≡ (0x21 ∷ 0x40 ∷ [])
    ∷ (0x6F ∷ 0x40 ∷ [])
    ∷ (0x21 ∷ 0x60 ∷ 0x4F ∷ [])
    ∷ (0x27 ∷ 0x25 ∷ 0x44 ∷ [])
    ∷ (0x60 ∷ 0x4F ∷ [])
    ∷ (0x61 ∷ 0x41 ∷ [])
    ∷ (0x27 ∷ 0x2F ∷ 0x2F ∷ 0x2F ∷ 0x2F ∷ 0x2F ∷ 0x6F ∷ 0x40 ∷ [])
    ∷ []
unfolding chain_of prefix_of upper_of if_lt
loads-worked = refl

-- the claim speaks of some machine: fresh with the code 21 40 comes to its second byte
pub fresh_comes : Comes (0x21 ∷ []) 0x40 (fresh_regs 2) (fresh_memory (0x21 ∷ 0x40 ∷ []) 0 64)
unfolding Undisturbed fresh_regs fresh_memory fresh_word code_word if_lt if_eq stores storing steps.step steps.choose steps.channels_first steps.timers_first steps.instruction_unless_idle steps.instruction steps.decode steps.fetched steps.halt_on_error steps.halt_if_asked requested request_from timer_ready timer_due put put_core core_of with_core word_at byte_at access
fresh_comes =
    record {
      count = refl;
      clear = refl;
      stand = (omega arith, refl, (omega arith, refl, tt));
      undisturbed = ((omega arith, refl, refl), refl, (omega arith, refl, refl));
    }
