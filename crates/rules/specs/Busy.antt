-- A card with busy links (02, No. 3): a run from fresh by the public calls. A low process jumps in place, another waits in the low queue, and a
-- high one takes bytes from link 0. `busy-holds` (proofs/Busy.antt) proves by computation that 2,000 ticks of link work do not use up the slice.
use Rattle.std.specs.Prelude.{ℕ, zero, suc, List, [], ◌∷◌, replicate}
use Rattle.rules.specs.Tests.{if_eq}
use Rattle.rules.specs.Work.{begin}
use Rattle.rules.specs.Links as links
use Rattle.rules.specs.Calls.{Outcome, accepted, machine_of, step, give, clear, fresh}
use Rattle.rules.specs.declared.Machine.{Machine}

-- the clocks start, the low process at word 42 is queued, the high one at word 34 interrupts that at word 26 (000 1.11)
abbrev pub busy_code : List ℕ
busy_code =
    -- ldc 0; sttimer
    0x40 ∷ 0x25 ∷ 0xF4
    -- ldc 23; ldpi; stl 15; ldlp 16; adc 1; runp
    ∷ 0x21 ∷ 0x47 ∷ 0x21 ∷ 0xFB ∷ 0xDF ∷ 0x21 ∷ 0x10 ∷ 0x81 ∷ 0x23 ∷ 0xF9
    -- ldc 6; ldpi; stl 7; ldlp 8; runp; j -2
    ∷ 0x46 ∷ 0x21 ∷ 0xFB ∷ 0xD7 ∷ 0x18 ∷ 0x23 ∷ 0xF9 ∷ 0x60 ∷ 0x0E
    -- the high process: ldlp 0; mint; ldnlp 4; ldc 1; in; j -8
    ∷ 0x10 ∷ 0x24 ∷ 0xF2 ∷ 0x54 ∷ 0x41 ∷ 0xF7 ∷ 0x60 ∷ 0x08
    -- the low process in the queue: j -2
    ∷ 0x60 ∷ 0x0E ∷ []

-- a call on what the calls before left; after a refusal nothing is called (01, Answers by number)
unfoldable pub next : (Machine → List ℕ → List ℕ → Outcome) → Outcome → Outcome
next call o = if_eq o.answer 0 (call o.machine o.memory o.journal) o

-- n times the same (01, The part of the T414 that we build)
unfoldable pub times : ℕ → (Outcome → Outcome) → Outcome → Outcome
times zero f o = o
times (suc n) f o = times n f (f o)

-- n steps, the journal emptied before each (01, One step)
abbrev pub steps : ℕ → Outcome → Outcome
steps n o = times n (λ before. next step (next clear before)) o

-- the registers after n ticks (01, Links, clocks, slice)
unfoldable pub ticked : ℕ → List ℕ → List ℕ
ticked zero r = r
ticked (suc n) r = ticked n (links.tick (begin r)).regs

-- n ticks, the journal emptied before each: the registers alone change (01, Links, clocks, slice)
abbrev pub ticks : ℕ → Outcome → Outcome
ticks n o = next (λ m mem j. accepted 0 (machine_of (ticked n m.regs) 0 0) mem j) o

-- the low process jumps, and the high one waits for a byte (01, Links, clocks, slice)
unfoldable pub busy : Outcome
busy = steps 26 (fresh busy_code (replicate 64 0) (replicate 192 0))

-- a byte comes in, the high process is at work for 100 ticks, and waits for the next byte (02, No. 3)
unfoldable pub link_work : Outcome → Outcome
link_work o = steps 8 (ticks 100 (steps 1 (next (give 4 0x55) (next clear o))))
