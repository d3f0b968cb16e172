-- The starred lines of 01, "Numbers at the edges". All but one are rows of the table `starred`: runs by the public calls, and one test of `later`.
-- The line about all times is `NeitherLater`. `starred-hold` (proofs/Starred.antt) proves the table by one computation, and the law.
use Rattle.std.specs.Prelude.{◌≡◌, Bool, true, false, ◌&&◌, List, [], ◌∷◌, ℕ, zero, suc, ◌+◌, ◌%◌, ◌^◌, ◌<◌, eqb, get_or, set, replicate}
use Rattle.rules.specs.Words.{later}
use Rattle.rules.specs.Core.{error_flag}
use Rattle.rules.specs.Registers.{iptr_reg, wdesc_reg, areg, breg, creg, status_reg}
use Rattle.rules.specs.Scheduling.{mem_start}
use Rattle.rules.specs.Calls.{Outcome, machine_of, step, fresh}

-- ---- a run of steps from fresh, with some words of memory and some registers set first

-- numbers of words or registers, each with its value (01, Numbers at the edges)
abbrev pub Settings : Type 0
Settings = List (ℕ × ℕ)

-- a list with some of its words set (01, Numbers at the edges)
unfoldable pub with_settings : List ℕ → Settings → List ℕ
with_settings l [] = l
with_settings l (s ∷ ss) = with_settings (set l s.0 s.1) ss

-- a list has these words at these indices (01, Numbers at the edges)
unfoldable pub has : List ℕ → Settings → Bool
has l [] = true
has l (s ∷ ss) = eqb (get_or l s.0 0) s.1 && has l ss

-- an outcome with some registers and words of memory set: the state that a line starts from (01, Numbers at the edges)
unfoldable pub starting : Settings → Settings → Outcome → Outcome
starting registers words o =
    record {
      answer = o.answer;
      part = o.part;
      address = o.address;
      byte = o.byte;
      machine = machine_of (with_settings o.machine.regs registers) o.machine.depth o.machine.used;
      memory = with_settings o.memory words;
      journal = o.journal;
    }

-- after a call, n steps by the call step: the call and each step answer 0, and then registers and memory have these words
-- (01, One step; 01, Answers by number)
unfoldable pub leads : ℕ → Outcome → Settings → Settings → Bool
leads zero o registers words =
    eqb o.answer 0 && has o.machine.regs registers && has o.memory words
leads (suc n) o registers words =
    eqb o.answer 0 && leads n (step o.machine o.memory o.journal) registers words

-- ---- the table

-- a line: from fresh with some code, in a memory of 64 words and with room in the journal, and with some registers and words set, n steps
-- lead to these registers and words (01, Numbers at the edges)
unfoldable pub runs : List ℕ → Settings → Settings → ℕ → Settings → Settings → Bool
runs code registers words n registers' words' =
    leads n (starting registers words (fresh code (replicate 64 0) (replicate 512 0))) registers' words'

-- every line of a table holds (01, What the contracts have to say)
unfoldable pub every : List Bool → Bool
every [] = true
every (b ∷ bs) = b && every bs

-- the address of word 40 (01, Memory and registers)
abbrev pub word40 : ℕ
word40 = 0x8000_00A0

-- 01, Numbers at the edges
unfoldable pub starred : List Bool
starred =
    -- 27 25 44 loads #754; 60 4F loads -1; 61 41 loads -31; 27 2F 2F 2F 2F 2F 6F 40 loads #80000000
    runs (0x27 ∷ 0x25 ∷ 0x44 ∷ []) [] [] 3 ((areg, 0x754) ∷ []) []
    ∷ runs (0x60 ∷ 0x4F ∷ []) [] [] 2 ((areg, 0xFFFF_FFFF) ∷ []) []
    ∷ runs (0x61 ∷ 0x41 ∷ []) [] [] 2 ((areg, 0xFFFF_FFE1) ∷ []) []
    ∷ runs (0x27 ∷ 0x2F ∷ 0x2F ∷ 0x2F ∷ 0x2F ∷ 0x2F ∷ 0x6F ∷ 0x40 ∷ []) [] [] 8 ((areg, 0x8000_0000) ∷ []) []
    -- A = #7FFFFFFF, byte 81: A = #80000000, error set
    ∷ runs (0x81 ∷ []) ((areg, 0x7FFF_FFFF) ∷ []) [] 1 ((areg, 0x8000_0000) ∷ (status_reg, error_flag) ∷ []) []
    -- A = #80000000, bytes 60 8F: A = #7FFFFFFF, error set
    ∷ runs (0x60 ∷ 0x8F ∷ []) ((areg, 0x8000_0000) ∷ []) [] 2 ((areg, 0x7FFF_FFFF) ∷ (status_reg, error_flag) ∷ []) []
    -- csub0 with A = B = 5: error; ccnt1 with A = B = 5: none
    ∷ runs (0x21 ∷ 0xF3 ∷ []) ((areg, 5) ∷ (breg, 5) ∷ []) [] 2 ((status_reg, error_flag) ∷ []) []
    ∷ runs (0x24 ∷ 0xFD ∷ []) ((areg, 5) ∷ (breg, 5) ∷ []) [] 2 ((status_reg, 0) ∷ []) []
    -- lend with count 1 goes on; with count #80000000 the count becomes #7FFFFFFF and it loops. Word 40 is the index, word 41 the count
    ∷ runs (0x22 ∷ 0xF1 ∷ []) ((areg, 2) ∷ (breg, word40) ∷ []) ((40, 7) ∷ (41, 1) ∷ []) 2
    ((iptr_reg, mem_start + 2) ∷ []) ((40, 7) ∷ (41, 0) ∷ [])
    ∷ runs (0x22 ∷ 0xF1 ∷ []) ((areg, 2) ∷ (breg, word40) ∷ []) ((40, 7) ∷ (41, 0x8000_0000) ∷ []) 2
    ((iptr_reg, mem_start) ∷ []) ((40, 8) ∷ (41, 0x7FFF_FFFF) ∷ [])
    -- gajw at high priority with A = #80000081: Wdesc is #80000081, so priority is now low: ldpri loads 1
    ∷ runs (0x23 ∷ 0xFC ∷ 0x21 ∷ 0xFE ∷ []) ((wdesc_reg, word40) ∷ (areg, 0x8000_0081) ∷ []) [] 4
    ((wdesc_reg, 0x8000_0081) ∷ (areg, 1) ∷ []) []
    -- Later(#80000000, #7FFFFFFF) holds
    ∷ later 0x8000_0000 0x7FFF_FFFF
    -- norm with A = 1, B = 0: A = 0, B = #80000000, C = 63
    ∷ runs (0x21 ∷ 0xF9 ∷ []) ((areg, 1) ∷ []) [] 2 ((areg, 0) ∷ (breg, 0x8000_0000) ∷ (creg, 63) ∷ []) []
    -- lb at the address of a word #0A0B0C0D gives #0D
    ∷ runs (0xF1 ∷ []) ((areg, word40) ∷ []) ((40, 0x0A0B_0C0D) ∷ []) 1 ((areg, 0x0D) ∷ []) []
    ∷ []

-- of two times 2 ^ 31 apart neither is later (01, Numbers at the edges)
abbrev pub NeitherLater : Type 0
NeitherLater =
    (t : ℕ) → t < 2 ^ 32 → (later t ((t + 2 ^ 31) % 2 ^ 32) ≡ false) × (later ((t + 2 ^ 31) % 2 ^ 32) t ≡ false)
