-- Definitions where a slip of a program would show. Each row of `edges` runs a definition of `rules` on a small state; its comment says what a
-- wrong program would give. A function of the code is proved equal to its definition, so no such program is proved. `edges-hold`
-- (proofs/Edges.antt) proves the table by one computation. The rows stand in the order of the rules' chapters.
use Rattle.std.specs.Prelude.{ℕ, ◌+◌, ◌-◌, ◌*◌, Bool, ◌&&◌, List, [], ◌∷◌, eqb}
use Rattle.rules.specs.Core.{error_flag, goto_snp_bit}
use Rattle.rules.specs.Stack.{nfix, testerr, shl, add, clocks_run}
use Rattle.rules.specs.Registers.{registers, iptr_reg, wdesc_reg, areg, breg, creg, oreg, status_reg, fptr_reg, bptr_reg, slice_reg, flags_reg, idle_flag, halted_flag, channel_reg, active_bit, enabled_bit, held_bit, run_request, ready_request}
use Rattle.rules.specs.Memory.{word, bytes, stores}
use Rattle.rules.specs.Work.{Work, begin, not_ready, store_byte}
use Rattle.rules.specs.Scheduling.{not_process, no_low_process, time_not_set, mem_start, dequeue, resume_or_start, act_on_snp, endp}
use Rattle.rules.specs.Data.{move_done}
use Rattle.rules.specs.Timers.{insert_first_step, delete_first_step}
use Rattle.rules.specs.Links.{transfer_ends, give, tick}
use Rattle.rules.specs.Channels.{requested}
use Rattle.rules.specs.Operations.{Action, pure, pure_or_stop}
use Rattle.rules.specs.Step.{choose}
use Rattle.rules.specs.Journal.{record_of, pairs_at, write_back}
use Rattle.rules.specs.Calls.{numbered, not_output}
use Rattle.rules.specs.declared.Answer.TheVariants.{Halted, Unlisted}
use Rattle.rules.specs.Starred.{Settings, has, word40}
use Rattle.laws.specs.Accesses.{Instruction, registers_for, memory_for, running, mine, other}

-- the instruction at MemStart: 40, ldc 0 (000 1.11, ldc)
abbrev pub ldc0 : Instruction
ldc0 = (0x4, 0)

-- the work of a call at its start: the low process at word 40 runs, with some registers set (DECISIONS 44)
unfoldable pub before : Settings → Work
before set = begin (registers_for ldc0 set)

-- the work has an answer, and these registers and words afterwards (DECISIONS 44)
unfoldable pub ends : List ℕ → ℕ → Settings → Settings → Work → Bool
ends m number left words w =
    eqb w.answer number && has w.regs left && has (stores m w.stored) words

-- an action, on a fresh memory of 64 words with some registers and words set, gives an answer and these registers and words (DECISIONS 44)
unfoldable pub gives : Action → Settings → Settings → ℕ → Settings → Settings → Bool
gives act set words number left words' =
    ends (memory_for ldc0 words) number left words' (act (memory_for ldc0 words) (before set))

-- the table; each row names its source (000 1.2 to 1.11; 01, One step; Links, clocks, slice; The journal; Answers by number)
unfoldable pub edges : List Bool
edges =
    -- nfix complements all bits of Oreg. With bit 0 kept, Oreg would be #FFFFFFF0 (000 1.11; DECISIONS 2)
    gives (pure nfix) ((oreg, 1) ∷ []) [] 0 ((oreg, 0xFFFF_FFE0) ∷ []) []
    -- testerr tests bit 31 of Status. A test of bit 30 would push 1 in the first row and 0 in the second (000 1.2, ReadErrorFlag)
    ∷ gives (pure testerr) ((status_reg, error_flag) ∷ []) [] 0 ((areg, 0) ∷ (status_reg, 0) ∷ []) []
    ∷ gives (pure testerr) ((status_reg, 0x4000_0000) ∷ []) [] 0 ((areg, 1) ∷ (status_reg, 0x4000_0000) ∷ []) []
    -- shl by 32 gives 0. With the bound at 31, the answer would be 11 (000 1.11, shl; DECISIONS 6)
    ∷ gives (pure_or_stop shl) ((areg, 32) ∷ (breg, 5) ∷ (creg, 7) ∷ []) [] 0 ((areg, 0) ∷ (breg, 7) ∷ []) []
    -- a sum of 2 ^ 31 overflows. With the bound one higher, the error flag would stay clear (000 1.2, OverflowCheck)
    ∷ gives (pure add) ((areg, 1) ∷ (breg, 0x7FFF_FFFF) ∷ []) [] 0 ((areg, 0x8000_0000) ∷ (status_reg, error_flag) ∷ []) []
    -- a byte goes to the place that its address selects, here 2. By the byte, #55, it would be 1, and word 40 #44445544 (000 1.5; DECISIONS 3)
    ∷ gives (λ m. store_byte m (word40 + 2) 0x55) [] ((40, 0x4444_4444) ∷ []) 0 [] ((40, 0x4455_4444) ∷ [])
    -- a move leaves its destination in B and its source in C. Exchanged, B would be #2008 and C #1008 (DECISIONS 14)
    ∷ gives (λ m. move_done 8) ((areg, 8) ∷ (breg, 0x1000) ∷ (creg, 0x2000) ∷ []) [] 0
    ((areg, 0) ∷ (breg, 0x1008) ∷ (creg, 0x2008) ∷ []) []
    -- Dequeue compares the low front with the low back. With the high back, the front would be Link.s, 7, in the first row and NotProcess.p in
    -- the second (000 1.10, Dequeue; DECISIONS 23)
    ∷ gives (λ m. dequeue m 1) ((fptr_reg 1, other) ∷ (bptr_reg 1, other) ∷ (bptr_reg 0, mine) ∷ []) ((28, 7) ∷ []) 0
    ((fptr_reg 1, not_process) ∷ (wdesc_reg, other + 1) ∷ []) []
    ∷ gives (λ m. dequeue m 1) ((fptr_reg 1, other) ∷ (bptr_reg 1, mine) ∷ (bptr_reg 0, other) ∷ []) ((28, 7) ∷ []) 0
    ((fptr_reg 1, 7) ∷ (wdesc_reg, other + 1) ∷ []) []
    -- StartNextProcess finds by Wptr that no process was interrupted, and starts the low one. By Iptr, no process would start
    -- (000 1.10, StartNextProcess)
    ∷ gives resume_or_start ((wdesc_reg, no_low_process) ∷ (fptr_reg 1, other) ∷ (bptr_reg 1, other) ∷ []) ((29, 0x8000_0060) ∷ []) 0
    ((iptr_reg, 0x8000_0060) ∷ (wdesc_reg, other + 1) ∷ []) []
    -- the step acts on GotoSNPBit, bit 1 of Status. By IOBit, bit 2, the process would run on in the first row, and not in the second
    -- (000 1.2; 01, One step)
    ∷ gives act_on_snp ((status_reg, goto_snp_bit) ∷ []) [] 0 ((wdesc_reg, no_low_process) ∷ (status_reg, 0) ∷ (flags_reg, idle_flag) ∷ []) []
    ∷ gives act_on_snp ((status_reg, 4) ∷ []) [] 0 ((wdesc_reg, running) ∷ (status_reg, 4) ∷ (flags_reg, 0) ∷ []) []
    -- endp: the last process is the one that finds the count 1. With 0, the first row would store the count 0 and set GotoSNPBit, and the second
    -- would go on at #80000060 (000 1.11, end process; DECISIONS 7)
    ∷ gives endp ((areg, other) ∷ []) ((30, 0x8000_0060) ∷ (31, 1) ∷ []) 0
    ((iptr_reg, 0x8000_0060) ∷ (wdesc_reg, other + 1) ∷ (status_reg, 0) ∷ []) ((31, 1) ∷ [])
    ∷ gives endp ((areg, other) ∷ []) ((30, 0x8000_0060) ∷ (31, 0) ∷ []) 0
    ((iptr_reg, mem_start) ∷ (wdesc_reg, running) ∷ (status_reg, goto_snp_bit) ∷ []) ((31, 0xFFFF_FFFF) ∷ [])
    -- a process with time 50 is inserted before one with time 100. With the times exchanged, TPtrLoc[1], word 10, would still be the other
    -- process (000 1.10, InsertTest)
    ∷ gives insert_first_step ((areg, 50) ∷ []) ((10, other) ∷ (25, 100) ∷ (26, not_process) ∷ []) 0
    ((breg, mine) ∷ (creg, other) ∷ []) ((10, mine) ∷ (36, other) ∷ (26, not_process) ∷ [])
    -- the front of two processes is deleted. A walk to the end of the queue would leave it in front, and link the other process to itself
    -- (000 1.10, DeleteTest)
    ∷ gives delete_first_step [] ((10, mine) ∷ (36, other) ∷ (26, not_process) ∷ []) 0
    ((breg, other) ∷ (creg, other) ∷ []) ((10, other) ∷ (36, time_not_set) ∷ (26, not_process) ∷ [])
    -- give is refused where a byte is held. By the enabled bit, the first row would answer 0 and the second 8 (01, Links, clocks, slice)
    ∷ gives (λ m. give m 4 0x55) ((channel_reg 4, held_bit) ∷ []) [] not_ready ((channel_reg 4, held_bit) ∷ []) []
    ∷ gives (λ m. give m 4 0x55) ((channel_reg 4, enabled_bit) ∷ []) [] 0
    ((channel_reg 4, 0x5500 + held_bit + ready_request) ∷ []) []
    -- a transfer that ends sets the run request. With bit 4, the ready request would be set (01, Links, clocks, slice)
    ∷ gives (λ m. transfer_ends 0) ((channel_reg 0, active_bit) ∷ []) [] 0 ((channel_reg 0, run_request) ∷ []) []
    -- the slice counts on a halted machine, not at high priority and not while idle. By 01's sentence, it would be 1,024 in the second and third
    -- row; without the ticks of a halted machine, 1,023 in the first (02, No. 3; DECISIONS 64)
    ∷ gives (λ m. tick) ((flags_reg, clocks_run + halted_flag) ∷ (slice_reg, 1023) ∷ []) [] 0 ((slice_reg, 1024) ∷ []) []
    ∷ gives (λ m. tick) ((wdesc_reg, mine) ∷ (flags_reg, clocks_run) ∷ (slice_reg, 1023) ∷ []) [] 0 ((slice_reg, 1023) ∷ []) []
    ∷ gives (λ m. tick) ((flags_reg, clocks_run + idle_flag) ∷ (slice_reg, 1023) ∷ []) [] 0 ((slice_reg, 1023) ∷ []) []
    -- a ready request alone is a request. With the run request alone, none would be found: 9 (01, One step (a))
    ∷ eqb (requested (before ((channel_reg 4, ready_request) ∷ []))) 4
    -- requests are served where Oreg is 0. With 1, the first row would execute ldc, and the second serve the request (01, One step)
    ∷ gives choose ((channel_reg 0, run_request) ∷ []) [] 0 ((channel_reg 0, 0) ∷ (iptr_reg, mem_start) ∷ []) []
    ∷ gives choose ((channel_reg 0, run_request) ∷ (oreg, 1) ∷ []) [] 0
    ((channel_reg 0, run_request) ∷ (iptr_reg, mem_start + 1) ∷ (areg, 1) ∷ []) []
    -- word 40 is stored, then word 41 moved over it. A store made again after the move would leave 7 (DECISIONS 44)
    ∷ has (stores (memory_for ldc0 ((41, 9) ∷ [])) (word 40 7 ∷ bytes (4 * 41) (4 * 40) 4 ∷ [])) ((40, 9) ∷ [])
    -- a record ends with the last register, then the number of pairs, here 1. One word early, the number would replace the last register
    -- (01, The journal)
    ∷ has (record_of (memory_for ldc0 []) (registers_for ldc0 ((registers - 1, 9) ∷ [])) (40 ∷ [])) ((registers + 1, 9) ∷ (registers + 2, 1) ∷ [])
    -- undo writes back the word after each index. With the third word after it, words 40 and 41 would be 6 and 0 (01, The journal)
    ∷ has (write_back (memory_for ldc0 []) (pairs_at (40 ∷ 5 ∷ 41 ∷ 6 ∷ 0 ∷ 0 ∷ []) 0 2)) ((40, 5) ∷ (41, 6) ∷ [])
    -- channel 4 is no output link. With the bound at 5, channel 4 would be one (01, Answers by number, 3)
    ∷ not_output 4
    -- Halted is 6. As Idle it would be 7 (01, Answers by number)
    ∷ eqb (numbered Halted).0 6
    -- Unlisted is 9. A call refused with 8 that answers Unlisted would have the number 9 (01, Answers by number)
    ∷ eqb (numbered Unlisted).0 9
    ∷ []
