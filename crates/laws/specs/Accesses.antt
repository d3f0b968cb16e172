-- Every access of a step at the edge of memory, which is 64 words here, at addresses #80000000 to #800000FF. A site is an access, and the
-- registers and words that put it at a given address. Where that is just inside memory, the step answers 0; where it is just outside, it
-- answers 10 with the access's kind and address (01, Answers by number). `sites-hold` (proofs/WorkedAccesses.antt) proves it of each site. They
-- stand in the order of the rules' chapters:
--   fetch_sites        the fetch
--   data_sites         ldl, stl, ldnl, stnl, call, ret, lb, sb, move, saveh, savel, altend
--   scheduling_sites   Run (runp), StartNextProcess (stopp), startp, endp, stoperr, lend, TimeSlice (j, lend)
--   timer_sites        HandleTimerRequest, tin, talt, taltwt, enbt, dist
--   channel_sites      HandleChannelRequest, in, out, outword, outbyte, resetch, alt, altwt, enbs, diss, enbc, disc
--   link_sites         take, give
-- and `listings` has whole lists of accesses, in order.
-- A procedure that several share has all its sites where its name stands; each other caller of Run has one of its sites. What has no site of
-- its own cannot be the first access outside memory:
-- - accesses of fixed words: a hard channel's word, TPtrLoc, the save area;
-- - a store, or a second load, at an address that the step has loaded before: "with a store" below says that the load's site has it too;
-- - a place between two that are accessed before it: Iptr.s in altwt and taltwt, TLink.s in tin; and outbyte's byte, in the word just stored.
use Rattle.std.specs.Prelude.{ℕ, ◌+◌, ◌-◌, ◌*◌, ◌/◌, ◌%◌, ◌^◌, Bool, true, false, ◌&&◌, List, [], ◌∷◌, ◌++◌, eqb}
use Rattle.rules.specs.Words.{at_word, index}
use Rattle.rules.specs.Core.{error_flag}
use Rattle.rules.specs.Stack.{clocks_run}
use Rattle.rules.specs.Registers.{iptr_reg, wdesc_reg, areg, breg, creg, oreg, status_reg, fptr_reg, bptr_reg, slice_reg, flags_reg, halted_flag, t_enabled, pointer_reg, count_reg, channel_reg, active_bit, held_bit, run_request, ready_request, event_channel}
use Rattle.rules.specs.Work.{Access, Work, begin, outside, kind_fetch, kind_load, kind_store}
use Rattle.rules.specs.Scheduling.{not_process, no_low_process, enabling, waiting, ready, time_set, time_not_set, none_selected, port_base, slice_length}
use Rattle.rules.specs.Links.{take, give}
use Rattle.rules.specs.Step.{step, accesses}
use Rattle.rules.specs.Calls.{fresh_regs, fresh_memory}
use Rattle.rules.specs.Starred.{Settings, with_settings}

-- ---- the edges of memory: an address just inside, and the next one outside

-- the last word, and the one after it (01, Memory and registers)
abbrev pub last_word : ℕ × ℕ
last_word = (0x8000_00FC, 0x8000_0100)

-- the last byte, and the one after it (01, Memory and registers)
abbrev pub last_byte : ℕ × ℕ
last_byte = (0x8000_00FF, 0x8000_0100)

-- the first word, and the one before it (01, Memory and registers)
abbrev pub first_word : ℕ × ℕ
first_word = (0x8000_0000, 0x7FFF_FFFC)

-- ---- sites

-- an instruction: its function and its operand (01, One step)
abbrev pub Instruction : Type 0
Instruction = ℕ × ℕ

-- the operation with a code (000 1.11, operate)
abbrev pub op : ℕ → Instruction
op code = (0xF, code)

-- its last byte; the prefixes are in Oreg (01, One step)
abbrev pub byte_for : Instruction → ℕ
byte_for i = i.0 * 16 + i.1 % 16

-- the process that runs: low, with its workspace at word 40 (01, Memory and registers)
abbrev pub running : ℕ
running = 0x8000_00A1

-- registers of fresh, with the process that runs, the prefixes and more set (01, Memory and registers)
unfoldable pub registers_for : Instruction → Settings → List ℕ
registers_for i s = with_settings (fresh_regs 1) ((wdesc_reg, running) ∷ (oreg, i.1 / 16 * 16) ∷ s)

-- a fresh memory with the instruction's last byte at MemStart, and more words set (01, Memory and registers)
unfoldable pub memory_for : Instruction → Settings → List ℕ
memory_for i s = with_settings (fresh_memory (byte_for i ∷ []) 0 64) s

-- the answer with its access (01, Answers by number; DECISIONS 44)
unfoldable pub answers : ℕ → ℕ → ℕ → Work → Bool
answers number kind address w = eqb w.answer number && eqb w.kind kind && eqb w.address address

-- what a call does, of the memory before it, to the call's work (DECISIONS 44)
abbrev pub Call : Type 0
Call = List ℕ → Work → Work

-- a call's work in the state, registers and words, that puts an access at an address (DECISIONS 44)
unfoldable pub work_at : Call → Instruction → (ℕ → Settings) → (ℕ → Settings) → ℕ → Work
work_at call i registers words a = call (memory_for i (words a)) (begin (registers_for i (registers a)))

-- with an access at an address the call answers 0 (01, Answers by number)
unfoldable pub makes : Call → Instruction → (ℕ → Settings) → (ℕ → Settings) → ℕ → Bool
makes call i registers words a = answers 0 0 0 (work_at call i registers words a)

-- with an access of a kind at an address the call answers 10, for that access (01, Answers by number)
unfoldable pub refuses : Call → Instruction → ℕ → (ℕ → Settings) → (ℕ → Settings) → ℕ → Bool
refuses call i kind registers words a = answers outside kind a (work_at call i registers words a)

-- far outside memory the step answers 10, whichever of its accesses comes first (01, Answers by number)
unfoldable pub refuses_far : Instruction → (ℕ → Settings) → (ℕ → Settings) → ℕ → Bool
refuses_far i registers words a = eqb (work_at step i registers words a).answer outside

-- an access of a step at an edge: made inside, refused just outside, and refused a quarter, a half and three quarters of the addresses further on
-- (01, Answers by number)
unfoldable pub site : Instruction → ℕ × ℕ → ℕ → (ℕ → Settings) → (ℕ → Settings) → Bool
site i edge kind registers words =
    makes step i registers words edge.0
    && refuses step i kind registers words edge.1
    && refuses_far i registers words 0
    && refuses_far i registers words 0x4000_0000
    && refuses_far i registers words 0xC000_0000

-- one that is outside: where it is just inside, another access of the step is outside (01, Answers by number)
unfoldable pub refused : Instruction → ℕ × ℕ → ℕ → (ℕ → Settings) → (ℕ → Settings) → Bool
refused i edge kind registers words = refuses step i kind registers words edge.1

-- one that is inside, where another state puts it outside (01, Answers by number)
unfoldable pub accepted : Instruction → ℕ × ℕ → (ℕ → Settings) → (ℕ → Settings) → Bool
accepted i edge registers words = makes step i registers words edge.0

-- an instruction where a request is served before any is fetched (01, One step (a), (b))
abbrev pub unfetched : Instruction
unfetched = (0x4, 0)

-- ---- what the states are made of

-- no words beside (01, Memory and registers)
abbrev pub none : ℕ → Settings
none a = []

-- the low process of a workspace (000 1.3)
abbrev pub low : ℕ → ℕ
low wptr = wptr + 1

-- the workspace whose Iptr.s is at an address (000 1.3)
abbrev pub iptr_at : ℕ → ℕ
iptr_at a = a + 4 * 1

-- the workspace whose Link.s is at an address (000 1.3)
abbrev pub link_at : ℕ → ℕ
link_at a = a + 4 * 2

-- the workspace whose State.s and Pointer.s is at an address (000 1.3)
abbrev pub state_at : ℕ → ℕ
state_at a = a + 4 * 3

-- the workspace whose TLink.s is at an address (000 1.3)
abbrev pub tlink_at : ℕ → ℕ
tlink_at a = a + 4 * 4

-- the workspace whose Time.s is at an address (000 1.3)
abbrev pub time_at : ℕ → ℕ
time_at a = a + 4 * 5

-- the workspace of the process that runs: Iptr.s is word 39, State.s 37, TLink.s 36, Time.s 35 (000 1.3)
abbrev pub mine : ℕ
mine = 0x8000_00A0

-- the workspace of another process, at word 30: Iptr.s is word 29, Link.s 28, State.s 27, TLink.s 26, Time.s 25 (000 1.3)
abbrev pub other : ℕ
other = 0x8000_0078

-- a soft channel, word 50 (01, Memory and registers)
abbrev pub channel : ℕ
channel = 0x8000_00C8

-- a place for a message, word 54 (01, Memory and registers)
abbrev pub buffer : ℕ
buffer = 0x8000_00D8

-- a hard channel (01, Memory and registers)
abbrev pub port : ℕ → ℕ
port c = at_word port_base c

-- the queue of a level with a process in it, and a back whose Link.s is at an address: Enqueue stores there (000 1.10)
abbrev pub back_at : ℕ → ℕ → Settings
back_at level a = (fptr_reg level, other) ∷ (bptr_reg level, link_at a) ∷ []

-- the queue of a level whose front has its Link.s at an address, and another back: Dequeue loads there (000 1.10)
abbrev pub front_link_at : ℕ → ℕ → Settings
front_link_at level a = (fptr_reg level, link_at a) ∷ (bptr_reg level, other) ∷ []

-- the queue of a level whose front has its Iptr.s at an address: ActivateProcess loads there (000 1.10)
abbrev pub front_iptr_at : ℕ → ℕ → Settings
front_iptr_at level a = (fptr_reg level, iptr_at a) ∷ (bptr_reg level, other) ∷ []

-- ---- the fetch (01, One step (c))

-- the byte that is fetched; inside it is 40, ldc 0 (01, One step (c))
unfoldable pub fetch_sites : List Bool
fetch_sites = site (0x4, 0) last_byte kind_fetch (λ a. (iptr_reg, a) ∷ []) (λ a. (63, 0x4000_0000) ∷ []) ∷ []

-- ---- Data

-- functions and operations that load and store and do not schedule (000 1.11)
unfoldable pub data_sites : List Bool
data_sites =
    -- ldl, stl: the local
    site (0x7, 0) last_word kind_load (λ a. (wdesc_reg, low a) ∷ []) none
    ∷ site (0xD, 0) last_word kind_store (λ a. (wdesc_reg, low a) ∷ []) none
    -- ldnl, stnl: the word at Areg
    ∷ site (0x3, 0) last_word kind_load (λ a. (areg, a) ∷ []) none
    ∷ site (0xE, 0) last_word kind_store (λ a. (areg, a) ∷ []) none
    -- call: C, then B, A and Iptr below it
    ∷ site (0x9, 0) last_word kind_store (λ a. (wdesc_reg, low (a + 4 * 1)) ∷ []) none
    ∷ refused (0x9, 0) first_word kind_store (λ a. (wdesc_reg, low (a + 4 * 2)) ∷ []) none
    ∷ refused (0x9, 0) first_word kind_store (λ a. (wdesc_reg, low (a + 4 * 3)) ∷ []) none
    ∷ site (0x9, 0) first_word kind_store (λ a. (wdesc_reg, low (a + 4 * 4)) ∷ []) none
    -- ret: Iptr
    ∷ site (op 0x20) last_word kind_load (λ a. (wdesc_reg, low a) ∷ []) none
    -- lb, sb: the byte at Areg
    ∷ site (op 0x01) last_byte kind_load (λ a. (areg, a) ∷ []) none
    ∷ site (op 0x3B) last_byte kind_store (λ a. (areg, a) ∷ []) none
    -- move: the first byte from Creg, the first to Breg; the second of each
    ∷ site (op 0x4A) last_byte kind_load (λ a. (areg, 1) ∷ (breg, buffer) ∷ (creg, a) ∷ []) none
    ∷ site (op 0x4A) last_byte kind_store (λ a. (areg, 1) ∷ (breg, a) ∷ (creg, buffer) ∷ []) none
    ∷ site (op 0x4A) last_byte kind_load (λ a. (areg, 2) ∷ (breg, buffer) ∷ (creg, a - 1) ∷ []) none
    ∷ site (op 0x4A) last_byte kind_store (λ a. (areg, 2) ∷ (breg, a - 1) ∷ (creg, buffer) ∷ []) none
    -- saveh, savel: the front, then the back above it
    ∷ site (op 0x3E) first_word kind_store (λ a. (areg, a) ∷ []) none
    ∷ site (op 0x3E) last_word kind_store (λ a. (areg, a - 4) ∷ []) none
    ∷ site (op 0x3D) first_word kind_store (λ a. (areg, a) ∷ []) none
    ∷ site (op 0x3D) last_word kind_store (λ a. (areg, a - 4) ∷ []) none
    -- altend: the offset
    ∷ site (op 0x45) last_word kind_load (λ a. (wdesc_reg, low a) ∷ []) none
    ∷ []

-- ---- Scheduling

-- TimeSlice of an instruction that a low process has run long enough for (000 1.9)
unfoldable pub slice_sites : Instruction → List Bool
slice_sites i =
    -- its own Iptr.s; the link of the queue's back
    site i last_word kind_store
    (λ a. (wdesc_reg, low (iptr_at a)) ∷ (breg, buffer) ∷ (flags_reg, clocks_run) ∷ (slice_reg, slice_length) ∷ [])
    none
    ∷ site i last_word kind_store
    (λ a. (breg, buffer) ∷ (flags_reg, clocks_run) ∷ (slice_reg, slice_length) ∷ back_at 1 a)
    none
    ∷ []

-- Run, StartNextProcess, TimeSlice and the operations that start and stop processes (000 1.9, 1.10, 1.11)
unfoldable pub scheduling_sites : List Bool
scheduling_sites =
    -- runp, at high priority: the link of the high queue's back, of the low queue's back
    site (op 0x39) last_word kind_store (λ a. (wdesc_reg, mine) ∷ (areg, buffer) ∷ back_at 0 a) none
    ∷ site (op 0x39) last_word kind_store (λ a. (wdesc_reg, mine) ∷ (areg, low buffer) ∷ back_at 1 a) none
    -- runp, at low priority: the Iptr.s of a high process that interrupts; of a low one where none runs; the link of the low queue's back
    ∷ site (op 0x39) last_word kind_load (λ a. (areg, iptr_at a) ∷ []) none
    ∷ site (op 0x39) last_word kind_load (λ a. (wdesc_reg, no_low_process) ∷ (areg, low (iptr_at a)) ∷ []) none
    ∷ site (op 0x39) last_word kind_store (λ a. (areg, low buffer) ∷ back_at 1 a) none
    -- stopp: its own Iptr.s
    ∷ site (op 0x15) last_word kind_store (λ a. (wdesc_reg, low (iptr_at a)) ∷ []) none
    -- stopp, then the next process at high priority: a high one's Link.s and Iptr.s; with nothing saved, a low one's
    ∷ site (op 0x15) first_word kind_load (λ a. (wdesc_reg, mine) ∷ front_link_at 0 a) none
    ∷ site (op 0x15) last_word kind_load (λ a. (wdesc_reg, mine) ∷ front_iptr_at 0 a) none
    ∷ site (op 0x15) first_word kind_load (λ a. (wdesc_reg, mine) ∷ front_link_at 1 a) (λ a. (11, no_low_process) ∷ [])
    ∷ site (op 0x15) last_word kind_load (λ a. (wdesc_reg, mine) ∷ front_iptr_at 1 a) (λ a. (11, no_low_process) ∷ [])
    -- stopp, then the next process at low priority
    ∷ site (op 0x15) first_word kind_load (λ a. front_link_at 1 a) none
    ∷ site (op 0x15) last_word kind_load (λ a. front_iptr_at 1 a) none
    -- startp: the new process's Iptr.s; the link of the queue's back
    ∷ site (op 0x0D) last_word kind_store (λ a. (areg, iptr_at a) ∷ []) none
    ∷ site (op 0x0D) last_word kind_store (λ a. (areg, buffer) ∷ back_at 1 a) none
    -- endp: the count; with count 1, Iptr below it
    ∷ site (op 0x03) last_word kind_load (λ a. (areg, a - 4) ∷ []) (λ a. (index a, 2) ∷ [])
    ∷ site (op 0x03) first_word kind_load (λ a. (areg, a) ∷ []) (λ a. (index (a + 4), 1) ∷ [])
    -- stoperr, with the error flag set: its own Iptr.s
    ∷ site (op 0x55) last_word kind_store (λ a. (wdesc_reg, low (iptr_at a)) ∷ (status_reg, error_flag) ∷ []) none
    -- lend: the count; where it loops, the index below it
    ∷ site (op 0x21) last_word kind_load (λ a. (breg, a - 4) ∷ []) none
    ∷ site (op 0x21) first_word kind_load (λ a. (breg, a) ∷ []) (λ a. (index (a + 4), 2) ∷ [])
    -- j and lend: TimeSlice
    ∷ slice_sites (0x0, 0)
    ++ slice_sites (op 0x21)

-- ---- Timers

-- HandleTimerRequest: the queue, and a process that runs at such a priority that the one that is woken is put into a queue (000 1.8)
unfoldable pub timer_request_sites : ℕ → ℕ → List Bool
timer_request_sites queue process =
    -- TLink.s of the first; Time.s of the second; State.s of the first, with a store; the link of the queue's back
    site unfetched first_word kind_load (λ a. (wdesc_reg, process) ∷ (flags_reg, t_enabled queue) ∷ [])
    (λ a. (9 + queue, tlink_at a) ∷ (index (a + 4), ready) ∷ [])
    ∷ site unfetched last_word kind_load (λ a. (wdesc_reg, process) ∷ (flags_reg, t_enabled queue) ∷ [])
    (λ a. (9 + queue, other) ∷ (26, time_at a) ∷ (27, ready) ∷ [])
    ∷ site unfetched last_word kind_load (λ a. (wdesc_reg, process) ∷ (flags_reg, t_enabled queue) ∷ [])
    (λ a. (9 + queue, state_at a) ∷ (index (a - 4), not_process) ∷ (index a, waiting) ∷ [])
    ∷ site unfetched last_word kind_store (λ a. (wdesc_reg, process) ∷ (flags_reg, t_enabled queue) ∷ back_at queue a)
    (λ a. (9 + queue, other) ∷ (26, not_process) ∷ (27, waiting) ∷ [])
    ∷ []

-- the walk of an insertion into the low queue, at time 1, by an operation in a state that leads there (000 1.10, InsertTest)
unfoldable pub insertion_sites : Instruction → Settings → List Bool
insertion_sites i s =
    -- Time.s of the first; its TLink.s, at the queue's end, with a store, before an earlier process, before a later one. Time.s of the first
    -- afterwards, where the process's own Iptr.s is TPtrLoc: then it is the workspace at Iptr
    site i last_word kind_load none (λ a. (10, time_at a) ∷ (index a, 5) ∷ s)
    ∷ site i last_word kind_load none (λ a. (10, tlink_at a) ∷ (index a, not_process) ∷ s)
    ∷ site i last_word kind_load none (λ a. (10, tlink_at a) ∷ (index a, other) ∷ (25, 0) ∷ (26, not_process) ∷ s)
    ∷ site i last_word kind_load none (λ a. (10, tlink_at a) ∷ (index a, other) ∷ (25, 5) ∷ s)
    ∷ site i first_word kind_load (λ a. (wdesc_reg, low (iptr_at 0x8000_0028)) ∷ (iptr_reg, time_at a - 1) ∷ [])
    (λ a. (3, byte_for i * 2 ^ 24) ∷ (4, byte_for i * 2 ^ 24) ∷ (6, 0) ∷ (7, time_set) ∷ (8, 0) ∷ [])
    ∷ []

-- HandleTimerRequest and the timer operations (000 1.8, 1.10, 1.11)
unfoldable pub timer_sites : List Bool
timer_sites =
    timer_request_sites 0 mine
    ++ timer_request_sites 1 running
    -- a high process of the queue that interrupts: its Iptr.s
    ++ site unfetched last_word kind_load (λ a. (flags_reg, t_enabled 0) ∷ [])
    (λ a. (9, iptr_at a) ∷ (index (a - 4 * 3), not_process) ∷ (index (a - 4 * 2), waiting) ∷ [])
    -- tin: State.s, Time.s, the walk, Iptr.s
    ∷ refused (op 0x2B) last_word kind_store (λ a. (wdesc_reg, low (state_at a)) ∷ []) none
    ∷ site (op 0x2B) first_word kind_store (λ a. (wdesc_reg, low (time_at a)) ∷ []) none
    ∷ site (op 0x2B) last_word kind_store (λ a. (wdesc_reg, low (iptr_at a)) ∷ []) none
    ∷ insertion_sites (op 0x2B) []
    -- talt: TLink.s, State.s
    ++ site (op 0x4E) first_word kind_store (λ a. (wdesc_reg, low (tlink_at a)) ∷ []) none
    ∷ site (op 0x4E) last_word kind_store (λ a. (wdesc_reg, low (state_at a)) ∷ []) none
    -- taltwt: the local 0; State.s; ready, Time.s; not ready, TLink.s; with a time set, Time.s, and the walk
    ∷ site (op 0x51) last_word kind_store (λ a. (wdesc_reg, low a) ∷ []) (λ a. (index (a - 4 * 3), ready) ∷ [])
    ∷ refused (op 0x51) first_word kind_load (λ a. (wdesc_reg, low (state_at a)) ∷ []) none
    ∷ site (op 0x51) first_word kind_store (λ a. (wdesc_reg, low (time_at a)) ∷ []) (λ a. (index (a + 4 * 2), ready) ∷ [])
    ∷ site (op 0x51) first_word kind_load (λ a. (wdesc_reg, low (tlink_at a)) ∷ []) (λ a. (index a, time_not_set) ∷ [])
    ∷ site (op 0x51) first_word kind_load (λ a. (wdesc_reg, low (time_at a)) ∷ [])
    (λ a. (index (a + 4), time_set) ∷ (index a, 0xFFFF_FFFF) ∷ [])
    ∷ insertion_sites (op 0x51) ((36, time_set) ∷ [])
    -- enbt: TLink.s; the first guard, Time.s; a later one, Time.s, with a store
    ++ site (op 0x47) last_word kind_load (λ a. (wdesc_reg, low (tlink_at a)) ∷ (areg, 1) ∷ []) (λ a. (index a, time_not_set) ∷ [])
    ∷ site (op 0x47) first_word kind_store (λ a. (wdesc_reg, low (time_at a)) ∷ (areg, 1) ∷ [])
    (λ a. (index (a + 4), time_not_set) ∷ [])
    ∷ site (op 0x47) first_word kind_load (λ a. (wdesc_reg, low (time_at a)) ∷ (areg, 1) ∷ [])
    (λ a. (index (a + 4), time_set) ∷ (index a, 5) ∷ [])
    -- dist: TLink.s; Time.s; ready, the local 0, with a store
    ∷ site (op 0x2E) last_word kind_load (λ a. (wdesc_reg, low (tlink_at a)) ∷ (breg, 1) ∷ []) (λ a. (index a, time_not_set) ∷ [])
    ∷ site (op 0x2E) first_word kind_load (λ a. (wdesc_reg, low (time_at a)) ∷ (breg, 1) ∷ []) (λ a. (index (a + 4), time_set) ∷ [])
    ∷ site (op 0x2E) last_word kind_load (λ a. (wdesc_reg, low a) ∷ (breg, 1) ∷ [])
    (λ a. (index (a - 4 * 5), 5) ∷ (index (a - 4 * 4), time_set) ∷ (index a, none_selected) ∷ [])
    -- dist, in the queue: TLink.s, with a store; TLink.s of the process before it, with a store, of the one before that; Time.s of the process
    -- that is first afterwards
    ∷ site (op 0x2E) last_word kind_load (λ a. (wdesc_reg, low (tlink_at a)) ∷ (breg, 1) ∷ [])
    (λ a. (10, tlink_at a) ∷ (index a, not_process) ∷ [])
    ∷ site (op 0x2E) last_word kind_load (λ a. (breg, 1) ∷ []) (λ a. (10, tlink_at a) ∷ (index a, mine) ∷ (36, not_process) ∷ [])
    ∷ site (op 0x2E) last_word kind_load (λ a. (breg, 1) ∷ [])
    (λ a. (10, tlink_at a) ∷ (index a, other) ∷ (26, mine) ∷ (36, not_process) ∷ [])
    ∷ site (op 0x2E) last_word kind_load (λ a. (breg, 1) ∷ []) (λ a. (10, mine) ∷ (36, time_at a) ∷ [])
    ∷ []

-- ---- Channels

-- a process that waits on the soft channel: Iptr.s, then Pointer.s (000 1.10, SaveRegsPendingSoftIO)
unfoldable pub soft_wait_sites : Instruction → Settings → List Bool
soft_wait_sites i s =
    site i last_word kind_store (λ a. (wdesc_reg, low (iptr_at a)) ∷ (breg, channel) ∷ []) (λ a. s)
    ∷ site i first_word kind_store (λ a. (wdesc_reg, low (state_at a)) ∷ (breg, channel) ∷ []) (λ a. s)
    ∷ []

-- output word and output byte (000 1.11)
unfoldable pub output_local_sites : Instruction → List Bool
output_local_sites i =
    -- the local 0; on a hard channel, Iptr.s below it; on a soft channel, Iptr.s, then Pointer.s
    site i last_word kind_store (λ a. (wdesc_reg, low a) ∷ (breg, channel) ∷ []) (λ a. (50, not_process) ∷ [])
    ∷ site i first_word kind_store (λ a. (wdesc_reg, low (iptr_at a)) ∷ (breg, port 2) ∷ []) none
    ∷ refused i first_word kind_store (λ a. (wdesc_reg, low (iptr_at a)) ∷ (breg, channel) ∷ []) (λ a. (50, not_process) ∷ [])
    ∷ site i first_word kind_store (λ a. (wdesc_reg, low (state_at a)) ∷ (breg, channel) ∷ []) (λ a. (50, not_process) ∷ [])
    ∷ []

-- HandleChannelRequest, messages and alternatives (000 1.8, 1.10, 1.11; 01, Links, clocks, slice)
unfoldable pub channel_sites : List Bool
channel_sites =
    -- a run request: the Iptr.s of a high process; the link of the low queue's back
    site unfetched last_word kind_load (λ a. (channel_reg 3, run_request) ∷ []) (λ a. (3, iptr_at a) ∷ [])
    ∷ site unfetched last_word kind_store (λ a. (channel_reg 3, run_request) ∷ back_at 1 a) (λ a. (3, low buffer) ∷ [])
    -- a ready request: Pointer.s, with a store, enabling or waiting; then Run
    ∷ site unfetched last_word kind_load (λ a. (channel_reg 5, ready_request) ∷ []) (λ a. (5, low (state_at a)) ∷ (index a, enabling) ∷ [])
    ∷ site unfetched last_word kind_load (λ a. (channel_reg 5, ready_request) ∷ []) (λ a. (5, low (state_at a)) ∷ (index a, waiting) ∷ [])
    ∷ site unfetched last_word kind_load (λ a. (channel_reg 5, ready_request) ∷ [])
    (λ a. (5, iptr_at a) ∷ (index (a - 4 * 2), waiting) ∷ [])
    ∷ site unfetched last_word kind_store (λ a. (channel_reg 5, ready_request) ∷ back_at 1 a)
    (λ a. (5, low other) ∷ (27, waiting) ∷ [])
    -- in on a hard channel: Iptr.s, on an input link, an output link, with a byte or an event held; the byte held
    ∷ site (op 0x07) last_word kind_store (λ a. (wdesc_reg, low (iptr_at a)) ∷ (areg, 1) ∷ (breg, port 4) ∷ []) none
    ∷ site (op 0x07) last_word kind_store (λ a. (wdesc_reg, low (iptr_at a)) ∷ (areg, 1) ∷ (breg, port 0) ∷ []) none
    ∷ site (op 0x07) last_word kind_store
    (λ a. (wdesc_reg, low (iptr_at a)) ∷ (areg, 1) ∷ (breg, port 4) ∷ (creg, buffer) ∷ (channel_reg 4, held_bit) ∷ [])
    none
    ∷ site (op 0x07) last_word kind_store
    (λ a. (wdesc_reg, low (iptr_at a)) ∷ (areg, 1) ∷ (breg, port 8) ∷ (channel_reg event_channel, held_bit) ∷ [])
    none
    ∷ site (op 0x07) last_byte kind_store (λ a. (areg, 1) ∷ (breg, port 4) ∷ (creg, a) ∷ (channel_reg 4, held_bit) ∷ []) none
    -- in on a soft channel: the channel, with a store; nobody there, Iptr.s and Pointer.s
    ∷ site (op 0x07) last_word kind_load (λ a. (breg, a) ∷ []) (λ a. (index a, not_process) ∷ [])
    ∷ soft_wait_sites (op 0x07) ((50, not_process) ∷ [])
    -- in, with a partner: the channel, with a store; its Pointer.s; the bytes from there; the bytes to Creg; the link of its queue's back
    ++ site (op 0x07) last_word kind_load (λ a. (breg, a) ∷ []) (λ a. (index a, low other) ∷ [])
    ∷ site (op 0x07) last_word kind_load (λ a. (breg, channel) ∷ []) (λ a. (50, low (state_at a)) ∷ [])
    ∷ site (op 0x07) last_byte kind_load (λ a. (areg, 1) ∷ (breg, channel) ∷ (creg, buffer) ∷ []) (λ a. (50, low other) ∷ (27, a) ∷ [])
    ∷ site (op 0x07) last_byte kind_load (λ a. (areg, 2) ∷ (breg, channel) ∷ (creg, buffer) ∷ []) (λ a. (50, low other) ∷ (27, a - 1) ∷ [])
    ∷ site (op 0x07) last_byte kind_store (λ a. (areg, 1) ∷ (breg, channel) ∷ (creg, a) ∷ []) (λ a. (50, low other) ∷ (27, buffer) ∷ [])
    ∷ site (op 0x07) last_byte kind_store (λ a. (areg, 2) ∷ (breg, channel) ∷ (creg, a - 1) ∷ []) (λ a. (50, low other) ∷ (27, buffer) ∷ [])
    ∷ site (op 0x07) last_word kind_store (λ a. (breg, channel) ∷ back_at 1 a) (λ a. (50, low other) ∷ (27, buffer) ∷ [])
    -- out on a hard channel: Iptr.s
    ∷ site (op 0x0B) last_word kind_store (λ a. (wdesc_reg, low (iptr_at a)) ∷ (areg, 1) ∷ (breg, port 0) ∷ []) none
    -- out on a soft channel: the channel, with a store; nobody there, or a partner that enables, waits or is ready, Iptr.s and Pointer.s
    ∷ site (op 0x0B) last_word kind_load (λ a. (breg, a) ∷ []) (λ a. (index a, not_process) ∷ [])
    ∷ soft_wait_sites (op 0x0B) ((50, not_process) ∷ [])
    ++ soft_wait_sites (op 0x0B) ((50, low other) ∷ (27, enabling) ∷ [])
    ++ soft_wait_sites (op 0x0B) ((50, low other) ∷ (27, waiting) ∷ [])
    ++ soft_wait_sites (op 0x0B) ((50, low other) ∷ (27, ready) ∷ [])
    -- out, with a partner: its Pointer.s, with a store where it enables or waits; then the link of its queue's back
    ++ site (op 0x0B) last_word kind_load (λ a. (breg, channel) ∷ []) (λ a. (50, low (state_at a)) ∷ (index a, enabling) ∷ [])
    ∷ site (op 0x0B) last_word kind_load (λ a. (breg, channel) ∷ back_at 1 buffer) (λ a. (50, low (state_at a)) ∷ (index a, waiting) ∷ [])
    ∷ site (op 0x0B) last_word kind_store (λ a. (breg, channel) ∷ back_at 1 a) (λ a. (50, low other) ∷ (27, waiting) ∷ [])
    -- out, with a partner that takes the message: the channel, with a store; the bytes from Creg; the bytes to its pointer; Run
    ∷ site (op 0x0B) last_word kind_load (λ a. (breg, a) ∷ []) (λ a. (index a, low other) ∷ (27, buffer) ∷ [])
    ∷ site (op 0x0B) last_byte kind_load (λ a. (areg, 1) ∷ (breg, channel) ∷ (creg, a) ∷ []) (λ a. (50, low other) ∷ (27, buffer) ∷ [])
    ∷ site (op 0x0B) last_byte kind_load (λ a. (areg, 2) ∷ (breg, channel) ∷ (creg, a - 1) ∷ []) (λ a. (50, low other) ∷ (27, buffer) ∷ [])
    ∷ site (op 0x0B) last_byte kind_store (λ a. (areg, 1) ∷ (breg, channel) ∷ (creg, buffer) ∷ []) (λ a. (50, low other) ∷ (27, a) ∷ [])
    ∷ site (op 0x0B) last_byte kind_store (λ a. (areg, 2) ∷ (breg, channel) ∷ (creg, buffer) ∷ []) (λ a. (50, low other) ∷ (27, a - 1) ∷ [])
    ∷ site (op 0x0B) last_word kind_store (λ a. (breg, channel) ∷ back_at 1 a) (λ a. (50, low other) ∷ (27, buffer) ∷ [])
    -- outword, outbyte
    ∷ output_local_sites (op 0x0F)
    ++ output_local_sites (op 0x0E)
    -- outword: the bytes from the local 0, outside where bit 1 of Wptr is set; the bytes to the partner's pointer
    ++ accepted (op 0x0F) last_byte (λ a. (wdesc_reg, low (a - 3)) ∷ (breg, channel) ∷ []) (λ a. (50, low other) ∷ (27, buffer) ∷ [])
    ∷ refused (op 0x0F) last_byte kind_load (λ a. (wdesc_reg, low (a - 2)) ∷ (breg, channel) ∷ []) (λ a. (50, low other) ∷ (27, buffer) ∷ [])
    ∷ site (op 0x0F) last_byte kind_store (λ a. (breg, channel) ∷ []) (λ a. (50, low other) ∷ (27, a - 3) ∷ [])
    -- outbyte: the byte to the partner's pointer
    ∷ site (op 0x0E) last_byte kind_store (λ a. (breg, channel) ∷ []) (λ a. (50, low other) ∷ (27, a) ∷ [])
    -- resetch: the channel, with a store
    ∷ site (op 0x12) last_word kind_load (λ a. (areg, a) ∷ []) none
    -- alt: State.s. altwt: the local 0; State.s, with a store
    ∷ site (op 0x43) last_word kind_store (λ a. (wdesc_reg, low (state_at a)) ∷ []) none
    ∷ site (op 0x44) last_word kind_store (λ a. (wdesc_reg, low a) ∷ []) none
    ∷ site (op 0x44) first_word kind_load (λ a. (wdesc_reg, low (state_at a)) ∷ []) none
    -- enbs: State.s. diss: the local 0, with a store
    ∷ site (op 0x49) last_word kind_store (λ a. (wdesc_reg, low (state_at a)) ∷ (areg, 1) ∷ []) none
    ∷ site (op 0x30) last_word kind_load (λ a. (wdesc_reg, low a) ∷ (breg, 1) ∷ []) (λ a. (index a, none_selected) ∷ [])
    -- enbc: the soft channel, with a store; where another process is there, State.s; a hard one with a byte held, State.s
    ∷ site (op 0x48) last_word kind_load (λ a. (areg, 1) ∷ (breg, a) ∷ []) (λ a. (index a, not_process) ∷ [])
    ∷ site (op 0x48) last_word kind_store (λ a. (wdesc_reg, low (state_at a)) ∷ (areg, 1) ∷ (breg, channel) ∷ []) (λ a. (50, low other) ∷ [])
    ∷ site (op 0x48) last_word kind_store
    (λ a. (wdesc_reg, low (state_at a)) ∷ (areg, 1) ∷ (breg, port 4) ∷ (channel_reg 4, held_bit) ∷ [])
    none
    -- disc: the soft channel, with a store; where another process is there, the local 0, with a store; a hard one with a byte held, the same
    ∷ site (op 0x2F) last_word kind_load (λ a. (breg, 1) ∷ (creg, a) ∷ []) (λ a. (index a, running) ∷ [])
    ∷ site (op 0x2F) last_word kind_load (λ a. (wdesc_reg, low a) ∷ (breg, 1) ∷ (creg, channel) ∷ [])
    (λ a. (50, low other) ∷ (index a, none_selected) ∷ [])
    ∷ site (op 0x2F) last_word kind_load (λ a. (wdesc_reg, low a) ∷ (breg, 1) ∷ (creg, port 4) ∷ (channel_reg 4, held_bit) ∷ [])
    (λ a. (index a, none_selected) ∷ [])
    ∷ []

-- ---- Links

-- take or give: the byte at the pointer of a link that is moving (01, Links, clocks, slice)
abbrev pub pointer_at : ℕ → ℕ → Settings
pointer_at c a = (pointer_reg c, a) ∷ (count_reg c, 1) ∷ (channel_reg c, active_bit) ∷ []

-- take from an output link, give to an input link (01, Links, clocks, slice)
unfoldable pub link_sites : List Bool
link_sites =
    makes (λ m. take m 0) unfetched (pointer_at 0) none last_byte.0
    ∷ refuses (λ m. take m 0) unfetched kind_load (pointer_at 0) none last_byte.1
    ∷ makes (λ m. give m 4 0xAB) unfetched (pointer_at 4) none last_byte.0
    ∷ refuses (λ m. give m 4 0xAB) unfetched kind_store (pointer_at 4) none last_byte.1
    ∷ []

-- ---- what makes no access there

-- Wptr is 0, far outside memory (01, Memory and registers)
abbrev pub lost_wptr : Settings
lost_wptr = (wdesc_reg, 1) ∷ []

-- an instruction that makes no access, or none through Wptr, goes on where Wptr is outside (01, Answers by number)
unfoldable pub spares : Instruction → Settings → Bool
spares i registers = accepted i last_word (λ a. lost_wptr ++ registers) none

-- the functions that make no access: j, ldlp, pfix, ldc, ldnlp, nfix, adc, cj, ajw, eqc (000 1.11)
unfoldable pub free_functions : List ℕ
free_functions = 0x0 ∷ 0x1 ∷ 0x2 ∷ 0x4 ∷ 0x5 ∷ 0x6 ∷ 0x8 ∷ 0xA ∷ 0xB ∷ 0xC ∷ []

-- the operations that make no access, A, B and C being 0 (000 1.11)
unfoldable pub free_operations : List ℕ
free_operations =
    0x00 ∷ 0x02 ∷ 0x04 ∷ 0x05 ∷ 0x06 ∷ 0x08 ∷ 0x09 ∷ 0x0A ∷ 0x0C ∷ 0x10 ∷ 0x13 ∷ 0x16
    ∷ 0x17 ∷ 0x18 ∷ 0x19 ∷ 0x1A ∷ 0x1B ∷ 0x1C ∷ 0x1D ∷ 0x1E ∷ 0x1F ∷ 0x22 ∷ 0x29 ∷ 0x2A
    ∷ 0x2C ∷ 0x31 ∷ 0x32 ∷ 0x33 ∷ 0x34 ∷ 0x35 ∷ 0x36 ∷ 0x37 ∷ 0x38 ∷ 0x3A ∷ 0x3C ∷ 0x3F
    ∷ 0x40 ∷ 0x41 ∷ 0x42 ∷ 0x46 ∷ 0x4B ∷ 0x4C ∷ 0x4D ∷ 0x4F ∷ 0x50 ∷ 0x52 ∷ 0x53 ∷ 0x54
    ∷ 0x55 ∷ 0x56 ∷ 0x57 ∷ 0x58 ∷ 0x59
    ∷ []

-- each of these functions, then each of these operations (000 1.11)
unfoldable pub spared : List ℕ → List ℕ → List Bool
spared [] [] = []
spared [] (code ∷ codes) = spares (op code) [] ∷ spared [] codes
spared (f ∷ fs) codes = spares (f, 0) [] ∷ spared fs codes

-- what makes no access, or none through Wptr: ldnl, stnl, lb, sb, saveh, savel, move of 0 bytes, resetch, endp, lend (000 1.11)
unfoldable pub free_sites : List Bool
free_sites =
    spares (0x3, 0) ((areg, last_word.0) ∷ [])
    ∷ spares (0xE, 0) ((areg, last_word.0) ∷ [])
    ∷ spares (op 0x01) ((areg, last_word.0) ∷ [])
    ∷ spares (op 0x3B) ((areg, last_word.0) ∷ [])
    ∷ spares (op 0x3E) ((areg, first_word.0) ∷ [])
    ∷ spares (op 0x3D) ((areg, first_word.0) ∷ [])
    ∷ spares (op 0x4A) []
    ∷ spares (op 0x12) ((areg, last_word.0) ∷ [])
    ∷ spares (op 0x03) ((areg, first_word.0) ∷ [])
    ∷ spares (op 0x21) ((breg, first_word.0) ∷ [])
    ∷ spared free_functions free_operations

-- ---- whole lists

-- two lists of accesses are the same (DECISIONS 59)
unfoldable pub same_list : List Access → List Access → Bool
same_list [] [] = true
same_list [] (y ∷ ys) = false
same_list (x ∷ xs) [] = false
same_list (x ∷ xs) (y ∷ ys) = eqb x.0 y.0 && eqb x.1 y.1 && same_list xs ys

-- a step from these registers and words makes just these accesses, in this order (02, No. 1; DECISIONS 59)
unfoldable pub makes_just : Instruction → Settings → Settings → List Access → Bool
makes_just i registers words xs = same_list (accesses (memory_for i words) (registers_for i registers)) xs

-- the fetch at MemStart (01, One step (c))
abbrev pub fetch : Access
fetch = (kind_fetch, 0x8000_0048)

-- a load (000 1.5)
abbrev pub load_at : ℕ → Access
load_at a = (kind_load, a)

-- a store (000 1.5)
abbrev pub store_at : ℕ → Access
store_at a = (kind_store, a)

-- move: count, destination, source (000 1.11)
abbrev pub moving : ℕ → ℕ → ℕ → Settings
moving count destination source = (areg, count) ∷ (breg, destination) ∷ (creg, source) ∷ []

-- steps with all their accesses, in 000's order, up to a refusal (02, No. 1; DECISIONS 59)
unfoldable pub listings : List Bool
listings =
    -- ldc; ldl 1; stl 1; call
    makes_just (0x4, 0) [] [] (fetch ∷ [])
    ∷ makes_just (0x7, 1) [] [] (fetch ∷ load_at (mine + 4) ∷ [])
    ∷ makes_just (0xD, 1) [] [] (fetch ∷ store_at (mine + 4) ∷ [])
    ∷ makes_just (0x9, 0) [] [] (fetch ∷ store_at (mine - 4) ∷ store_at (mine - 8) ∷ store_at (mine - 12) ∷ store_at (mine - 16) ∷ [])
    -- lb; sb, which is a store; ldnl outside, with its low bits
    ∷ makes_just (op 0x01) ((areg, buffer + 3) ∷ []) [] (fetch ∷ load_at (buffer + 3) ∷ [])
    ∷ makes_just (op 0x3B) ((areg, buffer + 3) ∷ []) [] (fetch ∷ store_at (buffer + 3) ∷ [])
    ∷ makes_just (0x3, 0) ((areg, 0x8000_0102) ∷ []) [] (fetch ∷ load_at 0x8000_0102 ∷ [])
    -- move of 2 bytes, of none; one that leaves memory at its source, one at its destination
    ∷ makes_just (op 0x4A) (moving 2 buffer 0x8000_00E1) []
    (fetch ∷ load_at 0x8000_00E1 ∷ store_at buffer ∷ load_at 0x8000_00E2 ∷ store_at (buffer + 1) ∷ [])
    ∷ makes_just (op 0x4A) (moving 0 0 0) [] (fetch ∷ [])
    ∷ makes_just (op 0x4A) (moving 9 buffer last_byte.0) []
    (fetch ∷ load_at last_byte.0 ∷ store_at buffer ∷ load_at last_byte.1 ∷ [])
    ∷ makes_just (op 0x4A) (moving 9 last_byte.0 buffer) []
    (fetch ∷ load_at buffer ∷ store_at last_byte.0 ∷ load_at (buffer + 1) ∷ store_at last_byte.1 ∷ [])
    -- in on an empty soft channel: it waits; from a process that waits there to send a byte: that one runs
    ∷ makes_just (op 0x07) (moving 1 channel buffer) ((50, not_process) ∷ [])
    (fetch ∷ load_at channel ∷ store_at channel ∷ store_at (mine - 4) ∷ store_at (mine - 12) ∷ [])
    ∷ makes_just (op 0x07) (moving 1 channel buffer) ((50, low other) ∷ (27, 0x8000_00E1) ∷ [])
    (fetch ∷ load_at channel ∷ store_at channel ∷ load_at (other - 12) ∷ load_at 0x8000_00E1 ∷ store_at buffer ∷ [])
    -- a run request on channel 4: no fetch
    ∷ makes_just unfetched ((channel_reg 4, run_request) ∷ []) ((4, low other) ∷ []) (load_at (port 4) ∷ store_at (port 4) ∷ [])
    -- 6: none; 9 and 11: the fetch; 10a
    ∷ makes_just unfetched ((flags_reg, halted_flag) ∷ []) [] []
    ∷ makes_just (op 0x11) [] [] (fetch ∷ [])
    ∷ makes_just (op 0x41) ((areg, 33) ∷ []) [] (fetch ∷ [])
    ∷ makes_just unfetched ((iptr_reg, 0x8000_0101) ∷ []) [] ((kind_fetch, 0x8000_0101) ∷ [])
    ∷ []
