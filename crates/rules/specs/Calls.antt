-- The eight public calls: from any machine, memory, journal and arguments to the outcome. The checks of a call run in the order of 01's table
-- (Answers by number).
use Rattle.std.specs.Prelude.{ℕ, zero, suc, ◌+◌, ◌-◌, ◌*◌, ◌/◌, Bool, false, ◌||◌, List, [], ◌∷◌, ltb, leb, eqb, length, get_or, set, replicate}
use Rattle.std.specs.Int.Bits.{bit_or}
use Rattle.std.proofs.lemmas.List.Edits.{sets}
use Rattle.rules.specs.Tests.{pick, if_lt, if_eq}
use Rattle.rules.specs.Registers.{registers, iptr_reg, wdesc_reg, fptr_reg}
use Rattle.rules.specs.Memory.{touched, stores}
use Rattle.rules.specs.Work.{Work, begin, outside, kind_fetch, kind_load, kind_store}
use Rattle.rules.specs.Scheduling.{not_process, mem_start, mem_start_word}
use Rattle.rules.specs.Links as links
use Rattle.rules.specs.Step as steps
use Rattle.rules.specs.Journal.{record_length, record_of, bounds_bad, last_pairs, last_start, last_regs, pairs_at, write_back, strays}
use Rattle.rules.specs.declared.Machine.{Machine}
use Rattle.rules.specs.declared.Reply.{Reply}
use Rattle.rules.specs.declared.Answer.{Answer}
use Rattle.rules.specs.declared.Answer.TheVariants.{Done, Size, CodeSize, BadChannel, JournalBad, NothingToUndo, Halted, Idle, NotReady, Unlisted, OutsideFetch, OutsideLoad, OutsideStore, Stop, JournalFull}

-- ---- answers: number, part and address

-- 01's number of each answer, 0 where it is accepted; the part of 10 (1 is 10a, 2 is 10b, 3 is 10c), which is the kind of the access that was outside
-- memory, and its byte address; else 0 and 0 (01, Answers by number; 02, No. 1; DECISIONS 45, 58)
unfoldable pub numbered : Answer → ℕ × ℕ × ℕ
numbered Done = (0, 0, 0)
numbered Size = (1, 0, 0)
numbered CodeSize = (2, 0, 0)
numbered BadChannel = (3, 0, 0)
numbered JournalBad = (4, 0, 0)
numbered NothingToUndo = (5, 0, 0)
numbered Halted = (6, 0, 0)
numbered Idle = (7, 0, 0)
numbered NotReady = (8, 0, 0)
numbered Unlisted = (9, 0, 0)
numbered (OutsideFetch a) = (outside, kind_fetch, a)
numbered (OutsideLoad a) = (outside, kind_load, a)
numbered (OutsideStore a) = (outside, kind_store, a)
numbered Stop = (11, 0, 0)
numbered JournalFull = (12, 0, 0)

-- the outcome of a call: all that a contract determines (01, What the contracts have to say)
pub record Outcome : Type 0 where
  -- the number of the refusal, 0 where the call is accepted (01, Answers by number)
  pub answer : ℕ
  -- the part of the refusal 10: 1 for 10a, 2 for 10b, 3 for 10c, else 0 (02, No. 1; DECISIONS 58)
  pub part : ℕ
  -- the byte address of the access that was outside memory, else 0 (02, No. 1; DECISIONS 58)
  pub address : ℕ
  -- the byte of an accepted take, else 0 (01, Answers by number; DECISIONS 45)
  pub byte : ℕ
  -- registers, depth and used afterwards (01, Language forms and where they go)
  pub machine : Machine
  -- the lent words of memory afterwards (01, Memory and registers)
  pub memory : List ℕ
  -- the lent words of the journal afterwards (01, The journal)
  pub journal : List ℕ

-- the outcome that the code of a call returns: its reply, and the lent words after it (DECISIONS 45)
abbrev pub outcome_of : Reply → List ℕ → List ℕ → Outcome
outcome_of r mem j =
    record {
      answer = (numbered r.answer).0;
      part = (numbered r.answer).1;
      address = (numbered r.answer).2;
      byte = r.byte;
      machine = r.machine;
      memory = mem;
      journal = j;
    }

-- the outcome of a call refused with a part and an address: nothing is changed, and the byte is 0 (01, Answers by number; 02, No. 1)
abbrev pub refused_at : ℕ → ℕ → ℕ → Machine → List ℕ → List ℕ → Outcome
refused_at n part address m mem j =
    record { answer = n; part = part; address = address; byte = 0; machine = m; memory = mem; journal = j }

-- the outcome of a call refused without an access (01, Answers by number)
abbrev pub refused : ℕ → Machine → List ℕ → List ℕ → Outcome
refused n m mem j = refused_at n 0 0 m mem j

-- the outcome of an accepted call: its byte, and what it leaves (01, Answers by number)
abbrev pub accepted : ℕ → Machine → List ℕ → List ℕ → Outcome
accepted byte m mem j =
    record { answer = 0; part = 0; address = 0; byte = byte; machine = m; memory = mem; journal = j }

-- a machine from its registers, depth and used (01, Language forms and where they go)
abbrev pub machine_of : List ℕ → ℕ → ℕ → Machine
machine_of regs depth used = record { regs = regs; depth = depth; used = used }

-- ---- Size: two predicates, memory and journal

-- 1 Size: N is not 64 to 16,384 (01, Answers by number)
unfoldable pub memory_size_bad : ℕ → Bool
memory_size_bad n = ltb n 64 || ltb 16384 n

-- 1 Size: the journal is over 65,536 words (01, Answers by number)
unfoldable pub journal_size_bad : ℕ → Bool
journal_size_bad n = ltb 65536 n

-- 1 Size (01, Answers by number)
unfoldable pub size_bad : List ℕ → List ℕ → Bool
size_bad mem j = memory_size_bad (length mem) || journal_size_bad (length j)

-- ---- step, tick, take, give, event

-- an accepted call, its record written at used (01, The journal); 12 JournalFull where the record does not fit (01, Answers by number)
unfoldable pub recorded : Machine → List ℕ → List ℕ → ℕ → List ℕ → List ℕ → List ℕ → Outcome
recorded m mem j byte regs ks after =
    if_lt (length j) (m.used + record_length (length ks)) (refused 12 m mem j)
    (accepted byte (machine_of regs (m.depth + 1) (m.used + record_length (length ks))) after
    (sets j m.used (record_of mem m.regs ks)))

-- commits the work of a call, or refuses with the refusal of the work; a commit can still be refused with 12 (DECISIONS 25, 44, 58)
unfoldable pub commit_or_refuse : Machine → List ℕ → List ℕ → ℕ → Work → Outcome
commit_or_refuse m mem j byte w =
    if_eq w.answer 0
    (recorded m mem j byte w.regs (touched (length mem) w.stored) (stores mem w.stored))
    (refused_at w.answer w.kind w.address m mem j)

-- the checks before the work of a call, in the order of the table: 1 Size, 3 BadChannel, 4 JournalBad (01, Answers by number)
unfoldable pub checked : Bool → Machine → List ℕ → List ℕ → Outcome → Outcome
checked bad_channel m mem j o =
    pick (size_bad mem j) (refused 1 m mem j)
    (pick bad_channel (refused 3 m mem j)
    (pick (bounds_bad (length j) m.depth m.used) (refused 4 m mem j) o))

-- 3 BadChannel: take outside 0 to 3 (01, Answers by number)
unfoldable pub not_output : ℕ → Bool
not_output c = leb 4 c

-- 3 BadChannel: give outside 4 to 7 (01, Answers by number)
unfoldable pub not_input : ℕ → Bool
not_input c = ltb c 4 || leb 8 c

-- step (01, One step)
unfoldable pub step : Machine → List ℕ → List ℕ → Outcome
step m mem j = checked false m mem j (commit_or_refuse m mem j 0 (steps.step mem (begin m.regs)))

-- tick (01, Links, clocks, slice)
unfoldable pub tick : Machine → List ℕ → List ℕ → Outcome
tick m mem j = checked false m mem j (commit_or_refuse m mem j 0 (links.tick (begin m.regs)))

-- take (01, Links, clocks, slice); its byte is the byte at the pointer
unfoldable pub take : ℕ → Machine → List ℕ → List ℕ → Outcome
take c m mem j =
    checked (not_output c) m mem j
    (commit_or_refuse m mem j (links.taken mem c (begin m.regs)) (links.take mem c (begin m.regs)))

-- give (01, Links, clocks, slice)
unfoldable pub give : ℕ → ℕ → Machine → List ℕ → List ℕ → Outcome
give c byte m mem j = checked (not_input c) m mem j (commit_or_refuse m mem j 0 (links.give mem c byte (begin m.regs)))

-- event (01, Links, clocks, slice)
unfoldable pub event : Machine → List ℕ → List ℕ → Outcome
event m mem j = checked false m mem j (commit_or_refuse m mem j 0 (links.event (begin m.regs)))

-- ---- undo (01, The journal)

-- registers and memory restored from the last record (01, The journal); 4 where a pair's index is N or more (01, Answers by number)
unfoldable pub undone : Machine → List ℕ → List ℕ → List (ℕ × ℕ) → Outcome
undone m mem j pairs =
    pick (strays (length mem) pairs) (refused 4 m mem j)
    (accepted 0 (machine_of (last_regs j m.used) (m.depth - 1) (last_start j m.used)) (write_back mem pairs) j)

-- undo with depth above 0: 4 JournalBad where the last record is longer than used, then the undo (01, Answers by number)
unfoldable pub undo_last : Machine → List ℕ → List ℕ → Outcome
undo_last m mem j =
    if_lt m.used (record_length (last_pairs j m.used)) (refused 4 m mem j)
    (undone m mem j (pairs_at j (last_start j m.used) (last_pairs j m.used)))

-- undo (01, The journal): 4 before 5 (DECISIONS 35)
unfoldable pub undo : Machine → List ℕ → List ℕ → Outcome
undo m mem j = checked false m mem j (if_eq m.depth 0 (refused 5 m mem j) (undo_last m mem j))

-- ---- clear: empties the journal, nothing else changes

-- clear: depth and used become 0, nothing else changes (01, The part of the T414 that we build)
unfoldable pub clear : Machine → List ℕ → List ℕ → Outcome
clear m mem j =
    pick (size_bad mem j) (refused 1 m mem j)
    (accepted 0 (machine_of m.regs 0 0) mem j)

-- ---- fresh (01, Memory and registers)

-- the words of n bytes of code: Wptr is the first word boundary at or after the end of the code (01, Memory and registers)
abbrev pub code_words : ℕ → ℕ
code_words n = (n + 3) / 4

-- word k of the code, 0 past its end; byte 0 is the least significant (01, Memory and registers)
unfoldable pub code_word : List ℕ → ℕ → ℕ
code_word code k =
    get_or code (4 * k) 0 + 256 * get_or code (4 * k + 1) 0 + 65536 * get_or code (4 * k + 2) 0 + 16777216 * get_or code (4 * k + 3) 0

-- word i of a fresh memory: NotProcess.p in words 0 to 11, the code at MemStart, else 0 (01, Memory and registers)
unfoldable pub fresh_word : List ℕ → ℕ → ℕ
fresh_word code i = if_lt i 12 not_process (if_lt i mem_start_word 0 (code_word code (i - mem_start_word)))

-- the n words of a fresh memory from i on (01, Memory and registers)
unfoldable pub fresh_memory : List ℕ → ℕ → ℕ → List ℕ
fresh_memory code i zero = []
fresh_memory code i (suc n) = fresh_word code i ∷ fresh_memory code (i + 1) n

-- the registers of fresh with n bytes of code: Iptr, Wptr at low priority, both queue fronts, else 0 (01, Memory and registers)
unfoldable pub fresh_regs : ℕ → List ℕ
fresh_regs n =
    set
    (set
    (set (set (replicate registers 0) iptr_reg mem_start) wdesc_reg (bit_or (mem_start + 4 * code_words n) 1))
    (fptr_reg 0)
    not_process)
    (fptr_reg 1)
    not_process

-- 2 CodeSize: no code, or no whole word left after it (01, Answers by number)
unfoldable pub code_bad : ℕ → ℕ → Bool
code_bad size n = eqb n 0 || leb size (mem_start_word + code_words n)

-- the machine of a refused fresh: all 0 (01, Answers by number)
abbrev pub no_machine : Machine
no_machine = machine_of (replicate registers 0) 0 0

-- fresh (01, Memory and registers); the journal is not written
unfoldable pub fresh : List ℕ → List ℕ → List ℕ → Outcome
fresh code mem j =
    pick (size_bad mem j) (refused 1 no_machine mem j)
    (pick (code_bad (length mem) (length code)) (refused 2 no_machine mem j)
    (accepted 0 (machine_of (fresh_regs (length code)) 0 0) (fresh_memory code 0 (length mem)) j))
