-- The common steps, as definitions on the seven registers, the rest of the registers and the memory. That they are the steps of rules is the
-- law `fast-step` in proofs/.
use Rattle.std.specs.Prelude.{ℕ, ◌+◌, ◌-◌, ◌/◌, ◌%◌, ◌^◌, List, [], ◌∷◌, length, get_or, Option, Some, None}
use Rattle.rules.specs.Tests.{pick, if_lt, if_le, if_eq, look}
use Rattle.rules.specs.Words.{range, minus, at_byte, at_word, index, selector, byte_of, with_byte, with_nibble}
use Rattle.rules.specs.Core.{with_iptr, with_a, with_oreg, wptr_of, move_workspace, push, pop}
use Rattle.rules.specs.Stack as stack
use Rattle.rules.specs.Registers.{areg, breg, creg, core_of, with_core}
use Rattle.rules.specs.Memory.{Store, word}
use Rattle.rules.specs.Work.{Work, untraced}
use Rattle.rules.specs.declared.Core.{Core}
use Rattle.step_pending.specs.NothingPending.{slice_ends, nothing_pending}
use Rattle.core_table.specs.Selected.{register_operation}
use Rattle.step_fast.specs.declared.Stored.{Stored}
use Rattle.step_fast.specs.declared.Stored.TheVariants.{Nothing, Word, Frame}
use Rattle.step_fast.specs.declared.FastStep.{FastStep}

-- declined: step_engine makes the step (DECISIONS 54)
abbrev pub decline : Option FastStep
decline = None

-- done, with what it stores; Oreg is 0 afterwards (01, One step; DECISIONS 54)
abbrev pub finished : Core → Stored → FastStep
finished s stored = record { core = with_oreg 0 s; stored = stored }

-- done without a store (01, One step; DECISIONS 54)
abbrev pub finish : Core → Option FastStep
finish s = Some (finished s Nothing)

-- done with the store of v in word i (01, One step; DECISIONS 54)
abbrev pub finish_storing : ℕ → ℕ → Core → Option FastStep
finish_storing i v s = Some (finished s (Word i v))

-- done with the frame of a call, from word i on; v is its first word (01, One step; DECISIONS 54)
abbrev pub finish_calling : ℕ → ℕ → Core → Option FastStep
finish_calling i v s = Some (finished s (Frame i v))

-- a prefix: done, and Oreg keeps its value (01, One step; DECISIONS 54)
abbrev pub prefix : Core → Option FastStep
prefix s = Some (record { core = s; stored = Nothing })

-- done where Status is as before, so that nothing halts and GotoSNP stays clear; else declined
-- (01, One step; DECISIONS 54)
unfoldable pub if_same_status : ℕ → Core → Option FastStep
if_same_status status s = if_eq s.status status (finish s) decline

-- ---- the functions, on the registers after the fetch

-- the word below Wptr, which is the highest of the frame of a call (000 1.11, call)
abbrev pub top : Core → ℕ
top s = index (at_word (wptr_of s.wdesc) (minus 1))

-- the end of call, from Areg := IptrReg on (000 1.11, call)
unfoldable pub entered : Core → Core
entered s =
    with_iptr (at_byte s.iptr s.oreg) (with_a s.iptr (move_workspace (at_word (wptr_of s.wdesc) (minus 4)) s))

module _ (m : List ℕ) where
  -- load local (000 1.11, ldl); outside memory it is declined (DECISIONS 54)
  unfoldable pub ldl : Core → Option FastStep
  ldl s =
      if_lt (index (at_word (wptr_of s.wdesc) s.oreg)) (length m)
      (finish (push (get_or m (index (at_word (wptr_of s.wdesc) s.oreg)) 0) s))
      decline

  -- load non-local (000 1.11, ldnl); outside memory it is declined (DECISIONS 54)
  unfoldable pub ldnl : Core → Option FastStep
  ldnl s =
      if_lt (index (at_word s.a s.oreg)) (length m)
      (finish (with_a (get_or m (index (at_word s.a s.oreg)) 0) s))
      decline

  -- store local (000 1.11, stl); outside memory it is declined (DECISIONS 54)
  unfoldable pub stl : Core → Option FastStep
  stl s =
      if_lt (index (at_word (wptr_of s.wdesc) s.oreg)) (length m)
      (finish_storing (index (at_word (wptr_of s.wdesc) s.oreg)) s.a (pop s))
      decline

  -- store non-local (000 1.11, stnl); outside memory it is declined (DECISIONS 54)
  unfoldable pub stnl : Core → Option FastStep
  stnl s =
      if_lt (index (at_word s.a s.oreg)) (length m)
      (finish_storing (index (at_word s.a s.oreg)) s.b (with_a s.c s))
      decline

  -- call (000 1.11); where its four words are not inside memory, one after the other, it is declined (DECISIONS 54)
  unfoldable pub call : Core → Option FastStep
  call s = if_le 3 (top s) (if_lt (top s) (length m) (finish_calling (top s - 3) s.iptr (entered s)) decline) decline

  -- return (000 1.11, ret); outside memory it is declined (DECISIONS 54)
  unfoldable pub ret : Core → Option FastStep
  ret s =
      if_lt (index (at_word (wptr_of s.wdesc) 0)) (length m)
      (finish (with_iptr (get_or m (index (at_word (wptr_of s.wdesc) 0)) 0) (move_workspace (at_word (wptr_of s.wdesc) 4) s)))
      decline

  -- load byte (000 1.11, lb); outside memory it is declined (DECISIONS 54)
  unfoldable pub lb : Core → Option FastStep
  lb s =
      if_lt (index s.a) (length m)
      (finish (with_a (byte_of (selector s.a) (get_or m (index s.a) 0)) s))
      decline

  -- store byte, as a store of its word (000 1.11, sb; DECISIONS 8, 38); outside memory it is declined (DECISIONS 54)
  unfoldable pub sb : Core → Option FastStep
  sb s =
      if_lt (index s.a) (length m)
      (finish_storing (index s.a) (with_byte (selector s.a) (s.b % 256) (get_or m (index s.a) 0)) (with_a s.c s))
      decline

-- jump (000 1.11, j); where a slice ends it is declined (DECISIONS 54)
unfoldable pub j : List ℕ → Core → Option FastStep
j r s = pick (slice_ends s r) decline (finish (with_iptr (at_byte s.iptr s.oreg) s))

-- ---- what works on the evaluation stack alone

-- a function or operation on the seven registers alone, done where it leaves Status as it was (DECISIONS 54)
abbrev pub registers_only : (Core → Core) → Core → Option FastStep
registers_only f s = if_same_status s.status (f s)

-- a code that is not in the table here is declined (DECISIONS 54)
abbrev pub other : Core → Option FastStep
other s = decline

-- the operations done here that access memory, by their codes (000 1.11, Operations; DECISIONS 54)
unfoldable pub memory_operations : List ℕ → List (ℕ × (Core → Option FastStep))
memory_operations m = (0x01, lb m) ∷ (0x20, ret m) ∷ (0x3B, sb m) ∷ []

-- the registers that the table of operations gives, where they leave Status as it was; where it gives none, declined (DECISIONS 54)
abbrev pub tabled : ℕ → Option Core → Option FastStep
tabled status None = decline
tabled status (Some t) = if_same_status status t

-- the operation of a code on registers alone, done where it leaves Status as it was; where the table has none, declined (DECISIONS 54)
unfoldable pub table_operation : ℕ → Core → Option FastStep
table_operation code s = tabled s.status (register_operation code s)

-- the operation of a code, the whole operand register (000 1.8, Secondary; DECISIONS 1)
unfoldable pub operate : List ℕ → ℕ → Core → Option FastStep
operate m code s = look (memory_operations m) code (table_operation code) s

-- ---- decoding: the memory, all registers, the function's number, and the seven registers after the fetch

-- prefix and negative prefix (000 1.11, pfix, nfix): they change only Iptr and Oreg (01, One step; DECISIONS 2)
abbrev pub prefixing : (Core → Core) → Core → Option FastStep
prefixing f s = prefix (f s)

-- operate: Oreg selects the operation (000 1.11, opr)
abbrev pub opr : List ℕ → Core → Option FastStep
opr m s = operate m s.oreg s

-- the functions, by their codes (000 1.11, Direct, Prefixing and Indirect Functions; DECISIONS 54)
unfoldable pub functions : List ℕ → List ℕ → List (ℕ × (Core → Option FastStep))
functions m r =
    (0x0, j r)
    ∷ (0x1, registers_only stack.ldlp)
    ∷ (0x2, prefixing stack.pfix)
    ∷ (0x3, ldnl m)
    ∷ (0x4, registers_only stack.ldc)
    ∷ (0x5, registers_only stack.ldnlp)
    ∷ (0x6, prefixing stack.nfix)
    ∷ (0x7, ldl m)
    ∷ (0x8, registers_only stack.adc)
    ∷ (0x9, call m)
    ∷ (0xA, registers_only stack.cj)
    ∷ (0xB, registers_only stack.ajw)
    ∷ (0xC, registers_only stack.eqc)
    ∷ (0xD, stl m)
    ∷ (0xE, stnl m)
    ∷ (0xF, opr m)
    ∷ []

-- the function of a number, on the registers after the fetch (000 1.8, Primary and Secondary)
unfoldable pub decode : List ℕ → List ℕ → ℕ → Core → Option FastStep
decode m r code s = look (functions m r) code other s

-- ---- the step

-- the registers once a byte is fetched: Iptr grows by one, and Oreg takes the nibble in (01, One step (c); DECISIONS 2)
abbrev pub fetched : ℕ → Core → Core
fetched byte s = with_iptr (at_byte s.iptr 1) (with_oreg (with_nibble byte s.oreg) s)

-- the function is the byte's upper half (000 1.8, BuildNextInstruction; DECISIONS 2)
unfoldable pub decoded : List ℕ → List ℕ → ℕ → Core → Option FastStep
decoded m r byte s = decode m r (byte / 2 ^ 4) (fetched byte s)

-- one instruction byte is fetched at Iptr (01, One step (c)); outside memory it is declined (DECISIONS 54)
unfoldable pub fetch : List ℕ → List ℕ → Core → Option FastStep
fetch m r s =
    if_lt (index s.iptr) (length m)
    (decoded m r (byte_of (selector s.iptr) (get_or m (index s.iptr) 0)) s)
    decline

-- a common step, or declined (01, One step; DECISIONS 54)
unfoldable pub fast : List ℕ → List ℕ → Option FastStep
fast m r = pick (nothing_pending r) (fetch m r (core_of r)) decline

-- the frame of a call from word i on, in 000's order: C, B, A, and v, which is Iptr (000 1.11, call; DECISIONS 54)
abbrev pub frame : ℕ → ℕ → ℕ → ℕ → ℕ → List Store
frame i v a b c = word (i + 3) c ∷ word (i + 2) b ∷ word (i + 1) a ∷ word i v ∷ []

-- the stores: none; one, of v in word i; the frame from word i on. A FastStep may have any index: where the four of a frame are not all words
-- there is no frame; a step of `fast` never has such an index (DECISIONS 54)
abbrev pub stored : Stored → ℕ → ℕ → ℕ → List Store
stored Nothing a b c = []
stored (Word i v) a b c = word i v ∷ []
stored (Frame i v) a b c = if_lt i (range - 3) (frame i v a b c) []

-- the stores of a common step: a frame has the A, B and C of the registers r before the step (DECISIONS 44, 54)
abbrev pub stores_of : List ℕ → FastStep → List Store
stores_of r t = stored t.stored (get_or r areg 0) (get_or r breg 0) (get_or r creg 0)

-- the work that a common step stands for, from the registers r before it (DECISIONS 44, 54)
abbrev pub fast_work : List ℕ → FastStep → Work
fast_work r t =
    record { regs = with_core t.core r; stored = stores_of r t; answer = 0; kind = 0; address = 0; trace = untraced }
