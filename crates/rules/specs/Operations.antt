-- The sixteen functions and the built operations (000 1.11; 01, The part of the T414 that we build; DECISIONS 1). The built list is the two
-- tables of operations and nothing else.
use Rattle.std.specs.Prelude.{ℕ, List, [], ◌∷◌, ◌++◌, Option}
use Rattle.rules.specs.Tests.{look}
use Rattle.rules.specs.Stack as stack
use Rattle.rules.specs.Registers.{oreg, core_of, system_of}
use Rattle.rules.specs.Work.{Work, reg, put_core, on_core, on_attempt, on_both, unlisted, refuse}
use Rattle.rules.specs.Scheduling as scheduling
use Rattle.rules.specs.Data as data_rules
use Rattle.rules.specs.Timers as timers
use Rattle.rules.specs.Channels as channels
use Rattle.rules.specs.declared.Core.{Core}
use Rattle.rules.specs.declared.System.{System}
use Rattle.rules.specs.declared.Both.{Both}

-- an instruction: from the memory before the call, and the work so far, to the work after it (DECISIONS 44)
abbrev pub Action : Type 0
Action = List ℕ → Work → Work

-- an instruction on registers 0 to 6 alone (000 1.11)
abbrev pub pure : (Core → Core) → Action
pure f m w = on_core f w

-- an operation on registers 0 to 6 alone that can Stop (DECISIONS 26)
abbrev pub pure_or_stop : (Core → Option Core) → Action
pure_or_stop f m w = on_attempt f w

-- an operation that sets queue pointers or clocks (000 1.11, Booting and analysing)
abbrev pub pure_both : (Core → System → Both) → Action
pure_both f m w = on_both f w

-- load timer (000 1.11)
abbrev pub load_timer : Action
load_timer m w = put_core (stack.ldtimer (core_of w.regs) (system_of w.regs)) w

-- the operations on registers 0 to 6 alone: code and meaning (000 1.11, Operations)
unfoldable pub register_operations : List (ℕ × (Core → Core))
register_operations =
    (0x00, stack.rev)
    ∷ (0x02, stack.bsub)
    ∷ (0x04, stack.diff)
    ∷ (0x05, stack.add)
    ∷ (0x06, stack.gcall)
    ∷ (0x08, stack.prod)
    ∷ (0x09, stack.gt)
    ∷ (0x0A, stack.wsub)
    ∷ (0x0C, stack.sub)
    ∷ (0x10, stack.seterr)
    ∷ (0x13, stack.csub0)
    ∷ (0x16, stack.ladd)
    ∷ (0x19, stack.norm)
    ∷ (0x1A, stack.ldiv)
    ∷ (0x1B, stack.ldpi)
    ∷ (0x1D, stack.xdbl)
    ∷ (0x1E, stack.ldpri)
    ∷ (0x1F, stack.rem)
    ∷ (0x29, stack.testerr)
    ∷ (0x2A, stack.testpranal)
    ∷ (0x2C, stack.div)
    ∷ (0x31, stack.lmul)
    ∷ (0x32, stack.bitnot)
    ∷ (0x33, stack.xor)
    ∷ (0x34, stack.bcnt)
    ∷ (0x37, stack.lsum)
    ∷ (0x38, stack.lsub)
    ∷ (0x3A, stack.xword)
    ∷ (0x3C, stack.gajw)
    ∷ (0x3F, stack.wcnt)
    ∷ (0x42, stack.mint)
    ∷ (0x46, stack.and)
    ∷ (0x4B, stack.or)
    ∷ (0x4C, stack.csngl)
    ∷ (0x4D, stack.ccnt1)
    ∷ (0x4F, stack.ldiff)
    ∷ (0x52, stack.sum)
    ∷ (0x53, stack.mul)
    ∷ (0x56, stack.cword)
    ∷ (0x57, stack.clrhalterr)
    ∷ (0x58, stack.sethalterr)
    ∷ (0x59, stack.testhalterr)
    ∷ []

-- the operations that can Stop, that use queue pointers or clocks, that access memory or schedule: code and meaning (000 1.11, Operations)
unfoldable pub other_operations : List (ℕ × Action)
other_operations =
    (0x01, data_rules.lb)
    ∷ (0x03, scheduling.endp)
    ∷ (0x07, channels.input)
    ∷ (0x0B, channels.output)
    ∷ (0x0D, scheduling.startp)
    ∷ (0x0E, channels.outbyte)
    ∷ (0x0F, channels.outword)
    ∷ (0x12, channels.resetch)
    ∷ (0x15, scheduling.stopp)
    ∷ (0x17, pure_both stack.stlb)
    ∷ (0x18, pure_both stack.sthf)
    ∷ (0x1C, pure_both stack.stlf)
    ∷ (0x20, data_rules.ret)
    ∷ (0x21, scheduling.lend)
    ∷ (0x22, load_timer)
    ∷ (0x2B, timers.tin)
    ∷ (0x2E, timers.dist)
    ∷ (0x2F, channels.disc)
    ∷ (0x30, channels.diss)
    ∷ (0x35, pure_or_stop stack.lshr)
    ∷ (0x36, pure_or_stop stack.lshl)
    ∷ (0x39, scheduling.runp)
    ∷ (0x3B, data_rules.sb)
    ∷ (0x3D, data_rules.savel)
    ∷ (0x3E, data_rules.saveh)
    ∷ (0x40, pure_or_stop stack.shr)
    ∷ (0x41, pure_or_stop stack.shl)
    ∷ (0x43, channels.alt)
    ∷ (0x44, channels.altwt)
    ∷ (0x45, data_rules.altend)
    ∷ (0x47, timers.enbt)
    ∷ (0x48, channels.enbc)
    ∷ (0x49, channels.enbs)
    ∷ (0x4A, data_rules.block_move)
    ∷ (0x4E, timers.talt)
    ∷ (0x50, pure_both stack.sthb)
    ∷ (0x51, timers.taltwt)
    ∷ (0x54, pure_both stack.sttimer)
    ∷ (0x55, scheduling.stoperr)
    ∷ []

-- the rows of a table of operations on registers alone, as actions (000 1.11)
abbrev pub on_registers : List (ℕ × (Core → Core)) → List (ℕ × Action)
on_registers [] = []
on_registers (e ∷ t) = (e.0, pure e.1) ∷ on_registers t

-- the built operations: both tables (01, The part of the T414 that we build; DECISIONS 1)
unfoldable pub operations : List (ℕ × Action)
operations = on_registers register_operations ++ other_operations

-- 9 Unlisted: an operation outside the built list (01, Answers by number; DECISIONS 25)
abbrev pub unlisted_action : Action
unlisted_action m w = refuse unlisted w

-- the operation with a code; a code outside the built list is 9 Unlisted (01, Answers by number; DECISIONS 1)
unfoldable pub operate : ℕ → Action
operate code m w = look operations code unlisted_action m w

-- operate (000 1.11): the code is the whole Oreg (DECISIONS 1)
abbrev pub opr : Action
opr m w = operate (reg oreg w) m w

-- the functions but for pfix and nfix, which keep Oreg (000 1.11, Direct, Prefixing and Indirect Functions; Step.antt)
unfoldable pub functions : List (ℕ × Action)
functions =
    (0x0, scheduling.j)
    ∷ (0x1, pure stack.ldlp)
    ∷ (0x3, data_rules.ldnl)
    ∷ (0x4, pure stack.ldc)
    ∷ (0x5, pure stack.ldnlp)
    ∷ (0x7, data_rules.ldl)
    ∷ (0x8, pure stack.adc)
    ∷ (0x9, data_rules.call)
    ∷ (0xA, pure stack.cj)
    ∷ (0xB, pure stack.ajw)
    ∷ (0xC, pure stack.eqc)
    ∷ (0xD, data_rules.stl)
    ∷ (0xE, data_rules.stnl)
    ∷ (0xF, opr)
    ∷ []

-- a function by its number (000 1.11)
unfoldable pub function : ℕ → Action
function code m w = look functions code unlisted_action m w
