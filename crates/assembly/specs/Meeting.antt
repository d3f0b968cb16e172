-- What it means that a machine meets an operand at the end of a chain (02, No. 2; DECISIONS 62). A machine is its registers r and memory m.
use Rattle.std.specs.Prelude.{◌≡◌, true, false, List, [], ◌∷◌, ◌++◌, ℕ, zero, suc, ◌≤◌, ◌<◌, length, get_or}
use Rattle.std.specs.Int.Bits.{bit_and}
use Rattle.rules.specs.Words.{at_byte, index, selector, byte_of}
use Rattle.rules.specs.Registers.{registers, iptr_reg, oreg, status_reg, flags_reg, idle_flag, halted_flag, link_chans}
use Rattle.rules.specs.Memory.{stores}
use Rattle.rules.specs.Work.{Work, begin, reg, access, kind_fetch}
use Rattle.rules.specs.Timers.{timer_ready}
use Rattle.rules.specs.Channels.{requested}
use Rattle.rules.specs.Step.{step, fetched, execute, halt_on_error}
use Rattle.assembly.specs.Chain.{function_of, is_prefix}
use Rattle.assembly.specs.Calls.{function_bad}

-- every byte of a list is a prefix (000 1.11, Prefixing Functions)
abbrev pub Prefixes : List ℕ → Type 0
Prefixes [] = Unit
Prefixes (byte ∷ bytes) = (is_prefix byte ≡ true) × Prefixes bytes

-- bytes stand in memory from an address on (01, Memory and registers)
abbrev pub Stand : List ℕ → ℕ → List ℕ → Type 0
Stand m a [] = Unit
Stand m a (byte ∷ bytes) = (index a < length m) × (byte_of (selector a) (get_or m (index a) 0) ≡ byte) × Stand m (at_byte a 1) bytes

-- no channel has a request, and no timer is ready (01, One step (a), (b); 02, No. 2)
abbrev pub Quiet : List ℕ → Type 0
Quiet r = (link_chans ≤ requested (begin r)) × (timer_ready 0 (begin r) ≡ false) × (timer_ready 1 (begin r) ≡ false)

-- the registers after a step (01, One step)
abbrev pub regs_after : List ℕ → List ℕ → List ℕ
regs_after r m = (step m (begin r)).regs

-- the memory after a step that is accepted (01, One step)
abbrev pub memory_after : List ℕ → List ℕ → List ℕ
memory_after r m = stores m (step m (begin r)).stored

-- n steps are accepted one after the other, and before each of them, and after the last, the machine is quiet (02, No. 2)
unfoldable pub Undisturbed : ℕ → List ℕ → List ℕ → Type 0
Undisturbed zero r m = Quiet r
Undisturbed (suc n) r m = Quiet r × ((step m (begin r)).answer ≡ 0) × Undisturbed n (regs_after r m) (memory_after r m)

-- the premises of the claim: a machine of 45 registers with Oreg 0, the bytes of a chain stand at Iptr, and nothing disturbs the steps of its
-- prefixes (02, No. 2; DECISIONS 62)
pub record Comes (prefixes : List ℕ) (final : ℕ) (r m : List ℕ) : Type 0 where
  pub count : length r ≡ registers
  pub clear : get_or r oreg 0 ≡ 0
  pub stand : Stand m (get_or r iptr_reg 0) (prefixes ++ (final ∷ []))
  pub undisturbed : Undisturbed (length prefixes) r m

-- the registers and the memory after n steps that are accepted (01, One step)
unfoldable pub steps_after : ℕ → List ℕ → List ℕ → List ℕ × List ℕ
steps_after zero r m = (r, m)
steps_after (suc n) r m = steps_after n (regs_after r m) (memory_after r m)

-- the work of a step after the fetch of its byte: Iptr has grown, and the nibble is in Oreg (01, One step (c))
abbrev pub fetched_from : ℕ → List ℕ → List ℕ → Work
fetched_from byte r m = fetched byte (access m kind_fetch (get_or r iptr_reg 0) (begin r))

-- the machine comes to a final byte, whose fetch leaves the operand in Oreg; the step is that of the byte's function, unless the machine is
-- halted or idle (02, No. 2; 01, One step (c))
pub record Meets (final operand : ℕ) (r m : List ℕ) : Type 0 where
  pub stands : Stand m (get_or r iptr_reg 0) (final ∷ [])
  pub meets : reg oreg (fetched_from final r m) ≡ operand
  pub executes : bit_and (get_or r flags_reg 0) halted_flag ≡ 0 → bit_and (get_or r flags_reg 0) idle_flag ≡ 0
      → step m (begin r) ≡ halt_on_error (get_or r status_reg 0) (execute m (function_of final) (fetched_from final r m))

-- what a writer writes for a function and an operand is the shortest: every list of prefixes and a final byte with that function, whose fetch
-- leaves the operand in some machine, is as long or longer (02, No. 2; DECISIONS 62)
abbrev pub NoneShorter : (ℕ → ℕ → List ℕ) → Type 0
NoneShorter writer =
    (f v : ℕ) → function_bad f ≡ false → (prefixes : List ℕ) (last : ℕ) → Prefixes prefixes → function_of last ≡ f
    → (r m : List ℕ) → Comes prefixes last r m → reg oreg (fetched_from last (steps_after (length prefixes) r m).0 m) ≡ v
    → length (writer f v) ≤ length (prefixes ++ (last ∷ []))
