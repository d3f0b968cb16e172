-- One step (01, One step), as work (Work.antt).
use Rattle.std.specs.Prelude.{ℕ, ◌/◌, ◌^◌, List}
use Rattle.rules.specs.Tests.{pick, if_lt, if_eq, if_set}
use Rattle.rules.specs.Words.{at_byte, with_nibble}
use Rattle.rules.specs.Core.{error_flag, halt_on_error_bit}
use Rattle.rules.specs.Stack.{pfix, nfix}
use Rattle.rules.specs.Registers.{iptr_reg, oreg, status_reg, flags_reg, idle_flag, halted_flag, link_chans}
use Rattle.rules.specs.Work.{Access, accesses_of, Work, begin_traced, reg, put, raise, on_core, halted, idle, refuse, fetch_byte}
use Rattle.rules.specs.Scheduling.{act_on_snp}
use Rattle.rules.specs.Timers.{timer_ready, handle_timer_request}
use Rattle.rules.specs.Channels.{requested, handle_channel_request}
use Rattle.rules.specs.Operations.{function}

-- halted is set where HaltOnError is set after the step (01, One step; DECISIONS 18)
unfoldable pub halt_if_asked : Work → Work
halt_if_asked w = if_set halt_on_error_bit (reg status_reg w) (raise flags_reg halted_flag w) w

-- the step halts only where the error flag was clear before it and is set after it (01, One step; DECISIONS 18)
unfoldable pub halt_on_error : ℕ → Work → Work
halt_on_error before w =
    if_set error_flag before w (if_set error_flag (reg status_reg w) (halt_if_asked w) w)

-- Iptr grows by one, and the nibble is ORed into Oreg (01, One step (c); DECISIONS 2)
unfoldable pub fetched : ℕ → Work → Work
fetched byte w = put oreg (with_nibble byte (reg oreg w)) (put iptr_reg (at_byte (reg iptr_reg w) 1) w)

module _ (m : List ℕ) where
  -- any function but a prefix: afterwards Oreg is 0, and a set GotoSNP bit is acted on (01, One step; DECISIONS 17)
  unfoldable pub execute : ℕ → Work → Work
  execute code w = act_on_snp m (put oreg 0 (function code m w))

  -- prefixes change only Iptr and Oreg (01, One step)
  unfoldable pub decode : ℕ → Work → Work
  decode code w = if_eq code 0x2 (on_core pfix w) (if_eq code 0x6 (on_core nfix w) (execute code w))

  -- (c) one instruction byte is fetched (01, One step)
  unfoldable pub instruction : Work → Work
  instruction w =
      fetch_byte m (reg iptr_reg w) (λ byte after. decode (byte / 2 ^ 4) (fetched byte after)) w

  -- 7 Idle (01, Answers by number; DECISIONS 19)
  unfoldable pub instruction_unless_idle : Work → Work
  instruction_unless_idle w = if_set idle_flag (reg flags_reg w) (refuse idle w) (instruction w)

  -- (b) timer 0, then timer 1, served by 000; else (c) (01, One step)
  unfoldable pub timers_first : Work → Work
  timers_first w =
      pick (timer_ready 0 w) (act_on_snp m (handle_timer_request m 0 w))
      (pick (timer_ready 1 w) (act_on_snp m (handle_timer_request m 1 w)) (instruction_unless_idle w))

  -- (a) the lowest channel with a request; else (b) or (c) (01, One step)
  unfoldable pub channels_first : Work → Work
  channels_first w =
      if_lt (requested w) link_chans (act_on_snp m (handle_channel_request m (requested w) w)) (timers_first w)

  -- (a) and (b) only where Oreg is 0 (01, One step)
  unfoldable pub choose : Work → Work
  choose w = if_eq (reg oreg w) 0 (channels_first w) (instruction_unless_idle w)

  -- 6 Halted, then (a), (b) or (c), then halting (01, One step)
  unfoldable pub step : Work → Work
  step w = if_set halted_flag (reg flags_reg w) (refuse halted w) (halt_on_error (reg status_reg w) (choose w))

  -- the accesses of a step, kind and address, in 000's order; the list ends at a refusal (02, No. 1; DECISIONS 59)
  unfoldable pub accesses : List ℕ → List Access
  accesses r = accesses_of (step (begin_traced r)).trace
