-- The tests for a common step: nothing comes before the instruction, and no slice ends at a jump (DECISIONS 54).
use Rattle.std.specs.Prelude.{ℕ, zero, suc, ◌+◌, Bool, true, false, not, List, get_or}
use Rattle.rules.specs.Tests.{pick, if_le, if_eq, if_set}
use Rattle.rules.specs.Words.{later}
use Rattle.rules.specs.Core.{priority_of, goto_snp_bit}
use Rattle.rules.specs.Stack as stack
use Rattle.rules.specs.Registers.{oreg, status_reg, clock_reg, tnext_reg, slice_reg, flags_reg, t_enabled, idle_flag, halted_flag, channel_reg, run_request, ready_request, link_chans}
use Rattle.rules.specs.Scheduling.{slice_length}
use Rattle.rules.specs.declared.Core.{Core}

-- ---- before an instruction

-- none of the n channels from c on has a request (01, One step (a))
unfoldable pub no_request : ℕ → ℕ → List ℕ → Bool
no_request c zero r = true
no_request c (suc n) r = if_set (run_request + ready_request) (get_or r (channel_reg c) 0) false (no_request (suc c) n r)

-- a timer is enabled and its time has come: TNextReg is not AFTER ClockReg (000 1.8; DECISIONS 16)
unfoldable pub due : ℕ → List ℕ → Bool
due queue r =
    if_set (t_enabled queue) (get_or r flags_reg 0) (not (later (get_or r (tnext_reg queue) 0) (get_or r (clock_reg queue) 0))) false

-- no channel has a request and neither timer is due, whatever the priority: (a) and (b) do not apply (01, One step; DECISIONS 54)
unfoldable pub nothing_to_serve : List ℕ → Bool
nothing_to_serve r = pick (no_request 0 link_chans r) (pick (due 0 r) false (not (due 1 r))) false

-- not halted, not idle, and where Oreg is 0 nothing to serve: (c) applies; and GotoSNP is clear, so the step acts on no bit of an earlier step
-- (01, One step; DECISIONS 17, 54)
unfoldable pub nothing_pending : List ℕ → Bool
nothing_pending r =
    if_set halted_flag (get_or r flags_reg 0) false
    (if_set idle_flag (get_or r flags_reg 0) false
    (if_set goto_snp_bit (get_or r status_reg 0) false (if_eq (get_or r oreg 0) 0 (nothing_to_serve r) true)))

-- a slice ends at a jump: the process is low, the clocks run, and slice is 1,024 or more (01, Links, clocks, slice; DECISIONS 24)
unfoldable pub slice_ends : Core → List ℕ → Bool
slice_ends s r =
    if_eq (priority_of s.wdesc) 0 false
    (if_set stack.clocks_run (get_or r flags_reg 0) (if_le slice_length (get_or r slice_reg 0) true false) false)
