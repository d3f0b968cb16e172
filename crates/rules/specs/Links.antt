-- Links, the event channel and the clocks (01, Links, clocks, slice): the work of take, give, event and tick, and of an `in` that finds a
-- byte or an event held.
use Rattle.std.specs.Prelude.{ℕ, ◌+◌, List}
use Rattle.rules.specs.Tests.{if_lt, if_le, if_eq, if_set}
use Rattle.rules.specs.Words.{minus, wrap_add, at_byte, set_bits, with_held_byte}
use Rattle.rules.specs.Stack.{clocks_run}
use Rattle.rules.specs.Registers.{clock_reg, prescaler_reg, slice_reg, flags_reg, idle_flag, pointer_reg, count_reg, channel_reg, active_bit, enabled_bit, held_bit, run_request, ready_request, event_channel}
use Rattle.rules.specs.Work.{Work, reg, priority, put, raise, lower, not_ready, refuse, read_byte, store_byte}
use Rattle.rules.specs.Scheduling.{slice_length}

-- a link is moving when it is active and its count is not 0 (01, Links, clocks, slice)
abbrev pub if_moving : {A : Type 0} → ℕ → Work → A → A → A
if_moving c w x y = if_set active_bit (reg (channel_reg c) w) (if_eq (reg (count_reg c) w) 0 y x) y

-- a transfer ends: active is cleared and the run request set (01, Links, clocks, slice)
unfoldable pub transfer_ends : ℕ → Work → Work
transfer_ends c w = raise (channel_reg c) run_request (lower (channel_reg c) active_bit w)

-- at count 0 the transfer ends (01, Links, clocks, slice)
unfoldable pub end_at_zero : ℕ → Work → Work
end_at_zero c w = if_eq (reg (count_reg c) w) 0 (transfer_ends c w) w

-- pointer grows by one, count falls by one, and at 0 the transfer ends (01, Links, clocks, slice)
unfoldable pub advance : ℕ → Work → Work
advance c w =
    end_at_zero c
    (put (count_reg c) (wrap_add (reg (count_reg c) w) (minus 1))
    (put (pointer_reg c) (at_byte (reg (pointer_reg c) w) 1) w))

-- where enabled is set, it is cleared and the ready request set (01, Links, clocks, slice)
unfoldable pub notice_held : ℕ → Work → Work
notice_held c w =
    if_set enabled_bit (reg (channel_reg c) w)
    (raise (channel_reg c) ready_request (lower (channel_reg c) enabled_bit w))
    w

-- give to a link that isn't moving holds the byte (01, Links, clocks, slice)
unfoldable pub hold : ℕ → ℕ → Work → Work
hold c byte w =
    notice_held c (put (channel_reg c) (set_bits held_bit (with_held_byte byte (reg (channel_reg c) w))) w)

-- one event meets a transfer of any count above 0: count 0, the transfer ends, the pointer stays (01, Links, clocks, slice)
unfoldable pub event_meets : Work → Work
event_meets w = transfer_ends event_channel (put (count_reg event_channel) 0 w)

-- with no transfer moving, held is set and the byte bits stay (01, Links, clocks, slice)
unfoldable pub event_holds : Work → Work
event_holds w = notice_held event_channel (raise (channel_reg event_channel) held_bit w)

-- event (01, Links, clocks, slice; 01, Answers by number, 8)
unfoldable pub event : Work → Work
event w =
    if_moving event_channel w (event_meets w)
    (if_set held_bit (reg (channel_reg event_channel) w) (refuse not_ready w) (event_holds w))

-- ---- tick

-- slice, if below 1,024, grows by one where a low process is current and the machine is not idle; else it stays (01, Links, clocks, slice; 02, No. 3)
unfoldable pub tick_slice : Work → Work
tick_slice w =
    if_lt (reg slice_reg w) slice_length
    (if_eq (priority w) 0 w (if_set idle_flag (reg flags_reg w) w (put slice_reg (reg slice_reg w + 1) w))) w

-- a prescaler of 63 or more becomes 0 and the low clock grows (01, Links, clocks, slice)
unfoldable pub tick_prescaler : Work → Work
tick_prescaler w =
    if_le 63 (reg prescaler_reg w)
    (put (clock_reg 1) (wrap_add (reg (clock_reg 1) w) 1) (put prescaler_reg 0 w))
    (put prescaler_reg (reg prescaler_reg w + 1) w)

-- the high clock grows by one, then prescaler and slice (01, Links, clocks, slice)
unfoldable pub tick_clocks : Work → Work
tick_clocks w = tick_slice (tick_prescaler (put (clock_reg 0) (wrap_add (reg (clock_reg 0) w) 1) w))

-- tick does nothing while clocks don't run (01, Links, clocks, slice)
unfoldable pub tick : Work → Work
tick w = if_set clocks_run (reg flags_reg w) (tick_clocks w) w

module _ (m : List ℕ) where
  -- take of a moving link: the byte at the pointer, and the work in which the link advances (01, Links, clocks, slice)
  abbrev pub hand_over : ℕ → Work → ℕ × Work
  hand_over c w = read_byte m (reg (pointer_reg c) w) (λ byte after. (byte, advance c after)) w

  -- the byte of a take (01, Links, clocks, slice)
  unfoldable pub taken : ℕ → Work → ℕ
  taken c w = (hand_over c w).0

  -- the work of a take of a moving link (01, Links, clocks, slice)
  unfoldable pub take_byte : ℕ → Work → Work
  take_byte c w = (hand_over c w).1

  -- take (01, Links, clocks, slice; 01, Answers by number, 8)
  unfoldable pub take : ℕ → Work → Work
  take c w = if_moving c w (take_byte c w) (refuse not_ready w)

  -- give to a moving link: the byte is stored at the pointer, and the link advances (01, Links, clocks, slice)
  unfoldable pub receive : ℕ → ℕ → Work → Work
  receive c byte w = advance c (store_byte m (reg (pointer_reg c) w) byte w)

  -- give (01, Links, clocks, slice; 01, Answers by number, 8)
  unfoldable pub give : ℕ → ℕ → Work → Work
  give c byte w =
      if_moving c w (receive c byte w)
      (if_set held_bit (reg (channel_reg c) w) (refuse not_ready w) (hold c byte w))
