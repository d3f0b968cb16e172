-- The table of 01, "Answers by number", with the parts of 10 that 02 adds: each refusal's condition as a definition of its own, and for each call its
-- refusals in the table's order. A call answers with the first refusal whose condition holds, and 0 where none does (proofs/Exactly.antt).
use Rattle.std.specs.Prelude.{ℕ, ◌+◌, ◌/◌, ◌^◌, Bool, true, false, ◌&&◌, ◌||◌, not, List, [], ◌∷◌, ltb, leb, eqb, length, get_or}
use Rattle.rules.specs.Tests.{pick, if_lt, if_eq, if_set, look}
use Rattle.rules.specs.Registers.{iptr_reg, oreg, flags_reg, pointer_reg, count_reg, channel_reg, halted_flag, idle_flag, active_bit, held_bit, link_chans, event_channel}
use Rattle.rules.specs.Words.{index, with_nibble}
use Rattle.rules.specs.Memory.{touched}
use Rattle.rules.specs.Work.{Access, begin, byte_at, outside, kind_fetch, kind_load, kind_store, first_outside}
use Rattle.rules.specs.Timers.{timer_ready}
use Rattle.rules.specs.Channels.{requested}
use Rattle.rules.specs.Journal.{record_length, bounds_bad, last_pairs, last_start, pairs_at, strays}
use Rattle.rules.specs.Step as steps
use Rattle.rules.specs.Calls.{Outcome, size_bad, code_bad, not_output, not_input}
use Rattle.rules.specs.declared.Machine.{Machine}
use Rattle.laws.specs.Stops.{stop_places, nowhere, request_stops, timer_stops}

-- what refuses a call: 01's number, the part of 10, and the address of its access; three zeros where nothing does
-- (01, Answers by number; 02, No. 1)
abbrev pub Refusal : Type 0
Refusal = ℕ × ℕ × ℕ

-- the refusal of an outcome (01, Answers by number; 02, No. 1)
abbrev pub refusal_of : Outcome → Refusal
refusal_of o = (o.answer, o.part, o.address)

-- a row of the table: a refusal and its condition (01, Answers by number)
abbrev pub Row : Type 0
Row = Refusal × Bool

-- the row of a number without an access (01, Answers by number)
abbrev pub row : ℕ → Bool → Row
row n condition = ((n, 0, 0), condition)

-- the row of 10 for an access: 10a for a fetch, 10b for a load, 10c for a store (02, No. 1)
abbrev pub row_outside : ℕ → ℕ → Bool → Row
row_outside kind a condition = ((outside, kind, a), condition)

-- the first refusal whose condition holds, three zeros where none does (01, Answers by number: checks run in the order of the table)
unfoldable pub first_of : List Row → Refusal
first_of [] = (0, 0, 0)
first_of (e ∷ es) = pick e.1 e.0 (first_of es)

-- 4 JournalBad, in every call but fresh and clear: used above the journal's length, or 46 x depth above used (01, Answers by number)
abbrev pub bad_journal : Machine → List ℕ → Bool
bad_journal m j = bounds_bad (length j) m.depth m.used

-- the last record is longer than used (01, Answers by number, 4)
abbrev pub last_too_long : Machine → List ℕ → Bool
last_too_long m j = ltb m.used (record_length (last_pairs j m.used))

-- a pair's index is N or more (01, Answers by number, 4)
abbrev pub pair_outside : Machine → List ℕ → List ℕ → Bool
pair_outside m mem j = strays (length mem) (pairs_at j (last_start j m.used) (last_pairs j m.used))

-- 4 JournalBad, of undo: as in every call; or depth is above 0, and the last record is longer than used or a pair's index is N or more
-- (01, Answers by number; DECISIONS 35)
abbrev pub undo_bad : Machine → List ℕ → List ℕ → Bool
undo_bad m mem j = bad_journal m j || (ltb 0 m.depth && (last_too_long m j || pair_outside m mem j))

-- 5 NothingToUndo: depth 0 (01, Answers by number)
abbrev pub nothing_to_undo : Machine → Bool
nothing_to_undo m = eqb m.depth 0

-- 6 Halted: the halted flag (01, Answers by number)
abbrev pub is_halted : List ℕ → Bool
is_halted r = if_set halted_flag (get_or r flags_reg 0) true false

-- some channel has a request, or timer 0 or timer 1 is ready: where Oreg is 0, (a) or (b) applies (01, One step)
abbrev pub asked : List ℕ → Bool
asked r = ltb (requested (begin r)) link_chans || timer_ready 0 (begin r) || timer_ready 1 (begin r)

-- neither (a) nor (b) applies, so that (c) would (01, One step)
abbrev pub fetches : List ℕ → Bool
fetches r = if_eq (get_or r oreg 0) 0 (not (asked r)) true

-- 7 Idle: idle, and neither (a) nor (b) applies (01, Answers by number; DECISIONS 19)
unfoldable pub is_idle : List ℕ → Bool
is_idle r = if_set idle_flag (get_or r flags_reg 0) (fetches r) false

-- a link is moving: active, and its count is not 0 (01, Links, clocks, slice; DECISIONS 32)
abbrev pub is_moving : ℕ → List ℕ → Bool
is_moving c r = if_set active_bit (get_or r (channel_reg c) 0) (if_eq (get_or r (count_reg c) 0) 0 false true) false

-- a byte is held; of the event channel, an event (01, Memory and registers: channel flags, bit 2)
abbrev pub is_held : ℕ → List ℕ → Bool
is_held c r = if_set held_bit (get_or r (channel_reg c) 0) true false

-- 8 NotReady, of take: link not moving (01, Answers by number)
abbrev pub take_not_ready : ℕ → List ℕ → Bool
take_not_ready c r = not (is_moving c r)

-- 8 NotReady, of give: not moving and a byte held; of event: not moving and one held (01, Answers by number)
abbrev pub give_not_ready : ℕ → List ℕ → Bool
give_not_ready c r = not (is_moving c r) && is_held c r

-- the built list: #00 to #0F, #10, #12, #13, #15 to #22, #29 to #2C, #2E to #59, as first and last codes (01, The part of the T414 that we build)
unfoldable pub built_ranges : List (ℕ × ℕ)
built_ranges = (0x00, 0x10) ∷ (0x12, 0x13) ∷ (0x15, 0x22) ∷ (0x29, 0x2C) ∷ (0x2E, 0x59) ∷ []

-- a code is in one of these ranges (01, The part of the T414 that we build)
unfoldable pub in_ranges : List (ℕ × ℕ) → ℕ → Bool
in_ranges [] k = false
in_ranges (r ∷ rs) k = (leb r.0 k && leb k r.1) || in_ranges rs k

-- a code is built (01, The part of the T414 that we build)
unfoldable pub is_built : ℕ → Bool
is_built k = in_ranges built_ranges k

-- the instruction byte, at Iptr (01, One step (c))
abbrev pub next_byte : List ℕ → List ℕ → ℕ
next_byte r mem = byte_at mem (get_or r iptr_reg 0) (begin r)

-- (c) makes an operation: the byte at Iptr is inside memory, and its function is `opr` (01, One step (c); 000 1.11, operate)
abbrev pub operates : List ℕ → List ℕ → Bool
operates r mem = fetches r && ltb (index (get_or r iptr_reg 0)) (length mem) && eqb (next_byte r mem / 2 ^ 4) 0xF

-- the code of that operation: Oreg with the byte's nibble (DECISIONS 1, 2)
abbrev pub next_code : List ℕ → List ℕ → ℕ
next_code r mem = with_nibble (next_byte r mem) (get_or r oreg 0)

-- 9 Unlisted: the byte was fetched, and makes an operation outside the built list (01, Answers by number; DECISIONS 1)
unfoldable pub is_unlisted : List ℕ → List ℕ → Bool
is_unlisted r mem = operates r mem && not (is_built (next_code r mem))

-- 10b of take and 10c of give: the byte at the pointer of a moving link (01, Answers by number; 02, No. 1; DECISIONS 32)
abbrev pub pointer_outside : ℕ → List ℕ → List ℕ → Bool
pointer_outside c r mem = is_moving c r && leb (length mem) (index (get_or r (pointer_reg c) 0))

-- 10a: (c) applies, and Iptr is outside memory (02, No. 1)
abbrev pub fetch_outside : List ℕ → List ℕ → Bool
fetch_outside r mem = fetches r && leb (length mem) (index (get_or r iptr_reg 0))

-- the first of a step's accesses that is outside memory, its kind and address; kind 0 where there is none (02, No. 1; DECISIONS 57)
abbrev pub step_outside : List ℕ → List ℕ → Access
step_outside r mem = first_outside mem (steps.accesses mem r)

-- (c) Stops: the byte makes an operation that Stops at its place (01, Answers by number; DECISIONS 26)
unfoldable pub operation_stops : List ℕ → List ℕ → Bool
operation_stops r mem = operates r mem && look stop_places (next_code r mem) nowhere mem (begin r)

-- (a) or (b) Stops: the channel, else the timer that is served (01, One step (a), (b); DECISIONS 26)
unfoldable pub service_stops : List ℕ → List ℕ → Bool
service_stops r mem =
    if_lt (requested (begin r)) link_chans (request_stops (requested (begin r)) mem (begin r))
    (pick (timer_ready 0 (begin r)) (timer_stops 0 mem (begin r)) (timer_stops 1 mem (begin r)))

-- 11 Stop: an IF of 000 with no true branch, or a ring in a timer queue (01, Answers by number; DECISIONS 26, 27)
unfoldable pub stops : List ℕ → List ℕ → Bool
stops r mem = pick (fetches r) (operation_stops r mem) (service_stops r mem)

-- 12 JournalFull: a record with this number of pairs does not fit after used (01, Answers by number; 01, The journal)
abbrev pub full : ℕ → Machine → List ℕ → Bool
full pairs m j = ltb (length j) (m.used + record_length pairs)

-- the pairs of a give's record: one where the byte is stored, none where it is held (01, Links, clocks, slice; 01, The journal)
abbrev pub give_pairs : ℕ → List ℕ → ℕ
give_pairs c r = pick (is_moving c r) 1 0

-- the pairs of a step's record: one for each word that its stores touch (01, The journal; DECISIONS 38)
abbrev pub step_pairs : List ℕ → List ℕ → ℕ
step_pairs r mem = length (touched (length mem) (steps.step mem (begin r)).stored)

-- ---- each call's refusals with their conditions, in the table's order

-- fresh: 1 Size, 2 CodeSize (01, Answers by number)
abbrev pub fresh_refusals : List ℕ → List ℕ → List ℕ → List Row
fresh_refusals code mem j = row 1 (size_bad mem j) ∷ row 2 (code_bad (length mem) (length code)) ∷ []

module _ (m : Machine) (mem j : List ℕ) where
  -- clear can meet only 1 (01, Answers by number)
  abbrev pub clear_refusals : List Row
  clear_refusals = row 1 (size_bad mem j) ∷ []

  -- tick: 1, 4, 12 (01, Answers by number; DECISIONS 37)
  abbrev pub tick_refusals : List Row
  tick_refusals = row 1 (size_bad mem j) ∷ row 4 (bad_journal m j) ∷ row 12 (full 0 m j) ∷ []

  -- event: 1, 4, 8, 12 (01, Answers by number; DECISIONS 37)
  abbrev pub event_refusals : List Row
  event_refusals =
      row 1 (size_bad mem j)
      ∷ row 4 (bad_journal m j)
      ∷ row 8 (give_not_ready event_channel m.regs)
      ∷ row 12 (full 0 m j)
      ∷ []

  -- undo: 1, 4, 5 (01, Answers by number; DECISIONS 35)
  abbrev pub undo_refusals : List Row
  undo_refusals = row 1 (size_bad mem j) ∷ row 4 (undo_bad m mem j) ∷ row 5 (nothing_to_undo m) ∷ []

  -- step: 1, 4, 6, 7, 9, 10a, 10b, 10c, 11, 12; of 10 and 11 the first in 000's order (01, Answers by number; 02, No. 1; DECISIONS 25)
  abbrev pub step_refusals : List Row
  step_refusals =
      row 1 (size_bad mem j)
      ∷ row 4 (bad_journal m j)
      ∷ row 6 (is_halted m.regs)
      ∷ row 7 (is_idle m.regs)
      ∷ row 9 (is_unlisted m.regs mem)
      ∷ row_outside kind_fetch (get_or m.regs iptr_reg 0) (fetch_outside m.regs mem)
      ∷ row_outside kind_load (step_outside m.regs mem).1 (eqb (step_outside m.regs mem).0 kind_load)
      ∷ row_outside kind_store (step_outside m.regs mem).1 (eqb (step_outside m.regs mem).0 kind_store)
      ∷ row 11 (stops m.regs mem)
      ∷ row 12 (full (step_pairs m.regs mem) m j)
      ∷ []

-- take: 1, 3, 4, 8, 10b, 12 (01, Answers by number; 02, No. 1; DECISIONS 32)
abbrev pub take_refusals : ℕ → Machine → List ℕ → List ℕ → List Row
take_refusals c m mem j =
    row 1 (size_bad mem j)
    ∷ row 3 (not_output c)
    ∷ row 4 (bad_journal m j)
    ∷ row 8 (take_not_ready c m.regs)
    ∷ row_outside kind_load (get_or m.regs (pointer_reg c) 0) (pointer_outside c m.regs mem)
    ∷ row 12 (full 0 m j)
    ∷ []

-- give: 1, 3, 4, 8, 10c, 12 (01, Answers by number; 02, No. 1; DECISIONS 32)
abbrev pub give_refusals : ℕ → Machine → List ℕ → List ℕ → List Row
give_refusals c m mem j =
    row 1 (size_bad mem j)
    ∷ row 3 (not_input c)
    ∷ row 4 (bad_journal m j)
    ∷ row 8 (give_not_ready c m.regs)
    ∷ row_outside kind_store (get_or m.regs (pointer_reg c) 0) (pointer_outside c m.regs mem)
    ∷ row 12 (full (give_pairs c m.regs) m j)
    ∷ []
