-- The places where a step Stops (01, Answers by number, 11; DECISIONS 26, 27): an IF of 000 with no true branch, or a ring in a timer queue.
-- Each is a test of memory and work at the step's start. Where stores come before a place, the test names the work after them.
use Rattle.std.specs.Prelude.{◌≡◌, Bool, true, false, ◌&&◌, ◌||◌, not, List, [], ◌∷◌, ℕ, ltb, eqb}
use Rattle.std.specs.Int.Bits.{bit_and}
use Rattle.rules.specs.Words.{at_word, later}
use Rattle.rules.specs.Core.{wptr_of}
use Rattle.rules.specs.Registers.{areg, breg, creg, clock_reg, flags_reg, channel_reg, t_enabled, run_request}
use Rattle.rules.specs.Work.{Work, reg, lower, wptr, priority, word_at, read_word, r_index_word, w_index_word}
use Rattle.rules.specs.Scheduling.{enabling, waiting, ready, time_set, time_not_set, none_selected, port_base, state_s, pointer_s, tlink_s, time_s}
use Rattle.rules.specs.Timers.{tptr_loc, next_time, timer_unlink}
use Rattle.laws.specs.Lists.{listed}
use Rattle.laws.specs.Ring.{is_outside, insert_rings, delete_rings, InsertRing, DeleteRing}

-- a place: a test of memory and of the work there, its registers and its stores so far (DECISIONS 26, 44)
abbrev pub Place : Type 0
Place = List ℕ → Work → Bool

-- nothing was refused so far: no access before this place was outside memory (01, Answers by number; DECISIONS 44)
abbrev pub going : Work → Bool
going w = eqb w.answer 0

-- ---- shifts

-- shl and shr: a count above 32 (000 1.11, shl, shr; DECISIONS 6)
abbrev pub shift_stops : Place
shift_stops m w = ltb 32 (reg areg w)

-- lshl and lshr: a count above 64 (000 1.11, lshl, lshr; DECISIONS 6)
abbrev pub long_shift_stops : Place
long_shift_stops m w = ltb 64 (reg areg w)

-- ---- a timer queue is a ring

-- the work after the stores of InsertFirstStep, where the walk starts (000 1.10, InsertFirstStep)
abbrev pub insert_started : List ℕ → Work → Work
insert_started m w = w_index_word m (wptr w) time_s (reg areg w) (w_index_word m (wptr w) state_s waiting w)

-- an insertion of the time in Areg comes again to a pointer value that it has passed (000 1.10, InsertTest; DECISIONS 27)
unfoldable pub insert_stops : Place
insert_stops m w =
    going (insert_started m w)
    && not (is_outside m (tptr_loc (priority w)))
    && insert_rings m (insert_started m w) (reg areg w) (word_at m (tptr_loc (priority w)) (insert_started m w))

-- the work after the timer is switched off, where the walk of a deletion starts (000 1.10, DeleteFirstStep)
abbrev pub delete_started : Work → Work
delete_started w = lower flags_reg (t_enabled (priority w)) w

-- a deletion of the current process comes again to a pointer value that it has passed (000 1.10, DeleteTest; DECISIONS 27)
unfoldable pub delete_stops : Place
delete_stops m w =
    not (is_outside m (tptr_loc (priority w)))
    && delete_rings m (delete_started w) (word_at m (tptr_loc (priority w)) (delete_started w))

-- ---- operations on timers

-- a TLink word is TimeNotSet.p or TimeSet.p (000 1.4; 1.11, enable timer)
abbrev pub is_mark : ℕ → Bool
is_mark link = eqb link time_not_set || eqb link time_set

-- the TLink word of the workspace is inside memory, and neither mark (000 1.11, enable timer, disable timer; DECISIONS 26)
unfoldable pub unmarked : Place
unmarked m w = not (is_outside m (at_word (wptr w) tlink_s)) && not (is_mark (word_at m (at_word (wptr w) tlink_s) w))

-- enbt: its guard is true, and the TLink word is neither mark (000 1.11, enable timer; DECISIONS 26)
unfoldable pub enbt_stops : Place
enbt_stops m w = not (eqb (reg areg w) 0) && unmarked m w

-- tin: the time in Areg is not past, and the insertion of the time after it runs in a ring (000 1.11, timer input; DECISIONS 27)
unfoldable pub tin_stops : Place
tin_stops m w = not (later (reg (clock_reg (priority w)) w) (reg areg w)) && insert_stops m (next_time w)

-- dist: its guard is true, the TLink word is neither mark, so the process is in the queue, and its deletion runs in a ring
-- (000 1.11, disable timer; DECISIONS 27)
unfoldable pub dist_stops : Place
dist_stops m w = not (eqb (reg breg w) 0) && unmarked m w && delete_stops m w

-- the work after taltwt has stored NoneSelected.o and loaded its state into Creg (000 1.11, timer alt wait)
abbrev pub state_loaded : List ℕ → Work → Work
state_loaded m w = r_index_word m (wptr w) state_s creg (w_index_word m (wptr w) 0 none_selected w)

-- the work after it has loaded the TLink word into Breg (000 1.11, timer alt wait)
abbrev pub link_loaded : List ℕ → Work → Work
link_loaded m w = r_index_word m (wptr w) tlink_s breg w

-- the work after it has loaded its time into Areg (000 1.11, timer alt wait)
abbrev pub time_loaded : List ℕ → Work → Work
time_loaded m w = r_index_word m (wptr w) time_s areg w

-- taltwt with the TLink word in Breg: it is neither mark; or it is TimeSet.p, and with the time loaded into Areg it runs in a ring as
-- tin does (000 1.11, timer alt wait; DECISIONS 26, 27)
unfoldable pub mark_stops : Place
mark_stops m w =
    (going w && not (is_mark (reg breg w)))
    || (eqb (reg breg w) time_set && tin_stops m (time_loaded m w))

-- taltwt: its state is not Ready.p, and the TLink word makes it Stop (000 1.11, timer alt wait; DECISIONS 26)
unfoldable pub taltwt_stops : Place
taltwt_stops m w = not (eqb (reg creg (state_loaded m w)) ready) && mark_stops m (link_loaded m (state_loaded m w))

-- ---- operations

-- the operations that can Stop, each with its place: tin, dist, lshr, lshl, shr, shl, enbt, taltwt (DECISIONS 26, 27)
abbrev pub stop_places : List (ℕ × Place)
stop_places =
    (0x2B, tin_stops)
    ∷ (0x2E, dist_stops)
    ∷ (0x35, long_shift_stops)
    ∷ (0x36, long_shift_stops)
    ∷ (0x40, shift_stops)
    ∷ (0x41, shift_stops)
    ∷ (0x47, enbt_stops)
    ∷ (0x51, taltwt_stops)
    ∷ []

-- the operation of a code can Stop (DECISIONS 26, 27)
unfoldable pub can_stop : ℕ → Bool
can_stop code = listed code stop_places

-- nowhere: what an operation that cannot Stop has as its place (DECISIONS 26)
abbrev pub nowhere : Place
nowhere m w = false

-- ---- requests

-- a status is Ready.p or Waiting.p (000 1.8, HandleTimerRequest)
abbrev pub ready_or_waiting : ℕ → Bool
ready_or_waiting status = eqb status ready || eqb status waiting

-- the address of a process's status word: Pointer.s of the process that a channel's word names (000 1.8, HandleChannelRequest)
abbrev pub channel_status : ℕ → List ℕ → Work → ℕ
channel_status hc m w = at_word (wptr_of (word_at m (at_word port_base hc) w)) pointer_s

-- a channel request is served: no run request is set, so it is a ready request; both loads are inside memory, and the process's status is none of
-- Enabling.p, Ready.p, Waiting.p (000 1.8, HandleChannelRequest; DECISIONS 26)
unfoldable pub request_stops : ℕ → Place
request_stops hc m w =
    eqb (bit_and (reg (channel_reg hc) w) run_request) 0
    && not (is_outside m (at_word port_base hc))
    && not (is_outside m (channel_status hc m w))
    && not (eqb (word_at m (channel_status hc m w) w) enabling || ready_or_waiting (word_at m (channel_status hc m w) w))

-- the work after the front process has left the timer queue (000 1.8, HandleTimerRequest)
abbrev pub timer_unlinked : ℕ → List ℕ → Work → Work
timer_unlinked queue m w =
    read_word m (tptr_loc queue)
    (λ front here. read_word m (at_word front tlink_s) (timer_unlink m queue front) here)
    (lower flags_reg (t_enabled queue) w)

-- the address of the front process's status word: Pointer.s of the process that TPtrLoc[queue] points to (000 1.8, HandleTimerRequest)
abbrev pub front_status : ℕ → List ℕ → Work → ℕ
front_status queue m w = at_word (word_at m (tptr_loc queue) w) pointer_s

-- a timer is served: after the front process has left the queue its status, which the queue's stores can have changed, is neither
-- Ready.p nor Waiting.p (000 1.8, HandleTimerRequest; DECISIONS 26)
unfoldable pub timer_stops : ℕ → Place
timer_stops queue m w =
    going (timer_unlinked queue m w)
    && not (is_outside m (front_status queue m w))
    && not (ready_or_waiting (word_at m (front_status queue m w) (timer_unlinked queue m w)))

-- ---- the rings of a step, by the list of the pointer values passed

-- the stores of an insertion are inside memory, and its walk comes again to a pointer value that it has passed (DECISIONS 27)
abbrev pub InsertsInRing : List ℕ → Work → Type 0
InsertsInRing m w =
    ((insert_started m w).answer ≡ 0)
    × InsertRing m (insert_started m w) (reg areg w) (word_at m (tptr_loc (priority w)) (insert_started m w))

-- the walk of a deletion comes again to a pointer value that it has passed (DECISIONS 27)
abbrev pub DeletesInRing : List ℕ → Work → Type 0
DeletesInRing m w = DeleteRing m (delete_started w) (word_at m (tptr_loc (priority w)) (delete_started w))

-- tin: the time is not past, and its insertion runs in a ring (000 1.11, timer input; DECISIONS 27)
abbrev pub TinRing : List ℕ → Work → Type 0
TinRing m w = (later (reg (clock_reg (priority w)) w) (reg areg w) ≡ false) × InsertsInRing m (next_time w)

-- dist: its guard is true, the process is in the queue, and its deletion runs in a ring (000 1.11, disable timer; DECISIONS 27)
abbrev pub DistRing : List ℕ → Work → Type 0
DistRing m w = ((not (eqb (reg breg w) 0) && unmarked m w) ≡ true) × DeletesInRing m w
