-- The tests of the places where a step Stops tell where it does: each operation, and each request, is refused with 11 exactly where the test of
-- its place holds (01, Answers by number, 11; DECISIONS 26, 27).
use mathlib.Core.Path.{◌≡◌, refl, sym, ◌∙◌}
use mathlib.Core.Bool.{Bool, true, false, ◌&&◌, ◌||◌, not}
use mathlib.Core.List.{List, []}
use Prim.Native.Nat.{ℕ}
use native.Mathlib.Omega.{arith}
use borrow.Author.Tests.{lt-ltb, le-ltb, eq-eqb, ne_eqb}
use lib.Bits.{bit_and}
use lib.Dec.{ltb, eqb}
use Rattle.rules.specs.Tests.{pick, if_lt, look}
use Rattle.rules.specs.Words.{at_word, later}
use Rattle.rules.specs.Stack as stack
use Rattle.rules.specs.Registers.{areg, breg, creg, clock_reg, flags_reg, channel_reg, t_enabled, core_of, run_request, ready_request}
use Rattle.rules.specs.Work.{Work, reg, put, lower, wptr, priority, stop, unlisted, refuse, attempted, on_attempt, word_at, read_word, r_index_word}
use Rattle.rules.specs.Scheduling.{enabling, waiting, ready, time_set, time_not_set, port_base, pointer_s, tlink_s, time_s}
use Rattle.rules.specs.Timers.{next_time, insert_first_step, delete_first_step, tin, taltwt_time, taltwt_link, taltwt_state, taltwt, enbt_link, enbt_guard, enbt, dist_set, dist_link, dist, timer_status, timer_wake, timer_front, timer_serve, handle_timer_request}
use Rattle.rules.specs.Channels.{ready_status, ready_content, handle_ready_request, handle_channel_request}
use Rattle.rules.specs.Operations.{register_operations, other_operations, operations, operate}
use Rattle.std.specs.Prelude.{Option, Some, None, is_none}
use Rattle.rules.specs.declared.Core.{Core}
use Rattle.rules.proofs.Tests.{yes_lt, no_lt, yes_eq, no_eq, cases_eq, cases_lt}
use Rattle.laws.specs.Alike.{Ordinary}
use Rattle.laws.specs.Ring.{is_outside}
use Rattle.laws.specs.Stops.{Place, going, insert_stops, shift_stops, long_shift_stops, is_mark, unmarked, enbt_stops, tin_stops, dist_stops, state_loaded, mark_stops, taltwt_stops, delete_stops, stop_places, can_stop, nowhere, ready_or_waiting, channel_status, request_stops, timer_stops}
use Rattle.laws.proofs.Fine.{fine_load, fine-put, fine-put_core, fine-refuse}
use Rattle.laws.proofs.Lawful.{kept, lawful-lower, lawful-r_index_word, lawful-w_index_word}
use Rattle.laws.proofs.LawfulScheduling.{lawful-wait}
use Rattle.laws.proofs.LawfulTimers.{lawful-delete_first_step, lawful-dist_link, lawful-dist_ready, lawful-drop_b, lawful-enbt_earlier, lawful-enbt_first, lawful-enbt_guard, lawful-enbt_link, lawful-next_time, lawful-time_now, lawful-timed_out, lawful-timer_status, lawful-timer_unlink}
use Rattle.laws.proofs.LawfulChannels.{lawful-handle_run_request, lawful-ready_content, lawful-ready_status, lawful-ready_waiting}
use Rattle.laws.proofs.LawfulOperations.{lawful-operate}
use Rattle.laws.proofs.Rows.{Rows, none, ◌&◌, look_rows}
use Rattle.laws.proofs.Calm.{never, and-false, not_turns, Calm, calm-none, any_fine, same_stop, Tells, tells_calm, tells-stop, regroup, tells-going, tells_read}
use Rattle.laws.proofs.Steps.{insert-stops, delete-stops}

-- work that has not been refused
pub record Begun (w : Work) : Type 0 where
  pub ordinary : Ordinary w
  pub none : w.answer ≡ 0

calm : {w : Work} → Begun w → Calm w
calm b = calm-none b.ordinary b.none

or-false : (a : Bool) → (a || false) ≡ a
or-false true = refl
or-false false = refl

-- ---- shifts

attempt-stops : (t : Option Core) {w : Work} → Begun w → Tells (is_none t) (attempted t w)
unfolding attempted
attempt-stops None {w} b = tells-stop w b.none
attempt-stops (Some s) b = tells_calm (fine-put_core s (calm b))

-- an operation that Stops above a count
stops_above : (n count : ℕ) (x y : Option Core) → is_none x ≡ true → is_none y ≡ false → ltb n count ≡ is_none (if_lt n count x y)
stops_above n count x y p q =
    cases_lt n count
    (λ h. rw (yes_lt h, lt-ltb n count h) (sym p))
    (λ h. rw (no_lt h, le-ltb n count h) (sym q))

module _ (m : List ℕ) {w : Work} (b : Begun w) where
  shl-stops : Tells (shift_stops m w) (on_attempt stack.shl w)
  unfolding stack.shl core_of
  shl-stops = stops_above 32 (reg areg w) _ _ refl refl ∙ attempt-stops (stack.shl (core_of w.regs)) b

  shr-stops : Tells (shift_stops m w) (on_attempt stack.shr w)
  unfolding stack.shr core_of
  shr-stops = stops_above 32 (reg areg w) _ _ refl refl ∙ attempt-stops (stack.shr (core_of w.regs)) b

  lshl-stops : Tells (long_shift_stops m w) (on_attempt stack.lshl w)
  unfolding stack.lshl core_of
  lshl-stops = stops_above 64 (reg areg w) _ _ refl refl ∙ attempt-stops (stack.lshl (core_of w.regs)) b

  lshr-stops : Tells (long_shift_stops m w) (on_attempt stack.lshr w)
  unfolding stack.lshr core_of
  lshr-stops = stops_above 64 (reg areg w) _ _ refl refl ∙ attempt-stops (stack.lshr (core_of w.regs)) b

-- ---- tin and taltwt

-- where the time is past, v; else the insertion
time-stops : (m : List ℕ) {w v : Work} → Calm w → Calm v
    → Tells (tin_stops m w) (pick (later (reg (clock_reg (priority w)) w) (reg areg w)) v (insert_first_step m (next_time w)))
unfolding tin_stops
time-stops m {w} {v} c d = go (later (reg (clock_reg (priority w)) w) (reg areg w))
  where
    go : (t : Bool) → Tells (not t && insert_stops m (next_time w)) (pick t v (insert_first_step m (next_time w)))
    go true = tells_calm d
    go false = insert-stops m (kept lawful-next_time m c)

tin-stops : (m : List ℕ) {w : Work} → Begun w → Tells (tin_stops m w) (tin m w)
unfolding tin
tin-stops m b = time-stops m (calm b) (calm b)

mark-stops : (m : List ℕ) {w : Work} → Calm w → Tells (mark_stops m w) (taltwt_link m w)
unfolding mark_stops taltwt_link taltwt_time
mark-stops m {w} c =
    cases_eq (reg breg w) time_not_set
    (λ e. rw (yes_eq e, eq-eqb (reg breg w) time_not_set e, ne_eqb (reg breg w) time_set (λ q. omega (arith, e, q)), and-false (going w)) (tells_calm (kept lawful-wait m c)))
    (λ n. cases_eq (reg breg w) time_set
    (λ e. rw (no_eq n, yes_eq e, eq-eqb (reg breg w) time_set e, ne_eqb (reg breg w) time_not_set n, and-false (going w)) (time-stops m loaded (kept lawful-time_now m (kept (lawful-w_index_word _ _ _) m loaded))))
    (λ k. rw (no_eq n, no_eq k, ne_eqb (reg breg w) time_set k, ne_eqb (reg breg w) time_not_set n) neither))
  where
    loaded : Calm (r_index_word m (wptr w) time_s areg w)
    loaded = kept (lawful-r_index_word _ _ _) m c

    neither : Tells ((going w && true) || false) (refuse stop w)
    neither = or-false (going w && true) ∙ tells-going w (refuse stop w) true c (λ P t f. fine-refuse stop (λ q. omega (arith, q)) (t stop) f) (λ e. tells-stop w e)

taltwt-stops : (m : List ℕ) {w : Work} → Begun w → Tells (taltwt_stops m w) (taltwt m w)
unfolding taltwt_stops taltwt taltwt_state
taltwt-stops m {w} b =
    cases_eq (reg creg (state_loaded m w)) ready
    (λ e. rw (yes_eq e, eq-eqb (reg creg (state_loaded m w)) ready e) (tells_calm (kept lawful-time_now m loaded)))
    (λ e. rw (no_eq e, ne_eqb (reg creg (state_loaded m w)) ready e) (mark-stops m (kept (lawful-r_index_word _ _ _) m loaded)))
  where
    loaded : Calm (state_loaded m w)
    loaded = kept (lawful-r_index_word _ _ _) m (kept (lawful-w_index_word _ _ _) m (calm b))

-- ---- enbt and dist

enbt_link-stops : (m : List ℕ) (link : ℕ) {w : Work} → Begun w → Tells (not (is_mark link)) (enbt_link m link w)
unfolding enbt_link
enbt_link-stops m link {w} b =
    cases_eq link time_not_set
    (λ e. rw (yes_eq e, eq-eqb link time_not_set e) (tells_calm (kept lawful-enbt_first m (calm b))))
    (λ n. cases_eq link time_set
    (λ e. rw (no_eq n, yes_eq e, ne_eqb link time_not_set n, eq-eqb link time_set e) (tells_calm (kept (lawful-enbt_earlier _) m (fine_load m _ (calm b)))))
    (λ k. rw (no_eq n, no_eq k, ne_eqb link time_not_set n, ne_eqb link time_set k) (tells-stop w b.none)))

enbt-stops : (m : List ℕ) {w : Work} → Begun w → Tells (enbt_stops m w) (enbt m w)
unfolding enbt_stops unmarked enbt enbt_guard
enbt-stops m {w} b = guard ∙ same_stop (enbt_guard m w) (enbt m w) (kept (lawful-enbt_guard (λ k a z kind address p. tt)) m (any_fine w b.ordinary)).ordinary (λ P t f. kept lawful-drop_b m f)
  where
    guard : Tells (enbt_stops m w) (enbt_guard m w)
    guard =
        cases_eq (reg areg w) 0
        (λ e. rw (yes_eq e, eq-eqb (reg areg w) 0 e) (tells_calm (calm b)))
        (λ e. rw (no_eq e, ne_eqb (reg areg w) 0 e)
        (tells_read m (at_word (wptr w) tlink_s) (enbt_link m) w _ b.ordinary b.none (λ P t f. kept (lawful-enbt_link (t stop) _) m f) (enbt_link-stops m _ b)))

dist_link-stops : (m : List ℕ) (link : ℕ) {w : Work} → Begun w → Tells (not (is_mark link) && delete_stops m w) (dist_link m link w)
unfolding dist_link dist_set
dist_link-stops m link {w} b =
    cases_eq link time_not_set
    (λ e. rw (yes_eq e, eq-eqb link time_not_set e) (tells_calm (fine-put areg 0 (calm b))))
    (λ n. cases_eq link time_set
    (λ e. rw (no_eq n, yes_eq e, ne_eqb link time_not_set n, eq-eqb link time_set e) (tells_calm (kept (lawful-dist_ready _) m (fine_load m _ (calm b)))))
    (λ k. rw (no_eq n, no_eq k, ne_eqb link time_not_set n, ne_eqb link time_set k)
    (delete-stops m w b.ordinary b.none ∙ same_stop (delete_first_step m w) (put areg 0 (delete_first_step m w)) (kept (lawful-delete_first_step (λ k a z kind address p. tt)) m (any_fine w b.ordinary)).ordinary (λ P t f. fine-put areg 0 f))))

dist-stops : (m : List ℕ) {w : Work} → Begun w → Tells (dist_stops m w) (dist m w)
unfolding dist_stops unmarked dist
dist-stops m {w} b =
    cases_eq (reg breg w) 0
    (λ e. rw (yes_eq e, eq-eqb (reg breg w) 0 e) (tells_calm (fine-put areg 0 (calm b))))
    (λ e. rw (no_eq e, ne_eqb (reg breg w) 0 e)
    (regroup (not (is_outside m (at_word (wptr w) tlink_s))) _ _ (read_word m (at_word (wptr w) tlink_s) (dist_link m) w)
    (tells_read m (at_word (wptr w) tlink_s) (dist_link m) w _ b.ordinary b.none (λ P t f. kept (lawful-dist_link (t stop) _) m f) (dist_link-stops m _ b))))

-- ---- requests

status-stops : (m : List ℕ) (queue front status : ℕ) {w : Work} → Begun w → Tells (not (ready_or_waiting status)) (timer_status m queue front status w)
unfolding timer_status
status-stops m queue front status {w} b =
    cases_eq status ready
    (λ e. rw (yes_eq e, eq-eqb status ready e) (tells_calm (calm b)))
    (λ n. cases_eq status waiting
    (λ e. rw (no_eq n, yes_eq e, ne_eqb status ready n, eq-eqb status waiting e) (tells_calm (kept (lawful-timed_out queue front) m (calm b))))
    (λ k. rw (no_eq n, no_eq k, ne_eqb status ready n, ne_eqb status waiting k) (tells-stop w b.none)))

-- the queue is unlinked: what remains is the front process
front-stops : (m : List ℕ) (queue front : ℕ) {w : Work} → Calm w
    → Tells (going w && not (is_outside m (at_word front pointer_s)) && not (ready_or_waiting (word_at m (at_word front pointer_s) w))) (timer_wake m queue front w)
unfolding timer_wake
front-stops m queue front {w} c =
    regroup (going w) _ _ (timer_wake m queue front w)
    (tells-going w (timer_wake m queue front w) _ c (λ P t f. kept (lawful-timer_status (t stop) _ _ _) m (fine_load m _ f))
    (λ e. let b : Begun w = record { ordinary = c.ordinary; none = e } in
    tells_read m (at_word front pointer_s) (timer_status m queue front) w _ c.ordinary e (λ P t f. kept (lawful-timer_status (t stop) _ _ _) m f) (status-stops m queue front _ b)))

pub timer-stops : (m : List ℕ) (queue : ℕ) {w : Work} → Begun w → Tells (timer_stops queue m w) (handle_timer_request m queue w)
unfolding timer_stops handle_timer_request timer_serve timer_front lower put word_at
timer-stops m queue {w} b =
    front-stops m queue _ (kept (lawful-timer_unlink _ _ _) m (fine_load m _ (fine_load m _ (kept (lawful-lower flags_reg (t_enabled queue)) m (calm b)))))

ready_status-stops : (m : List ℕ) (content status : ℕ) {w : Work} → Begun w
    → Tells (not (eqb status enabling || ready_or_waiting status)) (ready_status m content status w)
unfolding ready_status
ready_status-stops m content status {w} b =
    cases_eq status enabling
    (λ e. rw (yes_eq e, eq-eqb status enabling e) (tells_calm (kept (lawful-w_index_word _ _ _) m (calm b))))
    (λ l. cases_eq status ready
    (λ e. rw (no_eq l, yes_eq e, ne_eqb status enabling l, eq-eqb status ready e) (tells_calm (calm b)))
    (λ n. cases_eq status waiting
    (λ e. rw (no_eq l, no_eq n, yes_eq e, ne_eqb status enabling l, ne_eqb status ready n, eq-eqb status waiting e) (tells_calm (kept (lawful-ready_waiting content) m (calm b))))
    (λ k. rw (no_eq l, no_eq n, no_eq k, ne_eqb status enabling l, ne_eqb status ready n, ne_eqb status waiting k) (tells-stop w b.none))))

-- both loads, then the status
content-stops : (m : List ℕ) (hc : ℕ) {w : Work} → Begun w
    → Tells (not (is_outside m (at_word port_base hc)) && not (is_outside m (channel_status hc m w)) && not (eqb (word_at m (channel_status hc m w) w) enabling || ready_or_waiting (word_at m (channel_status hc m w) w)))
    (handle_ready_request m hc w)
unfolding handle_ready_request ready_content
content-stops m hc {w} b =
    regroup (not (is_outside m (at_word port_base hc))) _ _ (handle_ready_request m hc w)
    (tells_read m (at_word port_base hc) (ready_content m) w _ b.ordinary b.none (λ P t f. kept (lawful-ready_content (t stop) _) m f)
    (tells_read m (channel_status hc m w) (ready_status m (word_at m (at_word port_base hc) w)) w _ b.ordinary b.none (λ P t f. kept (lawful-ready_status (t stop) _ _) m f)
    (ready_status-stops m _ _ b)))

lowered : (k mask : ℕ) {w : Work} → Begun w → Begun (lower k mask w)
unfolding lower put
lowered k mask {w} b = record { ordinary = (kept (lawful-lower k mask) [] (any_fine w b.ordinary)).ordinary; none = b.none }

pub request-stops : (m : List ℕ) (hc : ℕ) {w : Work} → Begun w → Tells (request_stops hc m w) (handle_channel_request m hc w)
unfolding request_stops handle_channel_request lower put word_at
request-stops m hc {w} b =
    cases_eq (bit_and (reg (channel_reg hc) w) run_request) 0
    (λ e. rw (yes_eq e, eq-eqb (bit_and (reg (channel_reg hc) w) run_request) 0 e) (content-stops m hc (lowered (channel_reg hc) ready_request b)))
    (λ e. rw (no_eq e, ne_eqb (bit_and (reg (channel_reg hc) w) run_request) 0 e) (tells_calm (kept (lawful-handle_run_request hc) m (kept (lawful-lower (channel_reg hc) run_request) m (calm b)))))

-- ---- operations

-- the operation of a code Stops exactly where the test of a place holds
Row : ℕ → Place → Type 0
Row code p = (m : List ℕ) (w : Work) → Begun w → Tells (p m w) (operate code m w)

rows : Rows Row stop_places
unfolding Row operate register_operations other_operations operations
rows =
    (λ m w b. tin-stops m b) &
    (λ m w b. dist-stops m b) &
    (λ m w b. lshr-stops m b) &
    (λ m w b. lshl-stops m b) &
    (λ m w b. shr-stops m b) &
    (λ m w b. shl-stops m b) &
    (λ m w b. enbt-stops m b) &
    (λ m w b. taltwt-stops m b) &
    none

-- every operation: one without a place Stops nowhere
pub operate-stops : (code : ℕ) (m : List ℕ) {w : Work} → Begun w → Tells (look stop_places code nowhere m w) (operate code m w)
unfolding can_stop Row
operate-stops code m {w} b =
    look_rows Row stop_places rows code nowhere
    (λ l m w b. tells_calm (kept (lawful-operate code (λ z. never (sym l ∙ z)) (λ z. not_turns stop unlisted (λ q. omega (arith, q)))) m (calm b)))
    m w b
