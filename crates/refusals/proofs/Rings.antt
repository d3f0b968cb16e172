-- 11 of a call, place by place: a step that nothing refuses before is refused with 11 exactly where `stops` holds; and of tin, taltwt and dist, exactly
-- where the walk along the timer queue comes again to a pointer value that it has passed (01, Answers by number, 11; DECISIONS 27).
use mathlib.Core.Path.{◌≡◌, refl, sym, ap, ◌∙◌}
use mathlib.Core.Logic.{◌↔◌, ◌⊎◌, ⊎_elim}
use mathlib.Core.Bool.{Bool, true, false, ◌&&◌, ◌||◌, not}
use mathlib.Core.List.{List}
use Prim.Native.Nat.{ℕ, ◌≤◌, ◌<◌}
use native.Mathlib.Omega.{arith}
use borrow.Author.Tests.{lt-ltb, lt-leb, eq-eqb, ne_eqb, eqb-true, ltb-true, ltb-false}
use lib.Dec.{ltb, eqb}
use lib.ListN.{length, get_or}
use Rattle.rules.specs.Tests.{look}
use Rattle.rules.specs.Words.{index, later}
use Rattle.rules.specs.Registers.{registers, iptr_reg, areg, breg, creg, clock_reg}
use Rattle.rules.specs.Work.{Work, kind_load, kind_store, begin, reg, priority, word_at}
use Rattle.rules.specs.Scheduling.{ready, time_not_set, time_set}
use Rattle.rules.specs.Timers.{tptr_loc, next_time}
use Rattle.rules.specs.Step as steps
use Rattle.rules.specs.Calls as rules
use Rattle.rules.specs.declared.Machine.{Machine}
use Rattle.rules.proofs.Tests.{yes}
use Rattle.laws.specs.Alike.{Ordinary}
use Rattle.laws.specs.Ring.{is_outside, insert_rings}
use Rattle.laws.specs.Stops.{going, insert_started, insert_stops, delete_started, delete_stops, InsertsInRing, DeletesInRing, TinRing, DistRing, tin_stops, dist_stops, state_loaded, link_loaded, time_loaded, mark_stops, taltwt_stops, stop_places, nowhere}
use Rattle.laws.proofs.Lawful.{kept, lawful-r_index_word, lawful-w_index_word}
use Rattle.laws.proofs.LawfulTimers.{lawful-next_time}
use Rattle.laws.proofs.Calm.{never, and-false, any_fine}
use Rattle.laws.proofs.TimerRings.{insert_rings_lem, delete_rings_lem}
use Rattle.laws.proofs.Steps.{queue-inside, started-ordinary, off-ordinary, off-answer}
use Rattle.refusals.specs.Conditions.{Refusal, bad_journal, is_halted, is_idle, is_unlisted, fetches, operates, next_code, operation_stops, fetch_outside, step_outside, stops, full, step_pairs}
use Rattle.refusals.proofs.Own.{own_nine, own_eleven, own-fetch, own-proper}
use Rattle.refusals.proofs.Exactly.{none-outside, later_refusal, step-later}

-- both of two tests
both : (a b : Bool) → ((a && b) ≡ true) ↔ ((a ≡ true) × (b ≡ true))
both true b = ((λ e. (refl, e)), λ e. e.1)
both false b = ((λ e. never e), λ e. never e.0)

then-both : {X Y : Type 0} (a b : Bool) → (a ≡ true) ↔ X → (b ≡ true) ↔ Y → ((a && b) ≡ true) ↔ (X × Y)
then-both a b f g =
    ((λ e. let p = (both a b).0 e in (f.0 p.0, g.0 p.1)), λ p. (both a b).1 (f.1 p.0, g.1 p.1))

not_iff : (a : Bool) → (not a ≡ true) ↔ (a ≡ false)
not_iff true = ((λ e. never e), λ e. never (sym e))
not_iff false = ((λ e. refl), λ e. refl)

going_iff : (w : Work) → (going w ≡ true) ↔ (w.answer ≡ 0)
going_iff w = ((λ e. eqb-true w.answer 0 e), λ e. eq-eqb w.answer 0 e)

iff_trans : {X Y Z : Type 0} → X ↔ Y → Y ↔ Z → X ↔ Z
iff_trans f g = ((λ x. g.0 (f.0 x)), λ z. f.1 (g.1 z))

iff-same : {X : Type 0} (a b : Bool) → a ≡ b → (b ≡ true) ↔ X → (a ≡ true) ↔ X
iff-same a b e f = ((λ q. f.0 (sym e ∙ q)), λ x. e ∙ f.1 x)

and-true : (a b : Bool) → a ≡ true → (a && b) ≡ b
and-true a b e = rw e

-- ---- the walks

module _ (mem : List ℕ) (large : 64 ≤ length mem) (w : Work) (h : Ordinary w) where
  queue : not (is_outside mem (tptr_loc (priority w))) ≡ true
  queue = rw (lt-leb (length mem) (index (tptr_loc (priority w))) (queue-inside mem w large))

  insert_iff : (insert_stops mem w ≡ true) ↔ InsertsInRing mem w
  unfolding insert_stops
  insert_iff = (
    (λ e. let p = (both _ (insert_rings mem started (reg areg w) first)).0 e in
        let z = (going_iff started).0 ((both (going started) _).0 p.0).0 in
        (z, (insert_rings_lem mem (reg areg w) started o z first).0 p.1)),
    λ p. (both _ _).1 ((both _ _).1 ((going_iff started).1 p.0, queue), (insert_rings_lem mem (reg areg w) started o p.0 first).1 p.1),
  )
    where
      started : Work
      started = insert_started mem w

      first : ℕ
      first = word_at mem (tptr_loc (priority w)) started

      o : Ordinary started
      o = started-ordinary mem w h

  delete_iff : w.answer ≡ 0 → (delete_stops mem w ≡ true) ↔ DeletesInRing mem w
  unfolding delete_stops
  delete_iff z = iff-same _ _ (and-true _ _ queue) (delete_rings_lem mem (delete_started w) (off-ordinary mem w h) (off-answer mem w h z) (word_at mem (tptr_loc (priority w)) (delete_started w)))

-- ---- the operations that walk

module _ (mem : List ℕ) (large : 64 ≤ length mem) (w : Work) (h : Ordinary w) where
  tin_iff : (tin_stops mem w ≡ true) ↔ TinRing mem w
  unfolding tin_stops
  tin_iff = then-both _ _ (not_iff (later (reg (clock_reg (priority w)) w) (reg areg w))) (insert_iff mem large (next_time w) (kept lawful-next_time mem (any_fine w h)).ordinary)

  dist_iff : w.answer ≡ 0 → (dist_stops mem w ≡ true) ↔ DistRing mem w
  unfolding dist_stops
  dist_iff z = then-both _ _ ((λ e. e), λ e. e) (delete_iff mem large w h z)

marked : (mem : List ℕ) (w : Work) → (reg creg (state_loaded mem w) ≡ ready → ⊥) → reg breg (link_loaded mem (state_loaded mem w)) ≡ time_set
    → taltwt_stops mem w ≡ tin_stops mem (time_loaded mem (link_loaded mem (state_loaded mem w)))
unfolding taltwt_stops mark_stops
marked mem w n t =
    let u = link_loaded mem (state_loaded mem w) in
    rw (ne_eqb (reg creg (state_loaded mem w)) ready n, eq-eqb (reg breg u) time_set t, ne_eqb (reg breg u) time_not_set (λ q. omega (arith, t, q)), and-false (going u))

-- ---- where `stops` holds, it comes first

module _ (r mem : List ℕ) (h : length r ≡ registers) (busy : is_idle r ≡ false) where
  pub stops_first : stops r mem ≡ true → (is_unlisted r mem ≡ false) × (fetch_outside r mem ≡ false) × (step_outside r mem ≡ (0, 0))
  stops_first s =
      let w = steps.choose mem (begin r) in
      let e : w.answer ≡ 11 = eqb-true w.answer 11 (sym (own_eleven r mem h busy) ∙ s) in (
        own_nine r mem h busy ∙ ne_eqb w.answer 9 (λ q. omega (arith, e, q)),
        (own-fetch r mem h busy).0 ∙ ne_eqb w.kind 1 (λ q. omega (arith, q, ((own-proper r mem h).proper.bare (λ z. omega (arith, e, z))).0)),
        none-outside r mem h (λ q. omega (arith, e, q)),
      )

ltb_iff : (n k : ℕ) → (ltb n k ≡ true) ↔ (n < k)
ltb_iff n k = ((λ e. ltb-true n k e), λ e. lt-ltb n k e)

eleven : (u f l s p q : Bool) (i a : ℕ) → (later_refusal u f l s p q i a).0 ≡ 11 → p ≡ true
eleven true f l s p q i a e = absurd (omega (arith, e))
eleven false true l s p q i a e = absurd (omega (arith, e))
eleven false false true s p q i a e = absurd (omega (arith, e))
eleven false false false true p q i a e = absurd (omega (arith, e))
eleven false false false false true q i a e = refl
eleven false false false false false true i a e = absurd (omega (arith, e))
eleven false false false false false false i a e = absurd (omega (arith, e))

module _ (m : Machine) (mem j : List ℕ) (h : length m.regs ≡ registers) (sized : rules.size_bad mem j ≡ false) (framed : bad_journal m j ≡ false)
    (runs : is_halted m.regs ≡ false) (busy : is_idle m.regs ≡ false) where
  abbrev r : List ℕ
  r = m.regs

  abbrev start : Work
  start = begin r

  -- a call that nothing refuses before: 11 exactly where `stops` holds
  pub step-stops : ((rules.step m mem j).answer ≡ 11) ↔ (stops r mem ≡ true)
  step-stops = (
    (λ e. eleven (is_unlisted r mem) (fetch_outside r mem) (eqb (step_outside r mem).0 kind_load) (eqb (step_outside r mem).0 kind_store) (stops r mem) (full (step_pairs r mem) m j) (get_or r iptr_reg 0) (step_outside r mem).1 (sym number ∙ e)),
    λ s. let q = stops_first r mem h busy s in number ∙ found q.0 q.1 q.2 s,
  )
    where
      later : Refusal
      later = later_refusal (is_unlisted r mem) (fetch_outside r mem) (eqb (step_outside r mem).0 kind_load) (eqb (step_outside r mem).0 kind_store) (stops r mem) (full (step_pairs r mem) m j) (get_or r iptr_reg 0) (step_outside r mem).1

      number : (rules.step m mem j).answer ≡ later.0
      number = ap (λ (t : Refusal). t.0) (step-later m mem j h sized framed runs busy)

      found : is_unlisted r mem ≡ false → fetch_outside r mem ≡ false → step_outside r mem ≡ (0, 0) → stops r mem ≡ true → later.0 ≡ 11
      found u f o s = rw (u, f, o, s)

  large : 64 ≤ length mem
  unfolding rules.size_bad rules.memory_size_bad
  large = go (ltb (length mem) 64) refl sized
    where
      go : (b : Bool) → ltb (length mem) 64 ≡ b → (b || ltb 16384 (length mem) || rules.journal_size_bad (length j)) ≡ false → 64 ≤ length mem
      go true e z = never (sym z)
      go false e z = ltb-false (length mem) 64 e

  -- ---- the operation of a code

  module _ (opr : operates r mem ≡ true) where
    at_place : (code : ℕ) → next_code r mem ≡ code → stops r mem ≡ look stop_places code nowhere mem (begin r)
    unfolding stops operation_stops
    at_place code e =
        yes ((both (fetches r) _).0 ((both (fetches r && _) _).0 opr).0).0 _ _
        ∙ and-true (operates r mem) (look stop_places (next_code r mem) nowhere mem (begin r)) opr
        ∙ ap (λ (c : ℕ). look stop_places c nowhere mem (begin r)) e

    -- shl and shr, lshl and lshr
    pub shift-call : (next_code r mem ≡ 0x41) ⊎ (next_code r mem ≡ 0x40) → ((rules.step m mem j).answer ≡ 11) ↔ (32 < get_or r areg 0)
    shift-call c =
        iff_trans step-stops
        (iff-same _ _ (⊎_elim (at_place 0x41) (at_place 0x40) c) (ltb_iff 32 (get_or r areg 0)))

    pub long_shift-call : (next_code r mem ≡ 0x36) ⊎ (next_code r mem ≡ 0x35) → ((rules.step m mem j).answer ≡ 11) ↔ (64 < get_or r areg 0)
    long_shift-call c =
        iff_trans step-stops
        (iff-same _ _ (⊎_elim (at_place 0x36) (at_place 0x35) c) (ltb_iff 64 (get_or r areg 0)))

    -- THE RINGS, of a call
    pub tin_ring : next_code r mem ≡ 0x2B → ((rules.step m mem j).answer ≡ 11) ↔ TinRing mem start
    tin_ring c = iff_trans step-stops (iff-same _ _ (at_place 0x2B c) (tin_iff mem large start (h, refl)))

    pub dist_ring : next_code r mem ≡ 0x2E → ((rules.step m mem j).answer ≡ 11) ↔ DistRing mem start
    dist_ring c = iff_trans step-stops (iff-same _ _ (at_place 0x2E c) (dist_iff mem large start (h, refl) refl))

    -- taltwt, where its state is not Ready.p and its TLink word is TimeSet.p: as tin does, with the time loaded into Areg
    pub taltwt_ring : next_code r mem ≡ 0x51 → (reg creg (state_loaded mem start) ≡ ready → ⊥) → reg breg (link_loaded mem (state_loaded mem start)) ≡ time_set
        → ((rules.step m mem j).answer ≡ 11) ↔ TinRing mem (time_loaded mem (link_loaded mem (state_loaded mem start)))
    taltwt_ring c n t = iff_trans step-stops (iff-same _ _ (at_place 0x51 c ∙ marked mem start n t) (tin_iff mem large (time_loaded mem (link_loaded mem (state_loaded mem start))) loaded))
      where
        loaded : Ordinary (time_loaded mem (link_loaded mem (state_loaded mem start)))
        loaded = (kept (lawful-r_index_word _ _ _) mem (kept (lawful-r_index_word _ _ _) mem (kept (lawful-r_index_word _ _ _) mem (kept (lawful-w_index_word _ _ _) mem (any_fine start (h, refl)))))).ordinary
