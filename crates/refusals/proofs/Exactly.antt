-- Each call answers with the first refusal of the table whose condition holds, its number, part and address, and with 0 where none does.
use mathlib.Core.Path.{◌≡◌, refl, sym, ap, ◌∙◌}
use mathlib.Core.Bool.{Bool, true, false, ◌&&◌, ◌||◌, not}
use mathlib.Core.List.{List, [], ◌∷◌, ◌++◌}
use Prim.Native.Nat.{ℕ, ◌<◌}
use native.Mathlib.Omega.{arith}
use lib.Dec.{ltb, leb, eqb}
use lib.Bits.{bit_and}
use lib.ListN.{length, get_or}
use Rattle.rules.specs.Tests.{pick, if_lt, if_eq, if_set}
use borrow.Author.Tests.{le-leb, lt-leb, le-ltb, lt-ltb, eq-eqb, ne_eqb}
use Rattle.rules.specs.Words.{index}
use Rattle.rules.specs.Registers.{registers, iptr_reg, pointer_reg, count_reg, channel_reg, active_bit, held_bit, event_channel, flags_reg, status_reg, oreg, idle_flag, halted_flag, link_chans}
use Rattle.rules.specs.Memory.{Store, touched}
use Rattle.rules.specs.Work.{outside, Work, begin, put, raise, lower, access, refuse_at, refuse, append, store_byte, kind_fetch, kind_load, kind_store}
use Rattle.rules.specs.Timers.{timer_ready}
use Rattle.rules.specs.Channels.{requested}
use Rattle.rules.specs.Links as links
use Rattle.rules.specs.Step as steps
use Rattle.rules.specs.Calls as rules
use Rattle.rules.specs.declared.Machine.{Machine}
use Rattle.rules.proofs.Tests.{yes_lt, no_lt, yes_eq, no_eq, by_bool, cases_eq, cases_lt, on_eq, on_lt, on_le}
use Rattle.refusals.specs.Conditions.{Refusal, refusal_of, Row, row, row_outside, first_of, bad_journal, last_too_long, pair_outside, is_halted, asked, is_idle, is_unlisted, fetch_outside, is_moving, is_held, take_not_ready, give_not_ready, pointer_outside, full, give_pairs, step_pairs, tick_refusals, take_refusals, give_refusals, event_refusals, undo_refusals, clear_refusals, fresh_refusals, step_outside, stops, step_refusals}
use Rattle.laws.specs.Listed.{told_outside, told}
use Rattle.laws.proofs.Calm.{never}
use Rattle.laws.proofs.LawfulStep.{first-outside}
use Rattle.refusals.proofs.Own.{own_rows, own_first}
use Rattle.refusals.proofs.Stored.{no_pairs, tick-stored, take-stored, event-stored, give_pairs_lem}

-- the refusal of an outcome picked is the picked refusal
refusal_of_lem : (t : Bool) (o p : rules.Outcome) → refusal_of (pick t o p) ≡ pick t (refusal_of o) (refusal_of p)
refusal_of_lem true o p = refl
refusal_of_lem false o p = refl

-- the checks before a call's own
checked-answer : (bad : Bool) (m : Machine) (mem j : List ℕ) (o : rules.Outcome) (rest : List Row) → refusal_of o ≡ first_of rest
    → refusal_of (rules.checked bad m mem j o) ≡ first_of (row 1 (rules.size_bad mem j) ∷ row 3 bad ∷ row 4 (bad_journal m j) ∷ rest)
unfolding rules.checked first_of
checked-answer bad m mem j o rest e = go (rules.size_bad mem j) bad (bad_journal m j)
  where
    go : (a b c : Bool) → refusal_of (pick a (rules.refused 1 m mem j) (pick b (rules.refused 3 m mem j) (pick c (rules.refused 4 m mem j) o))) ≡ pick a (1, 0, 0) (pick b (3, 0, 0) (pick c (4, 0, 0) (first_of rest)))
    go true b c = refl
    go false true c = refl
    go false false true = refl
    go false false false = e

-- conditions one after the other: the second list counts where the first gives 0
abbrev Numbers : List Row → Type 0
Numbers [] = Unit {0}
Numbers (e ∷ es) = (e.1 ≡ true → e.0.0 ≡ 0 → ⊥) × Numbers es

then_first : (es fs : List Row) → Numbers es → if_eq (first_of es).0 0 (first_of fs) (first_of es) ≡ first_of (es ++ fs)
unfolding first_of
then_first [] fs h = rw (yes_eq {a = 0} {b = 0} refl)
then_first (e ∷ es) fs h = go e.1 h.0 (then_first es fs h.1)
  where
    go : (t : Bool) → (t ≡ true → e.0.0 ≡ 0 → ⊥) → if_eq (first_of es).0 0 (first_of fs) (first_of es) ≡ first_of (es ++ fs) → if_eq (pick t e.0 (first_of es)).0 0 (first_of fs) (pick t e.0 (first_of es)) ≡ pick t e.0 (first_of (es ++ fs))
    go true n q = rw (no_eq (n refl))
    go false n q = q

-- a call that is worked out: its own conditions, then the record that does not fit
module _ (m : Machine) (mem j : List ℕ) (byte : ℕ) (w : Work) where
  pairs : ℕ
  pairs = length (touched (length mem) w.stored)

  commit-or-refuse_first : refusal_of (rules.commit_or_refuse m mem j byte w) ≡ if_eq w.answer 0 (first_of (row 12 (full pairs m j) ∷ [])) (told w)
  unfolding rules.commit_or_refuse rules.recorded first_of if_lt if_eq pairs
  commit-or-refuse_first = simp refusal_of_lem

  -- of a record of n pairs, where nothing else refuses the call
  commit-or-refuse-answer : (own : List Row) (n : ℕ) → Numbers own → told w ≡ first_of own → (w.answer ≡ 0 → length (touched (length mem) w.stored) ≡ n)
      → refusal_of (rules.commit_or_refuse m mem j byte w) ≡ first_of (own ++ (row 12 (full n m j) ∷ []))
  unfolding pairs
  commit-or-refuse-answer own n h e same = commit-or-refuse_first ∙ counted ∙ ap last e ∙ then_first own (row 12 (full n m j) ∷ []) h
    where
      last : Refusal → Refusal
      last t = if_eq t.0 0 (first_of (row 12 (full n m j) ∷ [])) t

      counted : if_eq w.answer 0 (first_of (row 12 (full pairs m j) ∷ [])) (told w) ≡ last (told w)
      counted =
          cases_eq w.answer 0
          (λ z. rw (same z))
          (λ z. rw (no_eq z, no_eq z))

-- ---- the five calls that work on registers and memory

-- no refusal yet
abbrev Free : Work → Type 0
Free w = told w ≡ (0, 0, 0)

tick_free : (r : List ℕ) → Free (links.tick (begin r))
unfolding links.tick links.tick_clocks links.tick_prescaler links.tick_slice put
tick_free r =
    on_eq Free _ _ refl (on_lt Free _ _ (on_eq Free _ _ (on_le Free _ _ refl refl) (on_eq Free _ _ (on_le Free _ _ refl refl) (on_le Free _ _ refl refl))) (on_le Free _ _ refl refl))

module _ (m : Machine) (mem j : List ℕ) where
  pub tick_exactly : refusal_of (rules.tick m mem j) ≡ first_of (tick_refusals m mem j)
  unfolding rules.tick first_of
  tick_exactly =
      checked-answer false m mem j (rules.commit_or_refuse m mem j 0 (links.tick (begin m.regs))) (row 12 (full 0 m j) ∷ [])
      (commit-or-refuse-answer m mem j 0 (links.tick (begin m.regs)) [] 0 tt (tick_free m.regs) (λ z. no_pairs _ _ (tick-stored m.regs)))

-- what a link's advance keeps
abbrev SameTold : Refusal → Work → Type 0
SameTold t w = told w ≡ t

advance-answer : (c : ℕ) (w : Work) → told (links.advance c w) ≡ told w
unfolding links.advance links.end_at_zero links.transfer_ends raise lower put
advance-answer c w = on_eq (SameTold (told w)) _ _ refl refl

-- a load or a store outside memory, and what it keeps
access-answer : (m : List ℕ) (kind a : ℕ) (r : List ℕ) → told (access m kind a (begin r)) ≡ pick (leb (length m) (index a)) (10, kind, a) (0, 0, 0)
unfolding access refuse_at
access-answer m kind a r =
    cases_lt (index a) (length m)
    (λ h. rw (yes_lt h, lt-leb (length m) (index a) h))
    (λ h. rw (no_lt h, le-leb (length m) (index a) h, yes_eq {a = 0} {b = 0} refl))

append-answer : (s : Store) (w : Work) → told (append s w) ≡ told w
unfolding append
append-answer s w = on_eq (SameTold (told w)) _ _ refl refl

refuse-answer : (n : ℕ) (r : List ℕ) → told (refuse n (begin r)) ≡ (n, 0, 0)
unfolding refuse_at
refuse-answer n r = rw (yes_eq {a = 0} {b = 0} refl)

-- take: not ready, then the byte outside
abbrev take_own : ℕ → List ℕ → List ℕ → List Row
take_own c r mem = row 8 (take_not_ready c r) ∷ row_outside kind_load (get_or r (pointer_reg c) 0) (pointer_outside c r mem) ∷ []

take_own_lem : (c : ℕ) (r mem : List ℕ) → told (links.take mem c (begin r)) ≡ first_of (take_own c r mem)
unfolding links.take links.take_byte first_of
take_own_lem c r mem =
    cases_eq (bit_and (get_or r (channel_reg c) 0) active_bit) 0
    (λ e. rw (yes_eq e, yes_eq e) (refuse-answer 8 r))
    (λ e. cases_eq (get_or r (count_reg c) 0) 0
    (λ k. rw (no_eq e, no_eq e, yes_eq k, yes_eq k) (refuse-answer 8 r))
    (λ k. rw (no_eq e, no_eq e, no_eq k, no_eq k) (advance-answer c _ ∙ access-answer mem kind_load (get_or r (pointer_reg c) 0) r)))

-- give: not ready, then the byte outside
hold_free : (c byte : ℕ) (r : List ℕ) → Free (links.hold c byte (begin r))
unfolding links.hold links.notice_held raise lower put
hold_free c byte r = on_eq Free _ _ refl refl

abbrev give_own : ℕ → List ℕ → List ℕ → List Row
give_own c r mem = row 8 (give_not_ready c r) ∷ row_outside kind_store (get_or r (pointer_reg c) 0) (pointer_outside c r mem) ∷ []

give_own_lem : (c byte : ℕ) (r mem : List ℕ) → told (links.give mem c byte (begin r)) ≡ first_of (give_own c r mem)
unfolding links.give links.receive store_byte first_of
give_own_lem c byte r mem =
    cases_eq (bit_and (get_or r (channel_reg c) 0) active_bit) 0
    (λ e. rw (yes_eq e, yes_eq e) (held e))
    (λ e. cases_eq (get_or r (count_reg c) 0) 0
    (λ k. rw (no_eq e, no_eq e, yes_eq k, yes_eq k) (held e))
    (λ k. rw (no_eq e, no_eq e, no_eq k, no_eq k) (advance-answer c _ ∙ append-answer _ _ ∙ access-answer mem kind_store (get_or r (pointer_reg c) 0) r)))
  where
    held : {X : Type 0} → X → told (if_set held_bit (get_or r (channel_reg c) 0) (refuse 8 (begin r)) (links.hold c byte (begin r))) ≡ pick (is_held c r) (8, 0, 0) (0, 0, 0)
    held x =
        cases_eq (bit_and (get_or r (channel_reg c) 0) held_bit) 0
        (λ h. rw (yes_eq h, yes_eq h) (hold_free c byte r))
        (λ h. rw (no_eq h, no_eq h) (refuse-answer 8 r))

-- event: not ready
event_own : (r : List ℕ) → told (links.event (begin r)) ≡ first_of (row 8 (give_not_ready event_channel r) ∷ [])
unfolding links.event links.event_meets links.event_holds links.notice_held links.transfer_ends raise lower put first_of
event_own r =
    cases_eq (bit_and (get_or r (channel_reg event_channel) 0) active_bit) 0
    (λ e. rw (yes_eq e, yes_eq e) held)
    (λ e. cases_eq (get_or r (count_reg event_channel) 0) 0
    (λ k. rw (no_eq e, no_eq e, yes_eq k, yes_eq k) held)
    (λ k. rw (no_eq e, no_eq e, no_eq k, no_eq k)))
  where
    held : told (if_set held_bit (get_or r (channel_reg event_channel) 0) (refuse 8 (begin r)) (links.event_holds (begin r))) ≡ pick (is_held event_channel r) (8, 0, 0) (0, 0, 0)
    held =
        cases_eq (bit_and (get_or r (channel_reg event_channel) 0) held_bit) 0
        (λ h. rw (yes_eq h, yes_eq h) (on_eq Free _ _ refl refl))
        (λ h. rw (no_eq h, no_eq h) (refuse-answer 8 r))

-- a number without an access
abbrev plain : ℕ → Refusal
plain n = (n, 0, 0)

-- the last record counts only where there is one, so that 4 is one row
undo_rows : (bad long stray : Bool) (depth : ℕ)
    → pick bad (plain 4) (pick (eqb depth 0) (plain 5) (pick long (plain 4) (pick stray (plain 4) (plain 0)))) ≡ pick (bad || (ltb 0 depth && (long || stray))) (plain 4) (pick (eqb depth 0) (plain 5) (plain 0))
undo_rows bad long stray depth =
    cases_eq depth 0
    (λ e. rw (eq-eqb depth 0 e, le-ltb 0 depth (omega (arith, e))) (none bad))
    (λ e. rw (ne_eqb depth 0 e, lt-ltb 0 depth (omega (arith, e))) (some bad long))
  where
    none : (b : Bool) → pick b (plain 4) (plain 5) ≡ pick (b || false) (plain 4) (plain 5)
    none true = refl
    none false = refl

    some : (b l : Bool) → pick b (plain 4) (pick l (plain 4) (pick stray (plain 4) (plain 0))) ≡ pick (b || (l || stray)) (plain 4) (plain 0)
    some true l = refl
    some false true = refl
    some false false = refl

-- where a give is not refused, the byte of a moving link is inside memory
give-inside : (c : ℕ) (r mem : List ℕ) → (first_of (give_own c r mem)).0 ≡ 0 → is_moving c r ≡ true → index (get_or r (pointer_reg c) 0) < length mem
unfolding first_of
give-inside c r mem z moving =
    cases_lt (index (get_or r (pointer_reg c) 0)) (length mem) (λ b. b)
    (λ b. absurd (omega (arith, rw (moving, le-leb (length mem) (index (get_or r (pointer_reg c) 0)) b) at z)))

module _ (m : Machine) (mem j : List ℕ) where
  pub take_exactly : (c : ℕ) → refusal_of (rules.take c m mem j) ≡ first_of (take_refusals c m mem j)
  unfolding rules.take
  take_exactly c =
      checked-answer (rules.not_output c) m mem j _ _
      (commit-or-refuse-answer m mem j _ (links.take mem c (begin m.regs)) (take_own c m.regs mem) 0
      (λ t. omega arith, (λ t. omega arith, tt)) (take_own_lem c m.regs mem) (λ z. no_pairs _ _ (take-stored mem c m.regs)))

  pub give_exactly : (c byte : ℕ) → refusal_of (rules.give c byte m mem j) ≡ first_of (give_refusals c m mem j)
  unfolding rules.give
  give_exactly c byte =
      checked-answer (rules.not_input c) m mem j _ _
      (commit-or-refuse-answer m mem j _ (links.give mem c byte (begin m.regs)) (give_own c m.regs mem) (give_pairs c m.regs)
      (λ t. omega arith, (λ t. omega arith, tt)) (give_own_lem c byte m.regs mem)
      (λ z. give_pairs_lem mem c byte m.regs (give-inside c m.regs mem (ap (λ (t : Refusal). t.0) (sym (give_own_lem c byte m.regs mem)) ∙ z))))

  pub event_exactly : refusal_of (rules.event m mem j) ≡ first_of (event_refusals m mem j)
  unfolding rules.event first_of
  event_exactly =
      checked-answer false m mem j (rules.commit_or_refuse m mem j 0 (links.event (begin m.regs)))
      (row 8 (give_not_ready event_channel m.regs) ∷ row 12 (full 0 m j) ∷ [])
      (commit-or-refuse-answer m mem j 0 (links.event (begin m.regs)) (row 8 (give_not_ready event_channel m.regs) ∷ []) 0 (λ t. omega arith, tt) (event_own m.regs) (λ z. no_pairs _ _ (event-stored m.regs)))

  -- ---- undo, clear, fresh

  pub undo_exactly : refusal_of (rules.undo m mem j) ≡ first_of (undo_refusals m mem j)
  unfolding rules.undo rules.checked rules.undo_last rules.undone if_eq if_lt first_of
  undo_exactly =
      simp refusal_of_lem
      (ap (λ (t : Refusal). pick (rules.size_bad mem j) (plain 1) t) (undo_rows (bad_journal m j) (last_too_long m j) (pair_outside m mem j) m.depth))

  pub clear_exactly : refusal_of (rules.clear m mem j) ≡ first_of (clear_refusals m mem j)
  unfolding rules.clear first_of
  clear_exactly = simp refusal_of_lem

  pub fresh_exactly : (code : List ℕ) → refusal_of (rules.fresh code mem j) ≡ first_of (fresh_refusals code mem j)
  unfolding rules.fresh first_of
  fresh_exactly code = simp refusal_of_lem

-- ---- step

-- idle, and neither (a) nor (b) applies
none_picked : (a b c : Bool) → (a || b || c) ≡ false → (x y z w : Work) → pick a x (pick b y (pick c z w)) ≡ w
none_picked true b c h x y z w = never (sym h)
none_picked false true c h x y z w = never (sym h)
none_picked false false true h x y z w = never (sym h)
none_picked false false false h x y z w = refl

not-true : (b : Bool) → not b ≡ true → b ≡ false
not-true true h = never h
not-true false h = refl

halt-answer : (st : ℕ) (w : Work) → told (steps.halt_on_error st w) ≡ told w
unfolding steps.halt_on_error steps.halt_if_asked raise put
halt-answer st w = on_eq (SameTold (told w)) _ _ (on_eq (SameTold (told w)) _ _ refl (on_eq (SameTold (told w)) _ _ refl refl)) refl

-- a step's own refusals with their conditions, before 12
abbrev pub step_own : List ℕ → List ℕ → List Row
step_own r mem = row 6 (is_halted r) ∷ row 7 (is_idle r) ∷ own_rows r mem (step_outside r mem)

module _ (r mem : List ℕ) where
  idle-answer : (bit_and (get_or r flags_reg 0) idle_flag ≡ 0 → ⊥) → told (steps.instruction_unless_idle mem (begin r)) ≡ (7, 0, 0)
  unfolding steps.instruction_unless_idle
  idle-answer i = rw (no_eq i) (refuse-answer 7 r)

  unasked-answer : asked r ≡ false → steps.channels_first mem (begin r) ≡ steps.instruction_unless_idle mem (begin r)
  unfolding steps.channels_first steps.timers_first if_lt
  unasked-answer h = none_picked (ltb (requested (begin r)) link_chans) (timer_ready 0 (begin r)) (timer_ready 1 (begin r)) h _ _ _ _

  idle_own : is_idle r ≡ true → told (steps.choose mem (begin r)) ≡ (7, 0, 0)
  unfolding is_idle steps.choose
  idle_own h =
      cases_eq (bit_and (get_or r flags_reg 0) idle_flag) 0
      (λ i. never (rw (yes_eq i) at h))
      (λ i. cases_eq (get_or r oreg 0) 0
      (λ o. rw (yes_eq o, unasked-answer (not-true (asked r) (rw (no_eq i, yes_eq o) at h))) (idle-answer i))
      (λ o. rw (no_eq o) (idle-answer i)))

  -- where it is not halted, the first access outside memory is that of choose
  not-halted : length r ≡ registers → bit_and (get_or r flags_reg 0) halted_flag ≡ 0 → step_outside r mem ≡ told_outside (told (steps.choose mem (begin r)))
  unfolding steps.step
  not-halted k h =
      first-outside mem r k ∙ ap told_outside (rw (yes_eq h) (halt-answer (get_or r status_reg 0) (steps.choose mem (begin r))))

  -- where it is halted, there is none
  is-halted : length r ≡ registers → (bit_and (get_or r flags_reg 0) halted_flag ≡ 0 → ⊥) → step_outside r mem ≡ (0, 0)
  unfolding steps.step
  is-halted k h =
      first-outside mem r k ∙ ap told_outside (rw (no_eq h) (refuse-answer 6 r)) ∙ no_eq {a = 6} {b = outside} (λ e. omega (arith, e)) (0, 0) (0, 0)

  -- and where the answer of choose is not 10, there is none
  pub none-outside : length r ≡ registers → ((steps.choose mem (begin r)).answer ≡ outside → ⊥) → step_outside r mem ≡ (0, 0)
  none-outside k n =
      cases_eq (bit_and (get_or r flags_reg 0) halted_flag) 0
      (λ h. not-halted k h ∙ no_eq n ((steps.choose mem (begin r)).kind, (steps.choose mem (begin r)).address) (0, 0))
      (λ h. is-halted k h)

  pub step_own_lem : length r ≡ registers → told (steps.step mem (begin r)) ≡ first_of (step_own r mem)
  unfolding steps.step first_of
  step_own_lem k =
      cases_eq (bit_and (get_or r flags_reg 0) halted_flag) 0
      (λ h. rw (yes_eq h, yes_eq h, halt-answer (get_or r status_reg 0) (steps.choose mem (begin r)))
      (by_bool (is_idle r) (λ i. rw i (idle_own i)) (λ i. rw (i, not-halted k h) (sym (own_first r mem k i)))))
      (λ h. rw (no_eq h, no_eq h) (refuse-answer 6 r))

-- of a machine of 45 registers
pub step_exactly : (m : Machine) (mem j : List ℕ) → length m.regs ≡ registers → refusal_of (rules.step m mem j) ≡ first_of (step_refusals m mem j)
unfolding rules.step first_of
step_exactly m mem j h =
    checked-answer false m mem j (rules.commit_or_refuse m mem j 0 (steps.step mem (begin m.regs))) (step_own m.regs mem ++ (row 12 (full (step_pairs m.regs mem) m j) ∷ []))
    (commit-or-refuse-answer m mem j 0 (steps.step mem (begin m.regs)) (step_own m.regs mem) (step_pairs m.regs mem)
    (λ t. omega arith, (λ t. omega arith, (λ t. omega arith, (λ t. omega arith, (λ t. omega arith, (λ t. omega arith, (λ t. omega arith, tt)))))))
    (step_own_lem m.regs mem h) (λ z. refl))

-- ---- a step that 1, 4, 6 and 7 do not refuse, by the conditions that follow

-- the refusal by 9, 10a, 10b, 10c, 11 and 12; i is Iptr, a the address of the first access outside memory
abbrev pub later_refusal : (u f l s p q : Bool) (i a : ℕ) → Refusal
later_refusal u f l s p q i a =
    pick u (9, 0, 0)
    (pick f (outside, kind_fetch, i) (pick l (outside, kind_load, a) (pick s (outside, kind_store, a) (pick p (11, 0, 0) (pick q (12, 0, 0) (0, 0, 0))))))

pub step-later : (m : Machine) (mem j : List ℕ) → length m.regs ≡ registers → rules.size_bad mem j ≡ false → bad_journal m j ≡ false
    → is_halted m.regs ≡ false → is_idle m.regs ≡ false
    → refusal_of (rules.step m mem j)
    ≡ later_refusal (is_unlisted m.regs mem) (fetch_outside m.regs mem) (eqb (step_outside m.regs mem).0 kind_load) (eqb (step_outside m.regs mem).0 kind_store) (stops m.regs mem) (full (step_pairs m.regs mem) m j) (get_or m.regs iptr_reg 0) (step_outside m.regs mem).1
unfolding first_of
step-later m mem j h sized framed runs busy = step_exactly m mem j h ∙ rw (sized, framed, runs, busy)
