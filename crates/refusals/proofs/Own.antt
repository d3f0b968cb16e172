-- The answer of a step that is neither halted nor idle is 0, 9, 10 or 11; it is 9 exactly where the byte was fetched and makes an operation outside
-- the built list, 10a exactly where (c) applies and Iptr is outside memory, and 11 exactly where the step Stops at one of the places of DECISIONS 26.
use mathlib.Core.Path.{◌≡◌, refl, sym, subst, ◌∙◌}
use mathlib.Core.Logic.{◌⊎◌, inl, inr, ⊎_elim}
use mathlib.Core.Bool.{Bool, true, false, ◌&&◌, not}
use mathlib.Core.List.{List, [], ◌∷◌}
use Prim.Native.Nat.{ℕ, ◌/◌, ◌^◌, ◌≤◌, ◌<◌}
use native.Mathlib.Omega.{arith}
use borrow.Author.Tests.{lt-ltb, le-ltb, lt-leb, le-leb, eq-eqb, ne_eqb}
use lib.Dec.{ltb, eqb}
use lib.Bits.{bit_and}
use lib.ListN.{length, get_or, set, length-set}
use lib.Seq.{get_or-set_same}
use Rattle.rules.specs.Tests.{pick, if_lt, if_eq}
use Rattle.rules.specs.Words.{index, at_byte}
use Rattle.rules.specs.Registers.{registers, iptr_reg, oreg, flags_reg, idle_flag, link_chans}
use Rattle.rules.specs.Work.{Access, Work, begin, reg, put, refuse_at, refuse, byte_at, kind_fetch, kind_load, kind_store, outside, stop, unlisted}
use Rattle.rules.specs.Scheduling.{act_on_snp}
use Rattle.rules.specs.Timers.{timer_ready, handle_timer_request}
use Rattle.rules.specs.Channels.{requested, handle_channel_request}
use Rattle.rules.specs.Operations.{operations, operate, function}
use Rattle.rules.specs.Step.{fetched, execute, decode, instruction, instruction_unless_idle, timers_first, channels_first, choose}
use Rattle.rules.proofs.Tests.{yes, yes_eq, no_eq, by_bool, cases_eq, cases_lt}
use Rattle.laws.specs.Lists.{listed}
use Rattle.laws.specs.Alike.{Ordinary}
use Rattle.laws.specs.Answers.{Proper, Known}
use Rattle.laws.specs.Listed.{told_outside, told}
use Rattle.laws.proofs.Fine.{Fine, Turns, accessing_turns, turns-known, fine-begin, fine-put, fine-put_core}
use Rattle.laws.proofs.Lawful.{kept}
use Rattle.laws.proofs.LawfulScheduling.{lawful-act_on_snp}
use Rattle.laws.proofs.LawfulTimers.{lawful-handle_timer_request}
use Rattle.laws.proofs.LawfulChannels.{lawful-handle_channel_request}
use Rattle.laws.proofs.LawfulStep.{fetch-refused, lawful-fetched, lawful-decode, lawful-instruction, lawful-choose}
use Rattle.laws.proofs.LawfulOperations.{lawful-operate, lawful_direct, operate-unlisted, function-opr}
use Rattle.laws.proofs.Calm.{never, Answer, Not, not_turns, not_fine, any_fine, same_number, same_stop, Tells, inside-same}
use Rattle.laws.proofs.Stops.{Begun, request-stops, timer-stops, operate-stops}
use Rattle.laws.proofs.Start.{place-fetched}
use Rattle.refusals.specs.Conditions.{Refusal, Row, row, row_outside, first_of, fetches, fetch_outside, is_idle, is_built, next_byte, operates, next_code, is_unlisted, operation_stops, service_stops, stops}
use Rattle.refusals.proofs.Built.{built-listed}

module _ (r mem : List ℕ) where
  -- what a step does where it is not idle: a request or a timer is served, or an instruction is fetched
  pub by_choice : (Q : Work → Type 0) → is_idle r ≡ false
      → (fetches r ≡ false → ltb (requested (begin r)) link_chans ≡ true → Q (act_on_snp mem (handle_channel_request mem (requested (begin r)) (begin r))))
      → (fetches r ≡ false → ltb (requested (begin r)) link_chans ≡ false → timer_ready 0 (begin r) ≡ true → Q (act_on_snp mem (handle_timer_request mem 0 (begin r))))
      → (fetches r ≡ false → ltb (requested (begin r)) link_chans ≡ false → timer_ready 0 (begin r) ≡ false → Q (act_on_snp mem (handle_timer_request mem 1 (begin r))))
      → (fetches r ≡ true → Q (instruction mem (begin r)))
      → Q (choose mem (begin r))
  unfolding choose channels_first timers_first instruction_unless_idle is_idle if_lt
  by_choice Q i channel timer₀ timer₁ next =
      cases_eq (get_or r oreg 0) 0
      (λ o. rw (yes_eq o) (go o (ltb (requested (begin r)) link_chans) (timer_ready 0 (begin r)) (timer_ready 1 (begin r)) refl refl refl))
      (λ o. rw (no_eq o) (awake (rw (no_eq o))))
    where
      last : Work
      last = if_eq (bit_and (get_or r flags_reg 0) idle_flag) 0 (instruction mem (begin r)) (refuse 7 (begin r))

      awake : fetches r ≡ true → Q last
      awake f =
          cases_eq (bit_and (get_or r flags_reg 0) idle_flag) 0
          (λ e. rw (yes_eq e) (next f))
          (λ e. never (sym (rw (no_eq e) at i) ∙ f))

      go : get_or r oreg 0 ≡ 0 → (a b c : Bool) → ltb (requested (begin r)) link_chans ≡ a → timer_ready 0 (begin r) ≡ b → timer_ready 1 (begin r) ≡ c
          → Q (pick a (act_on_snp mem (handle_channel_request mem (requested (begin r)) (begin r)))
          (pick b (act_on_snp mem (handle_timer_request mem 0 (begin r))) (pick c (act_on_snp mem (handle_timer_request mem 1 (begin r))) last)))
      go o true b c p q s = channel (rw (yes_eq o, p)) p
      go o false true c p q s = timer₀ (rw (yes_eq o, p, q)) p q
      go o false false true p q s = timer₁ (rw (yes_eq o, p, q, s)) p q
      go o false false false p q s = awake (rw (yes_eq o, p, q, s))

  -- a step's refusals, where it is neither halted nor idle; o is the first of its accesses that is outside memory
  abbrev pub own_rows : Access → List Row
  own_rows o =
      row 9 (is_unlisted r mem)
      ∷ row_outside kind_fetch (get_or r iptr_reg 0) (fetch_outside r mem)
      ∷ row_outside kind_load o.1 (eqb o.0 kind_load)
      ∷ row_outside kind_store o.1 (eqb o.0 kind_store)
      ∷ row 11 (stops r mem)
      ∷ []

-- ---- the numbers

abbrev Mine : ℕ → Type 0
Mine n = (n ≡ 0) ⊎ ((9 ≤ n) × (n ≤ 11))

module _ (r mem : List ℕ) (h : length r ≡ registers) where
  pub own-known : is_idle r ≡ false → Mine (choose mem (begin r)).answer
  own-known i =
      by_choice r mem (λ w. Mine w.answer) i
      (λ f a. (kept lawful-act_on_snp mem (kept (lawful-handle_channel_request stopped _) mem fine)).known)
      (λ f a b. (kept lawful-act_on_snp mem (kept (lawful-handle_timer_request stopped 0) mem fine)).known)
      (λ f a b. (kept lawful-act_on_snp mem (kept (lawful-handle_timer_request stopped 1) mem fine)).known)
      (λ f. (kept (lawful-instruction (turns 10 (omega arith) (omega arith)) stopped (turns 9 (omega arith) (omega arith))) mem fine).known)
    where
      turns : (n : ℕ) → 9 ≤ n → n ≤ 11 → Turns (Answer Mine) n
      turns n small large k a z kind address p = inr (small, large)

      stopped : Turns (Answer Mine) 11
      stopped = turns 11 (omega arith) (omega arith)

      fine : Fine (Answer Mine) (begin r)
      fine = record { ordinary = (h, refl); known = inl refl; ten = accessing_turns (Answer Mine) (turns 10 (omega arith) (omega arith)) }

  -- ---- the fetch

  abbrev after_fetch : Work
  after_fetch = fetched (next_byte r mem) (begin r)

  fetch-ordinary : Ordinary after_fetch
  fetch-ordinary = (kept (lawful-fetched _) mem (any_fine (begin r) (h, refl))).ordinary

  fetch-answer : after_fetch.answer ≡ 0
  unfolding fetched put
  fetch-answer = refl

  operand : reg oreg (after_fetch) ≡ next_code r mem
  unfolding fetched put
  operand =
      get_or-set_same (set r iptr_reg (at_byte (get_or r iptr_reg 0) 1)) oreg (next_code r mem) 0
      (omega (arith, h, length-set r iptr_reg (at_byte (get_or r iptr_reg 0) 1)))

  small : next_byte r mem / 2 ^ 4 < 16
  unfolding byte_at
  small = omega arith

  -- ---- a number that an instruction can answer only by an operation: 9, or 11

  module _ (n : ℕ) (some : 0 ≡ n → ⊥) (other : outside ≡ n → ⊥) (t : Bool) (told : t ≡ eqb (operate (next_code r mem) mem (after_fetch)).answer n)
      (f : fetches r ≡ true) where
    Told : Work → Type 0
    Told w = (operates r mem && t) ≡ eqb w.answer n

    told-not : (a : ℕ) → operates r mem ≡ false → (a ≡ n → ⊥) → (operates r mem && t) ≡ eqb a n
    told-not a o q = rw o (sym (ne_eqb a n q))

    plain : Fine (Answer (Not n)) (after_fetch)
    plain = not_fine n _ fetch-ordinary other (λ q. some (sym fetch-answer ∙ q))

    told-inside : index (get_or r iptr_reg 0) < length mem → Told (decode mem (next_byte r mem / 2 ^ 4) (after_fetch))
    unfolding decode execute Told
    told-inside b =
        cases_eq (next_byte r mem / 2 ^ 4) 0x2
        (λ e. rw (yes_eq e) (told-not _ (not-opr (λ q. omega (arith, e, q))) (fine-put_core _ plain).known))
        (λ n₂. cases_eq (next_byte r mem / 2 ^ 4) 0x6
        (λ e. rw (no_eq n₂, yes_eq e) (told-not _ (not-opr (λ q. omega (arith, e, q))) (fine-put_core _ plain).known))
        (λ n₆. rw (no_eq n₂, no_eq n₆)
        (cases_eq (next_byte r mem / 2 ^ 4) 0xF
        (λ e. subst (λ (c : ℕ). Told (act_on_snp mem (put oreg 0 (function c mem (after_fetch))))) (sym e) (rw (function-opr mem (after_fetch), operand) (is-opr e)))
        (λ n₁₅. told-not _ (not-opr n₁₅) (kept lawful-act_on_snp mem (fine-put oreg 0 (kept (lawful_direct (next_byte r mem / 2 ^ 4) small n₂ n₆ n₁₅) mem plain))).known))))
      where
        not-opr : (next_byte r mem / 2 ^ 4 ≡ 0xF → ⊥) → operates r mem ≡ false
        not-opr q = rw (f, lt-ltb (index (get_or r iptr_reg 0)) (length mem) b, ne_eqb (next_byte r mem / 2 ^ 4) 0xF q)

        is-opr : next_byte r mem / 2 ^ 4 ≡ 0xF → Told (act_on_snp mem (put oreg 0 (operate (next_code r mem) mem (after_fetch))))
        is-opr e =
            rw (f, lt-ltb (index (get_or r iptr_reg 0)) (length mem) b, eq-eqb (next_byte r mem / 2 ^ 4) 0xF e)
            (told
            ∙ same_number n some other (operate (next_code r mem) mem (after_fetch)) _
            (kept (lawful-operate (next_code r mem) (λ c k a z kind address p. tt) (λ l k a z kind address p. tt)) mem (any_fine _ fetch-ordinary)).ordinary
            (λ P t f. kept lawful-act_on_snp mem (fine-put oreg 0 f)))

    told-instruction : Told (instruction mem (begin r))
    unfolding instruction Told
    told-instruction =
        cases_lt (index (get_or r iptr_reg 0)) (length mem)
        (λ b. rw (inside-same mem kind_fetch (get_or r iptr_reg 0) (begin r) refl b) (told-inside b))
        (λ b. told-not (instruction mem (begin r)).answer (rw (f, le-ltb (index (get_or r iptr_reg 0)) (length mem) b)) (λ q. other (sym (fetch-refused r mem h b).known.0 ∙ q)))

  -- ---- 9

  -- an operation is refused with 9 exactly where it is outside the built list
  operate_nine : not (is_built (next_code r mem)) ≡ eqb (operate (next_code r mem) mem (after_fetch)).answer 9
  unfolding refuse_at
  operate_nine =
      by_bool (listed (next_code r mem) operations)
      (λ l. rw (built-listed (next_code r mem), l)
      (sym (ne_eqb _ 9 (kept (lawful-operate (next_code r mem) (λ c. not_turns 9 11 (λ q. omega (arith, q))) (λ z. never (sym z ∙ l))) mem plain).known)))
      (λ l. rw (built-listed (next_code r mem), l, operate-unlisted (next_code r mem) mem (after_fetch) l, yes_eq fetch-answer) refl)
    where
      plain : Fine (Answer (Not 9)) (after_fetch)
      plain = not_fine 9 _ fetch-ordinary (λ q. omega (arith, q)) (λ q. omega (arith, q, fetch-answer))

  begun : Begun (begin r)
  begun = record { ordinary = (h, refl); none = refl }

  fetch_begun : Begun (after_fetch)
  fetch_begun = record { ordinary = fetch-ordinary; none = fetch-answer }

  -- what is served is not refused with 9
  served_nine : fetches r ≡ false → (w : Work) → ((P : ℕ → ℕ → ℕ → Type 0) → Turns P stop → Fine P (begin r) → Fine P w) → is_unlisted r mem ≡ eqb w.answer 9
  unfolding is_unlisted
  served_nine f w keep =
      rw f
      (sym (ne_eqb w.answer 9 (keep (Answer (Not 9)) (not_turns 9 stop (λ q. omega (arith, q))) (not_fine 9 (begin r) (h, refl) (λ q. omega (arith, q)) (λ q. omega (arith, q)))).known))

  pub own_nine : is_idle r ≡ false → is_unlisted r mem ≡ eqb (choose mem (begin r)).answer 9
  unfolding is_unlisted Told
  own_nine i =
      by_choice r mem (λ w. is_unlisted r mem ≡ eqb w.answer 9) i
      (λ f a. served_nine f _ (λ P s g. kept lawful-act_on_snp mem (kept (lawful-handle_channel_request s (requested (begin r))) mem g)))
      (λ f a b. served_nine f _ (λ P s g. kept lawful-act_on_snp mem (kept (lawful-handle_timer_request s 0) mem g)))
      (λ f a b. served_nine f _ (λ P s g. kept lawful-act_on_snp mem (kept (lawful-handle_timer_request s 1) mem g)))
      (λ f. told-instruction 9 (λ q. omega (arith, q)) (λ q. omega (arith, q)) _ operate_nine f)

  -- ---- 11

  pub own_eleven : is_idle r ≡ false → Tells (stops r mem) (choose mem (begin r))
  unfolding stops operation_stops service_stops Told if_lt
  own_eleven i =
      by_choice r mem (λ w. Tells (stops r mem) w) i
      (λ f a. rw (f, a) (request-stops mem (requested (begin r)) begun ∙ after _ (kept (lawful-handle_channel_request (λ k a z kind address p. tt) _) mem (any_fine (begin r) (h, refl))).ordinary))
      (λ f a b. rw (f, a, b) (timer-stops mem 0 begun ∙ after _ (kept (lawful-handle_timer_request (λ k a z kind address p. tt) 0) mem (any_fine (begin r) (h, refl))).ordinary))
      (λ f a b. rw (f, a, b) (timer-stops mem 1 begun ∙ after _ (kept (lawful-handle_timer_request (λ k a z kind address p. tt) 1) mem (any_fine (begin r) (h, refl))).ordinary))
      (λ f. yes f _ _ ∙ told-instruction 11 (λ q. omega (arith, q)) (λ q. omega (arith, q)) _ (sym (place-fetched (next_code r mem) (next_byte r mem) mem (begin r)) ∙ operate-stops (next_code r mem) mem fetch_begun) f)
    where
      after : (w : Work) → Ordinary w → eqb w.answer stop ≡ eqb (act_on_snp mem w).answer stop
      after w k = same_stop w (act_on_snp mem w) k (λ P t f. kept lawful-act_on_snp mem f)

  -- ---- 10a

  -- no fetch was refused
  abbrev Unfetched : ℕ → ℕ → ℕ → Type 0
  Unfetched n k a = k ≡ kind_fetch → ⊥

  unfetched_turns : (n : ℕ) → (n ≡ outside → ⊥) → Turns Unfetched n
  unfetched_turns n o k a z kind address p q = omega (arith, (p.bare o).0, q)

  stopping : Turns Unfetched stop
  stopping = unfetched_turns stop (λ q. omega (arith, q))

  unfetched : (w : Work) → Ordinary w → w.kind ≡ 0 → Fine Unfetched w
  unfetched w c e = record { ordinary = c; known = λ q. omega (arith, e, q); ten = λ k a z kind address low high q. omega (arith, low, q) }

  start : Fine Unfetched (begin r)
  start = unfetched (begin r) (h, refl) refl

  -- the test of 10a tells whether a work's refusal is that of a fetch, which is then at Iptr
  abbrev FetchTold : Work → Type 0
  FetchTold w = (fetch_outside r mem ≡ eqb w.kind kind_fetch) × (w.kind ≡ kind_fetch → w.address ≡ get_or r iptr_reg 0)

  not-fetched : {w : Work} → fetch_outside r mem ≡ false → Fine Unfetched w → FetchTold w
  not-fetched {w} e f = (e ∙ sym (ne_eqb w.kind kind_fetch f.known), λ q. absurd (f.known q))

  unfetched-instruction : index (get_or r iptr_reg 0) < length mem → Fine Unfetched (instruction mem (begin r))
  unfolding instruction
  unfetched-instruction b =
      rw (inside-same mem kind_fetch (get_or r iptr_reg 0) (begin r) refl b)
      (kept (lawful-decode stopping (unfetched_turns unlisted (λ q. omega (arith, q))) _) mem (kept (lawful-fetched _) mem start))

  -- a step's refusal is that of a fetch exactly where (c) applies and Iptr is outside memory
  pub own-fetch : is_idle r ≡ false → FetchTold (choose mem (begin r))
  own-fetch i =
      by_choice r mem FetchTold i
      (λ f a. not-fetched (rw f) (kept lawful-act_on_snp mem (kept (lawful-handle_channel_request stopping _) mem start)))
      (λ f a b. not-fetched (rw f) (kept lawful-act_on_snp mem (kept (lawful-handle_timer_request stopping 0) mem start)))
      (λ f a b. not-fetched (rw f) (kept lawful-act_on_snp mem (kept (lawful-handle_timer_request stopping 1) mem start)))
      (λ f. cases_lt (index (get_or r iptr_reg 0)) (length mem)
      (λ b. not-fetched (rw (f, lt-leb (length mem) (index (get_or r iptr_reg 0)) b)) (unfetched-instruction b))
      (λ b. let q = (fetch-refused r mem h b).known in (rw (f, le-leb (length mem) (index (get_or r iptr_reg 0)) b) (sym (eq-eqb _ _ q.1)), λ z. q.2)))

  -- ---- its refusal, in the table's order

  pub own-proper : Known (choose mem (begin r)).answer (choose mem (begin r)).kind (choose mem (begin r)).address
  own-proper = (kept (lawful-choose (turns-known _ (omega arith)) (turns-known _ (omega arith)) (turns-known _ (omega arith)) (turns-known _ (omega arith))) mem (fine-begin r h)).known

  pub own_first : is_idle r ≡ false → first_of (own_rows r mem (told_outside (told (choose mem (begin r))))) ≡ told (choose mem (begin r))
  unfolding first_of
  own_first i =
      let f = own-fetch i in
      rw (own_nine i, f.0, own_eleven i)
      (go (choose mem (begin r)).answer (choose mem (begin r)).kind (choose mem (begin r)).address (own-known i) own-proper.proper f.1)
    where
      p : ℕ
      p = get_or r iptr_reg 0

      rows : ℕ → ℕ → Access → Refusal
      rows n k o =
          pick (eqb n 9) (9, 0, 0)
          (pick (eqb k kind_fetch) (outside, kind_fetch, p)
          (pick (eqb o.0 kind_load) (outside, kind_load, o.1) (pick (eqb o.0 kind_store) (outside, kind_store, o.1) (pick (eqb n 11) (11, 0, 0) (0, 0, 0)))))

      ten : (n k a : ℕ) → n ≡ 10 → (k ≡ 1 → a ≡ p) → (1 ≤ k) × (k ≤ 3) → rows n k (k, a) ≡ (n, k, a)
      ten n k a e f q =
          cases_eq k 1
          (λ g. rw (ne_eqb n 9 (λ z. omega (arith, e, z)), eq-eqb k 1 g, e, f g, g))
          (λ g₁. cases_eq k 2
          (λ g. rw (ne_eqb n 9 (λ z. omega (arith, e, z)), ne_eqb k 1 g₁, eq-eqb k 2 g, e, g))
          (λ g₂. let g : k ≡ 3 = omega (arith, q, g₁, g₂) in rw (ne_eqb n 9 (λ z. omega (arith, e, z)), ne_eqb k 1 g₁, ne_eqb k 2 g₂, eq-eqb k 3 g, e, g)))

      bare : (n : ℕ) → Mine n → (n ≡ 10 → ⊥) → rows n 0 (0, 0) ≡ (n, 0, 0)
      bare n m b =
          cases_eq n 9
          (λ e. rw (eq-eqb n 9 e, e))
          (λ a. cases_eq n 11
          (λ e. rw (ne_eqb n 9 a, eq-eqb n 11 e, e))
          (λ c. let z : n ≡ 0 = ⊎_elim (λ z. z) (λ q. absurd (omega (arith, q, a, b, c))) m in rw (ne_eqb n 9 a, ne_eqb n 11 c, z)))

      go : (n k a : ℕ) → Mine n → Proper n k a → (k ≡ 1 → a ≡ p) → rows n k (if_eq n 10 (k, a) (0, 0)) ≡ (n, k, a)
      go n k a m q f =
          cases_eq n 10
          (λ e. rw (yes_eq e) (ten n k a e f (q.parts e)))
          (λ e. let b = q.bare e in rw (no_eq e, b.0, b.1) (bare n m e))
