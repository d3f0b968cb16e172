-- A common step is the step of rules.
use mathlib.Core.Path.{◌≡◌, refl}
use mathlib.Core.Bool.{Bool, true, false, not}
use mathlib.Core.List.{List, [], ◌∷◌, ◌++◌}
use Prim.Native.Nat.{ℕ, zero, suc, ◌+◌, ◌-◌, ◌/◌, ◌^◌, ◌≤◌, ◌<◌}
use native.Mathlib.Omega.{arith}
use lib.Bits.{bit_and}
use lib.Dec.{eqb}
use Rattle.std.specs.Prelude.{Option, Some, None}
use lib.ListN.{length, get_or, drop}
use borrow.Author.Tests.{eqb-true}
use Rattle.rules.specs.Tests.{if_eq, look}
use Rattle.rules.specs.Words.{range, minus, at_word, index, selector, byte_of}
use Rattle.rules.specs.Core.{wptr_of, priority_of, goto_snp_bit, error_flag}
use Rattle.rules.specs.Stack as stack
use Rattle.rules.specs.Registers.{status_reg, flags_reg, oreg, channel_reg, link_chans, halted_flag, idle_flag, run_request, ready_request, core_of, with_core}
use Rattle.rules.specs.Memory.{Store, word, stores}
use Rattle.rules.specs.Work.{Work, untraced, begin, reg, put, put_core, word_at, byte_at, access, append, store_word, store_byte, r_index_word, r_index_byte, w_index_word}
use Rattle.rules.specs.Scheduling as scheduling
use Rattle.rules.specs.Data as loads
use Rattle.rules.specs.Timers.{timer_due, timer_ready}
use Rattle.rules.specs.Channels.{request_from, requested}
use Rattle.rules.specs.Operations as tables
use Rattle.rules.specs.Step as steps
use Rattle.rules.proofs.Tests.{yes_lt, no_lt, yes_le, no_le, yes_eq, no_eq, by_bool, cases_lt, cases_eq}
use Rattle.rules.specs.declared.Core.{Core}
use Rattle.step_pending.specs.NothingPending as pending
use Rattle.step_fast.specs.declared.Stored.TheVariants.{Nothing, Frame}
use Rattle.step_fast.specs.declared.FastStep.{FastStep}
use Rattle.core_table.specs.Selected.{register_operation}
use Rattle.core_table.proofs.Tables.{either, operate-is}
use Rattle.step_fast.specs.Fast as fast

-- ---- the registers as the seven and the rest

abbrev pub listed : Core → List ℕ → List ℕ
listed s rest = s.iptr ∷ s.wdesc ∷ s.a ∷ s.b ∷ s.c ∷ s.oreg ∷ s.status ∷ rest

seven : (r : List ℕ) → 7 ≤ length r → r ≡ listed (core_of r) (drop 7 r)
unfolding core_of
seven [] h = absurd (omega arith)
seven (a ∷ []) h = absurd (omega arith)
seven (a ∷ b ∷ []) h = absurd (omega arith)
seven (a ∷ b ∷ c ∷ []) h = absurd (omega arith)
seven (a ∷ b ∷ c ∷ d ∷ []) h = absurd (omega arith)
seven (a ∷ b ∷ c ∷ d ∷ e ∷ []) h = absurd (omega arith)
seven (a ∷ b ∷ c ∷ d ∷ e ∷ f ∷ []) h = absurd (omega arith)
seven (a ∷ b ∷ c ∷ d ∷ e ∷ f ∷ g ∷ r) h = refl

with-listed : (t s : Core) (rest : List ℕ) → with_core t (listed s rest) ≡ listed t rest
unfolding with_core
with-listed t s rest = refl

core-listed : (s : Core) (rest : List ℕ) → core_of (listed s rest) ≡ s
unfolding core_of
core-listed s rest = refl

-- the work that is left by a common step from s on, over the seven registers and the rest
abbrev pub left : List ℕ → Core → FastStep → Work
left rest s t =
    record { regs = listed t.core rest; stored = fast.stores_of (listed s rest) t; answer = 0; kind = 0; address = 0; trace = untraced }

-- that a common step, where there is one, leaves this work
unfoldable pub Leaves : List ℕ → Core → Option FastStep → Work → Type 0
Leaves rest s None w = Unit {0}
Leaves rest s (Some t) w = w ≡ left rest s t

module _ (rest : List ℕ) (s : Core) where
  declined : (w : Work) → Leaves rest s None w
  unfolding Leaves
  declined w = tt

  leaves : (t : FastStep) (w : Work) → w ≡ left rest s t → Leaves rest s (Some t) w
  unfolding Leaves
  leaves t w e = e

  left-is : (t : FastStep) (w : Work) → Leaves rest s (Some t) w → w ≡ left rest s t
  unfolding Leaves
  left-is t w e = e

-- the fetch leaves A, B and C as they were
before-fetch : (rest : List ℕ) (byte : ℕ) (s : Core) (o : Option FastStep) (w : Work) → Leaves rest (fast.fetched byte s) o w → Leaves rest s o w
unfolding Leaves
before-fetch rest byte s None w e = tt
before-fetch rest byte s (Some t) w e = e

-- ---- the end of a step where Status is as before it, with GotoSNP clear

halt-same : (st : ℕ) (w : Work) → reg status_reg w ≡ st → steps.halt_on_error st w ≡ w
unfolding steps.halt_on_error
halt-same st w e =
    cases_eq (bit_and st error_flag) 0
    (λ h. rw (yes_eq h, e, yes_eq h))
    (λ h. rw (no_eq h))

finish : (m : List ℕ) (st : ℕ) (w : Work) → reg status_reg w ≡ st → bit_and st goto_snp_bit ≡ 0 → steps.halt_on_error st (scheduling.act_on_snp m w) ≡ w
unfolding scheduling.act_on_snp
finish m st w e clear =
    let h : bit_and (reg status_reg w) goto_snp_bit ≡ 0 = rw e clear in
    rw (yes_eq h) (halt-same st w e)

never : {P : Type 0} → ◌≡◌ {A = Bool} false true → P
never e = absurd (let z : ◌≡◌ {A = ℕ} 0 1 = cc in omega arith)

-- ---- a property of each row of a table is one of what is looked up in it

abbrev All : (ℕ → (Core → Option FastStep) → Type 0) → List (ℕ × (Core → Option FastStep)) → Type 0
All P [] = Unit {0}
All P (e ∷ t) = P e.0 e.1 × All P t

looked : (P : ℕ → (Core → Option FastStep) → Type 0) (t : List (ℕ × (Core → Option FastStep))) → All P t → (k : ℕ) (d : Core → Option FastStep) → P k d → P k (look t k d)
looked P [] all k d o = o
looked P (e ∷ t) all k d o =
    by_bool (eqb k e.0) (λ h. rw (h, eqb-true k e.0 h) all.0) (λ h. rw h (looked P t all.1 k d o))

module _ (m rest : List ℕ) where
  -- an executed function, to its end
  abbrev pub Good : ℕ → Core → Option FastStep → Type 0
  Good code s o =
      bit_and s.status goto_snp_bit ≡ 0
      → Leaves rest s o (steps.halt_on_error s.status (steps.execute m code (begin (listed s rest))))

  -- a function on registers alone
  registers-left : (f : Core → Core) (s : Core) → bit_and s.status goto_snp_bit ≡ 0
      → Leaves rest s (fast.registers_only f s)
      (steps.halt_on_error s.status (scheduling.act_on_snp m (put oreg 0 (put_core (f (core_of (listed s rest))) (begin (listed s rest))))))
  unfolding fast.if_same_status put put_core core_of with_core
  registers-left f s clear =
      cases_eq (f s).status s.status
      (λ e. rw (yes_eq e) (leaves _ _ (fast.finished (f s) Nothing) _ (finish m s.status _ e clear)))
      (λ n. rw (no_eq n) (declined _ _ _))

  -- load local, load non-local
  ldl_good : (s : Core) → Good 0x7 s (fast.ldl m s)
  unfolding fast.ldl steps.execute tables.function tables.functions loads.ldl loads.pushed put r_index_word word_at access stores
  ldl_good s clear =
      cases_lt (index (at_word (wptr_of s.wdesc) s.oreg)) (length m)
      (λ h. rw (yes_lt h, yes_lt h) (leaves _ _ _ _ (finish m s.status _ refl clear)))
      (λ h. rw (no_lt h) (declined _ _ _))

  ldnl_good : (s : Core) → Good 0x3 s (fast.ldnl m s)
  unfolding fast.ldnl steps.execute tables.function tables.functions loads.ldnl put r_index_word word_at access stores
  ldnl_good s clear =
      cases_lt (index (at_word s.a s.oreg)) (length m)
      (λ h. rw (yes_lt h, yes_lt h) (leaves _ _ _ _ (finish m s.status _ refl clear)))
      (λ h. rw (no_lt h) (declined _ _ _))

  -- store local, store non-local
  stl_good : (s : Core) → Good 0xD s (fast.stl m s)
  unfolding fast.stl steps.execute tables.function tables.functions loads.stl loads.popped put w_index_word store_word access append if_eq
  stl_good s clear =
      cases_lt (index (at_word (wptr_of s.wdesc) s.oreg)) (length m)
      (λ h. rw (yes_lt h, yes_lt h) (leaves _ _ _ _ (finish m s.status _ refl clear)))
      (λ h. rw (no_lt h) (declined _ _ _))

  stnl_good : (s : Core) → Good 0xE s (fast.stnl m s)
  unfolding fast.stnl steps.execute tables.function tables.functions loads.stnl put w_index_word store_word access append if_eq
  stnl_good s clear =
      cases_lt (index (at_word s.a s.oreg)) (length m)
      (λ h. rw (yes_lt h, yes_lt h) (leaves _ _ _ _ (finish m s.status _ refl clear)))
      (λ h. rw (no_lt h) (declined _ _ _))

  -- call: the words of a frame are one after the other
  module _ (p : ℕ) (h : 3 ≤ index (at_word p (minus 1))) where
    place_4 : index (at_word p (minus 4)) ≡ index (at_word p (minus 1)) - 3
    place_4 = omega arith

    place_3 : index (at_word p (minus 3)) ≡ index (at_word p (minus 1)) - 3 + 1
    place_3 = omega arith

    place_2 : index (at_word p (minus 2)) ≡ index (at_word p (minus 1)) - 3 + 2
    place_2 = omega arith

    place_1 : index (at_word p (minus 1)) ≡ index (at_word p (minus 1)) - 3 + 3
    place_1 = omega arith

    frame_fits : index (at_word p (minus 1)) - 3 < range - 3
    frame_fits = omega arith

  -- a store inside memory is appended to work that lists no accesses
  abbrev added : Store → Work → Work
  added x w = record { regs = w.regs; stored = w.stored ++ (x ∷ []); answer = w.answer; kind = w.kind; address = w.address; trace = untraced }

  store_added : (base n v i : ℕ) (w : Work) → index (at_word base n) ≡ i → i < length m → w.answer ≡ 0 → w.trace ≡ untraced
      → w_index_word m base n v w ≡ added (word i v) w
  unfolding w_index_word store_word access append
  store_added base n v i w e h z t = rw (e, yes_lt h, yes_eq z, t)

  frame_added : (s : Core) (i : ℕ)
      → index (at_word (wptr_of s.wdesc) (minus 1)) ≡ i + 3
      → index (at_word (wptr_of s.wdesc) (minus 2)) ≡ i + 2
      → index (at_word (wptr_of s.wdesc) (minus 3)) ≡ i + 1
      → index (at_word (wptr_of s.wdesc) (minus 4)) ≡ i
      → i + 3 < length m
      → loads.call_frame m (begin (listed s rest))
      ≡ record { regs = listed s rest; stored = fast.frame i s.iptr s.a s.b s.c; answer = 0; kind = 0; address = 0; trace = untraced }
  unfolding loads.call_frame
  frame_added s i e₁ e₂ e₃ e₄ h =
      let p = wptr_of s.wdesc in
      let w = begin (listed s rest) in
      let w₁ = added (word (i + 3) s.c) w in
      let w₂ = added (word (i + 2) s.b) w₁ in
      let w₃ = added (word (i + 1) s.a) w₂ in
      rw (
        store_added p (minus 1) s.c (i + 3) w e₁ h refl refl,
        store_added p (minus 2) s.b (i + 2) w₁ e₂ (omega arith) refl refl,
        store_added p (minus 3) s.a (i + 1) w₂ e₃ (omega arith) refl refl,
        store_added p (minus 4) s.iptr i w₃ e₄ (omega arith) refl refl,
      )

  called : (s : Core) (i : ℕ) → i < range - 3 → bit_and s.status goto_snp_bit ≡ 0
      → loads.call_frame m (begin (listed s rest))
      ≡ record { regs = listed s rest; stored = fast.frame i s.iptr s.a s.b s.c; answer = 0; kind = 0; address = 0; trace = untraced }
      → steps.halt_on_error s.status (steps.execute m 0x9 (begin (listed s rest))) ≡ left rest s (fast.finished (fast.entered s) (Frame i s.iptr))
  unfolding steps.execute tables.function tables.functions fast.entered loads.call loads.entered loads.jump_by loads.adjusted put
  called s i f clear e = rw (e, yes_lt f) (finish m s.status _ refl clear)

  call_good : (s : Core) → Good 0x9 s (fast.call m s)
  unfolding fast.call
  call_good s clear =
      let p = wptr_of s.wdesc in
      cases_lt (fast.top s) 3
      (λ l. rw (no_le l) (declined _ _ _))
      (λ l. cases_lt (fast.top s) (length m)
      (λ h. rw (yes_le l, yes_lt h) (leaves _ _ _ _ (called s (fast.top s - 3) (frame_fits p l) clear (frame_added s (fast.top s - 3) (place_1 p l) (place_2 p l) (place_3 p l) (place_4 p l) (omega arith)))))
      (λ h. rw (yes_le l, no_lt h) (declined _ _ _)))

  -- jump
  j_good : (s₀ s : Core) → Good 0x0 s (fast.j (listed s₀ rest) s)
  unfolding fast.j pending.slice_ends steps.execute tables.function tables.functions scheduling.j scheduling.time_slice scheduling.slice_if_running scheduling.slice_if_long put
  j_good s₀ s clear =
      cases_eq (priority_of s.wdesc) 0
      (λ h. rw (yes_eq h, yes_eq h) (leaves _ _ _ _ (finish m s.status _ refl clear)))
      (λ p. cases_eq (bit_and (get_or rest 10 0) stack.clocks_run) 0
      (λ h. rw (no_eq p, no_eq p, yes_eq h, yes_eq h) (leaves _ _ _ _ (finish m s.status _ refl clear)))
      (λ k. cases_lt (get_or rest 9 0) scheduling.slice_length
      (λ h. rw (no_eq p, no_eq p, no_eq k, no_eq k, no_le h, no_le h) (leaves _ _ _ _ (finish m s.status _ refl clear)))
      (λ h. rw (no_eq p, no_eq k, yes_le h) (declined _ _ _))))

  -- ---- operations

  -- an operation that accesses memory
  abbrev Accessed : ℕ → (Core → Option FastStep) → Type 0
  Accessed k f = (s : Core) → bit_and s.status goto_snp_bit ≡ 0
      → Leaves rest s (f s) (steps.halt_on_error s.status (scheduling.act_on_snp m (put oreg 0 (look tables.other_operations k tables.unlisted_action m (begin (listed s rest))))))

  lb_good : Accessed 0x01 (fast.lb m)
  unfolding fast.lb tables.other_operations loads.lb put r_index_byte byte_at word_at access stores
  lb_good s clear =
      cases_lt (index s.a) (length m)
      (λ h. rw (yes_lt h, yes_lt h) (leaves _ _ _ _ (finish m s.status _ refl clear)))
      (λ h. rw (no_lt h) (declined _ _ _))

  ret_good : Accessed 0x20 (fast.ret m)
  unfolding fast.ret tables.other_operations loads.ret loads.adjusted put r_index_word word_at access stores
  ret_good s clear =
      cases_lt (index (at_word (wptr_of s.wdesc) 0)) (length m)
      (λ h. rw (yes_lt h, yes_lt h) (leaves _ _ _ _ (finish m s.status _ refl clear)))
      (λ h. rw (no_lt h) (declined _ _ _))

  sb_good : Accessed 0x3B (fast.sb m)
  unfolding fast.sb tables.other_operations loads.sb put store_byte word_at access append stores if_eq
  sb_good s clear =
      cases_lt (index s.a) (length m)
      (λ h. rw (yes_lt h, yes_lt h) (leaves _ _ _ _ (finish m s.status _ refl clear)))
      (λ h. rw (no_lt h) (declined _ _ _))

  -- any operation
  abbrev Operated : ℕ → (Core → Option FastStep) → Type 0
  Operated k f = (s : Core) → bit_and s.status goto_snp_bit ≡ 0
      → Leaves rest s (f s) (steps.halt_on_error s.status (scheduling.act_on_snp m (put oreg 0 (either (register_operation k s) (begin (listed s rest)) (look tables.other_operations k tables.unlisted_action m (begin (listed s rest)))))))

  accessed_good : (k : ℕ) (f : Core → Option FastStep) → ((s : Core) → register_operation k s ≡ None) → Accessed k f → Operated k f
  unfolding either
  accessed_good k f none e s clear = rw (none s) (e s clear)

  table_good : (k : ℕ) → Operated k (fast.table_operation k)
  unfolding fast.table_operation either
  table_good k s clear = go (register_operation k s)
    where
      go : (o : Option Core) → Leaves rest s (fast.tabled s.status o) (steps.halt_on_error s.status (scheduling.act_on_snp m (put oreg 0 (either o (begin (listed s rest)) (look tables.other_operations k tables.unlisted_action m (begin (listed s rest)))))))
      go None = declined _ _ _
      go (Some t) = registers-left (λ _. t) s clear

  operate_good : (k : ℕ) → Operated k (fast.operate m k)
  unfolding fast.operate fast.memory_operations register_operation tables.register_operations
  operate_good k =
      looked Operated (fast.memory_operations m)
      (accessed_good 0x01 (fast.lb m) (λ s. refl) lb_good, (accessed_good 0x20 (fast.ret m) (λ s. refl) ret_good, (accessed_good 0x3B (fast.sb m) (λ s. refl) sb_good, tt)))
      k (fast.table_operation k) (table_good k)

  opr_good : (s : Core) → Good 0xF s (fast.opr m s)
  unfolding steps.execute tables.function tables.functions core_of
  opr_good s clear = rw (operate-is s.oreg m (begin (listed s rest))) (operate_good s.oreg s clear)

  -- ---- decoding

  abbrev Decoded : ℕ → (Core → Option FastStep) → Type 0
  Decoded k f = (s : Core) → bit_and s.status goto_snp_bit ≡ 0
      → Leaves rest s (f s) (steps.halt_on_error s.status (steps.decode m k (begin (listed s rest))))

  prefix-left : (f : Core → Core) (s : Core) → ((f s).status ≡ s.status) → Leaves rest s (fast.prefix (f s)) (steps.halt_on_error s.status (put_core (f (core_of (listed s rest))) (begin (listed s rest))))
  unfolding put_core core_of with_core
  prefix-left f s e = leaves _ _ (record { core = f s; stored = Nothing }) _ (halt-same s.status _ e)

  decode_rows : (s₀ : Core) → All Decoded (fast.functions m (listed s₀ rest))
  unfolding fast.functions steps.decode if_eq steps.execute tables.function tables.functions
  decode_rows s₀ =
      (j_good s₀, (registers-left stack.ldlp, ((λ s clear. prefix-left stack.pfix s refl), (ldnl_good, (registers-left stack.ldc, (registers-left stack.ldnlp, ((λ s clear. prefix-left stack.nfix s refl), (ldl_good, (registers-left stack.adc, (call_good, (registers-left stack.cj, (registers-left stack.ajw, (registers-left stack.eqc, (stl_good, (stnl_good, (opr_good, tt))))))))))))))))

  decode_good : (s₀ : Core) (k : ℕ) → Decoded k (fast.decode m (listed s₀ rest) k)
  unfolding fast.decode
  decode_good s₀ k = looked Decoded (fast.functions m (listed s₀ rest)) (decode_rows s₀) k fast.other (λ s clear. (declined _ _ _))

  -- ---- the fetch

  fetch_good : (s : Core) → bit_and s.status goto_snp_bit ≡ 0
      → Leaves rest s (fast.fetch m (listed s rest) s) (steps.halt_on_error s.status (steps.instruction m (begin (listed s rest))))
  unfolding fast.fetch fast.decoded steps.instruction steps.fetched put byte_at word_at access stores
  fetch_good s clear =
      cases_lt (index s.iptr) (length m)
      (λ h.
      let byte = byte_of (selector s.iptr) (get_or m (index s.iptr) 0) in
      rw (yes_lt h, yes_lt h) (before-fetch rest byte s _ _ (decode_good s (byte / 2 ^ 4) (fast.fetched byte s) clear)))
      (λ h. rw (no_lt h) (declined _ _ _))

-- ---- what may come before an instruction

no_request-none : (r : List ℕ) (n c : ℕ) → pending.no_request c n r ≡ true → request_from c n (begin r) ≡ link_chans
unfolding pending.no_request request_from
no_request-none r zero c h = refl
no_request-none r (suc n) c h =
    cases_eq (bit_and (get_or r (channel_reg c) 0) (run_request + ready_request)) 0
    (λ e. rw (yes_eq e) (no_request-none r n (suc c) (rw (yes_eq e) at h)))
    (λ e. never (rw (no_eq e) at h))

not-not : (b : Bool) → not b ≡ true → b ≡ false
not-not true h = never h
not-not false h = refl

module _ (m r : List ℕ) where
  first-ready : pending.due 0 r ≡ false → timer_ready 0 (begin r) ≡ false
  unfolding pending.due timer_ready timer_due
  first-ready h = rw (yes_eq {a = 0} {b = 0} refl) h

  second-ready : pending.due 1 r ≡ false → timer_ready 1 (begin r) ≡ false
  unfolding pending.due timer_ready timer_due
  second-ready h =
      let one : ◌≡◌ {A = ℕ} 1 0 → ⊥ = omega arith in
      rw (no_eq one)
      (cases_eq (priority_of (get_or r 1 0)) 0 (λ e. rw (yes_eq e)) (λ e. rw (no_eq e) h))

  -- between instructions, with no request and no timer
  asked_nothing : pending.no_request 0 link_chans r ≡ true → pending.due 0 r ≡ false → pending.due 1 r ≡ false
      → steps.channels_first m (begin r) ≡ steps.instruction_unless_idle m (begin r)
  unfolding steps.channels_first steps.timers_first requested
  asked_nothing c a b =
      let nine : link_chans ≤ request_from 0 link_chans (begin r) = omega (arith, no_request-none r link_chans 0 c) in
      rw (no_lt nine, first-ready a, second-ready b)

  nothing_to_serve-steps : pending.nothing_to_serve r ≡ true → steps.channels_first m (begin r) ≡ steps.instruction_unless_idle m (begin r)
  unfolding pending.nothing_to_serve
  nothing_to_serve-steps h =
      by_bool (pending.no_request 0 link_chans r)
      (λ c. by_bool (pending.due 0 r)
      (λ a. never (rw (c, a) at h))
      (λ a. asked_nothing c a (not-not (pending.due 1 r) (rw (c, a) at h))))
      (λ c. never (rw c at h))

  -- where nothing is pending, the step fetches
  pub record NothingPending : Type 0 where
    pub awake : bit_and (get_or r flags_reg 0) halted_flag ≡ 0
    pub busy : bit_and (get_or r flags_reg 0) idle_flag ≡ 0
    pub clear : bit_and (get_or r status_reg 0) goto_snp_bit ≡ 0
    pub first : steps.choose m (begin r) ≡ steps.instruction_unless_idle m (begin r)

  nothing_pending_first : if_eq (get_or r oreg 0) 0 (pending.nothing_to_serve r) true ≡ true → steps.choose m (begin r) ≡ steps.instruction_unless_idle m (begin r)
  unfolding steps.choose
  nothing_pending_first h =
      cases_eq (get_or r oreg 0) 0
      (λ e. rw (yes_eq e) (nothing_to_serve-steps (rw (yes_eq e) at h)))
      (λ e. rw (no_eq e))

  nothing_pending-told : pending.nothing_pending r ≡ true → NothingPending
  unfolding pending.nothing_pending
  nothing_pending-told h =
      cases_eq (bit_and (get_or r flags_reg 0) halted_flag) 0
      (λ a. cases_eq (bit_and (get_or r flags_reg 0) idle_flag) 0
      (λ b. cases_eq (bit_and (get_or r status_reg 0) goto_snp_bit) 0
      (λ c. record { awake = a; busy = b; clear = c; first = nothing_pending_first (rw (yes_eq a, yes_eq b, yes_eq c) at h) })
      (λ c. never (rw (yes_eq a, yes_eq b, no_eq c) at h)))
      (λ b. never (rw (yes_eq a, no_eq b) at h)))
      (λ a. never (rw (no_eq a) at h))

  nothing_pending-step : NothingPending → steps.step m (begin r) ≡ steps.halt_on_error (get_or r status_reg 0) (steps.instruction m (begin r))
  unfolding steps.step steps.instruction_unless_idle
  nothing_pending-step q = rw (yes_eq q.awake, q.first, yes_eq q.busy)

-- the law: a common step is the step of rules
listed-step : (m : List ℕ) (s : Core) (rest : List ℕ)
    → Leaves rest s (fast.fast m (listed s rest)) (steps.step m (begin (listed s rest)))
unfolding fast.fast core_of
listed-step m s rest =
    by_bool (pending.nothing_pending (listed s rest))
    (λ h.
    let q = nothing_pending-told m (listed s rest) h in
    rw (h, nothing_pending-step m (listed s rest) q) (fetch_good m rest s q.clear))
    (λ h. rw h (declined _ _ _))

pub fast-step : (m r : List ℕ) (t : FastStep) → 7 ≤ length r → fast.fast m r ≡ Some t
    → steps.step m (begin r) ≡ fast.fast_work r t
unfolding with_core
fast-step m r t l e =
    let f : fast.fast m (listed (core_of r) (drop 7 r)) ≡ Some t = rw (seven r l) at e in
    rw (seven r l) (left-is _ _ t _ (rw f at (listed-step m (core_of r) (drop 7 r))))
