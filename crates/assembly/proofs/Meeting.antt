-- THE CLAIM over a step: in any machine where a chain's bytes stand at Iptr, Oreg is 0 and nothing disturbs the chain, the fetch of the final byte
-- leaves the operand in Oreg. Of any list of prefixes and a final byte; of the chain of a function and an operand; and no shorter list does it.
use mathlib.Core.Path.{◌≡◌, refl, sym, ap, ◌∙◌, subst}
use mathlib.Core.Logic.{◌⊎◌, inl, inr}
use mathlib.Core.Bool.{false}
use mathlib.Core.List.{List, [], ◌∷◌, ◌++◌}
use Prim.Native.Nat.{ℕ, ◌^◌, ◌<◌}
use native.Mathlib.Omega.{arith}
use lib.Bits.{bit_and}
use lib.ListN.{length, get_or, set, take, length-set, length-append}
use lib.Seq.{get_or-set_same, get_or-set_other, take_at, get_or_at}
use Rattle.rules.specs.Tests.{if_eq}
use Rattle.rules.specs.Words.{at_byte, index, with_nibble}
use Rattle.rules.specs.Stack as stack
use Rattle.rules.specs.Registers.{registers, iptr_reg, oreg, status_reg, flags_reg, idle_flag, halted_flag, core_of, with_core}
use Rattle.rules.specs.Memory.{Store, stores}
use Rattle.rules.specs.declared.Core.{Core}
use Rattle.rules.specs.Work.{Work, begin, reg, put, raise, put_core, on_core, refuse, refuse_at, idle, halted, word_at, byte_at, access, kind_fetch}
use Rattle.rules.specs.Step.{halt_if_asked, halt_on_error, fetched, decode, instruction, instruction_unless_idle, timers_first, channels_first, choose, step}
use Rattle.rules.proofs.Tests.{yes_lt, no_lt, yes_eq, no_eq, on_eq, cases_eq}
use Rattle.laws.proofs.Fine.{length-with_core}
use Rattle.assembly.specs.Chain.{pfix, nfix, chain, function_of, after_prefix, after_prefixes, operand_of}
use Rattle.assembly.specs.Meeting.{Prefixes, Stand, Quiet, regs_after, memory_after, Undisturbed, Comes, steps_after, fetched_from, Meets, NoneShorter}
use Rattle.assembly.specs.Calls.{function_bad}
use Rattle.assembly.proofs.Reading.{prefix_cases}
use Rattle.assembly.proofs.Functions.{not-pfix, not-nfix}
use Rattle.assembly.proofs.Exact.{before, final, chain-parts, final-function, chain_operand, all_prefixes}
use Rattle.assembly.proofs.Shortest.{shortest}

-- ---- halting touches the flags alone

halt-keeps : (P : Work → Type 0) → ((w : Work) → P w → P (raise flags_reg halted_flag w)) → (status : ℕ) (w : Work) → P w → P (halt_on_error status w)
unfolding halt_on_error halt_if_asked
halt-keeps P f status w p = on_eq P _ _ (on_eq P _ _ p (on_eq P _ _ p (f w p))) p

-- ---- an access inside memory touches neither registers nor stores

inside-regs : (m : List ℕ) (a : ℕ) (w : Work) → index a < length m → (access m kind_fetch a w).regs ≡ w.regs
unfolding access
inside-regs m a w h = rw (yes_lt h)

inside-stored : (m : List ℕ) (a : ℕ) (w : Work) → index a < length m → (access m kind_fetch a w).stored ≡ w.stored
unfolding access
inside-stored m a w h = rw (yes_lt h)

-- ---- a refusal of work that is not refused yet

refused-answer : (number : ℕ) (r : List ℕ) → (refuse number (begin r)).answer ≡ number
unfolding refuse_at if_eq
refused-answer number r = refl

halt-answer : (status : ℕ) (w : Work) → (halt_on_error status w).answer ≡ w.answer
unfolding raise put
halt-answer status w = halt-keeps (λ v. v.answer ≡ w.answer) (λ v e. e) status w refl

-- ---- a step that is neither halted nor idle, where nothing is pending, is an instruction

module _ (r m : List ℕ) (q : Quiet r) where
  step-instruction : bit_and (get_or r flags_reg 0) halted_flag ≡ 0 → bit_and (get_or r flags_reg 0) idle_flag ≡ 0
      → step m (begin r) ≡ halt_on_error (get_or r status_reg 0) (instruction m (begin r))
  unfolding step choose channels_first timers_first instruction_unless_idle
  step-instruction h i =
      cases_eq (get_or r oreg 0) 0
      (λ e. rw (yes_eq h, yes_eq e, no_lt q.0, q.1, q.2, yes_eq i))
      (λ e. rw (yes_eq h, no_eq e, yes_eq i))

  accepted-running : (step m (begin r)).answer ≡ 0 → bit_and (get_or r flags_reg 0) halted_flag ≡ 0
  unfolding step
  accepted-running a =
      cases_eq (bit_and (get_or r flags_reg 0) halted_flag) 0 (λ h. h)
      (λ h. absurd (let z : (refuse halted (begin r)).answer ≡ 0 = rw (no_eq h) at a in omega (arith, z, refused-answer halted r)))

  accepted-busy : (step m (begin r)).answer ≡ 0 → bit_and (get_or r flags_reg 0) idle_flag ≡ 0
  unfolding step choose channels_first timers_first instruction_unless_idle
  accepted-busy a =
      cases_eq (bit_and (get_or r flags_reg 0) idle_flag) 0 (λ h. h)
      (λ h. absurd
      (let e : choose m (begin r) ≡ refuse idle (begin r) =
      cases_eq (get_or r oreg 0) 0 (λ o. rw (yes_eq o, no_lt q.0, q.1, q.2, no_eq h)) (λ o. rw (no_eq o, no_eq h)) in
      let z : (halt_on_error (get_or r status_reg 0) (choose m (begin r))).answer ≡ 0 = rw (yes_eq (accepted-running a)) at a in
      omega (arith, z, halt-answer (get_or r status_reg 0) (choose m (begin r)), ap (λ (w : Work). w.answer) e, refused-answer idle r)))

-- ---- the fetch of the byte that stands at Iptr

module _ (r m : List ℕ) (byte : ℕ) (s : Stand m (get_or r iptr_reg 0) (byte ∷ [])) where
  fetch_decodes : instruction m (begin r) ≡ decode m (function_of byte) (fetched_from byte r m)
  unfolding instruction byte_at word_at stores
  fetch_decodes = ap (λ (b : ℕ). decode m (function_of b) (fetched_from b r m)) s.1

  module _ (c : length r ≡ registers) where
    fetched-oreg : reg oreg (fetched_from byte r m) ≡ with_nibble byte (get_or r oreg 0)
    unfolding fetched put
    fetched-oreg =
        rw (inside-regs m (get_or r iptr_reg 0) (begin r) s.0)
        (get_or-set_same (set r 0 _) 5 _ 0 (rw (length-set r 0) (omega arith)))

    fetched_iptr : reg iptr_reg (fetched_from byte r m) ≡ at_byte (get_or r iptr_reg 0) 1
    unfolding fetched put
    fetched_iptr =
        rw (inside-regs m (get_or r iptr_reg 0) (begin r) s.0)
        (get_or-set_other (set r 0 _) 5 0 _ 0 (λ e. omega (arith, e)) ∙ get_or-set_same r 0 _ 0 (omega arith))

    fetched-count : length (fetched_from byte r m).regs ≡ registers
    unfolding fetched put
    fetched-count = rw (inside-regs m (get_or r iptr_reg 0) (begin r) s.0, length-set, length-set) c

    fetched-stored : (fetched_from byte r m).stored ≡ []
    unfolding fetched put
    fetched-stored = inside-stored m (get_or r iptr_reg 0) (begin r) s.0

-- ---- the registers of Core, put back

-- a store to one register, read at another
past : (l : List ℕ) (i j v x : ℕ) → (j ≡ i → ⊥) → get_or l j 0 ≡ x → get_or (set l i v) j 0 ≡ x
past l i j v x h e = get_or-set_other l i j v 0 h ∙ e

module _ (s : Core) (l : List ℕ) (c : length l ≡ registers) where
  with-oreg : get_or (with_core s l) oreg 0 ≡ s.oreg
  unfolding with_core
  with-oreg =
      let l₄ : List ℕ = set (set (set (set (set l 0 s.iptr) 1 s.wdesc) 2 s.a) 3 s.b) 4 s.c in
      past (set l₄ 5 s.oreg) 6 5 s.status s.oreg (λ e. omega (arith, e))
      (get_or-set_same l₄ 5 s.oreg 0 (simp length-set (omega arith)))

  with_iptr_lem : get_or (with_core s l) iptr_reg 0 ≡ s.iptr
  unfolding with_core
  with_iptr_lem =
      let l₀ : List ℕ = set l 0 s.iptr in
      let l₁ : List ℕ = set l₀ 1 s.wdesc in
      let l₂ : List ℕ = set l₁ 2 s.a in
      let l₃ : List ℕ = set l₂ 3 s.b in
      let l₄ : List ℕ = set l₃ 4 s.c in
      past (set l₄ 5 s.oreg) 6 0 s.status s.iptr (λ e. omega (arith, e))
      (past l₄ 5 0 s.oreg s.iptr (λ e. omega (arith, e))
      (past l₃ 4 0 s.c s.iptr (λ e. omega (arith, e))
      (past l₂ 3 0 s.b s.iptr (λ e. omega (arith, e))
      (past l₁ 2 0 s.a s.iptr (λ e. omega (arith, e))
      (past l₀ 1 0 s.wdesc s.iptr (λ e. omega (arith, e)) (get_or-set_same l 0 s.iptr 0 (omega arith)))))))

module _ (w : Work) (c : length w.regs ≡ registers) (f : Core → Core) where
  core-count : length (on_core f w).regs ≡ registers
  unfolding put_core
  core-count = length-with_core (f (core_of w.regs)) w.regs ∙ c

  core-oreg : get_or (on_core f w).regs oreg 0 ≡ (f (core_of w.regs)).oreg
  unfolding put_core
  core-oreg = with-oreg (f (core_of w.regs)) w.regs c

  core_iptr : get_or (on_core f w).regs iptr_reg 0 ≡ (f (core_of w.regs)).iptr
  unfolding put_core
  core_iptr = with_iptr_lem (f (core_of w.regs)) w.regs c

-- ---- a prefix step: Iptr has grown, Oreg has taken the prefix in, and nothing is stored

record Prefixed (byte : ℕ) (r : List ℕ) (v : Work) : Type 0 where
  count : length v.regs ≡ registers
  iptr : get_or v.regs iptr_reg 0 ≡ at_byte (get_or r iptr_reg 0) 1
  taken : get_or v.regs oreg 0 ≡ after_prefix (get_or r oreg 0) byte
  unstored : v.stored ≡ []

module _ (r m : List ℕ) (byte : ℕ) (s : Stand m (get_or r iptr_reg 0) (byte ∷ [])) (c : length r ≡ registers) where
  prefix-decoded : (function_of byte ≡ pfix) ⊎ (function_of byte ≡ nfix) → Prefixed byte r (decode m (function_of byte) (fetched_from byte r m))
  unfolding decode after_prefix core_of put_core
  prefix-decoded (inl e) =
      let w = fetched_from byte r m in
      rw (yes_eq e)
      (record {
        count = core-count w (fetched-count r m byte s c) stack.pfix;
        iptr = core_iptr w (fetched-count r m byte s c) stack.pfix ∙ fetched_iptr r m byte s c;
        taken = core-oreg w (fetched-count r m byte s c) stack.pfix ∙ rw (fetched-oreg r m byte s c, yes_eq e);
        unstored = fetched-stored r m byte s c;
      })
  prefix-decoded (inr e) =
      let w = fetched_from byte r m in
      rw (no_eq {a = function_of byte} {b = pfix} (λ z. omega (arith, e, z)), yes_eq e)
      (record {
        count = core-count w (fetched-count r m byte s c) stack.nfix;
        iptr = core_iptr w (fetched-count r m byte s c) stack.nfix ∙ fetched_iptr r m byte s c;
        taken = core-oreg w (fetched-count r m byte s c) stack.nfix ∙ rw (fetched-oreg r m byte s c, no_eq {a = function_of byte} {b = pfix} (λ z. omega (arith, e, z)));
        unstored = fetched-stored r m byte s c;
      })

prefixed-halted : (byte : ℕ) (r : List ℕ) (w : Work) → Prefixed byte r w → Prefixed byte r (raise flags_reg halted_flag w)
unfolding raise put
prefixed-halted byte r w p =
    record {
      count = rw (length-set w.regs flags_reg) p.count;
      iptr = past w.regs flags_reg iptr_reg _ _ (λ e. omega (arith, e)) p.iptr;
      taken = past w.regs flags_reg oreg _ _ (λ e. omega (arith, e)) p.taken;
      unstored = p.unstored;
    }

module _ (r m : List ℕ) (byte : ℕ) (s : Stand m (get_or r iptr_reg 0) (byte ∷ [])) (c : length r ≡ registers) (q : Quiet r) where
  prefix-step : (function_of byte ≡ pfix) ⊎ (function_of byte ≡ nfix) → (step m (begin r)).answer ≡ 0 → Prefixed byte r (step m (begin r))
  prefix-step e a =
      rw (step-instruction r m q (accepted-running r m q a) (accepted-busy r m q a), fetch_decodes r m byte s)
      (halt-keeps (Prefixed byte r) (prefixed-halted byte r) (get_or r status_reg 0) _ (prefix-decoded r m byte s c e))

  -- any other byte is a function, which meets the operand
  final-step : (function_of byte ≡ pfix → ⊥) → (function_of byte ≡ nfix → ⊥) → Meets byte (with_nibble byte (get_or r oreg 0)) r m
  unfolding decode
  final-step a b =
      record {
        stands = s;
        meets = fetched-oreg r m byte s c;
        executes = λ h i. step-instruction r m q h i ∙ rw (fetch_decodes r m byte s, no_eq a, no_eq b);
      }

-- ---- without stores memory stays

same_memory : (ss : List Store) (m : List ℕ) → ss ≡ [] → stores m ss ≡ m
unfolding stores
same_memory ss m e = rw e

-- ---- the steps of the prefixes, then the final byte; memory stays

-- where n steps lead, from registers r and memory m': memory is m, and the operand is met
abbrev Led : ℕ → ℕ → ℕ → List ℕ → List ℕ → List ℕ → Type 0
Led n last operand m r m' = ((steps_after n r m').1 ≡ m) × Meets last operand (steps_after n r m').0 m

prefixes_lead : (bytes : List ℕ) (last : ℕ) (r m : List ℕ) → length r ≡ registers → Prefixes bytes → (function_of last ≡ pfix → ⊥) → (function_of last ≡ nfix → ⊥)
    → Stand m (get_or r iptr_reg 0) (bytes ++ (last ∷ [])) → Undisturbed (length bytes) r m
    → Led (length bytes) last (with_nibble last (after_prefixes (get_or r oreg 0) bytes)) m r m
unfolding Undisturbed steps_after after_prefixes
prefixes_lead [] last r m c p a b s u = (refl, final-step r m last s c u a b)
prefixes_lead (byte ∷ bytes) last r m c p a b s u =
    let here : Stand m (get_or r iptr_reg 0) (byte ∷ []) = (s.0, s.1, tt) in
    let t : Prefixed byte r (step m (begin r)) = prefix-step r m byte here c u.0 (prefix_cases byte p.0) u.1 in
    let e : memory_after r m ≡ m = same_memory (step m (begin r)).stored m t.unstored in
    let next = prefixes_lead bytes last (regs_after r m) m t.count p.1 a b (rw t.iptr s.2) (subst (Undisturbed (length bytes) (regs_after r m)) e u.2) in
    rw (← t.taken) (subst (λ (x : List ℕ). Led (length bytes) last (with_nibble last (after_prefixes (get_or (regs_after r m) oreg 0) bytes)) m (regs_after r m) x) (sym e) next)

-- ---- THE CLAIM

-- of any prefixes and a final byte
pub chain-meets : (prefixes : List ℕ) (last : ℕ) (r m : List ℕ) → Prefixes prefixes → (function_of last ≡ pfix → ⊥) → (function_of last ≡ nfix → ⊥)
    → Comes prefixes last r m
    → ((steps_after (length prefixes) r m).1 ≡ m) × Meets last (operand_of prefixes last) (steps_after (length prefixes) r m).0 m
chain-meets prefixes last r m p a b h =
    rw h.clear at (prefixes_lead prefixes last r m h.count p a b h.stand h.undisturbed)

-- a list ends in one way
ends-one : (a b : List ℕ) (x y : ℕ) → a ++ (x ∷ []) ≡ b ++ (y ∷ []) → (a ≡ b) × (x ≡ y)
ends-one a b x y e =
    let n : length a ≡ length b = omega (arith, simp length-append at (ap length e)) in (
      sym (take_at a (x ∷ []) (length a) refl) ∙ ap (take (length a)) e ∙ take_at b (y ∷ []) (length a) (sym n),
      sym (get_or_at a x [] 0 (length a) refl) ∙ ap (λ (l : List ℕ). get_or l (length a) 0) e ∙ get_or_at b y [] 0 (length a) (sym n),
    )

-- of the chain that is written for a function and an operand: the final byte has the function, and meets the operand
pub assembled-meets : (f v : ℕ) → v < 2 ^ 32 → function_bad f ≡ false → (prefixes : List ℕ) (last : ℕ) → chain f v ≡ prefixes ++ (last ∷ [])
    → (r m : List ℕ) → Comes prefixes last r m
    → (function_of last ≡ f) × ((steps_after (length prefixes) r m).1 ≡ m) × Meets last v (steps_after (length prefixes) r m).0 m
assembled-meets f v h g prefixes last e r m c =
    let s = ends-one (before 15 v) prefixes (final f v) last (sym (chain-parts 15 f v) ∙ e) in
    let i : function_of last ≡ f = ap function_of (sym s.1) ∙ final-function f v in
    let o : operand_of prefixes last ≡ v = rw (← s.0, ← s.1) (chain_operand f v h) in
    let p : Prefixes prefixes = subst Prefixes s.0 (all_prefixes 15 v) in
    let k = chain-meets prefixes last r m p (λ z. not-pfix f g (sym i ∙ z)) (λ z. not-nfix f g (sym i ∙ z)) c in
    (i, k.0, subst (λ (x : ℕ). Meets last x (steps_after (length prefixes) r m).0 m) o k.1)

-- and no shorter one does it
pub none_shorter : NoneShorter chain
none_shorter f v g prefixes last p i r m c e =
    let k = chain-meets prefixes last r m p (λ z. not-pfix f g (sym i ∙ z)) (λ z. not-nfix f g (sym i ∙ z)) c in
    shortest f v prefixes last p (sym k.1.meets ∙ e)
