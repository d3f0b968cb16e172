-- 10a, 10b and 10c of a step: the first of the step's accesses that is outside memory decides, with its kind and address; 10a comes exactly where (c) applies
-- and Iptr is outside memory; and a step that does not answer 10 in a memory of 64 words or more does the same with any words appended, up to 16,384 in all.
-- Of a machine of 45 registers.
use mathlib.Core.Path.{◌≡◌, refl, sym, ap, subst, ◌∙◌}
use mathlib.Core.Logic.{◌↔◌}
use mathlib.Core.Bool.{Bool, true, false, ◌||◌}
use mathlib.Core.List.{List, [], ◌++◌}
use Prim.Native.Nat.{ℕ, ◌+◌, ◌^◌, ◌≤◌, ◌<◌}
use native.Mathlib.Omega.{arith}
use borrow.Author.Tests.{le-ltb, lt-leb, ltb-false}
use lib.Dec.{ltb, eqb}
use lib.ListN.{length, get_or, length-append}
use lib.Seq.{sets}
use Rattle.rules.specs.Tests.{pick, if_lt}
use Rattle.rules.specs.Words.{index}
use Rattle.rules.specs.Registers.{registers, iptr_reg}
use Rattle.rules.specs.Work.{Access, Work, begin, outside, kind_fetch, kind_load, kind_store, first_outside}
use Rattle.rules.specs.Memory.{touched, stores}
use Rattle.rules.specs.Journal.{record_length, record_of, bounds_bad}
use Rattle.rules.specs.Step as steps
use Rattle.rules.specs.Calls.{Outcome, refused, accepted, memory_size_bad, journal_size_bad, size_bad, recorded, commit_or_refuse, checked}
use Rattle.rules.specs.Calls as rules
use Rattle.rules.specs.declared.Machine.{Machine}
use Rattle.rules.proofs.Tests.{yes_eq, no_eq, cases_eq, cases_lt}
use Rattle.laws.specs.Alike.{Witness, Alike}
use Rattle.laws.specs.Alike as alike
use Rattle.laws.specs.Answers.{Known}
use Rattle.laws.specs.Listed.{told_outside, told}
use Rattle.laws.proofs.Fine.{turns-known, fine-begin}
use Rattle.laws.proofs.FineStep.{fine-step}
use Rattle.laws.proofs.LawfulStep.{step_alike, first-outside}
use Rattle.laws.proofs.Calm.{never, and-false}
use Rattle.laws.proofs.Appended.{stores-appended, touched-appended, record-appended}
use Rattle.refusals.specs.Conditions.{Refusal, refusal_of, bad_journal, is_halted, is_idle, is_unlisted, fetches, fetch_outside, step_outside, stops, full, step_pairs}
use Rattle.refusals.specs.Outside.{appended}
use Rattle.refusals.proofs.Exactly.{later_refusal, step-later}

-- ---- a memory that is not refused with 1 is small, and so is the longer one

memory_small : (mem j : List ℕ) → size_bad mem j ≡ false → length mem < 2 ^ 30
unfolding size_bad memory_size_bad
memory_small mem j h = go (ltb (length mem) 64) (ltb 16384 (length mem)) refl h
  where
    go : (a b : Bool) → ltb 16384 (length mem) ≡ b → (a || b || journal_size_bad (length j)) ≡ false → length mem < 2 ^ 30
    go true b e z = never (sym z)
    go false true e z = never (sym z)
    go false false e z = omega (arith, ltb-false 16384 (length mem) e)

-- ---- from the refusal of the call to that of its work

module _ (m : Machine) (mem j : List ℕ) where
  abbrev work : Work
  work = steps.step mem (begin m.regs)

  -- a call refused with 10 is refused by its work, after Size and JournalBad
  step_ten : (k a : ℕ) → refusal_of (rules.step m mem j) ≡ (outside, k, a) → (size_bad mem j ≡ false) × (bad_journal m j ≡ false) × (told work ≡ (outside, k, a))
  unfolding rules.step checked commit_or_refuse recorded if_lt
  step_ten k a e = go (size_bad mem j) (bad_journal m j) refl refl e
    where
      full : List ℕ → List ℕ → Outcome
      full ks after =
          pick (ltb (length j) (m.used + record_length (length ks))) (refused 12 m mem j)
          (accepted 0 (rules.machine_of work.regs (m.depth + 1) (m.used + record_length (length ks))) after (sets j m.used (record_of mem m.regs ks)))

      not_full : (ks after : List ℕ) → refusal_of (full ks after) ≡ (outside, k, a) → ⊥
      not_full ks after = at (ltb (length j) (m.used + record_length (length ks)))
        where
          at : (t : Bool) → refusal_of (pick t (refused 12 m mem j) (accepted 0 (rules.machine_of work.regs (m.depth + 1) (m.used + record_length (length ks))) after (sets j m.used (record_of mem m.regs ks)))) ≡ (outside, k, a) → ⊥
          at true z = omega (arith, ap (λ (t : Refusal). t.0) z)
          at false z = omega (arith, ap (λ (t : Refusal). t.0) z)

      go : (s b : Bool) → size_bad mem j ≡ s → bad_journal m j ≡ b
          → refusal_of (pick s (refused 1 m mem j) (pick false (refused 3 m mem j) (pick b (refused 4 m mem j) (commit_or_refuse m mem j 0 work)))) ≡ (outside, k, a)
          → (size_bad mem j ≡ false) × (bad_journal m j ≡ false) × (told work ≡ (outside, k, a))
      go true b p q z = absurd (omega (arith, ap (λ (t : Refusal). t.0) z))
      go false true p q z = absurd (omega (arith, ap (λ (t : Refusal). t.0) z))
      go false false p q z =
          cases_eq work.answer 0
          (λ n. absurd (not_full (touched (length mem) work.stored) (stores mem work.stored) (rw (yes_eq n) at z)))
          (λ n. (p, q, rw (no_eq n) at z))

  -- and the other way round
  ten-step : (k a : ℕ) → size_bad mem j ≡ false → bad_journal m j ≡ false → told work ≡ (outside, k, a) → refusal_of (rules.step m mem j) ≡ (outside, k, a)
  unfolding rules.step checked commit_or_refuse
  ten-step k a s f e = rw (s, f, no_eq {a = work.answer} {b = 0} (λ z. omega (arith, z, ap (λ (t : Refusal). t.0) e))) e

  -- ---- THE LIST: 10a, 10b or 10c with address a is answered exactly where the first of the step's accesses that is outside memory has that kind and address

  pub step-accesses : length m.regs ≡ registers → (k a : ℕ) → kind_fetch ≤ k
      → (refusal_of (rules.step m mem j) ≡ (outside, k, a)) ↔ ((size_bad mem j ≡ false) × (bad_journal m j ≡ false) × (first_outside mem (steps.accesses mem m.regs) ≡ (k, a)))
  step-accesses h k a some = (
    (λ e. let t = step_ten k a e in (t.0, t.1, first-outside mem m.regs h ∙ ap told_outside t.2 ∙ yes_eq {a = outside} {b = outside} refl (k, a) (0, 0))),
    λ e. ten-step k a e.0 e.1 (back (sym (first-outside mem m.regs h) ∙ e.2)),
  )
    where
      back : told_outside (told work) ≡ (k, a) → told work ≡ (outside, k, a)
      back e =
          cases_eq work.answer outside
          (λ n. let q : (work.kind, work.address) ≡ (k, a) = rw (yes_eq n) at e in rw n (ap (λ (x : Access). (outside, x.0, x.1)) q))
          (λ n. absurd (omega (arith, some, ap (λ (x : Access). x.0) (rw (no_eq n) at e))))

  -- ---- THE WITNESS: an answer 10 comes with a part of 1 to 3 and an address that is outside memory

  pub step_witness : length m.regs ≡ registers → (rules.step m mem j).answer ≡ outside
      → (kind_fetch ≤ (rules.step m mem j).part) × ((rules.step m mem j).part ≤ kind_store) × (length mem ≤ index (rules.step m mem j).address)
  step_witness h e =
      let t = step_ten (rules.step m mem j).part (rules.step m mem j).address (rw e) in
      let w = witnessed (length mem) _ _ (ap (λ (t : Refusal). t.0) t.2) (step_alike mem [] (memory_small mem j t.0) m.regs h) in
      (subst (λ (k : ℕ). kind_fetch ≤ k) (ap (λ (t : Refusal). t.1) t.2) w.least, subst (λ (k : ℕ). k ≤ kind_store) (ap (λ (t : Refusal). t.1) t.2) w.most, subst (λ (a : ℕ). length mem ≤ index a) (ap (λ (t : Refusal). t.2) t.2) w.away)
    where
      witnessed : (size : ℕ) (w w' : Work) → w.answer ≡ outside → Alike size w w' → Witness size w
      witnessed size w w' e (alike.beyond a c t) = t
      witnessed size w w' e (alike.refused n o q c c') = absurd (o e)
      witnessed size w w' e (alike.same q u) = absurd (omega (arith, e, u.none))

-- ---- THE LONGER MEMORY: up to 16,384 words in all

-- an accepted call, whose record fits
abbrev done : Machine → List ℕ → List ℕ → ℕ → Work → Outcome
done m mem j byte w =
    accepted byte (rules.machine_of w.regs (m.depth + 1) (m.used + record_length (length (touched (length mem) w.stored)))) (stores mem w.stored)
    (sets j m.used (record_of mem m.regs (touched (length mem) w.stored)))

module _ (m : Machine) (mem x j : List ℕ) where
  commit-or-refuse_longer : (w w' : Work) → Alike (length mem) w w' → Known w.answer w.kind w.address → Known w'.answer w'.kind w'.address
      → ((commit_or_refuse m mem j 0 w).answer ≡ outside → ⊥)
      → commit_or_refuse m (mem ++ x) j 0 w' ≡ appended x (commit_or_refuse m mem j 0 w)
  unfolding commit_or_refuse recorded if_lt
  commit-or-refuse_longer w w' (alike.beyond a c t) k k' n = absurd (n (rw (no_eq {a = w.answer} {b = 0} (λ z. omega (arith, a, z))) a))
  commit-or-refuse_longer w w' (alike.refused z o e c c') k k' n =
      let b = k.proper.bare o in
      let b' = k'.proper.bare (λ q. o (e ∙ q)) in
      rw (no_eq {a = w.answer} {b = 0} z, ← e, no_eq {a = w.answer} {b = 0} z, b.0, b.1, b'.0, b'.1)
  commit-or-refuse_longer w w' (alike.same e u) k k' n =
      rw (← e, yes_eq u.none, yes_eq u.none, touched-appended mem x w.stored u.inside, stores-appended mem x w.stored u.inside, record-appended mem x m.regs w.stored)
      (go (ltb (length j) (m.used + record_length (length (touched (length mem) w.stored)))))
    where
      go : (t : Bool) → pick t (refused 12 m (mem ++ x) j) (appended x (done m mem j 0 w)) ≡ appended x (pick t (refused 12 m mem j) (done m mem j 0 w))
      go true = refl
      go false = refl

  size_same : 64 ≤ length mem → length (mem ++ x) ≤ 16384 → size_bad (mem ++ x) j ≡ size_bad mem j
  unfolding size_bad memory_size_bad
  size_same l h =
      rw (le-ltb (length mem) 64 l, le-ltb (length (mem ++ x)) 64 (omega (arith, length-append mem x)), le-ltb 16384 (length mem) (omega (arith, length-append mem x)), le-ltb 16384 (length (mem ++ x)) h)

  -- a step that does not answer 10 does the same: answer, machine, stores and record
  pub step_longer : length m.regs ≡ registers → 64 ≤ length mem → length (mem ++ x) ≤ 16384 → ((rules.step m mem j).answer ≡ outside → ⊥)
      → rules.step m (mem ++ x) j ≡ appended x (rules.step m mem j)
  unfolding rules.step checked
  step_longer c l h n =
      rw (size_same l h)
      (go (size_bad mem j) (bounds_bad (length j) m.depth m.used) n)
    where
      w : Work
      w = steps.step mem (begin m.regs)

      w' : Work
      w' = steps.step (mem ++ x) (begin m.regs)

      known : (mem : List ℕ) → Known (steps.step mem (begin m.regs)).answer (steps.step mem (begin m.regs)).kind (steps.step mem (begin m.regs)).address
      known mem = (fine-step mem (turns-known _ (omega arith)) (turns-known _ (omega arith)) (turns-known _ (omega arith)) (turns-known _ (omega arith)) (turns-known _ (omega arith)) (fine-begin m.regs c)).known

      go : (a b : Bool) → ((pick a (refused 1 m mem j) (pick b (refused 4 m mem j) (commit_or_refuse m mem j 0 w))).answer ≡ outside → ⊥)
          → pick a (refused 1 m (mem ++ x) j) (pick b (refused 4 m (mem ++ x) j) (commit_or_refuse m (mem ++ x) j 0 w'))
          ≡ appended x (pick a (refused 1 m mem j) (pick b (refused 4 m mem j) (commit_or_refuse m mem j 0 w)))
      go true b n = refl
      go false true n = refl
      go false false n = commit-or-refuse_longer w w' (step_alike mem x (omega (arith, length-append mem x)) m.regs c) (known mem) (known (mem ++ x)) n

-- ---- THE FETCH: a step that nothing refuses before answers 10a exactly where (c) applies and Iptr is outside memory, and then at Iptr

unlisted-inside : (r mem : List ℕ) → fetch_outside r mem ≡ true → is_unlisted r mem ≡ false
unfolding is_unlisted
unlisted-inside r mem o =
    cases_lt (index (get_or r iptr_reg 0)) (length mem)
    (λ b. never (sym (and-false (fetches r)) ∙ rw (lt-leb (length mem) (index (get_or r iptr_reg 0)) b) at o))
    (λ b. rw (le-ltb (index (get_or r iptr_reg 0)) (length mem) b, and-false (fetches r)))

module _ (m : Machine) (mem j : List ℕ) (h : length m.regs ≡ registers) (sized : size_bad mem j ≡ false) (framed : bad_journal m j ≡ false)
    (runs : is_halted m.regs ≡ false) (busy : is_idle m.regs ≡ false) where
  abbrev iptr : ℕ
  iptr = get_or m.regs iptr_reg 0

  pub step-fetch : (a : ℕ) → (refusal_of (rules.step m mem j) ≡ (outside, kind_fetch, a)) ↔ ((fetch_outside m.regs mem ≡ true) × (a ≡ iptr))
  step-fetch a = (
    (λ e. go (is_unlisted m.regs mem) (fetch_outside m.regs mem) (eqb o.0 kind_load) (eqb o.0 kind_store) (stops m.regs mem) (full (step_pairs m.regs mem) m j) (sym first ∙ e)),
    λ e. first ∙ rw (unlisted-inside m.regs mem e.0, e.0, e.1),
  )
    where
      o : Access
      o = step_outside m.regs mem

      first : refusal_of (rules.step m mem j)
          ≡ later_refusal (is_unlisted m.regs mem) (fetch_outside m.regs mem) (eqb o.0 kind_load) (eqb o.0 kind_store) (stops m.regs mem) (full (step_pairs m.regs mem) m j) iptr o.1
      first = step-later m mem j h sized framed runs busy

      number : Refusal → ℕ
      number t = t.0

      part : Refusal → ℕ
      part t = t.1

      go : (u f l s p q : Bool) → later_refusal u f l s p q iptr o.1 ≡ (outside, kind_fetch, a) → (f ≡ true) × (a ≡ iptr)
      go true f l s p q e = absurd (omega (arith, ap number e))
      go false true l s p q e = (refl, sym (ap (λ (t : Refusal). t.2) e))
      go false false true s p q e = absurd (omega (arith, ap part e))
      go false false false true p q e = absurd (omega (arith, ap part e))
      go false false false false true q e = absurd (omega (arith, ap number e))
      go false false false false false true e = absurd (omega (arith, ap number e))
      go false false false false false false e = absurd (omega (arith, ap number e))
