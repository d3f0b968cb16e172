-- The effect of a commit: from the tests and results of the code, with the end of its record, and as the outcome of a call.
use Rattle.std.specs.Prelude.{Ok, Err}
use mathlib.Core.Path.{◌≡◌, refl, sym, ap, subst, ◌∙◌}
use mathlib.Core.List.{List, [], ◌∷◌, ◌++◌}
use Prim.Native.Nat.{ℕ, ◌+◌, ◌*◌, ◌≤◌, ◌<◌}
use native.Mathlib.Omega.{arith}
use lib.ListN.{length}
use lib.Seq.{sets}
use Rattle.rules.specs.Memory.{Store, stores, touched}
use Rattle.rules.specs.Journal.{record_length, olds, record_of}
use Rattle.rules.specs.Work.{Work}
use Rattle.rules.specs.Calls.{Outcome, refused_at, accepted, machine_of, recorded, commit_or_refuse}
use Rattle.rules.specs.declared.Machine.{Machine}
use Rattle.rules.proofs.Tests.{yes_eq, no_eq, yes_lt, no_lt, cases_eq, cases_lt}
use Rattle.laws.specs.Answers.{Known}
use Rattle.laws.proofs.Fine.{proper-refuse}
use Rattle.journal_record.proofs.Written.{record_written}
use Rattle.plan.specs.declared.Refusal.{Refusal}
use Rattle.journal.specs.Effect.{Effect, refused_with, committed}

-- number, part and address of a refusal are those of an answer
abbrev KnownOf : Refusal → Type 0
KnownOf r = Known r.number r.kind r.address

module _ (words : List ℕ → List ℕ) (used : ℕ) (mem j : List ℕ) (number part address : ℕ) (ss : List Store) where
  abbrev ks : List ℕ
  ks = touched (length mem) ss

  abbrev done : Effect
  done = record { result = Ok (length ks); memory = stores mem ss; journal = sets j used (words ks) }

  -- ---- by the tests of the code
  pub committed-refused : (number ≡ 0 → ⊥) → refused_with number part address mem j ≡ committed words used mem j number part address ss
  unfolding committed
  committed-refused h = rw (no_eq h)

  pub committed-full : number ≡ 0 → length j < used + record_length (length ks) → refused_with 12 0 0 mem j ≡ committed words used mem j number part address ss
  unfolding committed
  committed-full h l = rw (yes_eq h, yes_lt l)

  pub committed-done : number ≡ 0 → used + record_length (length ks) ≤ length j → done ≡ committed words used mem j number part address ss
  unfolding committed
  committed-done h l = rw (yes_eq h, no_lt l)

  -- ---- by the result: refused for one of two reasons, or done
  module _ (x : Effect) (e : x ≡ committed words used mem j number part address ss) where
    by_case :
        {P : Type 0}
        → ((number ≡ 0 → ⊥) → x ≡ refused_with number part address mem j → P)
        → (number ≡ 0 → length j < used + record_length (length ks) → x ≡ refused_with 12 0 0 mem j → P)
        → (number ≡ 0 → used + record_length (length ks) ≤ length j → x ≡ done → P)
        → P
    by_case f g h =
        cases_eq number 0
        (λ z. cases_lt (length j) (used + record_length (length ks))
        (λ l. g z l (e ∙ sym (committed-full z l)))
        (λ l. h z l (e ∙ sym (committed-done z l))))
        (λ z. f z (e ∙ sym (committed-refused z)))

    if_err :
        {P : Type 0} (r : Refusal)
        → x.result ≡ Err r
        → ((number ≡ 0 → ⊥) → r ≡ record { number = number; kind = part; address = address } → x ≡ refused_with number part address mem j → P)
        → (number ≡ 0 → length j < used + record_length (length ks) → r ≡ record { number = 12; kind = 0; address = 0 } → x ≡ refused_with 12 0 0 mem j → P)
        → P
    if_err r n f g =
        by_case
        (λ z q. f z (cc (ap (λ (y : Effect). y.result) q)) q)
        (λ z l q. g z l (cc (ap (λ (y : Effect). y.result) q)) q)
        (λ z l q. absurd (cc (ap (λ (y : Effect). y.result) q)))

    if_ok :
        {P : Type 0} (n : ℕ)
        → x.result ≡ Ok n
        → (number ≡ 0 → used + record_length (length ks) ≤ length j → n ≡ length ks → x ≡ done → P)
        → P
    if_ok n k h =
        by_case
        (λ z q. absurd (cc (ap (λ (y : Effect). y.result) q)))
        (λ z l q. absurd (cc (ap (λ (y : Effect). y.result) q)))
        (λ z l q. h z l (cc (ap (λ (y : Effect). y.result) q)) q)

    pub told-known : (r : Refusal) → x.result ≡ Err r → Known number part address → Known r.number r.kind r.address
    told-known r n k =
        if_err r n
        (λ z p q. subst KnownOf (sym p) k)
        (λ z l p q. subst KnownOf (sym p) (record { most = omega arith; proper = proper-refuse 12 (λ i. omega (arith, i)) }))

-- ---- the end of the record
module _ (old : List ℕ) (used : ℕ) (mem j : List ℕ) (number part address : ℕ) (ss : List Store) (x : Effect)
    (e : x ≡ committed (olds mem) used mem j number part address ss) where
  abbrev whole : Effect
  whole = committed (record_of mem old) used mem j number part address ss

  pub ended-refused : (r : Refusal) → x.result ≡ Err r → x ≡ whole
  ended-refused r n =
      if_err (olds mem) used mem j number part address ss x e r n
      (λ z p q. q ∙ committed-refused (record_of mem old) used mem j number part address ss z)
      (λ z l p q. q ∙ committed-full (record_of mem old) used mem j number part address ss z l)

  pub ended-done :
      (n : ℕ)
      → x.result ≡ Ok n
      → record { result = Ok n; memory = x.memory; journal = sets x.journal (used + 2 * n) (old ++ (n ∷ [])) } ≡ whole
  ended-done n k =
      if_ok (olds mem) used mem j number part address ss x e n k
      (λ z l p q.
      rw (q, p, record_written j mem old (touched (length mem) ss) used (length (touched (length mem) ss)) refl)
      (committed-done (record_of mem old) used mem j number part address ss z l))

-- ---- the outcome of a call
module _ (m : Machine) (mem j : List ℕ) (byte : ℕ) (w : Work) (x : Effect)
    (e : x ≡ committed (record_of mem m.regs) m.used mem j w.answer w.kind w.address w.stored) where
  abbrev whole-call : Outcome
  whole-call = commit_or_refuse m mem j byte w

  pub call-refused : (r : Refusal) → x.result ≡ Err r → refused_at r.number r.kind r.address m x.memory x.journal ≡ whole-call
  unfolding commit_or_refuse recorded
  call-refused r n =
      if_err (record_of mem m.regs) m.used mem j w.answer w.kind w.address w.stored x e r n
      (λ z p q. rw (q, p, no_eq z))
      (λ z l p q. rw (q, p, yes_eq z, yes_lt l))

  pub call-done :
      (n : ℕ)
      → x.result ≡ Ok n
      → accepted byte (machine_of w.regs (m.depth + 1) (m.used + record_length n)) x.memory x.journal ≡ whole-call
  unfolding commit_or_refuse recorded
  call-done n k =
      if_ok (record_of mem m.regs) m.used mem j w.answer w.kind w.address w.stored x e n k
      (λ z l p q. rw (q, p, yes_eq z, no_lt l))
