-- Number, part and address determine the answer, and the outcome of a call determines its reply, memory and journal: no second answer meets a contract that
-- is an equation of outcomes (01, What the contracts have to say).
use mathlib.Core.Path.{◌≡◌, refl, sym, ap, ◌∙◌}
use mathlib.Core.Bool.{Bool, true, false}
use mathlib.Core.List.{List, [], ◌∷◌}
use Prim.Native.Nat.{ℕ, suc, ◌+◌, ◌≤◌, ◌<◌}
use native.Mathlib.Omega.{arith}
use borrow.Author.Tests.{eqb-true, eqb-false}
use lib.Dec.{eqb}
use lib.ListN.{length}
use Rattle.rules.specs.Tests.{pick, if_lt, if_eq, look}
use Rattle.rules.specs.Work.{outside, kind_fetch, kind_load}
use Rattle.rules.specs.Calls.{numbered, Outcome, outcome_of}
use Rattle.rules.specs.declared.Reply.{Reply}
use Rattle.rules.specs.declared.Answer.{Answer}
use Rattle.rules.specs.declared.Answer.TheVariants.{Done, Size, CodeSize, BadChannel, JournalBad, NothingToUndo, Halted, Idle, NotReady, Unlisted, OutsideFetch, OutsideLoad, OutsideStore, Stop, JournalFull}
use Rattle.rules.proofs.Tests.{yes_lt, no_lt, yes_eq, no_eq, cases_lt, cases_eq}
use Rattle.laws.specs.Answers.{low_answers, outside_answer, high_answers, answer_of, Known}

-- ---- number, part and address determine the answer

-- the answer of a number, part and address
abbrev pub answer_for : ℕ × ℕ × ℕ → Answer
answer_for t = answer_of t.0 t.1 t.2

pub answer-number : (a : Answer) → answer_for (numbered a) ≡ a
unfolding answer_of numbered if_lt if_eq
answer-number Done = refl
answer-number Size = refl
answer-number CodeSize = refl
answer-number BadChannel = refl
answer-number JournalBad = refl
answer-number NothingToUndo = refl
answer-number Halted = refl
answer-number Idle = refl
answer-number NotReady = refl
answer-number Unlisted = refl
answer-number (OutsideFetch a) = refl
answer-number (OutsideLoad a) = refl
answer-number (OutsideStore a) = refl
answer-number Stop = refl
answer-number JournalFull = refl

-- a table that counts from c on, of answers without an access
abbrev Counts : ℕ → List (ℕ × Answer) → Type 0
Counts c [] = Unit {0}
Counts c (e ∷ t) = (e.0 ≡ c) × (numbered e.1 ≡ (c, 0, 0)) × Counts (suc c) t

look-counts : (c : ℕ) (t : List (ℕ × Answer)) → Counts c t → (n : ℕ) → c ≤ n → n < c + length t → numbered (look t n Done) ≡ (n, 0, 0)
look-counts c [] k n l u = absurd (omega arith)
look-counts c (e ∷ t) k n l u = go (eqb n e.0) refl (λ q. look-counts (suc c) t k.2 n q (omega arith))
  where
    go : (b : Bool) → eqb n e.0 ≡ b → (suc c ≤ n → numbered (look t n Done) ≡ (n, 0, 0)) → numbered (pick b e.1 (look t n Done)) ≡ (n, 0, 0)
    go true h f = k.1 ∙ ap (λ (i : ℕ). (i, 0, 0)) (sym (eqb-true n e.0 h ∙ k.0))
    go false h f = f (omega (arith, eqb-false n e.0 h))

-- and each number of the table, with its part and address, is that of an answer
pub number-answer : (n part a : ℕ) → Known n part a → numbered (answer_of n part a) ≡ (n, part, a)
unfolding answer_of numbered
number-answer n part a k =
    cases_lt n outside
    (λ h. rw (yes_lt h) (first h ∙ bare (λ e. omega (arith, e, h))))
    (λ h. cases_eq n outside
    (λ e. rw (no_lt h, yes_eq e) (second e))
    (λ e. rw (no_lt h, no_eq e) (third (omega (arith, e, h)) ∙ bare e)))
  where
    bare : (n ≡ outside → ⊥) → ◌≡◌ {A = ℕ × ℕ × ℕ} (n, 0, 0) (n, part, a)
    bare e = let p = k.proper.bare e in rw (p.0, p.1)

    first : n < outside → numbered (look low_answers n Done) ≡ (n, 0, 0)
    first h =
        look-counts 0 low_answers
        (refl, refl, (refl, refl, (refl, refl, (refl, refl, (refl, refl, (refl, refl, (refl, refl, (refl, refl, (refl, refl, (refl, refl, tt))))))))))
        n
        (omega arith)
        h

    second : n ≡ outside → numbered (outside_answer part a) ≡ (n, part, a)
    second e =
        cases_eq part kind_fetch
        (λ f. rw (yes_eq f, e, f))
        (λ f. cases_eq part kind_load
        (λ l. rw (no_eq f, yes_eq l, e, l))
        (λ l. let p = k.proper.parts e in rw (no_eq f, no_eq l, e) (ap (λ (i : ℕ). (outside, i, a)) (omega (arith, p, f, l)))))

    third : outside < n → numbered (look high_answers n Done) ≡ (n, 0, 0)
    third h = look-counts 11 high_answers (refl, refl, (refl, refl, tt)) n (omega (arith, h)) (omega (arith, k.most))

pub one_answer : (a b : Answer) → numbered a ≡ numbered b → a ≡ b
one_answer a b e = sym (answer-number a) ∙ ap answer_for e ∙ answer-number b

-- ---- the outcome of a call determines its reply, memory and journal

same-reply : (r r' : Reply) → r.machine ≡ r'.machine → r.answer ≡ r'.answer → r.byte ≡ r'.byte → r ≡ r'
same-reply r r' p q s =
    let e : ◌≡◌ {A = Reply} (record { machine = r.machine; answer = r.answer; byte = r.byte }) (record { machine = r'.machine; answer = r'.answer; byte = r'.byte }) = cc in
    e

pub one_outcome : (r r' : Reply) (mem mem' j j' : List ℕ) (o : Outcome) → outcome_of r mem j ≡ o → outcome_of r' mem' j' ≡ o
    → (r ≡ r') × (mem ≡ mem') × (j ≡ j')
one_outcome r r' mem mem' j j' o a b =
    let e : outcome_of r mem j ≡ outcome_of r' mem' j' = a ∙ sym b in (
      same-reply r r' (ap (λ (x : Outcome). x.machine) e) (one_answer r.answer r'.answer (ap (λ (x : Outcome). (x.answer, x.part, x.address)) e)) (ap (λ (x : Outcome). x.byte) e),
      ap (λ (x : Outcome). x.memory) e,
      ap (λ (x : Outcome). x.journal) e,
    )
