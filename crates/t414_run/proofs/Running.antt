-- A turn of the program's loop, and its two ends, by the definitions.
use Rattle.std.proofs.Common.{ℕ, suc, ◌+◌, ◌-◌, ◌<◌, List, ◌≡◌, sym, ap, refl, ◌∙◌, arith, Option, Some, None, is_some, Bool, true, false, not, eqb}
use borrow.Author.Tests.{eqb-true, eq-eqb}
use Rattle.rules.specs.Calls.{numbered, outcome_of, fresh, step}
use Rattle.rules.specs.declared.Answer.{Answer}
use Rattle.rules.specs.declared.Answer.TheVariants.{Done, Size, CodeSize, BadChannel, JournalBad, NothingToUndo, Halted, Idle, NotReady, Unlisted, OutsideFetch, OutsideLoad, OutsideStore, Stop, JournalFull}
use Rattle.rules.specs.declared.Machine.{Machine}
use Rattle.rules.specs.declared.Reply.{Reply}
use Rattle.rules.specs.Tests.{pick}
use Rattle.rules.proofs.Tests.{yes_eq, no_eq}
use Rattle.program_io.specs.declared.answers.Refusal.{Refusal}
use Rattle.program_io.specs.Answers.{in_numbers, numbers_of}
use Rattle.t414_run.specs.Program.{run, program}

-- the numbers of an answer are those of its refusal
numbers-refusal : (a : Answer) → numbers_of (in_numbers (numbered a)) ≡ numbered a
unfolding numbered
numbers-refusal Done = refl
numbers-refusal Size = refl
numbers-refusal CodeSize = refl
numbers-refusal BadChannel = refl
numbers-refusal JournalBad = refl
numbers-refusal NothingToUndo = refl
numbers-refusal Halted = refl
numbers-refusal Idle = refl
numbers-refusal NotReady = refl
numbers-refusal Unlisted = refl
numbers-refusal (OutsideFetch a) = refl
numbers-refusal (OutsideLoad a) = refl
numbers-refusal (OutsideStore a) = refl
numbers-refusal Stop = refl
numbers-refusal JournalFull = refl

-- there is a refusal where the number is not 0
some-unless : {A : Type 0} (b c : Bool) (x y : A) → is_some (pick b None (pick c (Some x) (Some y))) ≡ not b
some-unless true c x y = refl
some-unless false true x y = refl
some-unless false false x y = refl

not-false : (b : Bool) → not b ≡ false → b ≡ true
not-false true e = refl
not-false false e = absurd (cc)

none-zero : (t : ℕ × ℕ × ℕ) → is_some (in_numbers t) ≡ false → t.0 ≡ 0
none-zero t e =
    let h : not (eqb t.0 0) ≡ false = sym (some-unless (eqb t.0 0) (eqb t.1 0) _ _) ∙ e in
    eqb-true t.0 0 (not-false (eqb t.0 0) h)

some-nonzero : (t : ℕ × ℕ × ℕ) → is_some (in_numbers t) ≡ true → t.0 ≡ 0 → ⊥
some-nonzero t e z =
    let h : not (eqb t.0 0) ≡ true = sym (some-unless (eqb t.0 0) (eqb t.1 0) _ _) ∙ e in
    let g : eqb t.0 0 ≡ true = eq-eqb t.0 0 z in cc

-- a step: from m, mem and j to the reply r and the lent words mem' and j'; k is the refusal of the answer
module _ (m : Machine) (mem j : List ℕ) (r : Reply) (mem' j' : List ℕ) (k : Option Refusal) (e : outcome_of r mem' j' ≡ step m mem j) (n : k ≡ in_numbers (numbered r.answer)) where
  pub run_on :
      (s : ℕ) → s < 100 → is_some k ≡ false → run (100 - (s + 1)) (s + 1) r.machine mem' j' ≡ run (100 - s) s m mem j
  unfolding run
  run_on s h z =
      let d : 100 - s ≡ suc (100 - (s + 1)) = omega arith in
      rw (d, ← e, yes_eq (none-zero (numbered r.answer) (ap is_some (sym n) ∙ z)))

  pub run_end :
      (s : ℕ) →
      s < 100 →
      is_some k ≡ true →
      record { machine = r.machine; steps = s; refusal = (numbers_of k).0; part = (numbers_of k).1; address = (numbers_of k).2; memory = mem'; journal = j' } ≡ run (100 - s) s m mem j
  unfolding run
  run_end s h z =
      let d : 100 - s ≡ suc (100 - (s + 1)) = omega arith in
      let o : numbers_of k ≡ numbered r.answer = ap numbers_of n ∙ numbers-refusal r.answer in
      rw (d, ← e, o, no_eq (some-nonzero (numbered r.answer) (ap is_some (sym n) ∙ z)))

pub run-full :
    (m : Machine) (mem j : List ℕ) (s : ℕ) →
    s ≡ 100 →
    record { machine = m; steps = 100; refusal = 0; part = 0; address = 0; memory = mem; journal = j } ≡ run (100 - s) s m mem j
unfolding run
run-full m mem j s h = let d : 100 - s ≡ 0 = omega arith in rw (d, h)

-- a fresh machine: from code, mem and j to the reply r and the lent words mem' and j'; k is the refusal of the answer
module _ (code mem j : List ℕ) (r : Reply) (mem' j' : List ℕ) (k : Option Refusal) (e : outcome_of r mem' j' ≡ fresh code mem j) (n : k ≡ in_numbers (numbered r.answer)) where
  pub program_on : is_some k ≡ false → run 100 0 r.machine mem' j' ≡ program code mem j
  unfolding program
  program_on z = rw (← e, yes_eq (none-zero (numbered r.answer) (ap is_some (sym n) ∙ z)))

  pub program-end :
      is_some k ≡ true →
      record { machine = r.machine; steps = 0; refusal = (numbers_of k).0; part = (numbers_of k).1; address = (numbers_of k).2; memory = mem'; journal = j' } ≡ program code mem j
  unfolding program
  program-end z =
      let o : numbers_of k ≡ numbered r.answer = ap numbers_of n ∙ numbers-refusal r.answer in
      rw (← e, o, no_eq (some-nonzero (numbered r.answer) (ap is_some (sym n) ∙ z)))
