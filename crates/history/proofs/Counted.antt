-- Depth and used after an accepted call: a step, tick, take, give or event adds one to depth, and to used the length of its record, 46 words and two
-- for each memory word stored to; an undo takes one from depth, and the last record's length from used; after fresh and clear both are 0.
use mathlib.Core.Path.{◌≡◌, refl, sym, subst}
use mathlib.Core.Bool.{Bool}
use mathlib.Core.List.{List}
use Prim.Native.Nat.{ℕ, ◌+◌, ◌-◌}
use native.Mathlib.Omega.{arith}
use lib.ListN.{length}
use Rattle.rules.specs.Memory.{touched}
use Rattle.rules.specs.Work.{Work}
use Rattle.rules.specs.Journal.{record_length, bounds_bad, last_pairs, last_start, pairs_at, strays}
use Rattle.rules.specs.Calls.{Outcome, outcome_of, size_bad, code_bad, recorded, commit_or_refuse, checked, undone, undo_last}
use Rattle.rules.specs.Calls as rules
use Rattle.rules.specs.declared.Machine.{Machine}
use Rattle.rules.specs.declared.Reply.{Reply}
use Rattle.rules.proofs.Tests.{yes_eq, no_eq, cases_eq, on-pick, on_lt, on_eq}
use Rattle.history.specs.T414.{step, tick, take, give, event}
use Rattle.history.specs.CallContracts.{FreshContract, StepContract, TickContract, TakeContract, GiveContract, EventContract, UndoContract, ClearContract, number}
use Rattle.history.specs.Counted.{Counted, one_more, one_less, no_record}

-- an accepted outcome has this depth and this used
pub record Counts (depth used : ℕ) (o : Outcome) : Type 0 where
  pub counts : o.answer ≡ 0 → (o.machine.depth ≡ depth) × (o.machine.used ≡ used)

module _ (d u : ℕ) where
  counts-refused_at : (n part address : ℕ) → (n ≡ 0 → ⊥) → (m : Machine) (mem j : List ℕ) → Counts d u (rules.refused_at n part address m mem j)
  counts-refused_at n part address h m mem j = record { counts = λ e. absurd (h e) }

  counts-refused : (n : ℕ) → (n ≡ 0 → ⊥) → (m : Machine) (mem j : List ℕ) → Counts d u (rules.refused n m mem j)
  counts-refused n h m mem j = counts-refused_at n 0 0 h m mem j

  counts-checked : (bad : Bool) (m : Machine) (mem j : List ℕ) (o : Outcome) → Counts d u o → Counts d u (checked bad m mem j o)
  unfolding checked
  counts-checked bad m mem j o h =
      on-pick (Counts d u) (size_bad mem j) (counts-refused 1 (λ e. omega (arith, e)) m mem j)
      (on-pick (Counts d u) bad (counts-refused 3 (λ e. omega (arith, e)) m mem j)
      (on-pick (Counts d u) (bounds_bad (length j) m.depth m.used) (counts-refused 4 (λ e. omega (arith, e)) m mem j) h))

module _ (m : Machine) (mem j : List ℕ) where
  -- one record more
  abbrev pub Adds : Work → Outcome → Type 0
  Adds w o = Counts (m.depth + 1) (m.used + record_length (length (touched (length mem) w.stored))) o

  counts_settled : (byte : ℕ) (w : Work) → Adds w (commit_or_refuse m mem j byte w)
  unfolding commit_or_refuse recorded
  counts_settled byte w =
      cases_eq w.answer 0
      (λ e. rw (yes_eq e) (on_lt (Adds w) _ _ (counts-refused _ _ 12 (λ z. omega (arith, z)) m mem j) (record { counts = λ z. (refl, refl) })))
      (λ e. rw (no_eq e) (counts-refused_at _ _ w.answer w.kind w.address e m mem j))

  -- one record less
  abbrev pub Drops : Outcome → Type 0
  Drops o = Counts (m.depth - 1) (last_start j m.used) o

  counts-undo_last : Drops (undo_last m mem j)
  unfolding undo_last undone
  counts-undo_last =
      on_lt Drops _ _ (counts-refused _ _ 4 (λ z. omega (arith, z)) m mem j)
      (on-pick Drops (strays (length mem) (pairs_at j (last_start j m.used) (last_pairs j m.used))) (counts-refused _ _ 4 (λ z. omega (arith, z)) m mem j)
      (record { counts = λ z. (refl, refl) }))

-- ---- of the contracts

counted : (d u : ℕ) (o : Outcome) → Counts d u o → (r : Reply) (mem j : List ℕ) → outcome_of r mem j ≡ o → number r ≡ 0
    → (r.machine.depth ≡ d) × (r.machine.used ≡ u)
counted d u o c r mem j e z = (subst (λ (x : Outcome). Counts d u x) (sym e) c).counts z

module _ (m : Machine) where
  pub step_counted : Counted (StepContract m) (one_more step m)
  unfolding rules.step
  step_counted mem j r mem' j' e z = counted _ _ _ (counts-checked _ _ _ m mem j _ (counts_settled m mem j _ _)) r mem' j' e z

  pub tick_counted : Counted (TickContract m) (one_more tick m)
  unfolding rules.tick
  tick_counted mem j r mem' j' e z = counted _ _ _ (counts-checked _ _ _ m mem j _ (counts_settled m mem j _ _)) r mem' j' e z

  pub take_counted : (channel : ℕ) → Counted (TakeContract channel m) (one_more (take channel) m)
  unfolding rules.take
  take_counted channel mem j r mem' j' e z = counted _ _ _ (counts-checked _ _ _ m mem j _ (counts_settled m mem j _ _)) r mem' j' e z

  pub give_counted : (channel byte : ℕ) → Counted (GiveContract channel byte m) (one_more (give channel byte) m)
  unfolding rules.give
  give_counted channel byte mem j r mem' j' e z = counted _ _ _ (counts-checked _ _ _ m mem j _ (counts_settled m mem j _ _)) r mem' j' e z

  pub event_counted : Counted (EventContract m) (one_more event m)
  unfolding rules.event
  event_counted mem j r mem' j' e z = counted _ _ _ (counts-checked _ _ _ m mem j _ (counts_settled m mem j _ _)) r mem' j' e z

  pub undo_counted : Counted (UndoContract m) (one_less m)
  unfolding rules.undo
  undo_counted mem j r mem' j' e z =
      counted _ _ _ (counts-checked _ _ _ m mem j _ (on_eq (Drops m mem j) _ _ (counts-refused _ _ 5 (λ q. omega (arith, q)) m mem j) (counts-undo_last m mem j))) r mem' j' e z

  pub clear_counted : Counted (ClearContract m) no_record
  unfolding rules.clear
  clear_counted mem j r mem' j' e z =
      counted 0 0 _ (on-pick (Counts 0 0) (size_bad mem j) (counts-refused _ _ 1 (λ q. omega (arith, q)) m mem j) (record { counts = λ q. (refl, refl) })) r mem' j' e z

pub fresh_counted : (code : List ℕ) → Counted (FreshContract code) no_record
unfolding rules.fresh
fresh_counted code mem j r mem' j' e z =
    counted 0 0 _
    (on-pick (Counts 0 0) (size_bad mem j) (record { counts = λ q. (refl, refl) })
    (on-pick (Counts 0 0) (code_bad (length mem) (length code)) (record { counts = λ q. (refl, refl) }) (record { counts = λ q. (refl, refl) })))
    r
    mem'
    j'
    e
    z
