-- The eight calls keep the lengths of registers, memory and journal; a refused call changes nothing; clear, undo and fresh write no journal word.
use mathlib.Core.Path.{◌≡◌, refl, ◌∙◌}
use mathlib.Core.Bool.{Bool, true, false, ◌||◌}
use mathlib.Core.List.{List, [], ◌∷◌}
use Prim.Native.Nat.{ℕ, zero, suc, ◌+◌, ◌-◌, ◌*◌, ◌≤◌}
use native.Mathlib.Omega.{arith}
use borrow.Author.Tests.{ltb-false}
use lib.Dec.{ltb}
use lib.ListN.{length, drop, set, length-set, length-drop}
use lib.Seq.{length-sets, length-take-le}
use Rattle.rules.specs.Tests.{pick, if_lt}
use Rattle.rules.specs.Registers.{registers}
use Rattle.rules.specs.Memory.{touched}
use Rattle.rules.specs.Work.{Work, outside}
use Rattle.rules.specs.Journal.{record_length, record_of, bounds_bad, last_pairs, last_start, last_regs, pairs_at, write_back, strays}
use Rattle.rules.specs.Calls.{Outcome, refused, accepted, machine_of, size_bad, recorded, commit_or_refuse, checked, step, tick, take, give, event, undone, undo_last, undo, clear, fresh_regs, fresh_memory, code_bad, no_machine, fresh}
use Rattle.rules.specs.declared.Machine.{Machine}
use Rattle.rules.proofs.Tests.{on-pick, on_lt, on_eq}
use Rattle.laws.specs.Answers.{Known}
use Rattle.laws.specs.Calls.{Kept, Refusing, Unwritten}
use Rattle.laws.proofs.Fine.{Fine, fine-begin, proper-refuse, turns-known}
use Rattle.laws.proofs.FineLinks.{fine-tick, fine-take, fine-give, fine-event}
use Rattle.laws.proofs.FineStep.{fine-step}
use Rattle.laws.proofs.Stores.{length-stores}

-- ---- a refused call changes nothing

module _ (m : Machine) (mem j : List ℕ) where
  refusing : (n : ℕ) → Refusing m mem j (refused n m mem j)
  refusing n = record { same = λ h. refl }

  accepting : (b : ℕ) (after : Machine) (mem' j' : List ℕ) → Refusing m mem j (accepted b after mem' j')
  accepting b after mem' j' = record { same = λ h. absurd (h refl) }

  refusing-recorded : (b : ℕ) (regs ks after : List ℕ) → Refusing m mem j (recorded m mem j b regs ks after)
  unfolding recorded
  refusing-recorded b regs ks after = on_lt (Refusing m mem j) _ _ (refusing 12) (accepting b _ _ _)

  refusing_settled : (b : ℕ) (w : Work) → Refusing m mem j (commit_or_refuse m mem j b w)
  unfolding commit_or_refuse
  refusing_settled b w = on_eq (Refusing m mem j) _ _ (refusing-recorded b _ _ _) (record { same = λ h. refl })

  refusing-checked : (bad : Bool) (o : Outcome) → Refusing m mem j o → Refusing m mem j (checked bad m mem j o)
  unfolding checked
  refusing-checked bad o r =
      on-pick (Refusing m mem j) (size_bad mem j) (refusing 1)
      (on-pick (Refusing m mem j) bad (refusing 3)
      (on-pick (Refusing m mem j) (bounds_bad (length j) m.depth m.used) (refusing 4) r))

  pub refused-step : Refusing m mem j (step m mem j)
  unfolding step
  refused-step = refusing-checked _ _ (refusing_settled _ _)

  pub refused-tick : Refusing m mem j (tick m mem j)
  unfolding tick
  refused-tick = refusing-checked _ _ (refusing_settled _ _)

  pub refused-take : (c : ℕ) → Refusing m mem j (take c m mem j)
  unfolding take
  refused-take c = refusing-checked _ _ (refusing_settled _ _)

  pub refused-give : (c byte : ℕ) → Refusing m mem j (give c byte m mem j)
  unfolding give
  refused-give c byte = refusing-checked _ _ (refusing_settled _ _)

  pub refused-event : Refusing m mem j (event m mem j)
  unfolding event
  refused-event = refusing-checked _ _ (refusing_settled _ _)

  refusing-undone : (pairs : List (ℕ × ℕ)) → Refusing m mem j (undone m mem j pairs)
  unfolding undone
  refusing-undone pairs = on-pick (Refusing m mem j) (strays (length mem) pairs) (refusing 4) (accepting 0 _ _ _)

  refusing-undo_last : Refusing m mem j (undo_last m mem j)
  unfolding undo_last
  refusing-undo_last = on_lt (Refusing m mem j) _ _ (refusing 4) (refusing-undone _)

  pub refused-undo : Refusing m mem j (undo m mem j)
  unfolding undo
  refused-undo = refusing-checked _ _ (on_eq (Refusing m mem j) _ _ (refusing 5) refusing-undo_last)

  pub refused-clear : Refusing m mem j (clear m mem j)
  unfolding clear
  refused-clear = on-pick (Refusing m mem j) (size_bad mem j) (refusing 1) (accepting 0 _ _ _)

-- fresh: the machine is then all 0
pub refused-fresh : (code mem j : List ℕ) → Refusing no_machine mem j (fresh code mem j)
unfolding fresh
refused-fresh code mem j =
    on-pick (Refusing no_machine mem j) (size_bad mem j) (refusing no_machine mem j 1)
    (on-pick (Refusing no_machine mem j) (code_bad (length mem) (length code)) (refusing no_machine mem j 2) (accepting no_machine mem j 0 _ _ _))

-- ---- clear, undo and fresh write no journal word

module _ (m : Machine) (mem j : List ℕ) where
  unwritten : (n b : ℕ) (after : Machine) (mem' : List ℕ) → Unwritten j (record { answer = n; part = 0; address = 0; byte = b; machine = after; memory = mem'; journal = j })
  unwritten n b after mem' = record { journal = refl }

  pub unwritten-clear : Unwritten j (clear m mem j)
  unfolding clear
  unwritten-clear = on-pick (Unwritten j) (size_bad mem j) (unwritten 1 0 m mem) (unwritten 0 0 _ _)

  unwritten-undo_last : Unwritten j (undo_last m mem j)
  unfolding undo_last undone
  unwritten-undo_last =
      on_lt (Unwritten j) _ _ (unwritten 4 0 m mem)
      (on-pick (Unwritten j) (strays (length mem) (pairs_at j (last_start j m.used) (last_pairs j m.used))) (unwritten 4 0 m mem) (unwritten 0 0 _ _))

  pub unwritten-undo : Unwritten j (undo m mem j)
  unfolding undo checked
  unwritten-undo =
      on-pick (Unwritten j) (size_bad mem j) (unwritten 1 0 m mem)
      (on-pick (Unwritten j) (bounds_bad (length j) m.depth m.used) (unwritten 4 0 m mem)
      (on_eq (Unwritten j) _ _ (unwritten 5 0 m mem) unwritten-undo_last))

pub unwritten-fresh : (code mem j : List ℕ) → Unwritten j (fresh code mem j)
unfolding fresh
unwritten-fresh code mem j =
    on-pick (Unwritten j) (size_bad mem j) (unwritten no_machine mem j 1 0 no_machine mem)
    (on-pick (Unwritten j) (code_bad (length mem) (length code)) (unwritten no_machine mem j 2 0 no_machine mem) (unwritten no_machine mem j 0 0 _ _))

-- ---- lengths

length-write_back : (m : List ℕ) (ps : List (ℕ × ℕ)) → length (write_back m ps) ≡ length m
unfolding write_back
length-write_back m [] = refl
length-write_back m (p ∷ ps) = length-write_back (set m p.0 p.1) ps ∙ length-set m p.0 p.1

pub length-fresh_memory : (code : List ℕ) (i n : ℕ) → length (fresh_memory code i n) ≡ n
unfolding fresh_memory
length-fresh_memory code i zero = refl
length-fresh_memory code i (suc n) = omega (arith, length-fresh_memory code (i + 1) n)

pub length-fresh_regs : (n : ℕ) → length (fresh_regs n) ≡ registers
unfolding fresh_regs
length-fresh_regs n = refl

-- the last record's registers, where it is in the journal
pub length-last_regs : (j : List ℕ) (used : ℕ) → used ≤ length j → record_length 0 ≤ used → length (last_regs j used) ≡ registers
unfolding last_regs
length-last_regs j used u l = length-take-le registers (drop (used - record_length 0) j) (simp length-drop (omega arith))

bounds-within : (size depth used : ℕ) → bounds_bad size depth used ≡ false → used ≤ size
unfolding bounds_bad
bounds-within size depth used e = go (ltb size used) refl e
  where
    go : (t : Bool) → ltb size used ≡ t → (t || ltb used (record_length 0 * depth)) ≡ false → used ≤ size
    go true h q = absurd (let z : ◌≡◌ {A = ℕ} 0 1 = cc in omega arith)
    go false h q = ltb-false size used h

-- an answer without an access
plain : (n : ℕ) → (n ≤ 12) × (n ≡ outside → ⊥) → Known n 0 0
plain n q = record { most = q.0; proper = proper-refuse n q.1 }

module _ (m : Machine) (mem j : List ℕ) (h : length m.regs ≡ registers) where
  kept-refused : (n : ℕ) → (n ≤ 12) × (n ≡ outside → ⊥) → Kept mem j (refused n m mem j)
  kept-refused n q = record { count = h; memory = refl; journal = refl; known = plain n q }

  kept_settled : (b : ℕ) (w : Work) → Fine Known w → Kept mem j (commit_or_refuse m mem j b w)
  unfolding commit_or_refuse recorded
  kept_settled b w f =
      on_eq (Kept mem j) _ _
      (on_lt (Kept mem j) _ _ (kept-refused 12 (omega arith))
      (record {
        count = f.ordinary.0;
        memory = length-stores mem w.stored;
        journal = length-sets j m.used (record_of mem m.regs (touched (length mem) w.stored));
        known = plain 0 (omega arith);
      }))
      (record { count = h; memory = refl; journal = refl; known = f.known })

  -- what stands behind the checks may use that they passed
  kept-checked : (bad : Bool) (o : Outcome) → (m.used ≤ length j → Kept mem j o) → Kept mem j (checked bad m mem j o)
  unfolding checked
  kept-checked bad o k =
      on-pick (Kept mem j) (size_bad mem j) (kept-refused 1 (omega arith))
      (on-pick (Kept mem j) bad (kept-refused 3 (omega arith)) (go (bounds_bad (length j) m.depth m.used) refl))
    where
      go : (t : Bool) → bounds_bad (length j) m.depth m.used ≡ t → Kept mem j (pick t (refused 4 m mem j) o)
      go true e = kept-refused 4 (omega arith)
      go false e = k (bounds-within (length j) m.depth m.used e)

  pub kept_step : Kept mem j (step m mem j)
  unfolding step
  kept_step = kept-checked _ _ (λ u. kept_settled _ _ (fine-step mem (turns-known _ (omega arith)) (turns-known _ (omega arith)) (turns-known _ (omega arith)) (turns-known _ (omega arith)) (turns-known _ (omega arith)) (fine-begin m.regs h)))

  pub kept-tick : Kept mem j (tick m mem j)
  unfolding tick
  kept-tick = kept-checked _ _ (λ u. kept_settled _ _ (fine-tick (fine-begin m.regs h)))

  pub kept-take : (c : ℕ) → Kept mem j (take c m mem j)
  unfolding take
  kept-take c = kept-checked _ _ (λ u. kept_settled _ _ (fine-take mem c (turns-known _ (omega arith)) (fine-begin m.regs h)))

  pub kept-give : (c byte : ℕ) → Kept mem j (give c byte m mem j)
  unfolding give
  kept-give c byte = kept-checked _ _ (λ u. kept_settled _ _ (fine-give mem c byte (turns-known _ (omega arith)) (fine-begin m.regs h)))

  pub kept-event : Kept mem j (event m mem j)
  unfolding event
  kept-event = kept-checked _ _ (λ u. kept_settled _ _ (fine-event (turns-known _ (omega arith)) (fine-begin m.regs h)))

  kept-undo_last : m.used ≤ length j → Kept mem j (undo_last m mem j)
  unfolding undo_last undone if_lt
  kept-undo_last u = go (ltb m.used (record_length (last_pairs j m.used))) refl
    where
      ps : List (ℕ × ℕ)
      ps = pairs_at j (last_start j m.used) (last_pairs j m.used)

      go : (t : Bool) → ltb m.used (record_length (last_pairs j m.used)) ≡ t
          → Kept mem j (pick t (refused 4 m mem j) (pick (strays (length mem) ps) (refused 4 m mem j) (accepted 0 (machine_of (last_regs j m.used) (m.depth - 1) (last_start j m.used)) (write_back mem ps) j)))
      go true e = kept-refused 4 (omega arith)
      go false e =
          on-pick (Kept mem j) (strays (length mem) ps) (kept-refused 4 (omega arith))
          (record {
            count = length-last_regs j m.used u (omega (arith, ltb-false m.used (record_length (last_pairs j m.used)) e));
            memory = length-write_back mem ps;
            journal = refl;
            known = plain 0 (omega arith);
          })

  pub kept-undo : Kept mem j (undo m mem j)
  unfolding undo
  kept-undo = kept-checked _ _ (λ u. on_eq (Kept mem j) _ _ (kept-refused 5 (omega arith)) (kept-undo_last u))

  pub kept-clear : Kept mem j (clear m mem j)
  unfolding clear
  kept-clear =
      on-pick (Kept mem j) (size_bad mem j) (kept-refused 1 (omega arith))
      (record { count = h; memory = refl; journal = refl; known = plain 0 (omega arith) })

pub kept_fresh : (code mem j : List ℕ) → Kept mem j (fresh code mem j)
unfolding fresh
kept_fresh code mem j =
    on-pick (Kept mem j) (size_bad mem j) (kept-refused no_machine mem j refl 1 (omega arith))
    (on-pick (Kept mem j) (code_bad (length mem) (length code)) (kept-refused no_machine mem j refl 2 (omega arith))
    (record {
      count = length-fresh_regs (length code);
      memory = length-fresh_memory code 0 (length mem);
      journal = refl;
      known = plain 0 (omega arith);
    }))
