-- The record of a common step, and the outcome of its commit.
use mathlib.Core.Path.{◌≡◌, refl, sym, ap, ◌∙◌}
use mathlib.Core.List.{List, [], ◌∷◌, ◌++◌}
use Prim.Native.Nat.{ℕ, zero, suc, ◌+◌, ◌-◌, ◌*◌, ◌^◌, ◌≤◌, ◌<◌, min}
use native.Mathlib.Omega.{arith}
use native.Mathlib.Nat.{add-zero}
use native.Mathlib.Numerals.{add-one}
use lib.ListN.{length, get_or, set, take, length-take}
use lib.Seq.{sets, sets-eq, drop-drop}
use Rattle.std.proofs.Common.{append_assoc}
use borrow.Rule.Slice.PartMut.{put_mid}
use Rattle.rules.specs.Registers.{with_core}
use Rattle.rules.specs.Memory.{Store, word, touched, stores}
use Rattle.rules.specs.Journal.{record_length, olds, record_of}
use Rattle.rules.specs.Work.{Work, begin}
use Rattle.rules.specs.Calls.{refused, recorded, commit_or_refuse}
use Rattle.rules.specs.declared.Machine.{Machine}
use Rattle.rules.proofs.Tests.{yes_lt, no_lt, yes_eq, cases_lt}
use Rattle.step_fast.specs.declared.FastStep.{FastStep}
use Rattle.step_fast.specs.Fast.{stores_of, fast_work}
use Rattle.laws.proofs.Stores.{sets-append}
use Rattle.laws.proofs.Single.{touched_none, touched-one, touched_past, stores_one, stores_past, stores_no}
use Rattle.journal_record.specs.Indices.{range}
use Rattle.journal_record.proofs.Sorting.{range_length}
use Rattle.journal_record.proofs.Outcomes.{commit-full}
use Rattle.laws.proofs.Touched.{length-olds}
use Rattle.journal_small.specs.Kept.{Kept, frame_stores}
use Rattle.journal_small.proofs.Frame.{touched-frame, made-frame}

-- ---- the words that a common step stores to

-- where the words touched are the n from word i on
pub kept : (m m₁ j j₁ : List ℕ) (at : ℕ) (made : List Store) (i n : ℕ) → n ≤ 4
    → touched (length m) made ≡ range i n → m₁ ≡ stores m made → j₁ ≡ sets j at (olds m (range i n)) → Kept m j at made n m₁ j₁
kept m m₁ j j₁ at made i n few t v p =
    record { few = few; number = rw t (range_length i n); pairs = rw t p; values = v }

pub kept-none : (m j : List ℕ) (at : ℕ) (made : List Store) → touched (length m) made ≡ [] → stores m made ≡ m → Kept m j at made 0 m j
unfolding olds
kept-none m j at made t v = kept m m j j at made 0 0 (omega arith) t (sym v) refl

pub kept-nothing : (m j : List ℕ) (at : ℕ) → Kept m j at [] 0 m j
kept-nothing m j at = kept-none m j at [] (touched_none (length m)) (stores_no m)

pub kept-one : (m j j₁ : List ℕ) (at i v : ℕ) → i < length m → j₁ ≡ sets j at (i ∷ get_or m i 0 ∷ []) → Kept m j at (word i v ∷ []) 1 (set m i v) j₁
unfolding olds
kept-one m j j₁ at i v h p =
    kept m (set m i v) j j₁ at (word i v ∷ []) i 1 (omega arith) (touched-one (length m) i v h) (sym (stores_one m i v)) p

pub kept-past : (m j : List ℕ) (at i v : ℕ) → length m ≤ i → Kept m j at (word i v ∷ []) 0 m j
kept-past m j at i v h = kept-none m j at (word i v ∷ []) (touched_past (length m) i v h) (stores_past m i v h)

-- a copy to the words from word i on
pub copied : (m vs ys : List ℕ) (i n k l : ℕ) → k ≡ n → l ≡ n → n ≤ length vs → i + n ≤ length m → ys ≡ take l vs → put_mid i k m ys ≡ sets m i (take n vs)
copied m vs ys i n k l e f h g p =
    let t : length (take n vs) ≡ n = omega (arith, length-take n vs) in
    rw (e, p, f, sets-eq (take n vs) m i (omega arith), t, drop-drop, append_assoc)

-- the four words of a frame
pub four-words : (f : List ℕ) → length f ≡ 4 → f ≡ get_or f 0 0 ∷ get_or f 1 0 ∷ get_or f 2 0 ∷ get_or f 3 0 ∷ []
four-words [] h = absurd (omega arith)
four-words (v ∷ []) h = absurd (omega arith)
four-words (v ∷ a ∷ []) h = absurd (omega arith)
four-words (v ∷ a ∷ b ∷ []) h = absurd (omega arith)
four-words (v ∷ a ∷ b ∷ c ∷ []) h = refl
four-words (v ∷ a ∷ b ∷ c ∷ d ∷ f) h = absurd (omega arith)

module _ (m j : List ℕ) (at i : ℕ) (f : List ℕ) where
  pub kept-frame : (m₁ j₁ : List ℕ) (n : ℕ) → length f ≡ 4 → i < 2 ^ 32 - 3 → n ≡ min 4 (length m - i)
      → m₁ ≡ sets m i (take n f) → j₁ ≡ sets j at (olds m (range i n)) → Kept m j at (frame_stores i f) n m₁ j₁
  kept-frame m₁ j₁ n l g e v p =
      let made = made-frame m i (get_or f 0 0) (get_or f 1 0) (get_or f 2 0) (get_or f 3 0) n e in
      rw (yes_lt g)
      (kept m m₁ j j₁ at _ i n (omega arith) (touched-frame (length m) i _ _ _ _ n e) (v ∙ (rw (← four-words f l) at made)) p)

  pub no-frame : 2 ^ 32 - 3 ≤ i → Kept m j at (frame_stores i f) 0 m j
  no-frame g = rw (no_lt g) (kept-nothing m j at)

  pub frame-past : length f ≡ 4 → length m ≤ i → Kept m j at (frame_stores i f) 0 m j
  unfolding olds
  frame-past l h =
      cases_lt i (2 ^ 32 - 3)
      (λ g. kept-frame m j 0 l g (omega arith) refl refl)
      no-frame

-- ---- the words written

olds_last : (m : List ℕ) (k i : ℕ) → olds m (range i (suc k)) ≡ olds m (range i k) ++ ((i + k) ∷ get_or m (i + k) 0 ∷ [])
unfolding olds
olds_last m zero i = rw (add-zero i)
olds_last m (suc k) i =
    let e : i + 1 + k ≡ i + suc k = omega arith in
    ap (λ (r : List ℕ). i ∷ get_or m i 0 ∷ r) (rw e at (olds_last m k (i + 1)))

-- one pair more
pub pairs-more :
    (j j₁ j₂ m : List ℕ) (i at k : ℕ)
    → j₁ ≡ sets j at (olds m (range i k))
    → j₂ ≡ sets j₁ (at + 2 * k) ((i + k) ∷ get_or m (i + k) 0 ∷ [])
    → j₂ ≡ sets j at (olds m (range i (k + 1)))
pairs-more j j₁ j₂ m i at k f g =
    let l : at + length (olds m (range i k)) ≡ at + 2 * k = omega (arith, length-olds m (range i k), range_length i k) in
    rw (add-one k, olds_last m k i, sets-append j at (olds m (range i k)) ((i + k) ∷ get_or m (i + k) 0 ∷ []), l, ← f) g

-- ---- the outcome of a common step

pub common_outcome :
    (m : Machine) (mem j : List ℕ) (t : FastStep)
    → recorded m mem j 0 (with_core t.core m.regs) (touched (length mem) (stores_of m.regs t)) (stores mem (stores_of m.regs t)) ≡ commit_or_refuse m mem j 0 (fast_work m.regs t)
unfolding commit_or_refuse
common_outcome m mem j t = rw (yes_eq {a = 0} {b = 0} refl)

pub none_written : (j mem regs : List ℕ) (at : ℕ) → sets j at (regs ++ (0 ∷ [])) ≡ sets j at (record_of mem regs [])
unfolding record_of olds
none_written j mem regs at = refl

pub regs_outcome : (m : Machine) (mem j regs : List ℕ) → recorded m mem j 0 regs [] mem ≡ commit_or_refuse m mem j 0 (begin regs)
unfolding commit_or_refuse
regs_outcome m mem j regs = rw (yes_eq {a = 0} {b = 0} refl, touched_none (length mem), stores_no mem)

-- a call that stores nothing is refused where a record without pairs does not fit
pub bare-refused :
    (m : Machine) (mem j : List ℕ) (w : Work)
    → (w.answer ≡ 0) × (w.stored ≡ [])
    → length j < m.used + record_length 0
    → refused 12 m mem j ≡ commit_or_refuse m mem j 0 w
unfolding commit_or_refuse
bare-refused m mem j w e h =
    rw (yes_eq e.0, e.1, touched_none (length mem)) (commit-full m mem j 0 w.regs [] (stores mem []) h)
