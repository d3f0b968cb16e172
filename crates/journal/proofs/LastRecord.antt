-- The bounds of the journal, and the test of the last record, as the code makes it and as the definitions do.
use mathlib.Core.Path.{◌≡◌, refl, sym, ◌∙◌}
use mathlib.Core.Bool.{true, false, ◌||◌}
use mathlib.Core.List.{List}
use Prim.Native.Nat.{ℕ, ◌-◌, ◌*◌, ◌≤◌, ◌<◌}
use native.Mathlib.Omega.{arith}
use lib.Dec.{ltb}
use lib.ListN.{length, get_or}
use borrow.Author.Tests.{lt-ltb, le-ltb}
use Rattle.rules.specs.Journal.{record_length, last_pairs, last_start, pairs_at, strays}
use Rattle.rules.specs.Calls.{refused, undo_last}
use Rattle.std.specs.Prelude.{None}
use Rattle.rules.specs.declared.Machine.{Machine}
use Rattle.rules.proofs.Tests.{cases_lt}
use Rattle.journal_record.proofs.JournalBounds as bounds
use Rattle.journal_record.proofs.Outcomes.{undo_short, undo_stray}
use Rattle.journal.specs.Checks.{first_bad}
use Rattle.journal.specs.LastRecord.{record_bad}
use Rattle.journal.proofs.Refusing.{bounds_good}

-- the bounds, where the checks before the work have passed
pub within :
    (m : Machine) (mem j : List ℕ)
    → first_bad false (length mem) (length j) m.depth m.used ≡ None
    → (m.used ≤ length j) × (record_length 0 * m.depth ≤ m.used)
within m mem j h = bounds.bounds_good (length j) m.depth m.used (bounds_good false m mem j h)

module _ (j : List ℕ) (used size n : ℕ) (e : get_or j (used - 1) 0 ≡ n) where
  bad-is : record_bad j used size ≡ ltb used (record_length n) || strays size (pairs_at j (used - record_length n) n)
  unfolding record_bad last_start last_pairs
  bad-is = rw e

  pub bad_long : used < record_length n → ltb used (record_length n) ≡ record_bad j used size
  bad_long h = sym (bad-is ∙ rw (lt-ltb used (record_length n) h))

  pub bad-strays : record_length n ≤ used → strays size (pairs_at j (used - record_length n) n) ≡ record_bad j used size
  bad-strays h = sym (bad-is ∙ rw (le-ltb used (record_length n) h))

  pub record_good : record_bad j used size ≡ false → (record_length n ≤ used) × (strays size (pairs_at j (used - record_length n) n) ≡ false)
  record_good b =
      cases_lt used (record_length n)
      (λ h. let f = bad_long h ∙ b in let g = lt-ltb used (record_length n) h in let z : ◌≡◌ {A = ℕ} 0 1 = cc in absurd (omega arith))
      (λ h. (h, bad-strays h ∙ b))

-- a last record that passes the test is within the journal, and its indices are within memory
pub record_fits :
    (j : List ℕ) (used size : ℕ)
    → record_bad j used size ≡ false
    → (record_length (get_or j (used - 1) 0) ≤ used)
    × (strays size (pairs_at j (used - record_length (get_or j (used - 1) 0)) (get_or j (used - 1) 0)) ≡ false)
record_fits j used size = record_good j used size _ refl

-- undo is refused where the test holds
pub undo_bad_lem : (m : Machine) (mem j : List ℕ) → record_bad j m.used (length mem) ≡ true → refused 4 m mem j ≡ undo_last m mem j
undo_bad_lem m mem j b =
    cases_lt m.used (record_length (get_or j (m.used - 1) 0))
    (λ h. undo_short m mem j _ refl h)
    (λ h. undo_stray m mem j _ refl h (bad-strays j m.used (length mem) _ refl h ∙ b))
