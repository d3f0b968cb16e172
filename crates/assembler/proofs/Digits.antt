-- Decimal digits: all but the last, then the last. Ten places are enough for every word.
use mathlib.Core.Path.{◌≡◌, refl, ap, ◌∙◌}
use mathlib.Core.List.{List, [], ◌∷◌, ◌++◌}
use Prim.Native.Nat.{ℕ, zero, suc, ◌+◌, ◌*◌, ◌/◌, ◌%◌, ◌^◌, ◌≤◌, ◌<◌}
use native.Mathlib.Omega.{arith}
use lib.ListN.{length, length-append}
use Rattle.rules.specs.Tests.{if_lt}
use Rattle.rules.proofs.Tests.{yes_lt, no_lt, cases_lt}
use Rattle.assembly.specs.Listing.{digits}

-- the last digit
abbrev pub last : ℕ → ℕ
last x = 48 + x % 10

parts : (n x : ℕ) → digits (suc n) x ≡ if_lt x 10 [] (digits n (x / 10)) ++ (last x ∷ [])
unfolding digits
parts n x = refl

-- 10 ^ n
tens : ℕ → ℕ
tens zero = 1
tens (suc n) = 10 * tens n

steady : (n x : ℕ) → x < tens (suc n) → digits (suc n) x ≡ digits (suc (suc n)) x
unfolding tens
steady zero x h = rw (parts 0 x, parts 1 x, yes_lt {A = List ℕ} {a = x} {b = 10} (omega arith), yes_lt {A = List ℕ} {a = x} {b = 10} (omega arith))
steady (suc n) x h =
    cases_lt x 10 (λ s. rw (parts (suc n) x, parts (suc (suc n)) x, yes_lt {A = List ℕ} s, yes_lt {A = List ℕ} s))
    (λ s. rw (parts (suc n) x, parts (suc (suc n)) x, no_lt {A = List ℕ} s, no_lt {A = List ℕ} s)
    (ap (λ (l : List ℕ). l ++ (last x ∷ [])) (steady n (x / 10) (omega arith))))

pub digits-one : (x : ℕ) → x < 10 → digits 10 x ≡ last x ∷ []
digits-one x h = parts 9 x ∙ rw (yes_lt h)

pub digits_more : (x : ℕ) → 10 ≤ x → x < 2 ^ 32 → digits 10 x ≡ digits 10 (x / 10) ++ (last x ∷ [])
unfolding tens
digits_more x h l = parts 9 x ∙ rw (no_lt h) (ap (λ (d : List ℕ). d ++ (last x ∷ [])) (steady 8 (x / 10) (omega arith)))

pub digits-few : (n x : ℕ) → length (digits n x) ≤ n
unfolding digits
digits-few zero x = omega arith
digits-few (suc n) x =
    rw (length-append (if_lt x 10 [] (digits n (x / 10))) (last x ∷ []))
    (cases_lt x 10 (λ s. rw (yes_lt s) (omega arith)) (λ s. rw (no_lt s) (omega (arith, digits-few n (x / 10)))))

pub more-length : (x : ℕ) → 10 ≤ x → x < 2 ^ 32 → length (digits 10 x) ≡ length (digits 10 (x / 10)) + 1
more-length x h l = rw (digits_more x h l) (length-append (digits 10 (x / 10)) (last x ∷ []))
