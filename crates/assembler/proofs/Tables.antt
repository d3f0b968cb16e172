-- The tables of names: what stands in them is the name of its code, and no name is longer than 11 characters.
use mathlib.Core.Path.{◌≡◌, refl, sym, ap, ◌∙◌}
use mathlib.Core.List.{List, [], ◌∷◌, ◌++◌, map}
use Prim.Native.Nat.{ℕ, zero, suc, ◌+◌, ◌≤◌, ◌<◌}
use native.Mathlib.Omega.{arith}
use native.Mathlib.Nat.{add-zero, zero-add}
use lib.Dec.{leb}
use lib.ListN.{length, get_or}
use borrow.Author.Tests.{leb-true}
use Rattle.std.specs.Prelude.{Option, Some, None}
use Rattle.std.specs.Borrow.{Bor}
use Rattle.rules.specs.Tests.{look}
use Rattle.rules.proofs.Tests.{cases_lt}
use Rattle.laws.proofs.Rows.{look-unlisted, bounded, unlisted_above}
use Rattle.laws.proofs.LawfulOperations.{all_below, all_below_lem}
use Rattle.assembly.specs.Names.{letters, function_names, operation_names}
use Rattle.assembly.specs.Listing.{newline}
use Rattle.assembler.specs.Text.{name_line}

-- the values of a function from k on, n of them
unfoldable pub values : {A : Type 0} → (ℕ → A) → ℕ → ℕ → List A
values f k zero = []
values f k (suc n) = f k ∷ values f (suc k) n

value_at : {A : Type 0} (f : ℕ → A) (k n i : ℕ) (d : A) → i < n → get_or (values f k n) i d ≡ f (k + i)
unfolding values
value_at f k zero i d h = absurd (omega arith)
value_at f k (suc n) zero d h = ap f (sym (add-zero k))
value_at f k (suc n) (suc i) d h = value_at f (suc k) n i d (omega arith) ∙ ap f (omega arith)

-- ---- the functions' table, by its texts

pub now_at : (table : List (Bor (List ℕ))) (k : ℕ) (d : Bor (List ℕ)) → (get_or table k d).now ≡ get_or (map (λ (x : Bor (List ℕ)). x.now) table) k d.now
now_at [] k d = refl
now_at (x ∷ table) zero d = refl
now_at (x ∷ table) (suc k) d = now_at table k d

unfoldable pub function_rows : List (List ℕ)
function_rows = values (λ k. look function_names k []) 0 16

pub function_at : (k : ℕ) (d : List ℕ) → k < 16 → get_or function_rows k d ≡ look function_names k []
unfolding function_rows
function_at k d h = value_at (λ k. look function_names k []) 0 16 k d h ∙ ap (λ (i : ℕ). look function_names i []) (zero-add k)

-- ---- the operations' table, by its texts

unfoldable pub text_of : Option (Bor (List ℕ)) → Option (List ℕ)
text_of None = None
text_of (Some name) = Some name.now

pub text_at : (table : List (Option (Bor (List ℕ)))) (k : ℕ) (d : Option (Bor (List ℕ))) → text_of (get_or table k d) ≡ get_or (map text_of table) k (text_of d)
text_at [] k d = refl
text_at (x ∷ table) zero d = refl
text_at (x ∷ table) (suc k) d = text_at table k d

-- a name that is there
unfoldable pub named : List ℕ → Option (List ℕ)
named [] = None
named (c ∷ name) = Some (c ∷ name)

unfoldable pub operation_rows : List (Option (List ℕ))
operation_rows = values (λ k. named (look operation_names k [])) 0 90

row_at : (k : ℕ) (d : Option (List ℕ)) → k < 90 → get_or operation_rows k d ≡ named (look operation_names k [])
unfolding operation_rows
row_at k d h =
    value_at (λ k. named (look operation_names k [])) 0 90 k d h ∙ ap (λ (i : ℕ). named (look operation_names i [])) (zero-add k)

some_named : (name text : List ℕ) → named name ≡ Some text → (text ≡ name) × (Some (text ++ (newline ∷ [])) ≡ name_line name)
unfolding named name_line
some_named [] text e = cc
some_named (c ∷ name) text e = let t : text ≡ c ∷ name = cc in (t, rw t refl)

none_named : (name : List ℕ) → named name ≡ None → name ≡ []
unfolding named
none_named [] e = refl
none_named (c ∷ name) e = cc

pub operation_at : (k : ℕ) (d : Option (List ℕ)) (text : List ℕ) → k < 90 → get_or operation_rows k d ≡ Some text
    → (text ≡ look operation_names k []) × (Some (text ++ (newline ∷ [])) ≡ name_line (look operation_names k []))
operation_at k d text h e = some_named (look operation_names k []) text (sym (row_at k d h) ∙ e)

pub no_operation_at : (k : ℕ) (d : Option (List ℕ)) → k < 90 → get_or operation_rows k d ≡ None → look operation_names k [] ≡ []
no_operation_at k d h e = none_named (look operation_names k []) (sym (row_at k d h) ∙ e)

-- no operation from 90 on has a name
pub no_operation : (k : ℕ) → 90 ≤ k → look operation_names k [] ≡ []
unfolding bounded operation_names
no_operation k h = look-unlisted operation_names k [] (unlisted_above 90 operation_names refl k h)

pub function-short : (k : ℕ) → k < 16 → length (look function_names k []) ≤ 11
unfolding all_below function_names letters
function-short k h = leb-true _ _ (all_below_lem 16 (λ k. leb (length (look function_names k [])) 11) refl k h)

pub operation-short : (k : ℕ) → length (look operation_names k []) ≤ 11
unfolding all_below operation_names letters
operation-short k =
    cases_lt k 90 (λ h. leb-true _ _ (all_below_lem 90 (λ k. leb (length (look operation_names k [])) 11) refl k h))
    (λ h. rw (no_operation k h) (omega arith))
