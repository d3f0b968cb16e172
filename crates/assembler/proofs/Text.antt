-- The lines of the listing, each from its parts.
use mathlib.Core.Path.{◌≡◌, refl, sym, ◌∙◌}
use mathlib.Core.List.{List, [], ◌∷◌}
use Prim.Native.Nat.{ℕ, suc, ◌+◌, ◌-◌, ◌^◌, ◌≤◌, ◌<◌}
use native.Mathlib.Omega.{arith}
use lib.ListN.{length, set}
use lib.Seq.{sets}
use Rattle.std.specs.Prelude.{Some, None}
use Rattle.rules.specs.Tests.{look}
use Rattle.rules.specs.Words.{range}
use Rattle.rules.proofs.Tests.{yes_lt, no_lt, yes_eq, no_eq, cases_lt}
use Rattle.assembly.specs.Names.{operation_names}
use Rattle.assembly.specs.Listing.{minus_sign, digits, decimal, function_line, name_or, line_of}
use Rattle.assembler.specs.Text.{name_line}
use Rattle.assembler.proofs.Digits.{digits-few}

pub up-decimal : (x : ℕ) → x < 2 ^ 31 → decimal x ≡ digits 10 x
unfolding decimal
up-decimal x h = yes_lt h _ _

pub down-decimal : (x : ℕ) → 2 ^ 31 ≤ x → decimal x ≡ minus_sign ∷ digits 10 (range - x)
unfolding decimal
down-decimal x h = no_lt h _ _

pub decimal-few : (x : ℕ) → length (decimal x) ≤ 11
decimal-few x =
    cases_lt x (2 ^ 31) (λ l. rw (up-decimal x l) (omega (arith, digits-few 10 x))) (λ g. rw (down-decimal x g) (omega (arith, digits-few 10 (range - x))))

-- ---- a chain's line

pub line-function : (f o : ℕ) → (f ≡ 15 → ⊥) → function_line f o ≡ line_of f o
unfolding line_of
line-function f o h = sym (no_eq h _ _)

there : (name other line : List ℕ) → Some line ≡ name_line name → line ≡ name_or name other
unfolding name_or name_line
there [] other line n = cc
there (c ∷ name) other line n = cc

missing : (name other : List ℕ) → None ≡ name_line name → other ≡ name_or name other
unfolding name_or name_line
missing [] other n = refl
missing (c ∷ name) other n = cc

-- where a name is there, the line is the name's
pub line_named : (f o : ℕ) (line : List ℕ) → f ≡ 15 → Some line ≡ name_line (look operation_names o []) → line ≡ line_of f o
unfolding line_of
line_named f o line e n = there (look operation_names o []) (function_line f o) line n ∙ sym (yes_eq e _ _)

-- and else the function's
pub line_unnamed : (f o : ℕ) → f ≡ 15 → None ≡ name_line (look operation_names o []) → function_line f o ≡ line_of f o
unfolding line_of
line_unnamed f o e n = missing (look operation_names o []) (function_line f o) n ∙ sym (yes_eq e _ _)

-- ---- the bytes of an unfinished chain

pub hex-stored : (text : List ℕ) (at a b c : ℕ) → set (set (set text at a) (at + 1) b) (at + 2) c ≡ sets text at (a ∷ b ∷ c ∷ [])
hex-stored text at a b c =
    let e : at + 1 ≡ suc at = omega arith in
    let f : at + 2 ≡ suc (suc at) = omega arith in
    rw (e, f)
