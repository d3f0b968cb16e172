-- How long a listing is at most: 12 characters a byte of code.
use mathlib.Core.Path.{◌≡◌, refl}
use mathlib.Core.Bool.{Bool, true, false}
use mathlib.Core.List.{List, [], ◌∷◌, ◌++◌}
use Prim.Native.Nat.{ℕ, suc, ◌+◌, ◌*◌, ◌%◌, ◌≤◌, ◌<◌}
use native.Mathlib.Omega.{arith}
use lib.Dec.{leb}
use lib.ListN.{length, length-append}
use borrow.Author.Tests.{leb-true}
use Rattle.rules.specs.Tests.{pick, if_lt, look}
use Rattle.rules.specs.Words.{with_nibble}
use Rattle.rules.proofs.Tests.{yes_eq, no_eq, cases_eq, cases_lt}
use Rattle.laws.proofs.LawfulOperations.{all_below, all_below_lem}
use Rattle.laws.proofs.Rows.{look-unlisted, bounded, unlisted_above}
use Rattle.assembly.specs.Chain.{function_of, is_prefix, after_prefix}
use Rattle.assembly.specs.Names.{letters, function_names, operation_names}
use Rattle.assembly.specs.Listing.{newline, digits, decimal, function_line, name_or, line_of, bytes_line, listing_from, listing}
use Rattle.assembly.proofs.Reading.{with_nibble_lem}
use Rattle.assembler.proofs.Tables.{operation-short}
use Rattle.assembler.proofs.Text.{decimal-few}

-- three characters a byte of an unfinished chain
pub bytes-length : (bytes : List ℕ) → length (bytes_line bytes) ≡ 3 * length bytes
unfolding bytes_line
bytes-length [] = refl
bytes-length (byte ∷ bytes) = omega (arith, bytes-length bytes)

-- ---- a line

function_eight : (f : ℕ) → length (look function_names f []) ≤ 8
unfolding all_below bounded function_names letters
function_eight f =
    cases_lt f 16 (λ h. leb-true _ _ (all_below_lem 16 (λ k. leb (length (look function_names k [])) 8) refl f h))
    (λ h. rw (look-unlisted function_names f [] (unlisted_above 16 function_names refl f h)) (omega arith))

decimal-nibble : (x : ℕ) → x < 16 → length (decimal x) ≤ 2
unfolding all_below decimal digits if_lt
decimal-nibble x h = leb-true _ _ (all_below_lem 16 (λ k. leb (length (decimal k)) 2) refl x h)

function_line-length : (f o : ℕ) → length (function_line f o) ≤ 8 + (length (decimal o) + 2)
unfolding function_line
function_line-length f o =
    rw (length-append (look function_names f []) (32 ∷ (decimal o ++ (newline ∷ []))), length-append (decimal o) (newline ∷ []))
    (omega (arith, function_eight f))

name-most : (name line : List ℕ) (b : ℕ) → length name ≤ 11 → 12 ≤ b → length line ≤ b → length (name_or name line) ≤ b
unfolding name_or
name-most [] line b h g l = l
name-most (c ∷ name) line b h g l = rw (length-append (c ∷ name) (newline ∷ [])) (omega (arith, h, g))

line-most : (f o b : ℕ) → 12 ≤ b → length (function_line f o) ≤ b → length (line_of f o) ≤ b
unfolding line_of
line-most f o b g l =
    cases_eq f 15 (λ e. rw (yes_eq e) (name-most (look operation_names o []) (function_line f o) b (operation-short o) g l))
    (λ n. rw (no_eq n) l)

line_nibble : (f o : ℕ) → o < 16 → length (line_of f o) ≤ 12
line_nibble f o h = line-most f o 12 (omega arith) (omega (arith, function_line-length f o, decimal-nibble o h))

line_any : (f o : ℕ) → length (line_of f o) ≤ 24
line_any f o = line-most f o 24 (omega arith) (omega (arith, function_line-length f o, decimal-few o))

-- the line of a chain of n prefixes and a byte; without a prefix Oreg is 0
chain-most : (n oreg byte : ℕ) → (n ≡ 0 → oreg ≡ 0) → length (line_of (function_of byte) (with_nibble byte oreg)) ≤ 12 * (n + 1)
chain-most n oreg byte z =
    cases_eq n 0
    (λ e. rw (z e, with_nibble_lem byte 0 refl) (omega (arith, e, line_nibble (function_of byte) (0 + byte % 16) (omega arith))))
    (λ e. omega (arith, e, line_any (function_of byte) (with_nibble byte oreg)))

-- ---- a listing

-- from a byte on, by what is left behind it
byte-most : (b : Bool) (oreg byte n left : ℕ) (more rest : List ℕ) → (n ≡ 0 → oreg ≡ 0) → length more ≤ 12 * (n + 1 + left) → length rest ≤ 12 * left
    → length (pick b more (line_of (function_of byte) (with_nibble byte oreg) ++ rest)) ≤ 12 * (n + suc left)
byte-most true oreg byte n left more rest z h g = omega (arith, h)
byte-most false oreg byte n left more rest z h g =
    rw (length-append (line_of (function_of byte) (with_nibble byte oreg)) rest) (omega (arith, chain-most n oreg byte z, g))

from-most : (oreg : ℕ) (prefixes code : List ℕ) → (length prefixes ≡ 0 → oreg ≡ 0) → length (listing_from oreg prefixes code) ≤ 12 * (length prefixes + length code)
unfolding listing_from
from-most oreg prefixes [] z = omega (arith, bytes-length prefixes)
from-most oreg prefixes (byte ∷ code) z =
    let n = length-append prefixes (byte ∷ []) in
    byte-most (is_prefix byte) oreg byte (length prefixes) (length code) (listing_from (after_prefix oreg byte) (prefixes ++ (byte ∷ [])) code)
    (listing_from 0 [] code) z
    (omega (arith, n, from-most (after_prefix oreg byte) (prefixes ++ (byte ∷ [])) code (λ e. absurd (omega (arith, n, e)))))
    (omega (arith, from-most 0 [] code (λ e. refl)))

pub listing-most : (code : List ℕ) → length (listing code) ≤ 12 * length code
listing-most code = omega (arith, from-most 0 [] code (λ e. refl))
