-- Places in a text, and the line of a name.
use Rattle.std.specs.Prelude.{ℕ, ◌+◌, ◌-◌, ◌^◌, min, List, [], ◌∷◌, ◌++◌, length, Option, Some, None}
use Rattle.assembly.specs.Listing.{newline}

-- the place behind bytes that stand from a place on; no place is behind the last number of 64 bits (02, No. 2)
abbrev pub behind : ℕ → List ℕ → ℕ
behind at bytes = min (at + length bytes) (2 ^ 64 - 1)

-- the line of a name, where there is one (02, No. 2; DECISIONS 61)
unfoldable pub name_line : List ℕ → Option (List ℕ)
name_line [] = None
name_line (c ∷ name) = Some ((c ∷ name) ++ (newline ∷ []))
