-- The listing of code: a line a chain, the mnemonic and the operand in signed decimal, or an operation's name alone (02, No. 2; DECISIONS 61).
use Rattle.std.specs.Prelude.{ℕ, zero, suc, ◌+◌, ◌-◌, ◌/◌, ◌%◌, ◌^◌, List, [], ◌∷◌, ◌++◌}
use Rattle.rules.specs.Tests.{pick, if_lt, if_eq, look}
use Rattle.rules.specs.Words.{range, with_nibble}
use Rattle.assembly.specs.Chain.{function_of, is_prefix, after_prefix}
use Rattle.assembly.specs.Names.{function_names, operation_names}

-- the newline that ends a line (DECISIONS 61)
abbrev pub newline : ℕ
newline = 10

-- a space (DECISIONS 61)
abbrev pub space : ℕ
space = 32

-- a minus sign (DECISIONS 61)
abbrev pub minus_sign : ℕ
minus_sign = 45

-- ---- numbers

-- a number in decimal, without leading zeros; ten digits are enough for a number below 10 ^ 10 (DECISIONS 61)
unfoldable pub digits : ℕ → ℕ → List ℕ
digits zero x = []
digits (suc places) x = if_lt x 10 [] (digits places (x / 10)) ++ ((48 + x % 10) ∷ [])

-- a word in signed decimal (02, No. 2; DECISIONS 61)
unfoldable pub decimal : ℕ → List ℕ
decimal x = if_lt x (2 ^ 31) (digits 10 x) (minus_sign ∷ digits 10 (range - x))

-- a hexadecimal digit, in upper case (DECISIONS 61)
unfoldable pub hex_digit : ℕ → ℕ
hex_digit d = if_lt d 10 (48 + d) (55 + d)

-- ---- lines

-- a function's mnemonic and its operand (02, No. 2)
unfoldable pub function_line : ℕ → ℕ → List ℕ
function_line function operand = look function_names function [] ++ (space ∷ (decimal operand ++ (newline ∷ [])))

-- a name alone; where there is none, another line (DECISIONS 61)
unfoldable pub name_or : List ℕ → List ℕ → List ℕ
name_or [] line = line
name_or (c ∷ name) line = (c ∷ name) ++ (newline ∷ [])

-- the line of a chain: of opr with a built operation its name alone, else mnemonic and operand (02, No. 2; DECISIONS 61)
unfoldable pub line_of : ℕ → ℕ → List ℕ
line_of function operand =
    if_eq function 0xF (name_or (look operation_names operand []) (function_line function operand)) (function_line function operand)

-- what follows a byte: a space, after the last one a newline (DECISIONS 61)
unfoldable pub separator : List ℕ → ℕ
separator [] = newline
separator (byte ∷ bytes) = space

-- an unfinished chain at the end: its bytes, two digits each, a space between (02, No. 2; DECISIONS 61)
unfoldable pub bytes_line : List ℕ → List ℕ
bytes_line [] = []
bytes_line (byte ∷ bytes) = hex_digit (byte / 16) ∷ hex_digit (byte % 16) ∷ separator bytes ∷ bytes_line bytes

-- ---- code

-- the listing of code, from Oreg and the prefix bytes before it (02, No. 2)
unfoldable pub listing_from : ℕ → List ℕ → List ℕ → List ℕ
listing_from oreg prefixes [] = bytes_line prefixes
listing_from oreg prefixes (byte ∷ code) =
    pick (is_prefix byte) (listing_from (after_prefix oreg byte) (prefixes ++ (byte ∷ [])) code)
    (line_of (function_of byte) (with_nibble byte oreg) ++ listing_from 0 [] code)

-- the listing of code (02, No. 2)
abbrev pub listing : List ℕ → List ℕ
listing code = listing_from 0 [] code
