-- A chain: prefix bytes and a final byte, which together give a function its operand (02, No. 2; 000 1.8, BuildNextInstruction).
use Rattle.std.specs.Prelude.{ℕ, zero, suc, ◌+◌, ◌-◌, ◌*◌, ◌/◌, ◌%◌, ◌^◌, Bool, ◌||◌, eqb, List, [], ◌∷◌, ◌++◌}
use Rattle.rules.specs.Tests.{if_lt, if_eq}
use Rattle.rules.specs.Words.{range, with_nibble, prefixed, negative_prefixed}

-- pfix (000 1.11, Prefixing Functions)
abbrev pub pfix : ℕ
pfix = 0x2

-- nfix (000 1.11, Prefixing Functions)
abbrev pub nfix : ℕ
nfix = 0x6

-- ---- writing: the Compiler Writer's rule

-- an instruction byte: the function in the upper half, four bits of operand in the lower (000 1.8, BuildNextInstruction)
abbrev pub instruction : ℕ → ℕ → ℕ
instruction function nibble = 16 * function + nibble

-- the prefix that comes last before the final byte: pfix, of a negative operand nfix (02, No. 2)
unfoldable pub prefix_of : ℕ → ℕ
prefix_of operand = if_lt operand (2 ^ 31) pfix nfix

-- what is prefixed: the operand's upper part, of a negative operand the complement of it (02, No. 2)
unfoldable pub upper_of : ℕ → ℕ
upper_of operand = if_lt operand (2 ^ 31) operand (range - 1 - operand) / 16

-- a value of 0 to 15 needs no prefix; any other first prefixes its upper part (02, No. 2). Each level leaves four bits less, so 16 levels
-- are more than a word of 32 bits needs
unfoldable pub chain_of : ℕ → ℕ → ℕ → List ℕ
chain_of zero function operand = []
chain_of (suc levels) function operand =
    if_lt operand 16 [] (chain_of levels (prefix_of operand) (upper_of operand)) ++ (instruction function (operand % 16) ∷ [])

-- the chain of a function and an operand (02, No. 2)
abbrev pub chain : ℕ → ℕ → List ℕ
chain function operand = chain_of 16 function operand

-- ---- reading: what the machine makes of prefix bytes

-- the function of an instruction byte (000 1.8, Primary)
abbrev pub function_of : ℕ → ℕ
function_of byte = byte / 2 ^ 4

-- a byte is a prefix: pfix or nfix (000 1.11, Prefixing Functions)
unfoldable pub is_prefix : ℕ → Bool
is_prefix byte = eqb (function_of byte) pfix || eqb (function_of byte) nfix

-- Oreg after a prefix byte (01, One step (c); DECISIONS 2)
unfoldable pub after_prefix : ℕ → ℕ → ℕ
after_prefix oreg byte = if_eq (function_of byte) pfix (prefixed (with_nibble byte oreg)) (negative_prefixed (with_nibble byte oreg))

-- Oreg after several prefix bytes (01, One step (c))
unfoldable pub after_prefixes : ℕ → List ℕ → ℕ
after_prefixes oreg [] = oreg
after_prefixes oreg (byte ∷ bytes) = after_prefixes (after_prefix oreg byte) bytes

-- the operand that the function of a final byte meets after prefix bytes, from Oreg 0 (01, One step (c))
abbrev pub operand_of : List ℕ → ℕ → ℕ
operand_of prefixes final = with_nibble final (after_prefixes 0 prefixes)
