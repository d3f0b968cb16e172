-- The two public functions, assemble and list: their outcomes from any input, and their contracts (02, No. 2).
use Rattle.std.specs.Prelude.{◌≡◌, Bool, ◌||◌, List, ℕ, ltb, eqb, length, Result, Ok, Err}
use Rattle.std.proofs.lemmas.List.Edits.{sets}
use Rattle.rules.specs.Tests.{pick, if_lt}
use Rattle.assembly.specs.Chain.{pfix, nfix, chain}
use Rattle.assembly.specs.Listing.{listing}
use Rattle.assembly.specs.declared.Refusal.{Refusal}
use Rattle.assembly.specs.declared.Refusal.TheVariants.{BadFunction, TooLong, NoRoom}

-- the outcome of a call: all that a contract determines (01, What the contracts have to say)
pub record Outcome : Type 0 where
  -- how many bytes were written, or the refusal (02, No. 2; DECISIONS 60)
  pub reply : Result ℕ Refusal
  -- the lent output afterwards (02, No. 2)
  pub output : List ℕ

-- the outcome that the code of a call returns: its reply, and the lent output after it (01, What the contracts have to say)
abbrev pub outcome_of : Result ℕ Refusal → List ℕ → Outcome
outcome_of r out = record { reply = r; output = out }

-- a refusal: the output is untouched (02, No. 2)
abbrev pub refused : Refusal → List ℕ → Outcome
refused refusal out = outcome_of (Err refusal) out

-- bytes written at the start of the output, or NoRoom (02, No. 2)
unfoldable pub write_or_refuse : List ℕ → List ℕ → Outcome
write_or_refuse bytes out =
    if_lt (length out) (length bytes) (refused NoRoom out) (outcome_of (Ok (length bytes)) (sets out 0 bytes))

-- BadFunction: a function number above 15 or equal to 2 or 6 (02, No. 2)
unfoldable pub function_bad : ℕ → Bool
function_bad function = ltb 15 function || eqb function pfix || eqb function nfix

-- assemble: BadFunction, then TooLong where more than eight bytes would be needed, then NoRoom (02, No. 2)
unfoldable pub assemble : ℕ → ℕ → List ℕ → Outcome
assemble function operand out =
    pick (function_bad function) (refused BadFunction out)
    (if_lt 8 (length (chain function operand)) (refused TooLong out) (write_or_refuse (chain function operand) out))

-- list: NoRoom is its only refusal (02, No. 2; DECISIONS 61)
unfoldable pub list : List ℕ → List ℕ → Outcome
list code out = write_or_refuse (listing code) out

-- ---- the contracts: each is the whole `ensures` of its function, and no function has a `requires`

-- the contract of assemble (01, What the contracts have to say; 02, No. 2)
abbrev pub AssembleContract : (function operand : ℕ) (out : List ℕ) (r : Result ℕ Refusal) (out' : List ℕ) → Type 0
AssembleContract function operand out r out' = outcome_of r out' ≡ assemble function operand out

-- the contract of list (01, What the contracts have to say; 02, No. 2)
abbrev pub ListContract : (code out : List ℕ) (r : Result ℕ Refusal) (out' : List ℕ) → Type 0
ListContract code out r out' = outcome_of r out' ≡ list code out
