-- The journal (01, The journal): the length and words of a record, the bounds of used and depth, and the last record, read back.
use Rattle.std.specs.Prelude.{ℕ, zero, suc, ◌+◌, ◌-◌, ◌*◌, Bool, true, false, ◌||◌, List, [], ◌∷◌, ◌++◌, ltb, length, get_or, take, drop, set}
use Rattle.rules.specs.Tests.{pick}
use Rattle.rules.specs.Registers.{registers}

-- the length of a record of n pairs: 46 words, and two for each pair (01, The journal)
abbrev pub record_length : ℕ → ℕ
record_length pairs = registers + 1 + 2 * pairs

-- the last word of a record of n pairs: their number (01, The journal)
abbrev pub last_word : ℕ → ℕ
last_word pairs = pairs

-- the number of pairs, read from the last word (01, The journal)
abbrev pub pairs_told : ℕ → ℕ
pairs_told last = last

-- the pairs of some words: each index with the word of memory there (01, The journal)
unfoldable pub olds : List ℕ → List ℕ → List ℕ
olds m [] = []
olds m (i ∷ is) = i ∷ get_or m i 0 ∷ olds m is

-- the record of a call that touched the words ks; m and regs are memory and registers before the call (01, The journal; DECISIONS 38)
unfoldable pub record_of : List ℕ → List ℕ → List ℕ → List ℕ
record_of m regs ks = olds m ks ++ (regs ++ (last_word (length ks) ∷ []))

-- 4 JournalBad: used above the journal's length, or 46 x depth above used (01, Answers by number; DECISIONS 35)
unfoldable pub bounds_bad : ℕ → ℕ → ℕ → Bool
bounds_bad size depth used = ltb size used || ltb used (record_length 0 * depth)

-- ---- the last record, which ends at used

-- the number of pairs of the last record: the word before used (01, The journal)
unfoldable pub last_pairs : List ℕ → ℕ → ℕ
last_pairs j used = pairs_told (get_or j (used - 1) 0)

-- the start of the last record (01, The journal)
unfoldable pub last_start : List ℕ → ℕ → ℕ
last_start j used = used - record_length (last_pairs j used)

-- the registers of the last record (01, The journal)
unfoldable pub last_regs : List ℕ → ℕ → List ℕ
last_regs j used = take registers (drop (used - record_length 0) j)

-- the n pairs of index and old value at a place (01, The journal)
unfoldable pub pairs_at : List ℕ → ℕ → ℕ → List (ℕ × ℕ)
pairs_at j at zero = []
pairs_at j at (suc n) = (get_or j at 0, get_or j (at + 1) 0) ∷ pairs_at j (at + 2) n

-- pairs written back from first to last (01, The journal; DECISIONS 36)
unfoldable pub write_back : List ℕ → List (ℕ × ℕ) → List ℕ
write_back m [] = m
write_back m (p ∷ ps) = write_back (set m p.0 p.1) ps

-- 4 JournalBad: a pair's index is N or more (01, Answers by number)
unfoldable pub strays : ℕ → List (ℕ × ℕ) → Bool
strays size [] = false
strays size (p ∷ ps) = pick (ltb p.0 size) (strays size ps) true
