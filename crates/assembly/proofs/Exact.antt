-- THE OPERAND: read from Oreg 0, the chain of a function and an operand gives that function that operand.
use mathlib.Core.Path.{◌≡◌, refl, sym, ap, ◌∙◌, subst}
use mathlib.Core.Logic.{◌⊎◌, inl, inr}
use mathlib.Core.List.{List, [], ◌∷◌, ◌++◌}
use Prim.Native.Nat.{ℕ, zero, suc, ◌+◌, ◌-◌, ◌*◌, ◌/◌, ◌%◌, ◌^◌, ◌<◌, ◌≤◌}
use native.Mathlib.Omega.{arith}
use lib.ListN.{length, length-append}
use Rattle.rules.specs.Tests.{if_lt}
use Rattle.rules.specs.Words.{range}
use Rattle.rules.proofs.Tests.{yes_lt, no_lt, cases_lt}
use Rattle.assembly.specs.Chain.{pfix, nfix, instruction, prefix_of, upper_of, chain_of, chain, function_of, after_prefix, after_prefixes, operand_of}
use Rattle.assembly.specs.Meeting.{Prefixes}
use Rattle.assembly.proofs.Reading.{is-prefix, with_nibble_lem, after-pfix, after-nfix, after-append, prefixes-append}

-- the prefixes of an operand, in at most so many levels
abbrev pub before : ℕ → ℕ → List ℕ
before levels operand = if_lt operand 16 [] (chain_of levels (prefix_of operand) (upper_of operand))

-- the final byte of a chain
abbrev pub final : ℕ → ℕ → ℕ
final function operand = instruction function (operand % 16)

pub chain-parts : (n function operand : ℕ) → chain_of (suc n) function operand ≡ before n operand ++ (final function operand ∷ [])
unfolding chain_of
chain-parts n function operand = refl

-- ---- the two tests of the rule

pub up-prefix : {v : ℕ} → v < 2 ^ 31 → prefix_of v ≡ pfix
unfolding prefix_of
up-prefix h = rw (yes_lt h)

pub up_upper : {v : ℕ} → v < 2 ^ 31 → upper_of v ≡ v / 16
unfolding upper_of
up_upper {v} h = rw (yes_lt h)

pub down-prefix : {v : ℕ} → 2 ^ 31 ≤ v → prefix_of v ≡ nfix
unfolding prefix_of
down-prefix h = rw (no_lt h)

pub down_upper : {v : ℕ} → 2 ^ 31 ≤ v → upper_of v ≡ (range - 1 - v) / 16
unfolding upper_of
down_upper {v} h = rw (no_lt h)

-- 16 ^ (k + 1): k prefixes and a final byte reach the numbers below it
unfoldable pub reach : ℕ → ℕ
reach zero = 16
reach (suc k) = 16 * reach k

-- ---- what is read after the prefixes of an operand is the operand with its low four bits cleared

-- a number from its upper part and its nibble
pub whole : (function u : ℕ) → u - u % 16 + final function u % 16 ≡ u
whole function u = omega arith

one-pfix : (u : ℕ) → after_prefix (u - u % 16) (final pfix u) ≡ u * 16 % 2 ^ 32
one-pfix u =
    after-pfix (u - u % 16) (final pfix u) (omega arith) (omega arith) ∙ ap (λ (x : ℕ). x * 16 % 2 ^ 32) (whole pfix u)

one-nfix : (u : ℕ) → after_prefix (u - u % 16) (final nfix u) ≡ (range - 1 - u) * 16 % 2 ^ 32
one-nfix u =
    after-nfix (u - u % 16) (final nfix u) (omega arith) (omega arith) ∙ ap (λ (x : ℕ). (range - 1 - x) * 16 % 2 ^ 32) (whole nfix u)

reads_up : (n v : ℕ) → v < reach n → v < 2 ^ 31 → after_prefixes 0 (before n v) ≡ v - v % 16
unfolding reach after_prefixes
reads_up zero v h l = rw (yes_lt h) (omega arith)
reads_up (suc n) v h l =
    let again = reads_up n (v / 16) in
    cases_lt v 16 (λ s. rw (yes_lt s) (omega arith))
    (λ s. rw (no_lt s, up-prefix l, up_upper l, chain-parts n pfix (v / 16), after-append 0 (before n (v / 16)) (final pfix (v / 16) ∷ []))
    (ap (λ (o : ℕ). after_prefix o (final pfix (v / 16))) (again (omega arith) (omega arith)) ∙ one-pfix (v / 16) ∙ omega arith))

reads_down : (n v : ℕ) → 2 ^ 31 ≤ v → v < 2 ^ 32 → 2 ^ 28 ≤ reach n → after_prefixes 0 (before (suc n) v) ≡ v - v % 16
unfolding after_prefixes
reads_down n v g l h =
    let u = (range - 1 - v) / 16 in
    rw (no_lt {a = v} {b = 16} (omega arith), down-prefix g, down_upper g, chain-parts n nfix u, after-append 0 (before n u) (final nfix u ∷ []))
    (ap (λ (o : ℕ). after_prefix o (final nfix u)) (reads_up n u (omega arith) (omega arith)) ∙ one-nfix u ∙ omega arith)

reads : (v : ℕ) → v < 2 ^ 32 → after_prefixes 0 (before 15 v) ≡ v - v % 16
unfolding reach
reads v h =
    cases_lt v (2 ^ 31) (λ l. reads_up 15 v (omega arith) l) (λ g. reads_down 14 v g h (omega arith))

-- a final byte gives its function, and with the prefixes its operand
pub final-function : (function operand : ℕ) → function_of (final function operand) ≡ function
final-function function operand = omega arith

pub chain_operand : (function operand : ℕ) → operand < 2 ^ 32 → operand_of (before 15 operand) (final function operand) ≡ operand
chain_operand function operand h =
    with_nibble_lem (final function operand) (after_prefixes 0 (before 15 operand)) (ap (λ (x : ℕ). x % 16) (reads operand h) ∙ omega arith)
    ∙ ap (λ (x : ℕ). x + final function operand % 16) (reads operand h)
    ∙ whole function operand

-- ---- all bytes of a chain but the last are prefixes

prefix-is : (v : ℕ) → (prefix_of v ≡ pfix) ⊎ (prefix_of v ≡ nfix)
prefix-is v = cases_lt v (2 ^ 31) (λ l. inl (up-prefix l)) (λ g. inr (down-prefix g))

before_prefixes : (n v : ℕ) → Prefixes (chain_of n (prefix_of v) (upper_of v)) → Prefixes (before n v)
before_prefixes n v h =
    cases_lt v 16 (λ l. subst Prefixes (sym (yes_lt l [] _)) tt) (λ g. subst Prefixes (sym (no_lt g [] _)) h)

chain_prefixes : (n p v : ℕ) → (p ≡ pfix) ⊎ (p ≡ nfix) → Prefixes (chain_of n p v)
unfolding chain_of
chain_prefixes zero p v h = tt
chain_prefixes (suc n) p v h =
    prefixes-append (before n v) (final p v ∷ []) (before_prefixes n v (chain_prefixes n (prefix_of v) (upper_of v) (prefix-is v)))
    (is-prefix (final p v) (subst (λ (f : ℕ). (f ≡ pfix) ⊎ (f ≡ nfix)) (sym (final-function p v)) h), tt)

pub all_prefixes : (n v : ℕ) → Prefixes (before n v)
all_prefixes n v = before_prefixes n v (chain_prefixes n (prefix_of v) (upper_of v) (prefix-is v))

-- ---- THE RULE, without a bound on its levels: 16 levels are enough for every word

steady : (n f v : ℕ) → v < reach n → v < 2 ^ 31 → chain_of (suc n) f v ≡ chain_of (suc (suc n)) f v
unfolding reach
steady zero f v h l = rw (chain-parts 0 f v, chain-parts 1 f v, yes_lt {A = List ℕ} h, yes_lt {A = List ℕ} h)
steady (suc n) f v h l =
    cases_lt v 16
    (λ s. rw (chain-parts (suc n) f v, chain-parts (suc (suc n)) f v, yes_lt {A = List ℕ} s, yes_lt {A = List ℕ} s))
    (λ s. rw (chain-parts (suc n) f v, chain-parts (suc (suc n)) f v, no_lt {A = List ℕ} s, no_lt {A = List ℕ} s, up-prefix l, up_upper l)
    (ap (λ (x : List ℕ). x ++ (final f v ∷ [])) (steady n pfix (v / 16) (omega arith) (omega arith))))

upper_small : (v : ℕ) → upper_of v < 2 ^ 28
upper_small v = cases_lt v (2 ^ 31) (λ l. rw (up_upper l) (omega arith)) (λ g. rw (down_upper g) (omega arith))

pub upper-falls : (v : ℕ) → 16 ≤ v → upper_of v < v
upper-falls v h = cases_lt v (2 ^ 31) (λ l. rw (up_upper l) (omega arith)) (λ g. omega (arith, upper_small v))

pub chain_short : (f v : ℕ) → v < 16 → chain f v ≡ final f v ∷ []
chain_short f v h = chain-parts 15 f v ∙ rw (yes_lt h)

pub chain_longer : (f v : ℕ) → 16 ≤ v → chain f v ≡ chain (prefix_of v) (upper_of v) ++ (final f v ∷ [])
unfolding reach
chain_longer f v h =
    chain-parts 15 f v
    ∙ rw (no_lt h) (ap (λ (x : List ℕ). x ++ (final f v ∷ [])) (steady 14 (prefix_of v) (upper_of v) (omega (arith, upper_small v)) (omega (arith, upper_small v))))

-- no chain is longer than its levels
pub levels-length : (n f v : ℕ) → length (chain_of n f v) ≤ n
unfolding chain_of
levels-length zero f v = omega arith
levels-length (suc n) f v =
    rw (length-append (before n v) (final f v ∷ []))
    (cases_lt v 16 (λ s. rw (yes_lt s) (omega arith)) (λ s. rw (no_lt s) (omega (arith, levels-length n (prefix_of v) (upper_of v)))))
