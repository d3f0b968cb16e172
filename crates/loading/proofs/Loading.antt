-- Fresh: the memory that the loop fills, and the size of code that fits.
use mathlib.Core.Path.{◌≡◌, refl, ap, ◌∙◌}
use mathlib.Core.Bool.{Bool, true, false, ◌||◌}
use mathlib.Core.List.{List, append-nil}
use Prim.Native.Nat.{ℕ, zero, suc, ◌+◌, ◌-◌, ◌≤◌, ◌<◌}
use native.Mathlib.Omega.{arith}
use native.Mathlib.Numerals.{add-one}
use lib.Dec.{leb, eqb}
use lib.ListN.{length, set, drop_of_length-le}
use lib.Seq.{sets, sets-eq}
use borrow.Author.Tests.{leb-false}
use Rattle.rules.specs.Scheduling.{mem_start_word}
use Rattle.rules.specs.Calls.{refused, accepted, machine_of, memory_size_bad, journal_size_bad, size_bad, code_bad, code_words, fresh_word, fresh_memory, fresh_regs, no_machine, fresh}

-- ---- the code's size

module _ (size n : ℕ) where
  pub code_good : code_bad size n ≡ false → mem_start_word + code_words n < size
  unfolding code_bad
  code_good e = leb-false size (mem_start_word + code_words n) (second (eqb n 0) (leb size (mem_start_word + code_words n)) e)
    where
      second : (a b : Bool) → a || b ≡ false → b ≡ false
      second true b e = let z : ◌≡◌ {A = ℕ} 0 1 = cc in absurd (omega arith)
      second false b e = e

-- ---- the memory

fresh-length : (code : List ℕ) (i n : ℕ) → length (fresh_memory code i n) ≡ n
unfolding fresh_memory
fresh-length code i zero = refl
fresh-length code i (suc n) = ap suc (fresh-length code (i + 1) n)

pub fresh_turn :
    (code mem : List ℕ) (i n m w : ℕ)
    → 0 < n
    → m ≡ n - 1
    → w ≡ fresh_word code i
    → sets (set mem i w) (i + 1) (fresh_memory code (i + 1) m) ≡ sets mem i (fresh_memory code i n)
unfolding fresh_memory
fresh_turn code mem i zero m w h f e = absurd (omega arith)
fresh_turn code mem i (suc n) m w h f e = let g : m ≡ n = omega arith in rw (g, e, add-one i)

pub fresh_all : (code mem : List ℕ) (n : ℕ) → length mem ≡ n → sets mem 0 (fresh_memory code 0 n) ≡ fresh_memory code 0 n
fresh_all code mem n e =
    let s = fresh_memory code 0 n in
    let l : length s ≡ n = fresh-length code 0 n in
    let h : length mem ≤ 0 + length s = omega arith in
    sets-eq s mem 0 (omega arith) ∙ rw (drop_of_length-le mem h, append-nil s)

-- ---- the outcome of fresh

module _ (code mem j : List ℕ) where
  pub fresh-size : memory_size_bad (length mem) || journal_size_bad (length j) ≡ true → refused 1 no_machine mem j ≡ fresh code mem j
  unfolding fresh size_bad
  fresh-size h = rw h

  module _ (h : memory_size_bad (length mem) || journal_size_bad (length j) ≡ false) where
    pub fresh-code : code_bad (length mem) (length code) ≡ true → refused 2 no_machine mem j ≡ fresh code mem j
    unfolding fresh size_bad
    fresh-code k = rw (h, k)

    pub fresh-done :
        code_bad (length mem) (length code) ≡ false
        → accepted 0 (machine_of (fresh_regs (length code)) 0 0) (fresh_memory code 0 (length mem)) j ≡ fresh code mem j
    unfolding fresh size_bad
    fresh-done k = rw (h, k)
