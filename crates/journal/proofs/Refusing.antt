-- The checks before the work of a call.
use Rattle.std.specs.Prelude.{Option, Some, None}
use mathlib.Core.Path.{◌≡◌, refl}
use mathlib.Core.Bool.{Bool, true, false, ◌||◌}
use mathlib.Core.List.{List}
use Prim.Native.Nat.{ℕ, suc, ◌≤◌, ◌<◌}
use native.Mathlib.Omega.{arith}
use lib.Dec.{ltb, leb}
use lib.ListN.{length}
use borrow.Author.Tests.{ltb-false, leb-false}
use Rattle.rules.specs.Tests.{pick}
use Rattle.rules.specs.Journal.{bounds_bad}
use Rattle.rules.specs.Calls.{Outcome, numbered, refused, refused_at, memory_size_bad, journal_size_bad, size_bad, checked, not_input}
use Rattle.rules.specs.declared.Answer.{Answer}
use Rattle.rules.specs.declared.Answer.TheVariants.{Size, BadChannel, JournalBad}
use Rattle.rules.specs.declared.Machine.{Machine}
use Rattle.laws.proofs.Calm.{neither}
use Rattle.journal.specs.Checks.{first_bad}

-- ---- sizes

module _ (n l : ℕ) where
  pub size_good : memory_size_bad n || journal_size_bad l ≡ false → (64 ≤ n) × (n ≤ 16384) × (l ≤ 65536)
  unfolding memory_size_bad journal_size_bad
  size_good e =
      let f = neither (ltb n 64 || ltb 16384 n) (ltb 65536 l) e in
      let g = neither (ltb n 64) (ltb 16384 n) f.0 in
      (ltb-false n 64 g.0, ltb-false 16384 n g.1, ltb-false 65536 l f.1)

-- ---- channels

pub output_good : (c : ℕ) → leb 4 c ≡ false → c < 4
output_good c e = leb-false 4 c e

pub input_good : (c : ℕ) → not_input c ≡ false → (4 ≤ c) × (c < 8)
unfolding not_input
input_good c e =
    let f = neither (ltb c 4) (leb 8 c) e in
    (ltb-false c 4 f.0, leb-false 8 c f.1)

-- ---- the first check that applies

module _ (bad_channel : Bool) (n l depth used : ℕ) where
  pub bad-size : memory_size_bad n || journal_size_bad l ≡ true → Some Size ≡ first_bad bad_channel n l depth used
  unfolding first_bad
  bad-size h = rw h

  module _ (h : memory_size_bad n || journal_size_bad l ≡ false) where
    pub bad-channel : bad_channel ≡ true → Some BadChannel ≡ first_bad bad_channel n l depth used
    unfolding first_bad
    bad-channel k = rw (h, k)

    pub bad_bounds : bad_channel ≡ false → bounds_bad l depth used ≡ true → Some JournalBad ≡ first_bad bad_channel n l depth used
    unfolding first_bad
    bad_bounds k f = rw (h, k, f)

    pub bad-none : bad_channel ≡ false → bounds_bad l depth used ≡ false → None ≡ first_bad bad_channel n l depth used
    unfolding first_bad
    bad-none k f = rw (h, k, f)

-- ---- the outcome of a call after the checks

-- the outcome of a call refused with an answer
abbrev pub refused_as : Answer → Machine → List ℕ → List ℕ → Outcome
refused_as a m mem j = refused_at (numbered a).0 (numbered a).1 (numbered a).2 m mem j

abbrev first : Bool → Bool → Bool → Option Answer
first x y z = pick x (Some Size) (pick y (Some BadChannel) (pick z (Some JournalBad) None))

first-none : (x y z : Bool) → first x y z ≡ None → (x ≡ false) × (y ≡ false) × (z ≡ false)
first-none true y z e = cc
first-none false true z e = cc
first-none false false true e = cc
first-none false false false e = (refl, refl, refl)

first_some :
    (m : Machine) (mem j : List ℕ) (o : Outcome) (a : Answer) (x y z : Bool)
    → first x y z ≡ Some a
    → refused_as a m mem j ≡ pick x (refused 1 m mem j) (pick y (refused 3 m mem j) (pick z (refused 4 m mem j) o))
unfolding numbered
first_some m mem j o a true y z h = let e : Size ≡ a = cc in rw (← e)
first_some m mem j o a false true z h = let e : BadChannel ≡ a = cc in rw (← e)
first_some m mem j o a false false true h = let e : JournalBad ≡ a = cc in rw (← e)
first_some m mem j o a false false false h = cc

module _ (bad_channel : Bool) (m : Machine) (mem j : List ℕ) where
  abbrev refusal : Option Answer
  refusal = first_bad bad_channel (length mem) (length j) m.depth m.used

  pub stopped : (o : Outcome) (a : Answer) → refusal ≡ Some a → refused_as a m mem j ≡ checked bad_channel m mem j o
  unfolding first_bad checked size_bad
  stopped o a e =
      first_some m mem j o a (memory_size_bad (length mem) || journal_size_bad (length j)) bad_channel (bounds_bad (length j) m.depth m.used) e

  module _ (h : refusal ≡ None) where
    parts :
        (memory_size_bad (length mem) || journal_size_bad (length j) ≡ false) × (bad_channel ≡ false) × (bounds_bad (length j) m.depth m.used ≡ false)
    unfolding first_bad
    parts =
        first-none (memory_size_bad (length mem) || journal_size_bad (length j)) bad_channel (bounds_bad (length j) m.depth m.used) h

    pub passed : (o : Outcome) → o ≡ checked bad_channel m mem j o
    unfolding checked size_bad
    passed o = rw (parts.0, parts.1, parts.2)

    pub fits : (length mem ≤ 16384) × (length j ≤ 65536)
    fits = let s = size_good (length mem) (length j) parts.0 in (s.1, s.2)

    pub channel_good : bad_channel ≡ false
    channel_good = parts.1

    pub bounds_good : bounds_bad (length j) m.depth m.used ≡ false
    bounds_good = parts.2

-- ---- 12, the last number, is no number below it

pub above : (n k : ℕ) → k ≤ n → (n ≡ k → ⊥) → suc k ≤ n
above n k h e = omega arith

pub twelve : (n : ℕ) → n ≤ 12 → 12 ≤ n → 12 ≡ n
twelve n h k = omega arith

pub zero_at : (n : ℕ) → 0 ≤ n
zero_at n = omega arith
