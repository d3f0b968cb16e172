-- The loops that write a record: the journal after one turn, and after the last.
use mathlib.Core.Path.{◌≡◌, refl, sym, ap}
use mathlib.Core.List.{List, [], ◌∷◌, ◌++◌}
use Prim.Native.Nat.{ℕ, zero, suc, ◌+◌, ◌-◌, ◌*◌, ◌<◌}
use native.Mathlib.Omega.{arith}
use native.Mathlib.Numerals.{add-one}
use lib.ListN.{length, get_or, set, take}
use lib.Seq.{slice, sets, length-take-le}
use Rattle.rules.specs.Registers.{registers}
use Rattle.rules.specs.Journal.{olds, record_of}
use Rattle.laws.proofs.Stores.{sets-append}
use Rattle.laws.proofs.Touched.{length-olds}
use Rattle.journal_record.specs.Indices.{range}
use Rattle.journal_record.specs.Outline.{Outlined, listed}
use Rattle.journal_record.specs.declared.outline.Outline.{Outline}
use Rattle.journal_record.proofs.Sorting.{range_length}

-- ---- lists written one after the other

olds-append : (m a b : List ℕ) → olds m (a ++ b) ≡ olds m a ++ olds m b
unfolding olds
olds-append m [] b = refl
olds-append m (k ∷ a) b = ap (λ (r : List ℕ). k ∷ get_or m k 0 ∷ r) (olds-append m a b)

three-parts :
    (j m a b c : List ℕ) (at x y : ℕ)
    → length a ≡ x
    → length b ≡ y
    → sets (sets (sets j at (olds m a)) (at + 2 * x) (olds m b)) (at + 2 * (x + y)) (olds m c) ≡ sets j at (olds m (a ++ (b ++ c)))
three-parts j m a b c at x y e f =
    let p : at + length (olds m a) ≡ at + 2 * x = omega (arith, length-olds m a) in
    let q : at + 2 * x + length (olds m b) ≡ at + 2 * (x + y) = omega (arith, length-olds m b) in
    sym
    (rw
    (olds-append m a (b ++ c), olds-append m b c, sets-append j at (olds m a) (olds m b ++ olds m c), p, sets-append (sets j at (olds m a)) (at + 2 * x) (olds m b) (olds m c), q))

-- the pairs of an outline, in three parts
module _ (l : ℕ) (o : Outline) (h : Outlined l o) (lx : length o.ix ≡ 16) where
  low-length : length (take o.low o.ix) ≡ o.low
  low-length = length-take-le o.low o.ix (omega arith)

  pub pairs_written :
      (j m : List ℕ) (at : ℕ)
      → sets (sets (sets j at (olds m (take o.low o.ix))) (at + 2 * o.low) (olds m (range o.span.lo o.span.c))) (at + 2 * (o.low + o.span.c)) (olds m (slice o.mid o.end o.ix)) ≡ sets j at (olds m (listed o))
  pairs_written j m at =
      three-parts j m (take o.low o.ix) (range o.span.lo o.span.c) (slice o.mid o.end o.ix) at o.low o.span.c low-length (range_length o.span.lo o.span.c)

-- the registers, then the number of pairs
pub tail_written : (j regs : List ℕ) (at n : ℕ) → length regs ≡ registers → set (sets j at regs) (at + registers) n ≡ sets j at (regs ++ (n ∷ []))
tail_written j regs at n h =
    let b : at + length regs ≡ at + registers = omega arith in
    sym (rw (sets-append j at regs (n ∷ []), b))

-- pairs, registers and the number of pairs are the record
pub record_written :
    (j mem regs ks : List ℕ) (used n : ℕ)
    → length ks ≡ n
    → sets (sets j used (olds mem ks)) (used + 2 * n) (regs ++ (n ∷ [])) ≡ sets j used (record_of mem regs ks)
unfolding record_of
record_written j mem regs ks used n e =
    let a : used + length (olds mem ks) ≡ used + 2 * n = omega (arith, length-olds mem ks) in
    sym (rw (sets-append j used (olds mem ks) (regs ++ (length ks ∷ [])), a, e))

-- ---- a turn of the loops that write pairs

pub olds_turn :
    (j m : List ℕ) (w v k : ℕ) (ks : List ℕ)
    → v ≡ w + 2
    → sets (set (set j w k) (w + 1) (get_or m k 0)) v (olds m ks) ≡ sets j w (olds m (k ∷ ks))
unfolding olds
olds_turn j m w v k ks e = let f : v ≡ suc (suc w) = omega arith in rw (f, add-one w)

pub olds-done : (j m : List ℕ) (w : ℕ) → sets j w (olds m []) ≡ j
unfolding olds
olds-done j m w = refl

pub range_turn : (a n b m : ℕ) → 0 < n → b ≡ a + 1 → m ≡ n - 1 → range a n ≡ a ∷ range b m
range_turn a zero b m h e f = absurd (omega arith)
range_turn a (suc n) b m h e f = let g : m ≡ n = omega arith in rw (e, g)
