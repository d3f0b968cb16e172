-- A memory with words appended: stores inside the shorter one change it alike, touch the same words and record the same.
use mathlib.Core.Path.{◌≡◌, refl}
use mathlib.Core.Bool.{true, false}
use mathlib.Core.List.{List, [], ◌∷◌, ◌++◌}
use Prim.Native.Nat.{ℕ, zero, suc, ◌+◌, ◌*◌, ◌/◌, ◌%◌, ◌≤◌, ◌<◌}
use native.Mathlib.Omega.{arith}
use borrow.Author.Tests.{le-leb, ne_eqb}
use lib.ListN.{length, get_or, length-append, get_or-append}
use lib.Seq.{set-append_left}
use Rattle.rules.specs.Words.{with_byte}
use Rattle.rules.specs.Memory.{Store, word, bytes, byte_in, set_byte_in, moved, within, storing, stores, covers, touches, hit, touched_from, touched}
use Rattle.rules.specs.Journal.{olds, record_of}
use Rattle.laws.specs.Alike.{StoreInside, Inside}
use Rattle.laws.specs.Lists.{Below}
use Rattle.laws.proofs.Stores.{length-storing, length-stores, length-set_byte_in}
use Rattle.laws.proofs.Touched.{touched_below}

-- ---- what the stores make of memory

within_yes : (size s d n : ℕ) → s + n ≤ 4 * size → d + n ≤ 4 * size → within size s d n ≡ true
unfolding within
within_yes size s d n p q = rw (le-leb _ _ p, le-leb _ _ q)

longer : (m x : List ℕ) (k : ℕ) → k ≤ 4 * length m → k ≤ 4 * length (m ++ x)
longer m x k h = omega (arith, length-append m x)

byte_in-appended : (m x : List ℕ) (o : ℕ) → o / 4 < length m → byte_in (m ++ x) o ≡ byte_in m o
unfolding byte_in
byte_in-appended m x o h = rw (get_or-append m x 0 (o / 4) h)

set_byte_in-appended : (m x : List ℕ) (o b : ℕ) → o / 4 < length m → set_byte_in (m ++ x) o b ≡ set_byte_in m o b ++ x
unfolding set_byte_in
set_byte_in-appended m x o b h = rw (get_or-append m x 0 (o / 4) h) (set-append_left m x (o / 4) (with_byte (o % 4) b (get_or m (o / 4) 0)) h)

moved-appended : (m x : List ℕ) (s d n : ℕ) → s + n ≤ 4 * length m → d + n ≤ 4 * length m → moved (m ++ x) s d n ≡ moved m s d n ++ x
unfolding moved
moved-appended m x s d zero p q = refl
moved-appended m x s d (suc n) p q =
    rw (byte_in-appended m x s (omega arith), set_byte_in-appended m x d (byte_in m s) (omega arith))
    (moved-appended (set_byte_in m d (byte_in m s)) x (s + 1) (d + 1) n
    (omega (arith, length-set_byte_in m d (byte_in m s))) (omega (arith, length-set_byte_in m d (byte_in m s))))

storing-appended : (m x : List ℕ) (s : Store) → StoreInside (length m) s → storing (m ++ x) s ≡ storing m s ++ x
unfolding storing
storing-appended m x (word i v) h = set-append_left m x i v h
storing-appended m x (bytes s d n) h =
    rw (within_yes (length m) s d n h.0 h.1, within_yes (length (m ++ x)) s d n (longer m x (s + n) h.0) (longer m x (d + n) h.1))
    (moved-appended m x s d n h.0 h.1)

pub stores-appended : (m x : List ℕ) (ss : List Store) → Inside (length m) ss → stores (m ++ x) ss ≡ stores m ss ++ x
unfolding stores
stores-appended m x [] h = refl
stores-appended m x (s ∷ ss) h =
    rw (storing-appended m x s h.0) (stores-appended (storing m s) x ss (rw (length-storing m s) h.1))

-- a word of the shorter one, through the stores
pub word-appended : (m x : List ℕ) (ss : List Store) (i : ℕ) → Inside (length m) ss → i < length m → get_or (stores (m ++ x) ss) i 0 ≡ get_or (stores m ss) i 0
word-appended m x ss i h b =
    rw (stores-appended m x ss h) (get_or-append (stores m ss) x 0 i (omega (arith, length-stores m ss)))

-- one store more
pub inside_snoc : (size : ℕ) (ss : List Store) (s : Store) → Inside size ss → StoreInside size s → Inside size (ss ++ (s ∷ []))
inside_snoc size [] s h k = (k, tt)
inside_snoc size (t ∷ ss) s h k = (h.0, inside_snoc size ss s h.1 k)

-- ---- the words that they touch

covers-beyond : (i d n : ℕ) → d + n ≤ 4 * i → covers i d n ≡ false
unfolding covers
covers-beyond i d zero h = refl
covers-beyond i d (suc n) h = rw (ne_eqb (d / 4) i (λ e. omega (arith, e))) (covers-beyond i (d + 1) n (omega arith))

touches-same : (size size' i : ℕ) (s : Store) → size ≤ size' → StoreInside size s → touches size' i s ≡ touches size i s
unfolding touches
touches-same size size' i (word k v) l h = refl
touches-same size size' i (bytes s d n) l h =
    rw (within_yes size s d n h.0 h.1, within_yes size' s d n (omega (arith, h.0)) (omega (arith, h.1)))

touches-beyond : (size i : ℕ) (s : Store) → size ≤ i → StoreInside size s → touches size i s ≡ false
unfolding touches
touches-beyond size i (word k v) l h = ne_eqb k i (λ e. omega (arith, e, h))
touches-beyond size i (bytes s d n) l h =
    rw (within_yes size s d n h.0 h.1) (covers-beyond i d n (omega (arith, h.1)))

hit_same : (size size' i : ℕ) (ss : List Store) → size ≤ size' → Inside size ss → hit size' i ss ≡ hit size i ss
unfolding hit
hit_same size size' i [] l h = refl
hit_same size size' i (s ∷ ss) l h = rw (touches-same size size' i s l h.0, hit_same size size' i ss l h.1)

hit-beyond : (size i : ℕ) (ss : List Store) → size ≤ i → Inside size ss → hit size i ss ≡ false
unfolding hit
hit-beyond size i [] l h = refl
hit-beyond size i (s ∷ ss) l h = rw (touches-beyond size i s l h.0) (hit-beyond size i ss l h.1)

none-beyond : (size size' b n : ℕ) (ss : List Store) → size ≤ size' → size ≤ b → Inside size ss → touched_from size' b n ss ≡ []
unfolding touched_from
none-beyond size size' b zero ss l k h = refl
none-beyond size size' b (suc n) ss l k h =
    rw (hit_same size size' b ss l h, hit-beyond size b ss k h) (none-beyond size size' (suc b) n ss l (omega arith) h)

from-same : (size size' b n t : ℕ) (ss : List Store) → size ≤ size' → b + n ≡ size → n ≤ t → Inside size ss
    → touched_from size' b t ss ≡ touched_from size b n ss
unfolding touched_from
from-same size size' b zero t ss l e u h = none-beyond size size' b t ss l (omega arith) h
from-same size size' b (suc n) zero ss l e u h = absurd (omega arith)
from-same size size' b (suc n) (suc t) ss l e u h =
    rw (hit_same size size' b ss l h, from-same size size' (suc b) n t ss l (omega arith) (omega arith) h)

pub touched-appended : (m x : List ℕ) (ss : List Store) → Inside (length m) ss → touched (length (m ++ x)) ss ≡ touched (length m) ss
unfolding touched
touched-appended m x ss h =
    from-same (length m) (length (m ++ x)) 0 (length m) (length (m ++ x)) ss (omega (arith, length-append m x)) (omega arith) (omega (arith, length-append m x)) h

-- ---- the record

olds-appended : (m x ks : List ℕ) → Below (length m) ks → olds (m ++ x) ks ≡ olds m ks
unfolding olds
olds-appended m x [] h = refl
olds-appended m x (k ∷ ks) h = rw (get_or-append m x 0 k h.0, olds-appended m x ks h.1)

pub record-appended : (m x regs : List ℕ) (ss : List Store) → record_of (m ++ x) regs (touched (length m) ss) ≡ record_of m regs (touched (length m) ss)
unfolding record_of
record-appended m x regs ss = rw (olds-appended m x (touched (length m) ss) (touched_below (length m) ss))
