-- Stores and moves keep the length of memory, and a word that none of them touches.
use mathlib.Core.Path.{◌≡◌, refl, sym, ◌∙◌}
use mathlib.Core.Bool.{Bool, true, false, ◌&&◌}
use mathlib.Core.List.{List, [], ◌∷◌, ◌++◌}
use Prim.Native.Nat.{ℕ, zero, suc, ◌+◌, ◌/◌, ◌%◌}
use native.Mathlib.Nat.{add-suc, suc-add, add-zero}
use borrow.Author.Tests.{eqb-false}
use lib.Dec.{eqb}
use lib.ListN.{length, get_or, set, length-set}
use lib.Seq.{sets, get_or-set_other}
use Rattle.rules.specs.Tests.{pick}
use Rattle.rules.specs.Words.{with_byte}
use Rattle.rules.specs.Memory.{Store, word, bytes, byte_in, set_byte_in, moved, within, storing, stores, covers, touches, hit}

-- ---- lengths

pub length-set_byte_in : (m : List ℕ) (o b : ℕ) → length (set_byte_in m o b) ≡ length m
unfolding set_byte_in
length-set_byte_in m o b = length-set m (o / 4) (with_byte (o % 4) b (get_or m (o / 4) 0))

pub length_moved : (m : List ℕ) (s d n : ℕ) → length (moved m s d n) ≡ length m
unfolding moved
length_moved m s d zero = refl
length_moved m s d (suc n) =
    length_moved (set_byte_in m d (byte_in m s)) (s + 1) (d + 1) n ∙ length-set_byte_in m d (byte_in m s)

length-pick : (t : Bool) (x y : List ℕ) → length x ≡ length y → length (pick t x y) ≡ length y
length-pick true x y e = e
length-pick false x y e = refl

pub length-storing : (m : List ℕ) (s : Store) → length (storing m s) ≡ length m
unfolding storing
length-storing m (word i v) = length-set m i v
length-storing m (bytes s d n) = length-pick (within (length m) s d n) (moved m s d n) m (length_moved m s d n)

pub length-stores : (m : List ℕ) (ss : List Store) → length (stores m ss) ≡ length m
unfolding stores
length-stores m [] = refl
length-stores m (s ∷ ss) = length-stores (storing m s) ss ∙ length-storing m s

-- ---- two lists of stores, one after the other; one store more

pub stores-append : (m : List ℕ) (ss ts : List Store) → stores m (ss ++ ts) ≡ stores (stores m ss) ts
unfolding stores
stores-append m [] ts = refl
stores-append m (s ∷ ss) ts = stores-append (storing m s) ss ts

-- two lists of words, written one after the other
pub sets-append : (l : List ℕ) (i : ℕ) (a b : List ℕ) → sets l i (a ++ b) ≡ sets (sets l i a) (i + length a) b
sets-append l i [] b = rw (add-zero i)
sets-append l i (x ∷ a) b = rw (add-suc i (length a), ← suc-add i (length a)) (sets-append (set l i x) (suc i) a b)

-- ---- a word that no store touches

pick-false : (a b : Bool) → pick a true b ≡ false → (a ≡ false) × (b ≡ false)
pick-false true b e = (e, cc)
pick-false false b e = (refl, e)

pub moved_keeps : (m : List ℕ) (i s d n : ℕ) → covers i d n ≡ false → get_or (moved m s d n) i 0 ≡ get_or m i 0
unfolding moved covers set_byte_in
moved_keeps m i s d zero h = refl
moved_keeps m i s d (suc n) h =
    let q = pick-false (eqb (d / 4) i) (covers i (d + 1) n) h in
    moved_keeps (set_byte_in m d (byte_in m s)) i (s + 1) (d + 1) n q.1 ∙ kept (eqb-false (d / 4) i q.0)
  where
    kept : (d / 4 ≡ i → ⊥) → get_or (set_byte_in m d (byte_in m s)) i 0 ≡ get_or m i 0
    kept ne = get_or-set_other m (d / 4) i _ 0 (λ e. ne (sym e))

pub storing-keeps : (m : List ℕ) (i : ℕ) (s : Store) → touches (length m) i s ≡ false → get_or (storing m s) i 0 ≡ get_or m i 0
unfolding storing touches
storing-keeps m i (word k v) h = get_or-set_other m k i v 0 (λ e. eqb-false k i h (sym e))
storing-keeps m i (bytes s d n) h = go (within (length m) s d n) h
  where
    go : (t : Bool) → (t && covers i d n) ≡ false → get_or (pick t (moved m s d n) m) i 0 ≡ get_or m i 0
    go true e = moved_keeps m i s d n e
    go false e = refl

pub stores_keep : (size : ℕ) (m : List ℕ) (i : ℕ) (ss : List Store) → length m ≡ size → hit size i ss ≡ false → get_or (stores m ss) i 0 ≡ get_or m i 0
unfolding stores hit
stores_keep size m i [] l h = refl
stores_keep size m i (s ∷ ss) l h =
    let q = pick-false (touches size i s) (hit size i ss) h in
    stores_keep size (storing m s) i ss (length-storing m s ∙ l) q.1 ∙ storing-keeps m i s (rw l q.0)
