-- The words that a call's stores touch: below the size, rising, each once; memory outside them is as before; and so the length of a record.
-- For any stores, moves among them.
use mathlib.Core.Path.{◌≡◌, refl, sym, ◌∙◌}
use mathlib.Core.Bool.{Bool, true, false}
use mathlib.Core.List.{List, [], ◌∷◌}
use Prim.Native.Nat.{ℕ, zero, suc, ◌+◌, ◌*◌, ◌≤◌, ◌<◌}
use native.Mathlib.Nat.{le_refl}
use native.Mathlib.Decide.{ℕ_discrete, dec_lt}
use native.Mathlib.Omega.{arith}
use lib.ListN.{length, get_or, length-append, get_or-eq_default}
use Rattle.rules.specs.Tests.{pick}
use Rattle.rules.specs.Registers.{registers}
use Rattle.rules.specs.Memory.{Store, stores, hit, touched_from, touched}
use Rattle.rules.specs.Journal.{record_length, olds, record_of}
use Rattle.laws.specs.Lists.{Off, NoDup, Below, Rises}
use Rattle.laws.proofs.Stores.{length-stores, stores_keep}

-- ---- rising, each once, below the size

rises_weak : (a b : ℕ) (ks : List ℕ) → a ≤ b → Rises b ks → Rises a ks
rises_weak a b [] h r = tt
rises_weak a b (k ∷ ks) h r = (omega arith, r.1)

rises-pick : (t : Bool) (b : ℕ) (ks : List ℕ) → Rises (suc b) ks → Rises b (pick t (b ∷ ks) ks)
rises-pick true b ks r = (le_refl b, r)
rises-pick false b ks r = rises_weak b (suc b) ks (omega arith) r

rises_from : (size b n : ℕ) (ss : List Store) → Rises b (touched_from size b n ss)
unfolding touched_from
rises_from size b zero ss = tt
rises_from size b (suc n) ss = rises-pick (hit size b ss) b (touched_from size (suc b) n ss) (rises_from size (suc b) n ss)

pub touched_rises : (size : ℕ) (ss : List Store) → Rises 0 (touched size ss)
unfolding touched
touched_rises size ss = rises_from size 0 size ss

rises_off : (i b : ℕ) (ks : List ℕ) → i < b → Rises b ks → Off i ks
rises_off i b [] h r = tt
rises_off i b (k ∷ ks) h r = ((λ e. let z : ◌≡◌ {A = ℕ} 0 1 = omega (arith, e, r.0) in omega arith), rises_off i (suc k) ks (omega arith) r.1)

pub rises_nodup : (b : ℕ) (ks : List ℕ) → Rises b ks → NoDup ks
rises_nodup b [] r = tt
rises_nodup b (k ∷ ks) r = (rises_off k (suc k) ks (omega arith) r.1, rises_nodup (suc k) ks r.1)

pub touched_once : (size : ℕ) (ss : List Store) → NoDup (touched size ss)
touched_once size ss = rises_nodup 0 (touched size ss) (touched_rises size ss)

below-pick : (t : Bool) (top b : ℕ) (ks : List ℕ) → b < top → Below top ks → Below top (pick t (b ∷ ks) ks)
below-pick true top b ks h r = (h, r)
below-pick false top b ks h r = r

below_from : (size top b n : ℕ) (ss : List Store) → b + n ≤ top → Below top (touched_from size b n ss)
unfolding touched_from
below_from size top b zero ss h = tt
below_from size top b (suc n) ss h =
    below-pick (hit size b ss) top b (touched_from size (suc b) n ss) (omega arith) (below_from size top (suc b) n ss (omega arith))

pub touched_below : (size : ℕ) (ss : List Store) → Below size (touched size ss)
unfolding touched
touched_below size ss = below_from size size 0 size ss (omega arith)

-- ---- a word is touched exactly where some store hits it

off_from : (size b n : ℕ) (ss : List Store) (i : ℕ) → b ≤ i → i < b + n → Off i (touched_from size b n ss) → hit size i ss ≡ false
unfolding touched_from
off_from size b zero ss i l u o = absurd (omega arith)
off_from size b (suc n) ss i l u o = go (hit size b ss) refl o (λ k q. off_from size (suc b) n ss i k (omega arith) q)
  where
    go : (t : Bool) → hit size b ss ≡ t → Off i (pick t (b ∷ touched_from size (suc b) n ss) (touched_from size (suc b) n ss))
        → (suc b ≤ i → Off i (touched_from size (suc b) n ss) → hit size i ss ≡ false) → hit size i ss ≡ false
    go true e o f = f (omega (arith, o.0)) o.1
    go false e o f = elim (ℕ_discrete i b) [ yes q ↦ rw q e | no q ↦ f (omega (arith, q)) o ]

pub off-hit : (size : ℕ) (ss : List Store) (i : ℕ) → i < size → Off i (touched size ss) → hit size i ss ≡ false
unfolding touched
off-hit size ss i u o = off_from size 0 size ss i (omega arith) (omega arith) o

hit_from : (size b n : ℕ) (ss : List Store) (i : ℕ) → hit size i ss ≡ false → Off i (touched_from size b n ss)
unfolding touched_from
hit_from size b zero ss i h = tt
hit_from size b (suc n) ss i h = go (hit size b ss) refl (hit_from size (suc b) n ss i h)
  where
    go : (t : Bool) → hit size b ss ≡ t → Off i (touched_from size (suc b) n ss) → Off i (pick t (b ∷ touched_from size (suc b) n ss) (touched_from size (suc b) n ss))
    go true e o = ((λ q. let e' : hit size i ss ≡ true = rw q e in let z : ◌≡◌ {A = ℕ} 0 1 = cc in omega arith), o)
    go false e o = o

-- ---- memory outside the touched words is as before

pub outside-touched : (m : List ℕ) (ss : List Store) (i : ℕ) → Off i (touched (length m) ss) → get_or (stores m ss) i 0 ≡ get_or m i 0
outside-touched m ss i o = go (dec_lt i (length m))
  where
    go : Dec (i < length m) → get_or (stores m ss) i 0 ≡ get_or m i 0
    go (yes u) = stores_keep (length m) m i ss refl (off-hit (length m) ss i u o)
    go (no u) =
        get_or-eq_default (stores m ss) 0 {n = i} (omega (arith, length-stores m ss))
        ∙ sym (get_or-eq_default m 0 {n = i} (omega arith))

-- ---- records

pub length-olds : (m ks : List ℕ) → length (olds m ks) ≡ 2 * length ks
unfolding olds
length-olds m [] = refl
length-olds m (k ∷ ks) = omega (arith, length-olds m ks)

-- the registers, the number of pairs, and two words for each word touched
pub length_record : (m regs ks : List ℕ) → length regs ≡ registers → length (record_of m regs ks) ≡ record_length (length ks)
unfolding record_of
length_record m regs ks h = simp length-append (omega (arith, length-olds m ks))

-- 46 words plus two for each memory word stored to
pub record-length : (n : ℕ) → record_length n ≡ 46 + 2 * n
record-length n = omega arith
