-- Reading the last record back: its number of pairs, its registers, its pairs, and memory with the pairs written back.
use mathlib.Core.Path.{◌≡◌, refl, sym, ap, ◌∙◌}
use mathlib.Core.Bool.{false}
use mathlib.Core.List.{List, [], ◌∷◌, ◌++◌, append_assoc}
use Prim.Native.Nat.{ℕ, zero, suc, ◌+◌, ◌-◌, ◌*◌, ◌≤◌, ◌<◌}
use native.Mathlib.Omega.{arith}
use native.Mathlib.Decide.{ℕ_discrete, dec_lt}
use borrow.Author.Tests.{lt-ltb}
use lib.ListN.{length, get_or, take, drop, set, length-append, length-set, get_or-eq_default, get_or-append}
use lib.Seq.{take-take, take_at, drop_at, get_or_at, get_or-take, get_or-append-add, get_or-set_same, get_or-set_other, ext_get_or}
use Rattle.rules.specs.Registers.{registers}
use Rattle.rules.specs.Journal.{record_length, olds, record_of, last_pairs, last_start, last_regs, pairs_at, write_back, strays}
use Rattle.laws.specs.Lists.{Off, Below}
use Rattle.laws.proofs.Touched.{length-olds, length_record}

-- ---- pairs

-- each index with the word of the memory m there
abbrev pub pairs_of : List ℕ → List ℕ → List (ℕ × ℕ)
pairs_of m [] = []
pairs_of m (k ∷ ks) = (k, get_or m k 0) ∷ pairs_of m ks

pairs_read : (j : List ℕ) (at : ℕ) (m ks : List ℕ) → ((i : ℕ) → i < 2 * length ks → get_or j (at + i) 0 ≡ get_or (olds m ks) i 0)
    → pairs_at j at (length ks) ≡ pairs_of m ks
unfolding pairs_at olds
pairs_read j at m [] f = refl
pairs_read j at m (k ∷ ks) f =
    let z : at + 0 ≡ at = omega arith in
    let first : get_or j at 0 ≡ k = rw z at (f 0 (omega arith)) in
    rw (first, f 1 (omega arith), pairs_read j (at + 2) m ks later)
  where
    later : (i : ℕ) → i < 2 * length ks → get_or j (at + 2 + i) 0 ≡ get_or (olds m ks) i 0
    later i h = let e : at + 2 + i ≡ at + suc (suc i) = omega arith in rw e (f (suc (suc i)) (omega arith))

pub strays-none : (size : ℕ) (m ks : List ℕ) → Below size ks → strays size (pairs_of m ks) ≡ false
unfolding strays
strays-none size m [] b = refl
strays-none size m (k ∷ ks) b = rw (lt-ltb k size b.0) (strays-none size m ks b.1)

put_back : (m m' : List ℕ) (i : ℕ) → length m' ≡ length m → get_or (set m' i (get_or m i 0)) i 0 ≡ get_or m i 0
put_back m m' i h = go (dec_lt i (length m'))
  where
    go : Dec (i < length m') → get_or (set m' i (get_or m i 0)) i 0 ≡ get_or m i 0
    go (yes q) = get_or-set_same m' i (get_or m i 0) 0 q
    go (no q) =
        get_or-eq_default (set m' i (get_or m i 0)) 0 {n = i} (omega (arith, length-set m' i (get_or m i 0)))
        ∙ sym (get_or-eq_default m 0 {n = i} (omega arith))

-- a memory that differs from m only at words of ks becomes m
pub written_back : (ks m m' : List ℕ) → length m' ≡ length m → ((k : ℕ) → Off k ks → get_or m' k 0 ≡ get_or m k 0) → write_back m' (pairs_of m ks) ≡ m
unfolding write_back
written_back [] m m' h f = ext_get_or 0 m' m h (λ k q. f k tt)
written_back (i ∷ ks) m m' h f = written_back ks m (set m' i (get_or m i 0)) (length-set m' i (get_or m i 0) ∙ h) go
  where
    go : (k : ℕ) → Off k ks → get_or (set m' i (get_or m i 0)) k 0 ≡ get_or m k 0
    go k o = elim (ℕ_discrete k i) [ yes e ↦ rw e (put_back m m' i h) | no e ↦ get_or-set_other m' i k (get_or m i 0) 0 e ∙ f k (e, o) ]

take-drop-take : (a b u : ℕ) (l : List ℕ) → b + a ≤ u → take a (drop b (take u l)) ≡ take a (drop b l)
take-drop-take a zero u l h = take-take a u l (omega arith)
take-drop-take a (suc b) zero l h = absurd (omega arith)
take-drop-take a (suc b) (suc u) [] h = refl
take-drop-take a (suc b) (suc u) (x ∷ l) h = take-drop-take a b u l (omega arith)

-- ---- the last record of a journal j whose first words are those of front and a record of the words ks
module _ (front j m regs ks : List ℕ) (hr : length regs ≡ registers) (ht : take (length front + length (record_of m regs ks)) j ≡ front ++ record_of m regs ks) where
  abbrev used : ℕ
  used = length front + length (record_of m regs ks)

  used-is : used ≡ length front + record_length (length ks)
  used-is = ap (λ (n : ℕ). length front + n) (length_record m regs ks hr)

  -- word i of the record
  word_read : (i : ℕ) → i < length (record_of m regs ks) → get_or j (length front + i) 0 ≡ get_or (record_of m regs ks) i 0
  word_read i h =
      sym (get_or-take used j (length front + i) 0 (omega arith))
      ∙ ap (λ (l : List ℕ). get_or l (length front + i) 0) ht
      ∙ get_or-append-add front (record_of m regs ks) i 0

  pub last_pairs_lem : last_pairs j used ≡ length ks
  unfolding last_pairs record_of
  last_pairs_lem =
      let e : used - 1 ≡ length front + (2 * length ks + registers) = omega (arith, used-is) in
      rw e
      (word_read (2 * length ks + registers) (omega (arith, length_record m regs ks hr))
      ∙ rw (← append_assoc (olds m ks) regs (length ks ∷ []))
      (get_or_at (olds m ks ++ regs) (length ks) [] 0 (2 * length ks + registers) (simp length-append (omega (arith, length-olds m ks)))))

  pub last-start : last_start j used ≡ length front
  unfolding last_start
  last-start = rw last_pairs_lem (omega (arith, used-is))

  pub last-regs : last_regs j used ≡ regs
  unfolding last_regs record_of
  last-regs =
      let e : used - record_length 0 ≡ length front + 2 * length ks = omega (arith, used-is) in
      rw e
      (sym (take-drop-take registers (length front + 2 * length ks) used j (omega (arith, used-is)))
      ∙ rw (ht, ← append_assoc front (olds m ks) (regs ++ (length ks ∷ [])), drop_at (front ++ olds m ks) (regs ++ (length ks ∷ [])) (length front + 2 * length ks) (simp length-append (omega (arith, length-olds m ks))))
      (take_at regs (length ks ∷ []) registers hr))

  pub last_read : pairs_at j (length front) (length ks) ≡ pairs_of m ks
  unfolding record_of
  last_read =
      pairs_read j (length front) m ks
      (λ i h.
      word_read i (omega (arith, length_record m regs ks hr))
      ∙ get_or-append (olds m ks) (regs ++ (length ks ∷ [])) 0 i (omega (arith, length-olds m ks)))
