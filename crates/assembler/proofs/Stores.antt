-- Stores one after the other, as far as a text has room, and the places behind them.
use mathlib.Core.Path.{◌≡◌, refl, sym, ◌∙◌}
use mathlib.Core.List.{List, [], ◌∷◌, ◌++◌, append_assoc}
use Prim.Native.Nat.{ℕ, zero, suc, ◌+◌, ◌-◌, ◌^◌, ◌≤◌, ◌<◌, min}
use native.Mathlib.Omega.{arith}
use native.Mathlib.Nat.{zero-add}
use lib.ListN.{length, set, take, drop, length-append, length-set}
use lib.Seq.{length-sets, take_all, length-take-le}
use Rattle.std.proofs.lemmas.List.{drop-drop, set_past}
use Rattle.std.proofs.lemmas.List.Edits.{sets, sets-eq}
use borrow.Rule.Slice.PartMut.{put_mid}
use Rattle.rules.proofs.Tests.{cases_lt}
use Rattle.laws.proofs.Stores.{sets-append}
use Rattle.assembler.specs.Text.{behind}

-- ---- what is written into a part of a text

-- a part, all of it
pub part-written : (n k : ℕ) (l b : List ℕ) → length b ≡ k → n + k ≤ length l → put_mid n k l b ≡ sets l n b
part-written n k l b h g = rw (sets-eq b l n (omega arith), drop-drop k n l, h) (sym (append_assoc (take n l) b (drop (n + k) l)))

-- the first of them
pub front-written : (n : ℕ) (l b : List ℕ) → length b ≡ n → n ≤ length l → b ++ drop n l ≡ sets l 0 b
front-written n l b h g = rw (sets-eq b l 0 (omega arith), zero-add (length b), h)

-- ---- what has no room

pub sets-past : (l : List ℕ) (i : ℕ) (b : List ℕ) → length l ≤ i → sets l i b ≡ l
sets-past l i [] h = refl
sets-past l i (a ∷ b) h = rw (set_past l i a h) (sets-past l (suc i) b (omega arith))

pub sets-fit : (n : ℕ) (l : List ℕ) (i : ℕ) (b : List ℕ) → length l ≤ i + n → sets l i b ≡ sets l i (take n b)
sets-fit zero l i b h = sets-past l i b (omega arith)
sets-fit (suc n) l i [] h = refl
sets-fit (suc n) l i (a ∷ b) h = sets-fit n (set l i a) (suc i) b (omega (arith, length-set l i a))

-- ---- bytes behind bytes

pub behind-next : (at : ℕ) (a b : List ℕ) → behind (behind at a) b ≡ behind at (a ++ b)
behind-next at a b = omega (arith, length-append a b)

pub stored-next : (l : List ℕ) (at : ℕ) (a b : List ℕ) → length l < 2 ^ 64 → sets (sets l at a) (behind at a) b ≡ sets l at (a ++ b)
stored-next l at a b h =
    cases_lt (at + length a) (2 ^ 64)
    (λ s. let e : behind at a ≡ at + length a = omega arith in rw e (sym (sets-append l at a b)))
    (λ s. sets-past (sets l at a) (behind at a) b (omega (arith, length-sets l at a))
    ∙ sym (sets-append l at a b ∙ sets-past (sets l at a) (at + length a) b (omega (arith, length-sets l at a))))

-- as many as there is room for
pub fit-written : (at k : ℕ) (l b new : List ℕ) → k ≡ min (length b) (length l - at) → at < length l → new ≡ take k b
    → put_mid at (at + k - at) l new ≡ sets l at b
fit-written at k l b new e h n =
    let size : at + k - at ≡ k = omega arith in
    let fits : length (take k b) ≡ k = length-take-le k b (omega arith) in
    cases_lt (length b) (length l - at) (λ s. rw (size, n, take_all k b (omega arith)) (part-written at k l b (omega arith) (omega arith)))
    (λ s. rw (size, n) (part-written at k l (take k b) fits (omega arith) ∙ sym (sets-fit k l at b (omega arith))))
