-- Memory after a list of stores: its length, and what a read returns.
use mathlib.Core.Path.{◌≡◌, refl, sym, ◌∙◌}
use mathlib.Core.Bool.{Bool, true, false, ◌&&◌}
use mathlib.Core.List.{List, [], ◌∷◌, ◌++◌}
use Prim.Native.Nat.{ℕ, zero, suc, ◌+◌, ◌*◌, ◌≤◌, ◌<◌}
use native.Mathlib.Omega.{arith}
use lib.Dec.{leb}
use lib.ListN.{length, get_or, length-set}
use lib.Seq.{get_or-set_same, get_or-set_other}
use borrow.Author.Tests.{le-leb, lt-leb}
use Rattle.rules.specs.Memory.{Store, word, bytes, moved, within, storing, stores}
use Rattle.rules.proofs.Tests.{on-pick}
use Rattle.plan.specs.View.{moves}
use Rattle.memory.proofs.Moved.{moved_length}

pub storing-length : (m : List ℕ) (s : Store) → length (storing m s) ≡ length m
unfolding storing
storing-length m (word i v) = length-set m i v
storing-length m (bytes s d n) =
    on-pick (λ (z : List ℕ). length z ≡ length m) (within (length m) s d n) (moved_length n m s d) refl

pub stores-length : (ss : List Store) (m : List ℕ) → length (stores m ss) ≡ length m
unfolding stores
stores-length [] m = refl
stores-length (s ∷ ss) m = stores-length ss (storing m s) ∙ storing-length m s

pub stores-append : (a b : List Store) (m : List ℕ) → stores m (a ++ b) ≡ stores (stores m a) b
unfolding stores
stores-append [] b m = refl
stores-append (s ∷ a) b m = stores-append a b (storing m s)

-- ---- a read returns the last store to its word

pub read_here : (ss : List Store) (m : List ℕ) (i v : ℕ) → i < length m → get_or (stores m (ss ++ (word i v ∷ []))) i 0 ≡ v
unfolding stores storing
read_here ss m i v h =
    rw (stores-append ss (word i v ∷ []) m) (get_or-set_same (stores m ss) i v 0 (omega (arith, stores-length ss m)))

pub read_past : (ss : List Store) (m : List ℕ) (i k v : ℕ) → (k ≡ i → ⊥)
    → get_or (stores m (ss ++ (word k v ∷ []))) i 0 ≡ get_or (stores m ss) i 0
unfolding stores storing
read_past ss m i k v n =
    rw (stores-append ss (word k v ∷ []) m) (get_or-set_other (stores m ss) k i v 0 (λ e. n (sym e)))

-- ---- the move

pub no_move : (m : List ℕ) (s d n : ℕ) → n ≡ 0 → stores m (moves s d n) ≡ m
unfolding stores
no_move m s d zero e = refl
no_move m s d (suc n) e = absurd (omega arith)

pub move-inside : (m : List ℕ) (s d n : ℕ) → s + n ≤ 4 * length m → d + n ≤ 4 * length m
    → stores m (moves s d n) ≡ moved m s d n
unfolding stores storing within moved
move-inside m s d zero h k = refl
move-inside m s d (suc n) h k = rw (le-leb (s + suc n) (4 * length m) h, le-leb (d + suc n) (4 * length m) k)

and-false : (b : Bool) → (b && false) ≡ false
and-false true = refl
and-false false = refl

pub source-outside : (m : List ℕ) (s d n : ℕ) → 4 * length m < s + n → stores m (moves s d n) ≡ m
unfolding stores storing within
source-outside m s d zero h = refl
source-outside m s d (suc n) h = rw (lt-leb (s + suc n) (4 * length m) h)

pub target-outside : (m : List ℕ) (s d n : ℕ) → 4 * length m < d + n → stores m (moves s d n) ≡ m
unfolding stores storing within
target-outside m s d zero h = refl
target-outside m s d (suc n) h =
    rw (lt-leb (d + suc n) (4 * length m) h, and-false (leb (s + suc n) (4 * length m)))
