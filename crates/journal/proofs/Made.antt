-- The memory after the stores of a plan: after a turn of the loop of single stores, after the move, after all stores.
use mathlib.Core.Path.{◌≡◌, refl}
use mathlib.Core.Bool.{true, false}
use mathlib.Core.List.{List, [], ◌++◌}
use Prim.Native.Nat.{ℕ, zero, suc, ◌+◌, ◌<◌}
use native.Mathlib.Numerals.{add-one}
use lib.ListN.{length, get_or, set, take, drop}
use lib.Seq.{slice, drop-cons}
use Rattle.std.proofs.lemmas.List.{take-map, drop-map}
use Rattle.rules.specs.Memory.{Store, word, moved, within, storing, stores}
use Rattle.laws.proofs.Stores.{stores-append}
use Rattle.plan.specs.declared.Single.{Single}
use Rattle.plan.proofs.Logged.{unused}
use Rattle.plan.specs.View.{singles, moves, logged}

-- a turn of the loop that makes single stores: the memory is set where the store is inside
pub stores_turn :
    (m : List ℕ) (xs : List Single) (k : ℕ)
    → k < length xs
    → stores m (singles (drop k xs)) ≡ stores (set m (get_or xs k unused).index (get_or xs k unused).value) (singles (drop (k + 1) xs))
unfolding stores storing
stores_turn m xs k h = rw (drop-cons xs k unused h, add-one k)

pub stores-none : (m : List ℕ) → stores m [] ≡ m
unfolding stores
stores-none m = refl

module _ (m : List ℕ) (s d : ℕ) where
  pub move_in : (n : ℕ) → within (length m) s d n ≡ true → moved m s d n ≡ stores m (moves s d n)
  unfolding stores storing moved
  move_in zero w = refl
  move_in (suc n) w = rw w

  pub move_out : (n : ℕ) → within (length m) s d n ≡ false → m ≡ stores m (moves s d n)
  unfolding stores storing
  move_out zero w = refl
  move_out (suc n) w = rw w

-- the three parts of a plan's stores
pub log-made :
    (m : List ℕ) (xs : List Single) (n cut s d count : ℕ)
    → stores (stores (stores m (singles (take cut xs))) (moves s d count)) (singles (slice cut n xs)) ≡ stores m (logged xs n cut s d count)
unfolding logged
log-made m xs n cut s d count =
    let f : Single → Store = λ x. word x.index x.value in
    let pre = take cut (singles xs) in
    let post = drop cut (take n (singles xs)) in
    rw
    (stores-append m pre (moves s d count ++ post), stores-append (stores m pre) (moves s d count) post, take-map f cut xs, take-map f n xs, drop-map f cut (take n xs))
