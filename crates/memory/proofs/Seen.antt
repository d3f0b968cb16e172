-- What a load reads after a store, and after a move, of the same call.
use mathlib.Core.Path.{◌≡◌, refl, sym, ◌∙◌}
use mathlib.Core.List.{List, [], ◌∷◌}
use Prim.Native.Nat.{ℕ, zero, suc, ◌+◌, ◌-◌, ◌*◌, ◌%◌, ◌^◌, ◌≤◌, ◌<◌}
use native.Mathlib.Nat.{mod-eq_of_lt}
use native.Mathlib.Omega.{arith}
use lib.ListN.{length}
use Rattle.rules.specs.Tests.{if_lt, if_eq}
use Rattle.rules.specs.Words.{at_byte, offset, index}
use Rattle.rules.specs.Memory.{bytes, byte_in, set_byte_in, moved, within, storing, stores}
use Rattle.rules.specs.Work.{Work, begin, append, word_at, byte_at, access, store_word, first_outside, move_accesses, move_outside, move_or_refuse, transfer}
use Rattle.rules.proofs.Tests.{yes_lt, no_lt, yes_eq, no_eq, cases_lt}
use Rattle.plan.specs.View.{moves}
use Rattle.memory.specs.Places.{came_from}
use Rattle.memory.proofs.Moved.{came-byte}
use Rattle.memory.proofs.Stored.{stores-length, stores-append, read_here, move-inside}
use Rattle.memory.proofs.Reached.{reach-is, outside-none}

-- the byte at an address is that of memory after the stores, at its place
byte_at_in : (m : List ℕ) (a : ℕ) (w : Work) → byte_at m a w ≡ byte_in (stores m w.stored) (offset a)
unfolding byte_at word_at byte_in
byte_at_in m a w = let e : offset a % 4 ≡ a % 4 = omega arith in rw e

module _ (m : List ℕ) (w : Work) (clear : w.answer ≡ 0) where
  pub load-after_store : (a v : ℕ) → index a < length m → word_at m a (store_word m a v w) ≡ v
  unfolding word_at store_word append access
  load-after_store a v h = rw (yes_lt h, yes_eq clear) (read_here w.stored m (index a) v h)

  module _ (s d n : ℕ) (small : length m < 2 ^ 30) (from : offset s + n ≤ 4 * length m) (to : offset d + n ≤ 4 * length m) where
    nothing-outside : move_outside m s d n ≡ (0, 0)
    nothing-outside =
        outside-none m n s d (omega (arith, reach-is n (length m) s small)) (omega (arith, reach-is n (length m) d small))

    after_move : 0 < n → stores m (transfer m s d n w).stored ≡ moved (stores m w.stored) (offset s) (offset d) n
    unfolding transfer move_or_refuse append
    after_move h =
        let no : n ≡ 0 → ⊥ = λ e. omega arith in
        let l = stores-length w.stored m in
        rw (no_eq no, nothing-outside, yes_eq {a = 0} {b = 0} refl, yes_eq clear, stores-append w.stored (bytes (offset s) (offset d) n ∷ []) m)
        (sym (one n h) ∙ move-inside (stores m w.stored) (offset s) (offset d) n (omega arith) (omega arith))
      where
        one : (c : ℕ) → 0 < c → stores (stores m w.stored) (moves (offset s) (offset d) c) ≡ stores (stores m w.stored) (bytes (offset s) (offset d) c ∷ [])
        one zero h = absurd (omega arith)
        one (suc c) h = refl

    -- each moved byte, however source and destination overlap
    pub load-after_move : (i : ℕ) → i < n
        → byte_at m (at_byte d i) (transfer m s d n w) ≡ byte_in (stores m w.stored) (came_from (offset s) (offset d) n (offset d + i))
    load-after_move i h =
        let e : offset (at_byte d i) ≡ offset d + i = omega arith in
        let l = stores-length w.stored m in
        byte_at_in m (at_byte d i) (transfer m s d n w)
        ∙ rw (after_move (omega arith), e)
        (came-byte (stores m w.stored) (offset s) (offset d) n (offset d + i) (omega arith))

    -- the byte loaded from the source, where the move is not up onto itself
    pub load_moved : (i : ℕ) → i < n → (offset s < offset d → offset s + n ≤ offset d)
        → byte_at m (at_byte d i) (transfer m s d n w) ≡ byte_at m (at_byte s i) w
    unfolding came_from
    load_moved i h apart =
        let e : offset (at_byte s i) ≡ offset s + i = omega arith in
        let p : offset d ≤ offset d + i = omega arith in
        let q : offset d + i < offset d + n = omega arith in
        let z : offset d + i - offset d ≡ i = omega arith in
        load-after_move i h
        ∙ sym
        (byte_at_in m (at_byte s i) w
        ∙ rw (e, no_lt p, yes_lt q, z)
        (cases_lt (offset s) (offset d)
        (λ x. let y : i < offset d - offset s = (let f = apart x in omega arith) in rw (yes_lt x, mod-eq_of_lt y))
        (λ x. rw (no_lt x))))

-- ---- computed: a store, four bytes moved up by one onto themselves, a load

abbrev memory : List ℕ
memory = 0x4433_2211 ∷ 0x8877_6655 ∷ []

abbrev start : Work
start = begin []

run_up : word_at memory 0x8000_0004 (transfer memory 0x8000_0000 0x8000_0001 4 (store_word memory 0x8000_0000 0xDDCC_BBAA start)) ≡ 0x8877_66AA
unfolding word_at transfer move_or_refuse move_outside move_accesses first_outside store_word append access if_lt if_eq stores storing within moved byte_in set_byte_in
run_up = refl
