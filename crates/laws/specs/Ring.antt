-- A walk along a timer queue comes again to a pointer value that it has passed (01, Answers by number, 11; DECISIONS 27).
use Rattle.std.specs.Prelude.{◌≡◌, Bool, true, false, List, [], ◌∷◌, ℕ, zero, suc, ◌+◌, eqb, leb, length}
use Rattle.rules.specs.Tests.{pick}
use Rattle.rules.specs.Words.{at_word, index, later}
use Rattle.rules.specs.Work.{Work, wptr, word_at}
use Rattle.rules.specs.Scheduling.{not_process, tlink_s, time_s}

-- p stands in the list of the pointer values passed (01, Answers by number, 11)
abbrev pub has : ℕ → List ℕ → Bool
has p [] = false
has p (x ∷ xs) = pick (eqb p x) true (has p xs)

-- the result of a walk: it ends at a pointer value, or runs in a ring (01, Answers by number, 11; DECISIONS 27)
pub data Way : Type 0 where
  end : ℕ → Way
  round : Way

-- `Walks next ends passed p r`: the walk from the pointer value p, after the values of the list passed, has the result r
-- (01, Answers by number, 11; DECISIONS 27)
pub data Walks (next : ℕ → ℕ) (ends : ℕ → Bool) : List ℕ → ℕ → Way → Type 0 where
  again : {passed : List ℕ} {p : ℕ} → has p passed ≡ true → Walks next ends passed p round
  stays : {passed : List ℕ} {p : ℕ} → has p passed ≡ false → ends p ≡ true → Walks next ends passed p (end p)
  goes : {passed : List ℕ} {p : ℕ} {r : Way} → has p passed ≡ false → ends p ≡ false → Walks next ends (p ∷ passed) (next p) r → Walks next ends passed p r

-- the same as a test: the walk from the pointer value p comes again, in so many turns, to a value that it has passed
-- (01, Answers by number, 11; DECISIONS 27)
unfoldable pub comes_again : (ℕ → ℕ) → (ℕ → Bool) → ℕ → List ℕ → ℕ → Bool
comes_again next ends zero passed p = false
comes_again next ends (suc turns) passed p =
    pick (has p passed) true (pick (ends p) false (comes_again next ends turns (p ∷ passed) (next p)))

module _ (m : List ℕ) where
  -- an address is outside memory: an access there is refused with 10, and nothing more is accessed (01, Answers by number; DECISIONS 44)
  abbrev pub is_outside : ℕ → Bool
  is_outside a = leb (length m) (index a)

  module _ (w : Work) where
    -- the next pointer value: the word at p's TLink.s, through the stores so far (000 1.10, InsertMiddleStep, DeleteMiddleStep)
    abbrev pub next_pointer : ℕ → ℕ
    next_pointer p = word_at m (at_word p tlink_s) w

    -- insertion ends at p: it is NotProcess.p, its time is outside memory, the time to insert is not AFTER its time (the place is
    -- found), or its link is outside memory (000 1.10, InsertTest; 01, Answers by number, 10)
    unfoldable pub insert_ends : ℕ → ℕ → Bool
    insert_ends time p =
        pick (eqb p not_process) true
        (pick (is_outside (at_word p time_s)) true
        (pick (later time (word_at m (at_word p time_s) w)) (is_outside (at_word p tlink_s)) true))

    -- deletion ends at p: it is the process itself, or its link is outside memory (000 1.10, DeleteTest; 01, Answers by number, 10)
    unfoldable pub delete_ends : ℕ → Bool
    delete_ends p = pick (eqb p (wptr w)) true (is_outside (at_word p tlink_s))

    -- from the pointer value p, an insertion of a time comes again to a pointer value that it has passed (01, Answers by number, 11)
    abbrev pub InsertRing : ℕ → ℕ → Type 0
    InsertRing time p = Walks next_pointer (insert_ends time) [] p round

    -- from the pointer value p, a deletion comes again to a pointer value that it has passed (01, Answers by number, 11)
    abbrev pub DeleteRing : ℕ → Type 0
    DeleteRing p = Walks next_pointer delete_ends [] p round

    -- InsertRing as a test: a walk passes at most N + 1 pointer values, so N + 2 turns tell (01, Answers by number, 11; DECISIONS 27)
    unfoldable pub insert_rings : ℕ → ℕ → Bool
    insert_rings time p = comes_again next_pointer (insert_ends time) (length m + 2) [] p

    -- DeleteRing as a test, likewise (01, Answers by number, 11; DECISIONS 27)
    unfoldable pub delete_rings : ℕ → Bool
    delete_rings p = comes_again next_pointer delete_ends (length m + 2) [] p
