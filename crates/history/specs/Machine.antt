-- Calls on a state with a journal, for any machine: a core (registers, memory), calls, and the effect of a call on the core.
-- T414.antt gives our calls as such a machine.
use Rattle.std.specs.Prelude.{◌≡◌, Bool, true, false, List, [], ◌∷◌, ◌++◌, map, reverse, ℕ, ◌+◌, ◌-◌, ◌≤◌, ltb, eqb, length, take, drop}
use Rattle.std.proofs.Math.Option.{Option, none, some}
use Rattle.std.proofs.lemmas.List.Edits.{sets}

-- the effect of a call on the core: refused with a number, or the new core, the record that undoes the call, and a byte
-- (01, Answers by number; 01, The journal)
pub data Effect (C : Type 0) : Type 0 where
  refused : ℕ → Effect C
  accepted : C → List ℕ → ℕ → Effect C

-- a core with its journal: depth counts the records, used is their total length (01, The journal)
pub record State (C : Type 0) : Type 0 where
  pub core : C
  pub depth : ℕ
  pub used : ℕ
  pub journal : List ℕ

-- a call that adds a record, or an undo (01, What the contracts have to say: demand 3; DECISIONS 52)
pub data Act (K : Type 0) : Type 0 where
  call : K → Act K
  undo : Act K

-- any machine with a journal, by its parts (01, The journal).
-- `guard a x size depth used`: a refusal that comes before all else, by the core, the journal's size, depth and used.
-- `unrecord x used j`: the core before the last record was made, which ends at used in the journal j, and where it begins
pub record Machine : Type 1 where
  pub Core : Type 0
  pub Call : Type 0
  pub guard : Act Call → Core → ℕ → ℕ → ℕ → Option ℕ
  pub next : Call → Core → Effect Core
  pub unrecord : Core → ℕ → List ℕ → Option (Core × ℕ)

-- refused with a number, or accepted with a byte (01, Answers by number)
pub data Answer : Type 0 where
  no_way : ℕ → Answer
  done : ℕ → Answer

-- the outcome of a call: its answer, and the state after it (01, Answers by number)
pub record Done (C : Type 0) : Type 0 where
  pub answer : Answer
  pub state : State C

-- the number of JournalBad (01, Answers by number)
abbrev pub journal_bad : ℕ
journal_bad = 4

-- the number of NothingToUndo (01, Answers by number)
abbrev pub nothing_to_undo : ℕ
nothing_to_undo = 5

-- the number of JournalFull (01, Answers by number)
abbrev pub journal_full : ℕ
journal_full = 12

module _ {C : Type 0} where
  -- one record more, at used, and the new core; 12 where the test holds: the record does not fit after used
  -- (01, The journal; 01, Answers by number)
  abbrev pub push : State C → C → List ℕ → ℕ → Bool → Done C
  push s y w b true = record { answer = no_way journal_full; state = s }
  push s y w b false =
      record {
        answer = done b;
        state = record { core = y; depth = s.depth + 1; used = s.used + length w; journal = sets s.journal s.used w };
      }

  -- commits the effect of a call, or refuses: the refusal of the effect comes before 12 (01, Answers by number)
  abbrev pub settle : State C → Effect C → Done C
  settle s (refused n) = record { answer = no_way n; state = s }
  settle s (accepted y w b) = push s y w b (ltb (length s.journal) (s.used + length w))

  -- undoes the last record, writes no journal word; 4 where the record is bad (01, The journal; 01, Answers by number)
  abbrev pub pop : State C → Option (C × ℕ) → Done C
  pop s none = record { answer = no_way journal_bad; state = s }
  pop s (some p) =
      record { answer = done 0; state = record { core = p.0; depth = s.depth - 1; used = p.1; journal = s.journal } }

  -- an undo; 5 where the test holds: the depth is 0 (01, Answers by number)
  abbrev pub undoing : State C → Option (C × ℕ) → Bool → Done C
  undoing s p true = record { answer = no_way nothing_to_undo; state = s }
  undoing s p false = pop s p

  -- the refusal that comes before all else, where there is one (01, Answers by number)
  abbrev pub guarded : Option ℕ → State C → Done C → Done C
  guarded (some n) s d = record { answer = no_way n; state = s }
  guarded none s d = d

  -- the core after an effect: unchanged where the call is refused (01, Answers by number)
  abbrev pub after : C → Effect C → C
  after x (refused n) = x
  after x (accepted y w b) = y

  -- the record of a call; a refused call has none (01, The journal)
  abbrev pub recorded : Effect C → List ℕ
  recorded (refused n) = []
  recorded (accepted y w b) = w

-- the stack of standing calls: an accepted call is pushed, an accepted undo pops the last call (01, What the contracts have to say: demand 3)
abbrev pub stack : {K : Type 0} → Act K → Answer → List K → List K
stack (call c) (no_way n) k = k
stack (call c) (done b) k = c ∷ k
stack undo (no_way n) k = k
stack undo (done b) k = drop 1 k

-- standing calls, the last call first, as acts in the order in which they were made (01, What the contracts have to say: demand 3)
abbrev pub in_order : {K : Type 0} → List K → List (Act K)
in_order k = map call (reverse k)

module _ (M : Machine) where
  -- a call or an undo after the guard (01, The journal)
  unfoldable pub act : Act M.Call → State M.Core → Done M.Core
  act (call c) s = settle s (M.next c s.core)
  act undo s = undoing s (M.unrecord s.core s.used s.journal) (eqb s.depth 0)

  -- a call or an undo: the guard first, then the rest (01, Answers by number)
  unfoldable pub perform : Act M.Call → State M.Core → Done M.Core
  perform a s = guarded (M.guard a s.core (length s.journal) s.depth s.used) s (act a s)

  -- calls and undos made one after the other (01, What the contracts have to say: demand 3)
  unfoldable pub run : List (Act M.Call) → State M.Core → State M.Core
  run [] s = s
  run (a ∷ acts) s = run acts (perform a s).state

  -- the standing calls after a run from s, the last call first; the calls of k stood before
  -- (01, What the contracts have to say: demand 3)
  unfoldable pub standing : List (Act M.Call) → State M.Core → List M.Call → List M.Call
  standing [] s k = k
  standing (a ∷ acts) s k = standing acts (perform a s).state (stack a (perform a s).answer k)

  -- the core after the calls of k, the last call first, made on x by `next` alone, without a journal
  -- (01, What the contracts have to say: demand 3)
  unfoldable pub replay : M.Core → List M.Call → M.Core
  replay x [] = x
  replay x (c ∷ k) = after (replay x k) (M.next c (replay x k))

  -- the records of the calls of k, in order (01, The journal)
  unfoldable pub words : M.Core → List M.Call → List ℕ
  words x [] = []
  words x (c ∷ k) = words x k ++ recorded (M.next c (replay x k))

  -- a state with an empty journal: depth 0, used 0, as after fresh or clear (01, Memory and registers; DECISIONS 52)
  abbrev pub empty : M.Core → List ℕ → State M.Core
  empty x j = record { core = x; depth = 0; used = 0; journal = j }

  -- the records of a machine are sound, on cores that are `Ok`: `Ok` is kept, the last record restores the core before it, and no guard
  -- refuses the undo of an accepted call (01, What the contracts have to say: demand 3)
  pub record Laws (Ok : M.Core → Type 0) : Type 0 where
    pub keeps : (c : M.Call) (x y : M.Core) (w : List ℕ) (b : ℕ) → Ok x → M.next c x ≡ accepted y w b → Ok y
    pub back : (c : M.Call) (x y : M.Core) (w : List ℕ) (b : ℕ) → Ok x → M.next c x ≡ accepted y w b
        → (front j : List ℕ) → take (length front + length w) j ≡ front ++ w → length front + length w ≤ length j
        → M.unrecord y (length front + length w) j ≡ some (x, length front)
    pub passes : (c : M.Call) (x y : M.Core) (w : List ℕ) (b : ℕ) → Ok x → M.next c x ≡ accepted y w b
        → (size depth used : ℕ) → M.guard (call c) x size depth used ≡ none → used + length w ≤ size
        → M.guard undo y size (depth + 1) (used + length w) ≡ none
