-- The invariant of the history theorem, for any machine whose records are sound (`Laws`): the journal's words in use are the records of the
-- standing calls. Calls, undos and calls made again keep it. And the law of undo.
use mathlib.Core.Path.{◌≡◌, refl, sym, ap, subst, ◌∙◌}
use mathlib.Core.Bool.{Bool, true, false}
use mathlib.Core.List.{List, [], ◌∷◌, ◌++◌, reverse_aux, map}
use mathlib.Core.Option.{Option, none, some}
use Prim.Native.Nat.{ℕ, zero, suc, ◌+◌, ◌-◌, ◌≤◌}
use native.Mathlib.Omega.{arith}
use borrow.Author.Tests.{ltb-false, le-ltb, eq-eqb, ne_eqb}
use lib.Dec.{ltb, eqb}
use lib.ListN.{length, take, drop, replicate, length-append}
use lib.Seq.{sets, sets-eq, length-sets, take_at, take-append_seam, length-take-le, take-take}
use Rattle.history.specs.Machine.{Effect, refused, accepted, Machine, State, Act, call, undo, Answer, no_way, done, Done}
use Rattle.history.specs.Machine.{push, settle, undoing, guarded, act, recorded, stack, in_order, perform, run, standing, replay, words, empty, Laws}

-- the words before i stay, and the words of w come after them
pub take-sets : (l : List ℕ) (i : ℕ) (w : List ℕ) → i + length w ≤ length l → take (i + length w) (sets l i w) ≡ take i l ++ w
take-sets l i w h =
    rw (sets-eq w l i h)
    (take_at (take i l ++ w) (drop (i + length w) l) (i + length w) (length-append (take i l) w ∙ ap (λ (n : ℕ). n + length w) (length-take-le i l (omega arith))))

-- the front of a list whose first words are known
take-front : (l p q : List ℕ) (n : ℕ) → take n l ≡ p ++ q → n ≤ length l → take (length p) l ≡ p
take-front l p q n e h =
    let shorter : length p ≤ n = omega (arith, length-take-le n l h, ap length e, length-append p q) in
    sym (take-take (length p) n l shorter) ∙ ap (λ (m : List ℕ). take (length p) m) e ∙ take-append_seam p q

module _ (M : Machine) (J : ℕ) (x : M.Core) where
  -- the call c was accepted after the calls of k: the guard did not refuse it, `next` accepted it, and its record fitted
  pub record Accepted (c : M.Call) (k : List M.Call) : Type 0 where
    pub core : M.Core
    pub record-words : List ℕ
    pub byte : ℕ
    pub free : M.guard (call c) (replay M x k) J (length k) (length (words M x k)) ≡ none
    pub does : M.next c (replay M x k) ≡ accepted core record-words byte
    pub fits : length (words M x k) + length record-words ≤ J

  -- each standing call was accepted where it was made
  pub Stood : List M.Call → Type 0
  Stood [] = Unit {0}
  Stood (c ∷ k) = Accepted c k × Stood k

  -- THE INVARIANT: the words in use are the records of the standing calls
  pub record Inv (s : State M.Core) (k : List M.Call) : Type 0 where
    pub core : s.core ≡ replay M x k
    pub depth : s.depth ≡ length k
    pub used : s.used ≡ length (words M x k)
    pub room : s.used ≤ length s.journal
    pub kept : take s.used s.journal ≡ words M x k
    pub size : length s.journal ≡ J
    pub stood : Stood k

  pub inv-empty : (j : List ℕ) → length j ≡ J → Inv (empty M x j) []
  unfolding replay words Stood
  inv-empty j h = record { core = refl; depth = refl; used = refl; room = omega arith; kept = refl; size = h; stood = tt }

  -- an accepted call keeps the invariant
  inv-push : (s : State M.Core) (k : List M.Call) (c : M.Call) (y : M.Core) (w : List ℕ) (b : ℕ) → Inv s k
      → M.guard (call c) s.core (length s.journal) s.depth s.used ≡ none
      → M.next c s.core ≡ accepted y w b
      → s.used + length w ≤ length s.journal
      → Inv (record { core = y; depth = s.depth + 1; used = s.used + length w; journal = sets s.journal s.used w }) (c ∷ k)
  unfolding replay words Stood
  inv-push s k c y w b i g e h =
      let e' : M.next c (replay M x k) ≡ accepted y w b = rw i.core at e in
      let g' : M.guard (call c) (replay M x k) J (length k) (length (words M x k)) ≡ none = rw (i.core, i.size, i.depth, i.used) at g in
      record {
        core = rw e';
        depth = omega (arith, i.depth);
        used = rw e' (omega (arith, i.used, length-append (words M x k) w));
        room = rw length-sets h;
        kept = rw e' (take-sets s.journal s.used w h ∙ ap (λ (l : List ℕ). l ++ w) i.kept);
        size = length-sets s.journal s.used w ∙ i.size;
        stood = (record { core = y; record-words = w; byte = b; free = g'; does = e'; fits = omega (arith, i.used, i.size) }, i.stood);
      }

  inv-settle : (s : State M.Core) (k : List M.Call) (c : M.Call) → Inv s k
      → M.guard (call c) s.core (length s.journal) s.depth s.used ≡ none
      → (o : Effect M.Core) → M.next c s.core ≡ o
      → Inv (settle s o).state (stack (call c) (settle s o).answer k)
  inv-settle s k c i g (refused n) e = i
  inv-settle s k c i g (accepted y w b) e = go (ltb (length s.journal) (s.used + length w)) refl
    where
      go : (t : Bool) → ltb (length s.journal) (s.used + length w) ≡ t → Inv (push s y w b t).state (stack (call c) (push s y w b t).answer k)
      go true t = i
      go false t = inv-push s k c y w b i g e (ltb-false _ _ t)

  inv-call : (s : State M.Core) (k : List M.Call) (c : M.Call) → Inv s k → Inv (perform M (call c) s).state (stack (call c) (perform M (call c) s).answer k)
  unfolding perform act
  inv-call s k c i = go (M.guard (call c) s.core (length s.journal) s.depth s.used) refl
    where
      d : Done M.Core
      d = settle s (M.next c s.core)

      go : (g : Option ℕ) → M.guard (call c) s.core (length s.journal) s.depth s.used ≡ g
          → Inv (guarded g s d).state (stack (call c) (guarded g s d).answer k)
      go (some n) e = i
      go none e = inv-settle s k c i e (M.next c s.core) refl

  -- the state after an undo, with the journal as it was
  abbrev before : State M.Core → List M.Call → State M.Core
  before s k = record { core = replay M x k; depth = length k; used = length (words M x k); journal = s.journal }

  inv-pop : (s : State M.Core) (c : M.Call) (k : List M.Call) → Inv s (c ∷ k) → Inv (before s k) k
  unfolding words Stood
  inv-pop s c k i =
      record {
        core = refl;
        depth = refl;
        used = refl;
        room = omega (arith, i.used, i.room, length-append (words M x k) (recorded (M.next c (replay M x k))));
        kept = take-front s.journal (words M x k) (recorded (M.next c (replay M x k))) s.used i.kept i.room;
        size = i.size;
        stood = i.stood.1;
      }

module _ (M : Machine) (Ok : M.Core → Type 0) (L : Laws M Ok) where
  -- an undo right after a record that was written from the core x, behind the words of front
  undo-back : (s : State M.Core) (c : M.Call) (x : M.Core) (w : List ℕ) (b : ℕ) → Ok x → M.next c x ≡ accepted s.core w b
      → (front : List ℕ) (depth : ℕ) → s.depth ≡ depth + 1 → s.used ≡ length front + length w
      → take s.used s.journal ≡ front ++ w → s.used ≤ length s.journal
      → M.guard (call c) x (length s.journal) depth (length front) ≡ none
      → perform M undo s ≡ record { answer = done 0; state = record { core = x; depth = depth; used = length front; journal = s.journal } }
  unfolding perform act
  undo-back s c x w b o e front depth d u t r g =
      let t' : take (length front + length w) s.journal ≡ front ++ w = rw u at t in
      let r' : length front + length w ≤ length s.journal = omega arith in
      let one : depth + 1 - 1 ≡ depth = omega arith in
      rw
      (u, d, L.passes c x s.core w b o e (length s.journal) depth (length front) g r', ne_eqb (depth + 1) 0 (omega arith), L.back c x s.core w b o e front s.journal t' r')
      (rw one)

  -- THE LAW OF UNDO: in any state, an undo after an accepted call restores core, depth and used
  pub undo_law : (s : State M.Core) (c : M.Call) (b : ℕ) → Ok s.core → (perform M (call c) s).answer ≡ done b
      → perform M undo (perform M (call c) s).state
      ≡ record { answer = done 0; state = record { core = s.core; depth = s.depth; used = s.used; journal = (perform M (call c) s).state.journal } }
  unfolding perform act
  undo_law s c b o a = by-guard (M.guard (call c) s.core (length s.journal) s.depth s.used) refl a
    where
      by-push : (y : M.Core) (w : List ℕ) (b' : ℕ) → M.next c s.core ≡ accepted y w b'
          → M.guard (call c) s.core (length s.journal) s.depth s.used ≡ none
          → (t : Bool) → ltb (length s.journal) (s.used + length w) ≡ t → (push s y w b' t).answer ≡ done b
          → perform M undo (push s y w b' t).state
          ≡ record { answer = done 0; state = record { core = s.core; depth = s.depth; used = s.used; journal = (push s y w b' t).state.journal } }
      by-push y w b' e g true t a = cc
      by-push y w b' e g false t a =
          let fits : s.used + length w ≤ length s.journal = ltb-false _ _ t in
          let n : length (take s.used s.journal) ≡ s.used = length-take-le s.used s.journal (omega arith) in
          let l : length (sets s.journal s.used w) ≡ length s.journal = length-sets s.journal s.used w in
          rw n at
          (undo-back (record { core = y; depth = s.depth + 1; used = s.used + length w; journal = sets s.journal s.used w }) c s.core w b' o e
          (take s.used s.journal)
          s.depth
          refl
          (rw n)
          (take-sets s.journal s.used w fits)
          (rw l fits)
          (rw (l, n) g))

      by-effect : (f : Effect M.Core) → M.next c s.core ≡ f → M.guard (call c) s.core (length s.journal) s.depth s.used ≡ none
          → (settle s f).answer ≡ done b
          → perform M undo (settle s f).state
          ≡ record { answer = done 0; state = record { core = s.core; depth = s.depth; used = s.used; journal = (settle s f).state.journal } }
      by-effect (refused n) e g a = cc
      by-effect (accepted y w b') e g a = by-push y w b' e g (ltb (length s.journal) (s.used + length w)) refl a

      by-guard : (g : Option ℕ) → M.guard (call c) s.core (length s.journal) s.depth s.used ≡ g
          → (guarded g s (settle s (M.next c s.core))).answer ≡ done b
          → perform M undo (guarded g s (settle s (M.next c s.core))).state
          ≡ record { answer = done 0; state = record { core = s.core; depth = s.depth; used = s.used; journal = (guarded g s (settle s (M.next c s.core))).state.journal } }
      by-guard (some n) e a = cc
      by-guard none e a = by-effect (M.next c s.core) refl e a

module _ (M : Machine) (Ok : M.Core → Type 0) (L : Laws M Ok) (J : ℕ) (x : M.Core) (o : Ok x) where
  ok-replay : (k : List M.Call) → Stood M J x k → Ok (replay M x k)
  unfolding replay Stood
  ok-replay [] st = o
  ok-replay (c ∷ k) st =
      let a = st.0 in
      rw a.does (L.keeps c (replay M x k) a.core a.record-words a.byte (ok-replay k st.1) a.does)

  -- an undo with a call standing is accepted, and the state is as if the last call had not been made
  perform-undo : (s : State M.Core) (c : M.Call) (k : List M.Call) → Inv M J x s (c ∷ k)
      → perform M undo s ≡ record { answer = done 0; state = before M J x s k }
  unfolding replay words Stood
  perform-undo s c k i =
      let a = i.stood.0 in
      let e : s.core ≡ a.core = rw a.does at i.core in
      let t : take s.used s.journal ≡ words M x k ++ a.record-words = rw a.does at i.kept in
      let u : s.used ≡ length (words M x k) + length a.record-words = (rw a.does at i.used) ∙ length-append (words M x k) a.record-words in
      undo-back M Ok L s c (replay M x k) a.record-words a.byte (ok-replay k i.stood.1) (rw e a.does) (words M x k) (length k)
      (omega (arith, i.depth))
      u
      t
      i.room
      (rw i.size a.free)

  -- an undo with no call standing is refused, and changes nothing
  undo-none : (s : State M.Core) → Inv M J x s [] → (n : ℕ) × (perform M undo s ≡ record { answer = no_way n; state = s })
  unfolding perform act
  undo-none s i = go (M.guard undo s.core (length s.journal) s.depth s.used)
    where
      go : (g : Option ℕ) → (n : ℕ) × (guarded g s (undoing s (M.unrecord s.core s.used s.journal) (eqb s.depth 0)) ≡ record { answer = no_way n; state = s })
      go (some n) = (n, refl)
      go none = (5, rw (eq-eqb s.depth 0 i.depth))

  inv-undo : (s : State M.Core) (k : List M.Call) → Inv M J x s k → Inv M J x (perform M undo s).state (stack undo (perform M undo s).answer k)
  inv-undo s [] i = rw (undo-none s i).1 i
  inv-undo s (c ∷ k) i = rw (perform-undo s c k i) (inv-pop M J x s c k i)

  inv-perform : (a : Act M.Call) (s : State M.Core) (k : List M.Call) → Inv M J x s k
      → Inv M J x (perform M a s).state (stack a (perform M a s).answer k)
  inv-perform (call c) s k i = inv-call M J x s k c i
  inv-perform undo s k i = inv-undo s k i

  pub inv-run : (acts : List (Act M.Call)) (s : State M.Core) (k : List M.Call) → Inv M J x s k → Inv M J x (run M acts s) (standing M acts s k)
  unfolding run standing
  inv-run [] s k i = i
  inv-run (a ∷ acts) s k i = inv-run acts _ _ (inv-perform a s k i)

  -- n undos on a state with the calls k standing, at least n of them
  pub inv_undos : (n : ℕ) (s : State M.Core) (k : List M.Call) → Inv M J x s k → n ≤ length k → Inv M J x (run M (replicate n undo) s) (drop n k)
  unfolding run
  inv_undos zero s k i h = i
  inv_undos (suc n) s [] i h = absurd (omega arith)
  inv_undos (suc n) s (c ∷ k) i h =
      subst (λ (d : Done M.Core). Inv M J x (run M (replicate n undo) d.state) (drop n k)) (sym (perform-undo s c k i))
      (inv_undos n _ k (inv-pop M J x s c k i) (omega arith))

  -- calls that stood, made again in order from an empty journal, are all accepted
  redo : (k : List M.Call) → State M.Core → State M.Core
  redo [] s = s
  redo (c ∷ k) s = (perform M (call c) (redo k s)).state

  perform-again : (s : State M.Core) (c : M.Call) (k : List M.Call) → Inv M J x s k → (a : Accepted M J x c k)
      → ((perform M (call c) s).answer ≡ done a.byte) × Inv M J x (perform M (call c) s).state (c ∷ k)
  unfolding perform act
  perform-again s c k i a =
      let g : M.guard (call c) s.core (length s.journal) s.depth s.used ≡ none = rw (i.core, i.size, i.depth, i.used) a.free in
      let e : M.next c s.core ≡ accepted a.core a.record-words a.byte = rw i.core a.does in
      let f : s.used + length a.record-words ≤ length s.journal = omega (arith, i.used, i.size, a.fits) in
      rw (g, e, le-ltb (length s.journal) (s.used + length a.record-words) f) (refl, inv-push M J x s k c a.core a.record-words a.byte i g e f)

  inv_redo : (k : List M.Call) → Stood M J x k → (s : State M.Core) → Inv M J x s [] → Inv M J x (redo k s) k
  unfolding redo Stood
  inv_redo [] st s i = i
  inv_redo (c ∷ k) st s i = (perform-again (redo k s) c k (inv_redo k st.1 s i) st.0).1

  run_redo : (k l : List M.Call) (s : State M.Core) → run M (map call (reverse_aux k l)) s ≡ run M (map call l) (redo k s)
  unfolding redo run
  run_redo [] l s = refl
  run_redo (c ∷ k) l s = run_redo k (c ∷ l) s

  pub inv-again : (k : List M.Call) → Stood M J x k → (s : State M.Core) → Inv M J x s [] → Inv M J x (run M (in_order k) s) k
  unfolding run
  inv-again k st s i = rw (run_redo k [] s) (inv_redo k st s i)

  standing_redo : (k l : List M.Call) → Stood M J x k → (s : State M.Core) → Inv M J x s []
      → standing M (map call (reverse_aux k l)) s [] ≡ standing M (map call l) (redo k s) k
  unfolding redo Stood standing
  standing_redo [] l st s i = refl
  standing_redo (c ∷ k) l st s i =
      standing_redo k (c ∷ l) st.1 s i
      ∙ ap (λ (r : Answer). standing M (map call l) (redo (c ∷ k) s) (stack (call c) r k)) (perform-again (redo k s) c k (inv_redo k st.1 s i) st.0).0

  -- the calls made again all stand
  pub standing-again : (k : List M.Call) → Stood M J x k → (s : State M.Core) → Inv M J x s [] → standing M (in_order k) s [] ≡ k
  unfolding standing
  standing-again k st s i = standing_redo k [] st s i
