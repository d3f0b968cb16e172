-- The history theorem for any machine whose records are sound (`Laws`): after any list of calls and undos the visible state is the one after
-- the standing calls alone, made in order; and n undos restore the visible state of an earlier moment.
use mathlib.Core.Path.{◌≡◌, refl, sym, ap, ◌∙◌}
use mathlib.Core.Logic.{◌⊎◌, inl, inr, ⊎_elim}
use mathlib.Core.List.{List, [], ◌∷◌, ◌++◌}
use Prim.Native.Nat.{ℕ, zero, suc, ◌+◌, ◌≤◌}
use native.Mathlib.Omega.{arith}
use lib.ListN.{length, take, drop, replicate}
use lib.Seq.{drop-drop, drop-nil}
use Rattle.history.specs.Machine.{Machine, State, Act, call, undo, Answer, no_way, done, stack, in_order, perform, run, standing, replay, words, empty, Laws}
use Rattle.history.proofs.Invariant.{Inv, inv-empty, inv-run, inv_undos, inv-again, standing-again}

-- the visible state: the core, the depth, the number of journal words in use, and these words; not the journal past them
pub record Seen (C : Type 0) : Type 0 where
  pub core : C
  pub depth : ℕ
  pub used : ℕ
  pub words : List ℕ

abbrev pub seen : {C : Type 0} → State C → Seen C
seen s = record { core = s.core; depth = s.depth; used = s.used; words = take s.used s.journal }

-- the visible state after the calls of k alone, the last call first, made from the core x with an empty journal
abbrev pub made : (M : Machine) → M.Core → List M.Call → Seen M.Core
made M x k = record { core = replay M x k; depth = length k; used = length (words M x k); words = words M x k }

seen_inv : (M : Machine) (J : ℕ) (x : M.Core) (s : State M.Core) (k : List M.Call) → Inv M J x s k → seen s ≡ made M x k
seen_inv M J x s k i = cc

module _ (M : Machine) (Ok : M.Core → Type 0) (L : Laws M Ok) (x : M.Core) (o : Ok x) (j : List ℕ) (acts : List (Act M.Call)) where
  -- the standing calls after the run, the last call first
  abbrev pub left : List M.Call
  left = standing M acts (empty M x j) []

  abbrev pub end : State M.Core
  end = run M acts (empty M x j)

  inv-end : Inv M (length j) x end left
  inv-end = inv-run M Ok L (length j) x o acts (empty M x j) [] (inv-empty M (length j) x j refl)

  pub history_seen : seen end ≡ made M x left
  history_seen = seen_inv M (length j) x end left inv-end

  -- THEOREM A: the core is the one that the standing calls make of the first core, without a journal
  pub history-core : end.core ≡ replay M x left
  history-core = inv-end.core

  pub history-depth : end.depth ≡ length left
  history-depth = inv-end.depth

  -- the visible state is the one after the standing calls, made in order
  pub history : seen end ≡ seen (run M (in_order left) (empty M x j))
  history =
      history_seen
      ∙ sym (seen_inv M (length j) x _ left (inv-again M Ok L (length j) x o left inv-end.stood (empty M x j) (inv-empty M (length j) x j refl)))

  -- the standing calls, made in order, are all accepted
  pub history-stands : standing M (in_order left) (empty M x j) [] ≡ left
  history-stands = standing-again M Ok L (length j) x o left inv-end.stood (empty M x j) (inv-empty M (length j) x j refl)

  -- THEOREM B: n undos are as if the last n standing calls had not been made
  pub undone : (n : ℕ) → n ≤ end.depth → seen (run M (replicate n undo) end) ≡ made M x (drop n left)
  undone n h = seen_inv M (length j) x _ _ (inv_undos M Ok L (length j) x o n end left inv-end (omega (arith, inv-end.depth)))

-- ---- the moment before the calls that are undone

-- a moment: the first acts, after which all calls that stand now stood, but for the last n
pub Moment : (M : Machine) → List (Act M.Call) → State M.Core → List M.Call → ℕ → Type 0
Moment M acts s k n =
    (then : List (Act M.Call)) × (rest : List (Act M.Call)) × (acts ≡ then ++ rest) × (standing M then s k ≡ drop n (standing M acts s k))

-- the standing calls after one act, without the last m, are all of them, or stood before
stack-drop : {K : Type 0} (a : Act K) (r : Answer) (k : List K) (m : ℕ) → (m ≡ 0) ⊎ ((n : ℕ) × (drop m (stack a r k) ≡ drop n k))
stack-drop a r k zero = inl refl
stack-drop (call c) (no_way n) k (suc m) = inr (suc m, refl)
stack-drop (call c) (done b) k (suc m) = inr (m, refl)
stack-drop undo (no_way n) k (suc m) = inr (suc m, refl)
stack-drop undo (done b) k (suc m) = inr (1 + suc m, drop-drop (suc m) 1 k)

moment : (M : Machine) (acts : List (Act M.Call)) (s : State M.Core) (k : List M.Call) (n : ℕ)
    → Moment M acts s k n ⊎ ((m : ℕ) × (drop n (standing M acts s k) ≡ drop m k))
unfolding standing Moment
moment M [] s k n = inr (n, refl)
moment M (a ∷ acts) s k n = go (moment M acts (perform M a s).state (stack a (perform M a s).answer k) n)
  where
    go : Moment M acts (perform M a s).state (stack a (perform M a s).answer k) n ⊎ ((m : ℕ) × (drop n (standing M (a ∷ acts) s k) ≡ drop m (stack a (perform M a s).answer k)))
        → Moment M (a ∷ acts) s k n ⊎ ((m : ℕ) × (drop n (standing M (a ∷ acts) s k) ≡ drop m k))
    go (inl t) = inl (a ∷ t.0, t.1, ap (λ (l : List (Act M.Call)). a ∷ l) t.2, t.3)
    go (inr t) = ⊎_elim (λ e. inl (a ∷ [], acts, refl, sym (t.1 ∙ ap (λ (m : ℕ). drop m (stack a (perform M a s).answer k)) e))) (λ r. inr (r.0, t.1 ∙ r.1)) (stack-drop a (perform M a s).answer k t.0)

module _ (M : Machine) (Ok : M.Core → Type 0) (L : Laws M Ok) (x : M.Core) (o : Ok x) (j : List ℕ) (acts : List (Act M.Call)) where
  undone_to : (then : List (Act M.Call)) (n : ℕ) → n ≤ (run M acts (empty M x j)).depth
      → standing M then (empty M x j) [] ≡ drop n (standing M acts (empty M x j) [])
      → seen (run M (replicate n undo) (run M acts (empty M x j))) ≡ seen (run M then (empty M x j))
  undone_to then n h e = undone M Ok L x o j acts n h ∙ sym (history_seen M Ok L x o j then ∙ ap (λ (k : List M.Call). made M x k) e)

  -- THEOREM B, in full: n undos, where at least n calls stand, restore the visible state of an earlier moment of the run, when all but the
  -- last n of the calls that stand now stood
  pub undone_moment : (n : ℕ) → n ≤ (run M acts (empty M x j)).depth
      → (then : List (Act M.Call)) × (rest : List (Act M.Call)) × (acts ≡ then ++ rest)
      × (seen (run M (replicate n undo) (run M acts (empty M x j))) ≡ seen (run M then (empty M x j)))
      × (standing M then (empty M x j) [] ≡ drop n (standing M acts (empty M x j) []))
  unfolding Moment standing
  undone_moment n h =
      ⊎_elim (λ t. (t.0, t.1, t.2, undone_to t.0 n h t.3, t.3))
      (λ t. let e : [] ≡ drop n (standing M acts (empty M x j) []) = sym (t.1 ∙ drop-nil t.0) in ([], acts, refl, undone_to [] n h e, e))
      (moment M acts (empty M x j) [] n)
