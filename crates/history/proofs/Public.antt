-- The history over chains of contracts (01, What the contracts have to say: demand 3): from any fresh machine and any list of steps, ticks, takes,
-- gives, events and undos, some refused. By the history theorem of the rules (T414.antt).
use mathlib.Core.Path.{◌≡◌, refl, sym, ap, subst, ◌∙◌}
use mathlib.Core.List.{List, [], ◌∷◌, ◌++◌}
use Prim.Native.Nat.{ℕ, zero, suc, ◌-◌, ◌≤◌}
use native.Mathlib.Omega.{arith}
use lib.Dec.{eqb}
use lib.ListN.{length, drop, replicate, length-drop}
use Rattle.rules.specs.Calls.{Outcome, outcome_of}
use Rattle.rules.specs.declared.Reply.{Reply}
use Rattle.rules.proofs.Tests.{yes_eq, no_eq, cases_eq}
use Rattle.laws.proofs.Calls.{refused-undo}
use Rattle.history.specs.Machine.{Act, call, undo, in_order}
use Rattle.history.specs.Machine as generic
use Rattle.history.specs.T414.{Call, step, tick, give, event, Whole, perform, after, run, stack, standing, Shown, shown, Plain, work, effect, t414}
use Rattle.history.specs.T414 as calls
use Rattle.history.proofs.T414.{Emptied, from-fresh, history, history-work, history-counts, history-stands, undone}
use Rattle.history.specs.CallContracts.{FreshContract, number}
use Rattle.history.specs.Chain.{Met, left, Chain, ended, made, stands, Moment, worked, given, plain}

-- ---- a chain of contracts is a run of the rules

module _ (s : Whole) (r : Reply) (mem j : List ℕ) where
  pub met-is : (a : Act Call) → Met a s r mem j → outcome_of r mem j ≡ perform a s
  met-is (call step) h = h
  met-is (call tick) h = h
  met-is (call (calls.take c)) h = h
  met-is (call (give c byte)) h = h
  met-is (call event) h = h
  met-is undo h = h

pub chain_run : {s t : Whole} {acts : List (Act Call)} {numbers : List ℕ} → Chain s acts numbers t → t ≡ run acts s
unfolding run
chain_run ended = refl
chain_run (made {s = s} {a = a} {acts = acts} r mem j h c) = chain_run c ∙ ap (λ (o : Outcome). run acts (after o)) (met-is s r mem j a h)

pub chain-stands : {s t : Whole} {acts : List (Act Call)} {numbers : List ℕ} → Chain s acts numbers t → (k : List Call) → stands acts numbers k ≡ standing acts s k
unfolding stands standing
chain-stands ended k = refl
chain-stands (made {s = s} {a = a} {acts = acts} r mem j h c) k =
    chain-stands c (stack a (eqb (number r) 0) k)
    ∙ ap (λ (o : Outcome). standing acts (after o) (stack a (eqb o.answer 0) k)) (met-is s r mem j a h)

-- ---- `given` is `replay` of the machine t414

worked-is : (c : Call) (x : Plain) (b : ℕ) → generic.after x (effect x b (work c x)) ≡ worked c x
unfolding effect worked
worked-is c x b = cases_eq (work c x).answer 0 (λ e. rw (yes_eq e, yes_eq e)) (λ e. rw (no_eq e, no_eq e))

given_is : (x : Plain) (k : List Call) → generic.replay t414 x k ≡ given x k
unfolding generic.replay given
given_is x [] = refl
given_is x (c ∷ k) = worked-is c (generic.replay t414 x k) _ ∙ ap (λ (y : Plain). worked c y) (given_is x k)

-- ---- after any chain from an empty journal

module _ (s : Whole) (e : Emptied s) (acts : List (Act Call)) (numbers : List ℕ) (t : Whole) (c : Chain s acts numbers t) where
  -- the standing calls, the last call first
  abbrev pub stood : List Call
  stood = stands acts numbers []

  same-standing : standing acts s [] ≡ stood
  same-standing = sym (chain-stands c [])

  -- registers and memory are those that the rules give for the standing calls, without a journal
  pub chain-work : plain t ≡ given (plain s) stood
  chain-work =
      ap plain (chain_run c)
      ∙ history-work s e acts
      ∙ ap (λ (k : List Call). generic.replay t414 (plain s) k) same-standing
      ∙ given_is (plain s) stood

  -- depth is the number of standing calls
  pub chain-depth : t.machine.depth ≡ length stood
  chain-depth = ap (λ (w : Whole). w.machine.depth) (chain_run c) ∙ history-counts s e acts ∙ ap (λ (k : List Call). length k) same-standing

  -- the visible state, with used and the journal's words in use, is the one after the standing calls alone, made in order
  pub chain_history : shown t ≡ shown (run (in_order stood) s)
  chain_history = ap shown (chain_run c) ∙ history s e acts ∙ ap (λ (k : List Call). shown (run (in_order k) s)) same-standing

  -- the standing calls, made in order, are all accepted
  pub chain-again : standing (in_order stood) s [] ≡ stood
  chain-again =
      ap (λ (k : List Call). standing (in_order k) s []) (sym same-standing) ∙ history-stands s e acts ∙ same-standing

-- ---- chains joined and cut

chain_then : {s t u : Whole} {acts more : List (Act Call)} {numbers others : List ℕ} → Chain s acts numbers t → Chain t more others u
    → Chain s (acts ++ more) (numbers ++ others) u
chain_then ended d = d
chain_then (made r mem j h c) d = made r mem j h (chain_then c d)

cut : {s t : Whole} {numbers : List ℕ} (before after : List (Act Call)) → Chain s (before ++ after) numbers t → (m : Moment s (before ++ after) numbers t) × (m.calls-before ≡ before)
cut {s} {t} {numbers} [] after c = (
  record {
    calls-before = [];
    calls-after = after;
    numbers-before = [];
    numbers_after = numbers;
    state = s;
    before = ended;
    after = c;
    all_calls = refl;
    all_numbers = refl;
  },
  refl,
)
cut {s = s} {t = t} (a ∷ before) after (made {numbers = numbers} r mem j h c) =
    let m = cut {s = left r mem j} {t = t} {numbers = numbers} before after c in (
      record {
        calls-before = a ∷ m.0.calls-before;
        calls-after = m.0.calls-after;
        numbers-before = number r ∷ m.0.numbers-before;
        numbers_after = m.0.numbers_after;
        state = m.0.state;
        before = made r mem j h m.0.before;
        after = m.0.after;
        all_calls = ap (λ (l : List (Act Call)). a ∷ l) m.0.all_calls;
        all_numbers = ap (λ (l : List ℕ). number r ∷ l) m.0.all_numbers;
      },
      ap (λ (l : List (Act Call)). a ∷ l) m.1,
    )

moment : {s t : Whole} {acts : List (Act Call)} {numbers : List ℕ} (before after : List (Act Call)) → acts ≡ before ++ after → Chain s acts numbers t
    → (m : Moment s acts numbers t) × (m.calls-before ≡ before)
moment {s} {t} {acts} {numbers} before after e c =
    subst (λ (l : List (Act Call)). Chain s l numbers t → (m : Moment s l numbers t) × (m.calls-before ≡ before)) (sym e) (cut before after) c

-- ---- an undo where a call stands is accepted

-- a refused undo keeps the depth
undo-depth : (t : Whole) → ((perform undo t).answer ≡ 0 → ⊥) → (perform undo t).machine.depth ≡ t.machine.depth
undo-depth t h = ap (λ (o : Outcome). o.machine.depth) ((refused-undo t.machine t.memory t.journal).same h)

module _ (s : Whole) (e : Emptied s) where
  one-undo : (acts : List (Act Call)) (numbers : List ℕ) (t : Whole) → Chain s acts numbers t → 1 ≤ t.machine.depth
      → ((perform undo t).answer ≡ 0) × ((perform undo t).machine.depth ≡ t.machine.depth - 1)
  unfolding run
  one-undo acts numbers t c h =
      let same = ap (λ (w : Whole). w.machine.depth) (chain_run c) in
      let u = undone s e acts 1 (omega (arith, same)) in
      let lower : (perform undo t).machine.depth ≡ t.machine.depth - 1 =
      ap (λ (w : Whole). (perform undo w).machine.depth) (chain_run c)
      ∙ ap (λ (w : Shown). w.depth) u.3
      ∙ history-counts s e u.0
      ∙ ap (λ (k : List Call). length k) u.4
      ∙ length-drop 1 (standing acts s [])
      ∙ ap (λ (n : ℕ). n - 1) (sym (same ∙ history-counts s e acts)) in
      (cases_eq (perform undo t).answer 0 (λ q. q) (λ q. absurd (omega (arith, lower, undo-depth t q))), lower)

  -- as many undos as calls stand are all accepted
  undos-accepted : (n : ℕ) (acts : List (Act Call)) (numbers others : List ℕ) (t u : Whole) → Chain s acts numbers t → n ≤ t.machine.depth
      → Chain t (replicate n undo) others u → others ≡ replicate n 0
  undos-accepted zero acts numbers [] t u c h ended = refl
  undos-accepted zero acts numbers (_ ∷ _) t u c h x8 = elim x8 [ ]
  undos-accepted (suc n) acts numbers others t u c h (made r mem j m d) =
      let o = one-undo acts numbers t c (omega arith) in
      let first : number r ≡ 0 = ap (λ (x : Outcome). x.answer) m ∙ o.0 in
      let less : r.machine.depth ≡ t.machine.depth - 1 = ap (λ (x : Outcome). x.machine.depth) m ∙ o.1 in
      let others-too = undos-accepted n (acts ++ (undo ∷ [])) (numbers ++ (number r ∷ [])) _ (left r mem j) u (chain_then c (made r mem j m ended)) (omega (arith, less)) d in
      rw (first, others-too)

-- ---- DEMAND 3

-- fresh leaves 45 registers and an empty journal
pub fresh_empties : (code mem j : List ℕ) (r : Reply) (mem₀ j₀ : List ℕ) → FreshContract code mem j r mem₀ j₀ → Emptied (left r mem₀ j₀)
fresh_empties code mem j r mem₀ j₀ f = subst (λ (o : Outcome). Emptied (after o)) (sym f) (from-fresh code mem j)

module _ (code mem j : List ℕ) (r₀ : Reply) (mem₀ j₀ : List ℕ) (fresh : FreshContract code mem j r₀ mem₀ j₀) where
  -- the state after fresh
  abbrev pub begun : Whole
  begun = left r₀ mem₀ j₀

  module _ (acts : List (Act Call)) (numbers : List ℕ) (t : Whole) (c : Chain begun acts numbers t) where
    -- the standing calls, the last call first
    abbrev pub kept : List Call
    kept = stands acts numbers []

    -- registers and all memory are those that the rules give for the standing calls, in order; depth is their number
    pub public_history : (plain t ≡ given (plain begun) kept) × (t.machine.depth ≡ length kept)
    public_history =
        let e = fresh_empties code mem j r₀ mem₀ j₀ fresh in
        (chain-work begun e acts numbers t c, chain-depth begun e acts numbers t c)

    -- used and the journal's words in use are those of a run of the standing calls alone; in that run none is refused
    pub public-records : (shown t ≡ shown (run (in_order kept) begun)) × (standing (in_order kept) begun [] ≡ kept)
    public-records =
        let e = fresh_empties code mem j r₀ mem₀ j₀ fresh in
        (chain_history begun e acts numbers t c, chain-again begun e acts numbers t c)

    -- n undos where at least n calls stand: no undo is refused, and registers, memory, depth and used are those of a moment of the chain
    -- when all standing calls but the last n stood
    pub public-undone : (n : ℕ) → n ≤ length kept → (others : List ℕ) (u : Whole) → Chain t (replicate n undo) others u
        → (others ≡ replicate n 0)
        × (m : Moment begun acts numbers t) × (stands m.calls-before m.numbers-before [] ≡ drop n kept)
        × (shown u ≡ shown m.state)
    public-undone n h others u d =
        let e = fresh_empties code mem j r₀ mem₀ j₀ fresh in
        let deep : n ≤ t.machine.depth = omega (arith, chain-depth begun e acts numbers t c) in
        let back = undone begun e acts n (subst (λ (w : Whole). n ≤ w.machine.depth) (chain_run c) deep) in
        let m = moment back.0 back.1 back.2 c in (
          undos-accepted begun e n acts numbers others t u c deep d,
          m.0,
          chain-stands m.0.before []
              ∙ ap (λ (l : List (Act Call)). standing l begun []) m.1
              ∙ back.4
              ∙ ap (λ (k : List Call). drop n k) (sym (chain-stands c [])),
          ap shown (chain_run d)
              ∙ ap (λ (w : Whole). shown (run (replicate n undo) w)) (chain_run c)
              ∙ back.3
              ∙ ap (λ (l : List (Act Call)). shown (run l begun)) (sym m.1)
              ∙ ap shown (sym (chain_run m.0.before)),
        )
