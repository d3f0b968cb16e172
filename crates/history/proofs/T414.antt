-- The history theorem of our calls (01, What the contracts have to say: demand 3). From fresh, after any sequence of steps, ticks, takes, gives,
-- events and undos, the state is the one after the standing calls, made in order; n undos restore registers, memory, depth and used as before
-- the last n standing calls. For any memory, journal and code.
use mathlib.Core.Path.{◌≡◌, refl, sym, ap, ◌∙◌}
use mathlib.Core.Bool.{Bool, true, false}
use mathlib.Core.List.{List, [], ◌++◌}
use Prim.Native.Nat.{ℕ, ◌≤◌}
use borrow.Author.Tests.{eq-eqb, eqb-true}
use lib.Dec.{eqb}
use lib.ListN.{length, drop, replicate}
use Rattle.rules.specs.Tests.{pick}
use Rattle.rules.specs.Registers.{registers}
use Rattle.rules.specs.Calls.{Outcome, size_bad, code_bad, fresh, clear}
use Rattle.rules.specs.declared.Machine.{Machine}
use Rattle.rules.proofs.Tests.{on-pick}
use Rattle.laws.proofs.Calls.{kept_fresh, kept-clear}
use Rattle.history.specs.Machine.{Act, call, undo, State, Done, no_way, done, in_order}
use Rattle.history.specs.Machine as generic
use Rattle.history.specs.T414.{Call, Whole, perform, after, run, standing, Shown, shown, Plain, t414}
use Rattle.history.proofs.History.{Seen, seen, history-depth, history-core, undone_moment}
use Rattle.history.proofs.History as any
use Rattle.history.proofs.Invariant.{undo_law}
use Rattle.history.proofs.Sound.{sound, Ok}
use Rattle.history.proofs.Calls.{view, told, performs, kept, kept_run, same-run, same-standing}

-- 45 registers and an empty journal, as after fresh and clear
pub record Emptied (s : Whole) : Type 0 where
  pub count : length s.machine.regs ≡ registers
  pub depth : s.machine.depth ≡ 0
  pub used : s.machine.used ≡ 0

abbrev shown_of : Seen Plain → Shown
shown_of t = record { registers = t.core.regs; memory = t.core.mem; depth = t.depth; used = t.used; records = t.words }

module _ (s : Whole) (i : Emptied s) (acts : List (Act Call)) where
  -- the standing calls, the last call first
  abbrev pub left : List Call
  left = standing acts s []

  abbrev start : Plain
  start = record { regs = s.machine.regs; mem = s.memory }

  from_empty : view s ≡ generic.empty t414 start s.journal
  from_empty = rw (i.depth, i.used)

  run_is : (more : List (Act Call)) → generic.run t414 more (generic.empty t414 start s.journal) ≡ view (run more s)
  run_is more = ap (λ (t : State Plain). generic.run t414 more t) (sym from_empty) ∙ same-run more s i.count

  standing-is : (more : List (Act Call)) → generic.standing t414 more (generic.empty t414 start s.journal) [] ≡ standing more s []
  standing-is more = ap (λ (t : State Plain). generic.standing t414 more t []) (sym from_empty) ∙ same-standing more s [] i.count

  -- the visible state is the one after the standing calls, made in order
  pub history : shown (run acts s) ≡ shown (run (in_order left) s)
  history =
      ap (λ (t : State Plain). shown_of (seen t)) (sym (run_is acts))
      ∙ ap shown_of (any.history t414 Ok sound start i.count s.journal acts)
      ∙ ap (λ (k : List Call). shown_of (seen (generic.run t414 (in_order k) (generic.empty t414 start s.journal)))) (standing-is acts)
      ∙ ap (λ (t : State Plain). shown_of (seen t)) (run_is (in_order left))

  -- the standing calls, made in order, are all accepted
  pub history-stands : standing (in_order left) s [] ≡ left
  history-stands =
      sym (standing-is (in_order left))
      ∙ ap (λ (k : List Call). generic.standing t414 (in_order k) (generic.empty t414 start s.journal) []) (sym (standing-is acts))
      ∙ any.history-stands t414 Ok sound start i.count s.journal acts
      ∙ standing-is acts

  -- registers and memory are those after the work of the standing calls, without a journal
  pub history-work : (view (run acts s)).core ≡ generic.replay t414 start left
  history-work =
      ap (λ (t : State Plain). t.core) (sym (run_is acts))
      ∙ history-core t414 Ok sound start i.count s.journal acts
      ∙ ap (λ (k : List Call). generic.replay t414 start k) (standing-is acts)

  -- depth is the number of standing calls
  pub history-counts : (run acts s).machine.depth ≡ length left
  history-counts =
      ap (λ (t : State Plain). t.depth) (sym (run_is acts))
      ∙ history-depth t414 Ok sound start i.count s.journal acts
      ∙ ap (λ (k : List Call). length k) (standing-is acts)

  undos_are : (n : ℕ) → generic.run t414 (replicate n undo) (generic.run t414 acts (generic.empty t414 start s.journal)) ≡ view (run (replicate n undo) (run acts s))
  undos_are n =
      ap (λ (t : State Plain). generic.run t414 (replicate n undo) t) (run_is acts) ∙ same-run (replicate n undo) (run acts s) (kept_run acts s i.count)

  -- n undos, where at least n calls stand, restore the visible state before them: of a moment of the same sequence when all but the last n of
  -- the calls that stand now stood
  pub undone : (n : ℕ) → n ≤ (run acts s).machine.depth
      → (then : List (Act Call)) × (rest : List (Act Call)) × (acts ≡ then ++ rest)
      × (shown (run (replicate n undo) (run acts s)) ≡ shown (run then s))
      × (standing then s [] ≡ drop n left)
  undone n h =
      let t = undone_moment t414 Ok sound start i.count s.journal acts n (rw (run_is acts) h) in (
        t.0,
        t.1,
        t.2,
        ap (λ (z : State Plain). shown_of (seen z)) (sym (undos_are n)) ∙ ap shown_of t.3 ∙ ap (λ (z : State Plain). shown_of (seen z)) (run_is t.0),
        sym (standing-is t.0) ∙ t.4 ∙ ap (λ (k : List Call). drop n k) (standing-is acts),
      )

-- ---- the theorem holds from fresh, and from clear

Empty : Outcome → Type 0
Empty o = (o.machine.depth ≡ 0) × (o.machine.used ≡ 0)

fresh-empty : (code mem j : List ℕ) → Empty (fresh code mem j)
unfolding fresh Empty
fresh-empty code mem j =
    on-pick Empty (size_bad mem j) (refl, refl) (on-pick Empty (code_bad (length mem) (length code)) (refl, refl) (refl, refl))

pub from-fresh : (code mem j : List ℕ) → Emptied (after (fresh code mem j))
unfolding Empty
from-fresh code mem j =
    let e = fresh-empty code mem j in
    record { count = (kept_fresh code mem j).count; depth = e.0; used = e.1 }

-- an accepted clear
pub from-clear : (m : Machine) (mem j : List ℕ) → length m.regs ≡ registers → size_bad mem j ≡ false → Emptied (after (clear m mem j))
unfolding clear
from-clear m mem j h e = record { count = (kept-clear m mem j h).count; depth = rw e; used = rw e }

-- ---- 01's sentence

module _ (code mem j : List ℕ) (acts : List (Act Call)) where
  -- the state after fresh
  abbrev pub begun : Whole
  begun = after (fresh code mem j)

  -- the visible state is the one after the standing calls, made in order
  pub fresh_history : shown (run acts begun) ≡ shown (run (in_order (standing acts begun [])) begun)
  fresh_history = history begun (from-fresh code mem j) acts

  -- n undos restore registers, memory, depth and used as before the last n standing calls
  pub fresh-undone : (n : ℕ) → n ≤ (run acts begun).machine.depth
      → (then : List (Act Call)) × (rest : List (Act Call)) × (acts ≡ then ++ rest)
      × (shown (run (replicate n undo) (run acts begun)) ≡ shown (run then begun))
      × (standing then begun [] ≡ drop n (standing acts begun []))
  fresh-undone n h = undone begun (from-fresh code mem j) acts n h

-- ---- the law of undo: from any machine, with any journal

-- an outcome that the machine t414 sees as an accepted undo
told-done : (o : Outcome) (t : State Plain) → told o ≡ record { answer = done 0; state = t } → (o.answer ≡ 0) × (view (after o) ≡ t)
told-done o t e = go (eqb o.answer 0) refl (ap (λ (d : Done Plain). d.answer) e)
  where
    go : (b : Bool) → eqb o.answer 0 ≡ b → pick b (done o.byte) (no_way o.answer) ≡ done 0 → (o.answer ≡ 0) × (view (after o) ≡ t)
    go true q z = (eqb-true o.answer 0 q, ap (λ (d : Done Plain). d.state) e)
    go false q z = (cc, ap (λ (d : Done Plain). d.state) e)

same-machine : (m m' : Machine) → m.regs ≡ m'.regs → m.depth ≡ m'.depth → m.used ≡ m'.used → m ≡ m'
same-machine m m' p q r =
    let e : ◌≡◌ {A = Machine} (record { regs = m.regs; depth = m.depth; used = m.used }) (record { regs = m'.regs; depth = m'.depth; used = m'.used }) = cc in
    e

-- an undo after an accepted call is accepted, and restores registers, depth, used and memory as before the call
pub undo-gives-back : (s : Whole) (c : Call) → length s.machine.regs ≡ registers → (perform (call c) s).answer ≡ 0
    → ((perform undo (after (perform (call c) s))).answer ≡ 0)
    × ((perform undo (after (perform (call c) s))).machine ≡ s.machine)
    × ((perform undo (after (perform (call c) s))).memory ≡ s.memory)
undo-gives-back s c h a =
    let first : generic.perform t414 (call c) (view s) ≡ told (perform (call c) s) = performs s (call c) h in
    let yes : (generic.perform t414 (call c) (view s)).answer ≡ done (perform (call c) s).byte = rw (first, eq-eqb (perform (call c) s).answer 0 a) in
    let law = undo_law t414 Ok sound (view s) c (perform (call c) s).byte h yes in
    let again = ap (λ (d : Done Plain). generic.perform t414 undo d.state) first in
    let z = told-done (perform undo (after (perform (call c) s))) _ (sym (performs (after (perform (call c) s)) undo (kept s (call c) h)) ∙ sym again ∙ law) in (
      z.0,
      same-machine _ _ (ap (λ (t : State Plain). t.core.regs) z.1) (ap (λ (t : State Plain). t.depth) z.1) (ap (λ (t : State Plain). t.used) z.1),
      ap (λ (t : State Plain). t.core.mem) z.1,
    )
