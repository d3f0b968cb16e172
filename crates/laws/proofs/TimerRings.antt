-- A walk along a timer queue with a budget of N + 2 turns, in a memory of N words, is refused with Stop exactly where a pointer value comes again
-- (DECISIONS 27); and a walk that is refused so in a memory is refused so in a longer memory, whose budget is larger. Insertion and deletion are such walks.
use mathlib.Core.Path.{◌≡◌, refl, ap, ◌∙◌}
use mathlib.Core.Logic.{◌↔◌, ⊎_elim}
use mathlib.Core.Bool.{Bool, true, false, ◌&&◌, not}
use mathlib.Core.List.{List, [], ◌++◌}
use Prim.Native.Nat.{ℕ, zero, suc, ◌+◌, ◌≤◌, ◌<◌}
use native.Mathlib.Omega.{arith}
use borrow.Author.Tests.{le-leb, lt-leb, eq-eqb, leb-true, leb-false, eqb-true, eqb-false}
use lib.Dec.{eqb}
use lib.ListN.{length, get_or}
use Rattle.rules.specs.Tests.{pick, if_eq}
use Rattle.rules.specs.Words.{at_word, index, later}
use Rattle.rules.specs.Memory.{stores}
use Rattle.rules.specs.Work.{Work, stop, word_at, refuse_at, access, kind_load, wptr}
use Rattle.rules.specs.Scheduling.{tlink_s, not_process, time_s}
use Rattle.rules.specs.Timers.{insert_final_step, insert_walk, delete_final_step, delete_walk}
use Rattle.rules.proofs.Tests.{cases_lt, yes_eq, no_eq, on-pick, on_eq}
use Rattle.laws.specs.Alike.{Unrefused}
use Rattle.laws.specs.Alike.{Ordinary}
use Rattle.laws.specs.Ring.{Way, end, round, Walks, again, stays, goes, comes_again, is_outside, next_pointer, insert_ends, insert_rings, InsertRing, delete_ends, delete_rings, DeleteRing}
use Rattle.laws.proofs.Fine.{Fine, fine_load}
use Rattle.laws.proofs.Ring.{budget, budget-round, budget-end, no_end, refused_iff, again_iff}
use Rattle.laws.proofs.Calm.{never, Calm, Tells, tells_calm, tells_iff, calm-none, inside-same, outside_calm}
use Rattle.laws.proofs.Lawful.{longer, same_word, kept}
use Rattle.laws.proofs.LawfulTimerQueues.{lawful-insert_final_step, lawful-insert_walk, lawful-delete_final_step, lawful-delete_walk}

-- `walk turns previous` walks from the pointer at the address previous, in the memory m and through the stores of w, and ends at a pointer where `ends` holds
pub record Walk (m : List ℕ) (w : Work) (ends : ℕ → Bool) (walk : ℕ → ℕ → Work) : Type 0 where
  pub used_up : (previous : ℕ) → (walk zero previous).answer ≡ stop
  -- one turn of a walk that goes on
  pub on : (turns previous : ℕ) → index previous < length m → ends (word_at m previous w) ≡ false → walk (suc turns) previous ≡ walk turns (at_word (word_at m previous w) tlink_s)
  pub link-inside : (p : ℕ) → ends p ≡ false → index (at_word p tlink_s) < length m
  pub ended : (turns previous : ℕ) → index previous < length m → ends (word_at m previous w) ≡ true → Calm (walk (suc (suc turns)) previous)
  pub outside : (turns previous : ℕ) → length m ≤ index previous → Calm (walk (suc turns) previous)

module _ {m : List ℕ} {w : Work} {ends : ℕ → Bool} {walk : ℕ → ℕ → Work} (k : Walk m w ends walk) where
  -- where the budget runs out, the walk is refused with Stop
  walk-round : (turns previous : ℕ) → index previous < length m → budget (next_pointer m w) ends turns (word_at m previous w) ≡ round → (walk turns previous).answer ≡ stop
  walk-round zero previous h e = k.used_up previous
  walk-round (suc turns) previous h e =
      let b = budget-round (next_pointer m w) ends turns (word_at m previous w) e in
      ap (λ (v : Work). v.answer) (k.on turns previous h b.0) ∙ walk-round turns (at_word (word_at m previous w) tlink_s) (k.link-inside _ b.0) b.1

  -- where the walk ends within the budget, a walk of one turn more is not
  walk_end : (turns previous q : ℕ) → index previous < length m → budget (next_pointer m w) ends turns (word_at m previous w) ≡ end q → Calm (walk (suc turns) previous)
  walk_end zero previous q h e = absurd (no_end (next_pointer m w) ends (word_at m previous w) q e)
  walk_end (suc turns) previous q h e =
      ⊎_elim (λ b. k.ended turns previous h b)
      (λ b. rw (k.on (suc turns) previous h b.0) (walk_end turns (at_word (word_at m previous w) tlink_s) q (k.link-inside _ b.0) b.1))
      (budget-end (next_pointer m w) ends turns (word_at m previous w) q e)

  two : length m + 2 ≡ suc (suc (length m))
  two = omega arith

  -- THE RING: with N + 2 turns the walk is refused with Stop exactly where a pointer value comes again
  walk_ring : (previous : ℕ) → index previous < length m → ((walk (length m + 2) previous).answer ≡ stop) ↔ Walks (next_pointer m w) ends [] (word_at m previous w) round
  unfolding word_at
  walk_ring previous h =
      rw two
      (refused_iff (λ p. index (at_word p tlink_s)) (λ i. get_or (stores m w.stored) i 0) ends (length m) k.link-inside (suc (length m)) (omega arith) (word_at m previous w)
      (λ e. walk-round (suc (suc (length m))) previous h e)
      (λ q e. (walk_end (suc (length m)) previous q h e).known))

  -- the test tells the ring
  pub walk_rings : (p : ℕ) → (comes_again (next_pointer m w) ends (length m + 2) [] p ≡ true) ↔ Walks (next_pointer m w) ends [] p round
  unfolding word_at
  walk_rings p = again_iff (λ p. index (at_word p tlink_s)) (λ i. get_or (stores m w.stored) i 0) ends (length m) k.link-inside p

  pub walk_tells : (previous : ℕ) → Tells (not (is_outside m previous) && comes_again (next_pointer m w) ends (length m + 2) [] (word_at m previous w)) (walk (length m + 2) previous)
  walk_tells previous =
      cases_lt (index previous) (length m)
      (λ b. rw (lt-leb (length m) (index previous) b) (tells_iff _ (walk (length m + 2) previous) (walk_ring previous b) (walk_rings (word_at m previous w))))
      (λ b. rw (le-leb (length m) (index previous) b, two) (tells_calm (k.outside (suc (length m)) previous b)))

-- a ring of pointers stays one where each pointer at which the walk goes on keeps its next
ring_longer : (next next' : ℕ → ℕ) (ends ends' : ℕ → Bool) → ((p : ℕ) → ends p ≡ false → (ends' p ≡ false) × (next' p ≡ next p))
    → {passed : List ℕ} {p : ℕ} {way : Way} → Walks next ends passed p way → way ≡ round → Walks next' ends' passed p round
ring_longer next next' ends ends' on (again h) e = again h
ring_longer next next' ends ends' on (stays h k) e = absurd (let z : ◌≡◌ {A = ℕ} 0 1 = cc in omega arith)
ring_longer next next' ends ends' on {passed} {p} (goes h k l) e =
    goes {passed = passed} {p = p} {r = round} h (on p k).0 (rw (on p k).1 (ring_longer next next' ends ends' on l e))

pub walk_longer : (m x : List ℕ) {w : Work} {ends ends' : ℕ → Bool} {walk walk' : ℕ → ℕ → Work} → Walk m w ends walk → Walk (m ++ x) w ends' walk' → Unrefused (length m) w
    → ((p : ℕ) → ends p ≡ false → ends' p ≡ false) → (previous : ℕ) → (walk (length m + 2) previous).answer ≡ stop → (walk' (length (m ++ x) + 2) previous).answer ≡ stop
walk_longer m x {w} {ends} {ends'} k k' u on previous e =
    cases_lt (index previous) (length m)
    (λ h. (walk_ring k' previous (longer m x _ h)).1
    (rw (same_word m x previous w u h)
    (ring_longer (next_pointer m w) (next_pointer (m ++ x) w) ends ends' (λ p z. (on p z, same_word m x (at_word p tlink_s) w u (k.link-inside p z)))
    ((walk_ring k previous h).0 e) refl)))
    (λ h. never (rw (le-leb (length m) (index previous) h) at (walk_tells k previous) ∙ eq-eqb _ _ e))

-- ---- insertion

module _ (m : List ℕ) (time : ℕ) (w : Work) (o : Ordinary w) (none : w.answer ≡ 0) where
  -- a turn whose own pointer is inside memory
  insert_turn : (turns previous : ℕ) → index previous < length m
      → insert_walk m (suc turns) time previous w
      ≡ if_eq (word_at m previous w) not_process (insert_final_step m previous (word_at m previous w) w)
      (pick (later time (word_at m (at_word (word_at m previous w) time_s) w))
      (insert_walk m turns time (at_word (word_at m previous w) tlink_s) (access m kind_load (at_word (word_at m previous w) time_s) w))
      (insert_final_step m previous (word_at m previous w) (access m kind_load (at_word (word_at m previous w) time_s) w)))
  unfolding insert_walk
  insert_turn turns previous h = rw (inside-same m 2 previous w o.1 h)

  -- a turn whose own pointer is outside
  insert-outside : (turns previous : ℕ) → length m ≤ index previous → Calm (insert_walk m (suc turns) time previous w)
  unfolding insert_walk
  insert-outside turns previous h =
      let p = word_at m previous w in
      outside_calm m 2 previous w o h none _
      (λ P t f.
      on_eq (Fine P) p not_process (kept (lawful-insert_final_step previous p) m f)
      (on-pick (Fine P) (later time (word_at m (at_word p time_s) (access m kind_load previous w)))
      (kept (lawful-insert_walk (t stop) turns time (at_word p tlink_s)) m (fine_load m _ f))
      (kept (lawful-insert_final_step previous p) m (fine_load m _ f))))

  -- what it means that the walk does not end at p
  pub insert-goes : (p : ℕ) → insert_ends m w time p ≡ false
      → (p ≡ not_process → ⊥) × (index (at_word p time_s) < length m) × (later time (word_at m (at_word p time_s) w) ≡ true) × (index (at_word p tlink_s) < length m)
  unfolding insert_ends
  insert-goes p e = go (eqb p not_process) refl (is_outside m (at_word p time_s)) refl (later time (word_at m (at_word p time_s) w)) refl e
    where
      go : (a : Bool) → eqb p not_process ≡ a → (b : Bool) → is_outside m (at_word p time_s) ≡ b → (c : Bool) → later time (word_at m (at_word p time_s) w) ≡ c
          → pick a true (pick b true (pick c (is_outside m (at_word p tlink_s)) true)) ≡ false
          → (p ≡ not_process → ⊥) × (index (at_word p time_s) < length m) × (later time (word_at m (at_word p time_s) w) ≡ true) × (index (at_word p tlink_s) < length m)
      go true ea b eb c ec z = absurd (let q : ◌≡◌ {A = ℕ} 0 1 = cc in omega arith)
      go false ea true eb c ec z = absurd (let q : ◌≡◌ {A = ℕ} 0 1 = cc in omega arith)
      go false ea false eb false ec z = absurd (let q : ◌≡◌ {A = ℕ} 0 1 = cc in omega arith)
      go false ea false eb true ec z = (eqb-false p not_process ea, leb-false _ _ eb, ec, leb-false _ _ z)

  -- a walk that ends at p is not refused with Stop
  insert-stays : (turns previous : ℕ) → index previous < length m → insert_ends m w time (word_at m previous w) ≡ true
      → Calm (insert_walk m (suc (suc turns)) time previous w)
  unfolding insert_ends
  insert-stays turns previous h e =
      rw (insert_turn (suc turns) previous h)
      (go (eqb p not_process) refl (is_outside m (at_word p time_s)) refl (later time (word_at m (at_word p time_s) w)) refl e)
    where
      p : ℕ
      p = word_at m previous w

      calm : Calm w
      calm = calm-none o none

      on : Work
      on = access m kind_load (at_word p time_s) w

      found : Calm (insert_final_step m previous p on)
      found = kept (lawful-insert_final_step previous p) m (fine_load m (at_word p time_s) calm)

      go : (a : Bool) → eqb p not_process ≡ a → (b : Bool) → is_outside m (at_word p time_s) ≡ b → (c : Bool) → later time (word_at m (at_word p time_s) w) ≡ c
          → pick a true (pick b true (pick c (is_outside m (at_word p tlink_s)) true)) ≡ true
          → Calm
          (if_eq p not_process (insert_final_step m previous p w)
          (pick (later time (word_at m (at_word p time_s) w)) (insert_walk m (suc turns) time (at_word p tlink_s) on) (insert_final_step m previous p on)))
      go true ea b eb c ec z = rw (yes_eq (eqb-true p not_process ea)) (kept (lawful-insert_final_step previous p) m calm)
      go false ea true eb c ec z =
          on_eq Calm p not_process (kept (lawful-insert_final_step previous p) m calm)
          (on-pick Calm (later time (word_at m (at_word p time_s) w))
          (outside_calm m 2 (at_word p time_s) w o (leb-true _ _ eb) none _ (λ P t f. kept (lawful-insert_walk (t stop) (suc turns) time (at_word p tlink_s)) m f))
          found)
      go false ea false eb false ec z = rw ec (on_eq Calm p not_process (kept (lawful-insert_final_step previous p) m calm) found)
      go false ea false eb true ec z =
          let same : on ≡ w = inside-same m 2 (at_word p time_s) w o.1 (leb-false _ _ eb) in
          rw (ec, same) (on_eq Calm p not_process (kept (lawful-insert_final_step previous p) m calm) (insert-outside turns (at_word p tlink_s) (leb-true _ _ z)))

  -- one turn of a walk that goes on
  insert_on : (turns previous : ℕ) → index previous < length m → insert_ends m w time (word_at m previous w) ≡ false
      → insert_walk m (suc turns) time previous w ≡ insert_walk m turns time (at_word (word_at m previous w) tlink_s) w
  insert_on turns previous h e =
      let g = insert-goes (word_at m previous w) e in
      insert_turn turns previous h
      ∙ rw (no_eq g.0, g.2, inside-same m 2 (at_word (word_at m previous w) time_s) w o.1 g.1)

  pub insert_walk_lem : Walk m w (insert_ends m w time) (λ turns previous. insert_walk m turns time previous w)
  unfolding insert_walk refuse_at
  insert_walk_lem =
      record {
        used_up = λ previous. rw (yes_eq none);
        on = insert_on;
        link-inside = λ p e. (insert-goes p e).3;
        ended = insert-stays;
        outside = insert-outside;
      }

  -- the test tells a ring
  pub insert_rings_lem : (p : ℕ) → (insert_rings m w time p ≡ true) ↔ InsertRing m w time p
  unfolding insert_rings
  insert_rings_lem = walk_rings insert_walk_lem

  -- and so whether the walk is refused with Stop
  pub insert_tells : (previous : ℕ) → Tells (not (is_outside m previous) && insert_rings m w time (word_at m previous w)) (insert_walk m (length m + 2) time previous w)
  unfolding insert_rings
  insert_tells = walk_tells insert_walk_lem

-- ---- deletion

module _ (m : List ℕ) (w : Work) (o : Ordinary w) (none : w.answer ≡ 0) where
  -- a turn whose own pointer is inside memory
  delete_turn : (turns previous : ℕ) → index previous < length m
      → delete_walk m (suc turns) previous w
      ≡ if_eq (word_at m previous w) (wptr w) (delete_final_step m previous w) (delete_walk m turns (at_word (word_at m previous w) tlink_s) w)
  unfolding delete_walk
  delete_turn turns previous h = rw (inside-same m 2 previous w o.1 h)

  -- a turn whose own pointer is outside
  delete-outside : (turns previous : ℕ) → length m ≤ index previous → Calm (delete_walk m (suc turns) previous w)
  unfolding delete_walk
  delete-outside turns previous h =
      let p = word_at m previous w in
      outside_calm m 2 previous w o h none _
      (λ P t f. on_eq (Fine P) p (wptr w) (kept (lawful-delete_final_step previous) m f) (kept (lawful-delete_walk (t stop) turns (at_word p tlink_s)) m f))

  -- what it means that the walk does not end at p
  pub delete-goes : (p : ℕ) → delete_ends m w p ≡ false → (p ≡ wptr w → ⊥) × (index (at_word p tlink_s) < length m)
  unfolding delete_ends
  delete-goes p e = go (eqb p (wptr w)) refl e
    where
      go : (a : Bool) → eqb p (wptr w) ≡ a → pick a true (is_outside m (at_word p tlink_s)) ≡ false → (p ≡ wptr w → ⊥) × (index (at_word p tlink_s) < length m)
      go true ea z = absurd (let q : ◌≡◌ {A = ℕ} 0 1 = cc in omega arith)
      go false ea z = (eqb-false p (wptr w) ea, leb-false _ _ z)

  -- a walk that ends at p is not refused with Stop
  delete-stays : (turns previous : ℕ) → index previous < length m → delete_ends m w (word_at m previous w) ≡ true
      → Calm (delete_walk m (suc (suc turns)) previous w)
  unfolding delete_ends
  delete-stays turns previous h e = rw (delete_turn (suc turns) previous h) (go (eqb p (wptr w)) refl e)
    where
      p : ℕ
      p = word_at m previous w

      found : Calm (delete_final_step m previous w)
      found = kept (lawful-delete_final_step previous) m (calm-none o none)

      go : (a : Bool) → eqb p (wptr w) ≡ a → pick a true (is_outside m (at_word p tlink_s)) ≡ true
          → Calm (if_eq p (wptr w) (delete_final_step m previous w) (delete_walk m (suc turns) (at_word p tlink_s) w))
      go true ea z = rw (yes_eq (eqb-true p (wptr w) ea)) found
      go false ea z = on_eq Calm p (wptr w) found (delete-outside turns (at_word p tlink_s) (leb-true _ _ z))

  -- one turn of a walk that goes on
  delete_on : (turns previous : ℕ) → index previous < length m → delete_ends m w (word_at m previous w) ≡ false
      → delete_walk m (suc turns) previous w ≡ delete_walk m turns (at_word (word_at m previous w) tlink_s) w
  delete_on turns previous h e = delete_turn turns previous h ∙ rw (no_eq (delete-goes (word_at m previous w) e).0)

  pub delete_walk_lem : Walk m w (delete_ends m w) (λ turns previous. delete_walk m turns previous w)
  unfolding delete_walk refuse_at
  delete_walk_lem =
      record {
        used_up = λ previous. rw (yes_eq none);
        on = delete_on;
        link-inside = λ p e. (delete-goes p e).1;
        ended = delete-stays;
        outside = delete-outside;
      }

  -- the test tells a ring
  pub delete_rings_lem : (p : ℕ) → (delete_rings m w p ≡ true) ↔ DeleteRing m w p
  unfolding delete_rings
  delete_rings_lem = walk_rings delete_walk_lem

  -- and so whether the walk is refused with Stop
  pub delete_tells : (previous : ℕ) → Tells (not (is_outside m previous) && delete_rings m w (word_at m previous w)) (delete_walk m (length m + 2) previous w)
  unfolding delete_rings
  delete_tells = walk_tells delete_walk_lem
