-- The records of our calls are sound: registers stay 45, the last record restores registers and memory before it, and the checks of the
-- journal never refuse the undo of an accepted call.
use mathlib.Core.Path.{◌≡◌, refl}
use mathlib.Core.Bool.{Bool, true, false, ◌||◌}
use mathlib.Core.List.{List, ◌++◌}
use mathlib.Core.Option.{Option, none, some}
use Prim.Native.Nat.{ℕ, ◌+◌, ◌*◌, ◌≤◌}
use native.Mathlib.Omega.{arith}
use borrow.Author.Tests.{ltb-false, le-ltb}
use lib.Dec.{eqb, ltb}
use lib.ListN.{length, take}
use Rattle.rules.specs.Tests.{pick, if_eq}
use Rattle.rules.specs.Registers.{registers}
use Rattle.rules.specs.Memory.{stores}
use Rattle.rules.specs.Work.{Work}
use Rattle.rules.specs.Journal.{record_length, record_of, bounds_bad}
use Rattle.rules.specs.Calls.{memory_size_bad, journal_size_bad}
use Rattle.rules.proofs.Tests.{no_lt}
use Rattle.laws.specs.Answers.{Known}
use Rattle.laws.proofs.Fine.{Fine, fine-begin, turns-known}
use Rattle.laws.proofs.FineLinks.{fine-tick, fine-take, fine-give, fine-event}
use Rattle.laws.proofs.FineStep.{fine-step}
use Rattle.laws.proofs.Stores.{length-stores}
use Rattle.laws.proofs.Touched.{touched_below, outside-touched, length_record}
use Rattle.history.specs.Machine.{refused, accepted, Act, call, Laws}
use Rattle.history.specs.T414.{Call, step, tick, give, event, Plain, work, byte_of, places, effect, bad_channel, guard, unrecord, t414}
use Rattle.history.specs.T414 as spec
use Rattle.history.proofs.Records.{strays-none, written_back, last_pairs_lem, last-start, last-regs, last_read}

-- 45 registers
abbrev pub Ok : Plain → Type 0
Ok x = length x.regs ≡ registers

pub fine-work : (c : Call) (x : Plain) → Ok x → Fine Known (work c x)
fine-work step x h = fine-step x.mem (turns-known _ (omega arith)) (turns-known _ (omega arith)) (turns-known _ (omega arith)) (turns-known _ (omega arith)) (turns-known _ (omega arith)) (fine-begin x.regs h)
fine-work tick x h = fine-tick (fine-begin x.regs h)
fine-work (spec.take c) x h = fine-take x.mem c (turns-known _ (omega arith)) (fine-begin x.regs h)
fine-work (give c byte) x h = fine-give x.mem c byte (turns-known _ (omega arith)) (fine-begin x.regs h)
fine-work event x h = fine-event (turns-known _ (omega arith)) (fine-begin x.regs h)

-- the parts of an accepted effect
module _ (x y : Plain) (w : List ℕ) (b byte : ℕ) (k : Work) (e : effect x byte k ≡ accepted y w b) where
  effect_is : (y ≡ record { regs = k.regs; mem = stores x.mem k.stored }) × (w ≡ record_of x.mem x.regs (places x k))
  unfolding effect if_eq
  effect_is = go (eqb k.answer 0) e
    where
      go : (t : Bool)
          → pick t (accepted (record { regs = k.regs; mem = stores x.mem k.stored }) (record_of x.mem x.regs (places x k)) byte) (refused k.answer) ≡ accepted y w b
          → (y ≡ record { regs = k.regs; mem = stores x.mem k.stored }) × (w ≡ record_of x.mem x.regs (places x k))
      go true q = (cc, cc)
      go false q = (cc, cc)

-- ---- a record behind any words restores registers and memory

-- the record of the work k on x
abbrev entry : Plain → Work → List ℕ
entry x k = record_of x.mem x.regs (places x k)

unrecord_last : (x : Plain) (k : Work) → Ok x → (front j : List ℕ) → take (length front + length (entry x k)) j ≡ front ++ entry x k
    → unrecord (record { regs = k.regs; mem = stores x.mem k.stored }) (length front + length (entry x k)) j ≡ some (x, length front)
unfolding unrecord
unrecord_last x k h front j t =
    let mem = x.mem in
    let regs = x.regs in
    let ks = places x k in
    let fits : record_length (length ks) ≤ length front + length (entry x k) = omega (arith, length_record mem regs ks h) in
    let inside = strays-none (length mem) mem ks (touched_below (length mem) k.stored) in
    let back = written_back ks mem (stores mem k.stored) (length-stores mem k.stored) (outside-touched mem k.stored) in
    rw (last_pairs_lem front j mem regs ks h t, last-start front j mem regs ks h t, last-regs front j mem regs ks h t, last_read front j mem regs ks h t)
    (rw (no_lt fits, length-stores mem k.stored, inside, back))

-- ---- the checks before an undo

-- a record has at least 46 words, so the bounds of the journal stay good
bounds_good : (size depth used n : ℕ) → bounds_bad size depth used ≡ false → record_length 0 ≤ n → used + n ≤ size → bounds_bad size (depth + 1) (used + n) ≡ false
unfolding bounds_bad
bounds_good size depth used n e l f = go (ltb size used) (ltb used (record_length 0 * depth)) refl e
  where
    go : (a b : Bool) → ltb used (record_length 0 * depth) ≡ b → (a || b) ≡ false → (ltb size (used + n) || ltb (used + n) (record_length 0 * (depth + 1))) ≡ false
    go true b q z = cc
    go false true q z = cc
    go false false q z =
        rw (le-ltb size (used + n) f, le-ltb (used + n) (record_length 0 * (depth + 1)) (omega (arith, ltb-false used (record_length 0 * depth) q)))

-- the facts of a guard that does not refuse
guard_told : (a : Act Call) (x : Plain) (size depth used : ℕ) → guard a x size depth used ≡ none
    → ((memory_size_bad (length x.mem) || journal_size_bad size) ≡ false) × (bounds_bad size depth used ≡ false)
unfolding guard
guard_told a x size depth used e = go (memory_size_bad (length x.mem) || journal_size_bad size) (bad_channel a) (bounds_bad size depth used) e
  where
    go : (p q r : Bool) → ◌≡◌ {A = Option ℕ} (pick p (some 1) (pick q (some 3) (pick r (some 4) none))) none → (p ≡ false) × (r ≡ false)
    go true q r e = (cc, cc)
    go false true r e = (cc, cc)
    go false false true e = (cc, cc)
    go false false false e = (refl, refl)

pub sound : Laws t414 Ok
unfolding guard
sound =
    record {
      keeps = λ c x y w b h e. rw (effect_is x y w b (byte_of c x) (work c x) e).0 (fine-work c x h).ordinary.0;
      back = λ c x y w b h e front j t r.
          let q = effect_is x y w b (byte_of c x) (work c x) e in
          rw (q.0, q.1) (unrecord_last x (work c x) h front j (rw q.1 at t));
      passes = λ c x y w b h e size depth used g r.
          let q = effect_is x y w b (byte_of c x) (work c x) e in
          let l : record_length 0 ≤ length w = rw q.1 (omega (arith, length_record x.mem x.regs (places x (work c x)) h)) in
          let z = guard_told (call c) x size depth used g in
          rw (q.0, length-stores x.mem (work c x).stored, z.0, bounds_good size depth used (length w) z.1 l r);
    }
