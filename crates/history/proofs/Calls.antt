-- The machine t414 gives the outcomes of the calls of `rules`, with their checks in their order: 1, 3, 4, the work of the call, 12; undo: 1, 4, 5, 4.
use mathlib.Core.Path.{◌≡◌, refl, ap, ◌∙◌}
use mathlib.Core.Bool.{Bool, true, false, ◌||◌}
use mathlib.Core.List.{List, [], ◌∷◌}
use mathlib.Core.Option.{Option, none, some}
use Prim.Native.Nat.{ℕ, ◌+◌, ◌-◌}
use lib.Dec.{eqb, ltb}
use lib.ListN.{length}
use lib.Seq.{sets}
use Rattle.rules.specs.Tests.{pick, if_eq, if_lt}
use Rattle.rules.specs.Registers.{registers}
use Rattle.rules.specs.Memory.{stores}
use Rattle.rules.specs.Work.{Work}
use Rattle.rules.specs.Journal.{record_length, record_of, bounds_bad, last_pairs, last_start, last_regs, pairs_at, write_back, strays}
use Rattle.rules.specs.Calls.{Outcome, machine_of, memory_size_bad, journal_size_bad, size_bad, recorded, commit_or_refuse, checked, undone, undo_last}
use Rattle.rules.specs.Calls as calls
use Rattle.laws.proofs.Calls.{kept_step, kept-tick, kept-take, kept-give, kept-event, kept-undo}
use Rattle.laws.proofs.Touched.{length_record}
use Rattle.history.specs.Machine.{Act, call, undo, State, Done, no_way, done, push, settle, undoing, guarded, act}
use Rattle.history.specs.Machine as generic
use Rattle.history.specs.T414.{Call, step, tick, give, event, Whole, perform, after, run, stack, standing, Plain, work, byte_of, places, effect, bad_channel, guard, unrecord, t414}
use Rattle.history.specs.T414 as spec

-- ---- the same states and answers, seen from both sides

abbrev pub view : Whole → State Plain
view s =
    record {
      core = record { regs = s.machine.regs; mem = s.memory };
      depth = s.machine.depth;
      used = s.machine.used;
      journal = s.journal;
    }

abbrev pub told : Outcome → Done Plain
told o = record { answer = pick (eqb o.answer 0) (done o.byte) (no_way o.answer); state = view (after o) }

-- 45 registers
abbrev pub Whole45 : Whole → Type 0
Whole45 s = length s.machine.regs ≡ registers

module _ (s : Whole) where
  abbrev no : ℕ → Outcome
  no n = calls.refused n s.machine s.memory s.journal

  told_checks : (p q r : Bool) (d : Done Plain) (o : Outcome) → d ≡ told o
      → guarded (pick p (some 1) (pick q (some 3) (pick r (some 4) none))) (view s) d ≡ told (pick p (no 1) (pick q (no 3) (pick r (no 4) o)))
  told_checks true q r d o e = refl
  told_checks false true r d o e = refl
  told_checks false false true d o e = refl
  told_checks false false false d o e = e

  told_settled : (byte : ℕ) (k : Work) → Whole45 s → settle (view s) (effect (view s).core byte k) ≡ told (commit_or_refuse s.machine s.memory s.journal byte k)
  unfolding effect commit_or_refuse recorded if_eq if_lt
  told_settled byte k h = by_answer (eqb k.answer 0) refl
    where
      ks : List ℕ
      ks = places (view s).core k

      entry : List ℕ
      entry = record_of s.memory s.machine.regs ks

      after-work : Plain
      after-work = record { regs = k.regs; mem = stores s.memory k.stored }

      full : ℕ
      full = s.machine.used + record_length (length ks)

      accepted : Outcome
      accepted =
          calls.accepted byte (machine_of k.regs (s.machine.depth + 1) full) (stores s.memory k.stored)
          (sets s.journal s.machine.used entry)

      by_room : (t : Bool) → push (view s) after-work entry byte t ≡ told (pick t (no 12) accepted)
      by_room true = refl
      by_room false = rw (length_record s.memory s.machine.regs ks h)

      by_answer : (t : Bool) → eqb k.answer 0 ≡ t
          → settle (view s) (pick t (generic.accepted after-work entry byte) (generic.refused k.answer))
          ≡ told (pick t (pick (ltb (length s.journal) full) (no 12) accepted) (calls.refused_at k.answer k.kind k.address s.machine s.memory s.journal))
      by_answer true e = rw (length_record s.memory s.machine.regs ks h) (by_room (ltb (length s.journal) full))
      by_answer false e = rw e

  told-undo : undoing (view s) (unrecord (view s).core s.machine.used s.journal) (eqb s.machine.depth 0)
      ≡ told (if_eq s.machine.depth 0 (no 5) (undo_last s.machine s.memory s.journal))
  unfolding unrecord undo_last undone if_eq if_lt
  told-undo =
      go (eqb s.machine.depth 0) (ltb s.machine.used (record_length (last_pairs s.journal s.machine.used))) (strays (length s.memory) pairs)
    where
      pairs : List (ℕ × ℕ)
      pairs = pairs_at s.journal (last_start s.journal s.machine.used) (last_pairs s.journal s.machine.used)

      regs : List ℕ
      regs = last_regs s.journal s.machine.used

      start : ℕ
      start = last_start s.journal s.machine.used

      back : Outcome
      back = calls.accepted 0 (machine_of regs (s.machine.depth - 1) start) (write_back s.memory pairs) s.journal

      go : (p q r : Bool)
          → undoing (view s) (pick q none (pick r none (some (record { regs = regs; mem = write_back s.memory pairs }, start)))) p
          ≡ told (pick p (no 5) (pick q (no 4) (pick r (no 4) back)))
      go true q r = refl
      go false true r = refl
      go false false true = refl
      go false false false = refl

  -- ---- each call

  -- the checks before a call, in their order
  checks : Act Call → Option ℕ
  checks a = guard a (view s).core (length s.journal) s.machine.depth s.machine.used

  told-checked : (a : Act Call) (d : Done Plain) (o : Outcome) → d ≡ told o
      → guarded (checks a) (view s) d ≡ told (checked (bad_channel a) s.machine s.memory s.journal o)
  unfolding checks guard checked size_bad
  told-checked a d o e =
      told_checks (memory_size_bad (length s.memory) || journal_size_bad (length s.journal)) (bad_channel a) (bounds_bad (length s.journal) s.machine.depth s.machine.used) d o e

  told-call : (c : Call) → Whole45 s
      → guarded (checks (call c)) (view s) (settle (view s) (effect (view s).core (byte_of c (view s).core) (work c (view s).core)))
      ≡ told (checked (bad_channel (call c)) s.machine s.memory s.journal (commit_or_refuse s.machine s.memory s.journal (byte_of c (view s).core) (work c (view s).core)))
  told-call c h = told-checked (call c) _ _ (told_settled (byte_of c (view s).core) (work c (view s).core) h)

  pub performs : (a : Act Call) → Whole45 s → generic.perform t414 a (view s) ≡ told (perform a s)
  unfolding generic.perform generic.act checks calls.step calls.tick calls.take calls.give calls.event calls.undo
  performs (call step) h = told-call step h
  performs (call tick) h = told-call tick h
  performs (call (spec.take c)) h = told-call (spec.take c) h
  performs (call (give c byte)) h = told-call (give c byte) h
  performs (call event) h = told-call event h
  performs undo h = told-checked undo _ _ told-undo

  pub kept : (a : Act Call) → Whole45 s → Whole45 (after (perform a s))
  kept (call step) h = (kept_step s.machine s.memory s.journal h).count
  kept (call tick) h = (kept-tick s.machine s.memory s.journal h).count
  kept (call (spec.take c)) h = (kept-take s.machine s.memory s.journal h c).count
  kept (call (give c byte)) h = (kept-give s.machine s.memory s.journal h c byte).count
  kept (call event) h = (kept-event s.machine s.memory s.journal h).count
  kept undo h = (kept-undo s.machine s.memory s.journal h).count

-- ---- sequences

same-stack : (a : Act Call) (t : Bool) (n b : ℕ) (k : List Call) → generic.stack a (pick t (done b) (no_way n)) k ≡ stack a t k
same-stack (call c) true n b k = refl
same-stack (call c) false n b k = refl
same-stack undo true n b k = refl
same-stack undo false n b k = refl

pub same-run : (acts : List (Act Call)) (s : Whole) → Whole45 s → generic.run t414 acts (view s) ≡ view (run acts s)
unfolding generic.run run
same-run [] s h = refl
same-run (a ∷ acts) s h =
    ap (λ (d : Done Plain). generic.run t414 acts d.state) (performs s a h) ∙ same-run acts (after (perform a s)) (kept s a h)

pub same-standing : (acts : List (Act Call)) (s : Whole) (k : List Call) → Whole45 s → generic.standing t414 acts (view s) k ≡ standing acts s k
unfolding generic.standing standing
same-standing [] s k h = refl
same-standing (a ∷ acts) s k h =
    ap (λ (d : Done Plain). generic.standing t414 acts d.state (generic.stack a d.answer k)) (performs s a h)
    ∙ ap (λ (l : List Call). generic.standing t414 acts (view (after (perform a s))) l) (same-stack a (eqb (perform a s).answer 0) (perform a s).answer (perform a s).byte k)
    ∙ same-standing acts (after (perform a s)) (stack a (eqb (perform a s).answer 0) k) (kept s a h)

pub kept_run : (acts : List (Act Call)) (s : Whole) → Whole45 s → Whole45 (run acts s)
unfolding run
kept_run [] s h = h
kept_run (a ∷ acts) s h = kept_run acts (after (perform a s)) (kept s a h)
