-- Demand 3 of functions: any eight functions that meet the contracts satisfy it, by the history over chains of contracts. Such functions exist,
-- so the theorem is not empty.
use mathlib.Core.Path.{◌≡◌, sym, ap, subst, ◌∙◌}
use mathlib.Core.List.{List, [], ◌∷◌}
use Prim.Native.Nat.{ℕ, ◌≤◌}
use lib.ListN.{length, replicate}
use Rattle.rules.specs.Calls.{Outcome}
use Rattle.rules.specs.Calls as rules
use Rattle.laws.proofs.Calls.{kept_step, kept-tick, kept-take, kept-give, kept-event, kept-undo, kept-clear, kept_fresh}
use Rattle.history.specs.Machine.{Act, call, undo, in_order}
use Rattle.history.specs.T414.{Call, step, tick, give, event, Whole, after, run, standing, shown}
use Rattle.history.specs.T414 as calls
use Rattle.history.specs.CallContracts.{FreshContract}
use Rattle.history.specs.Chain.{Met, Chain, ended}
use Rattle.history.specs.Chain as chains
use Rattle.history.specs.Functions.{Result, Functions, MeetContracts, hands_on, made, ran, answers, stood, GivenBack, Reversible}
use Rattle.history.proofs.Unique.{reply_of, told}
use Rattle.history.proofs.Calls.{Whole45, kept}
use Rattle.history.proofs.Public.{met-is, chain_run, chain-stands, fresh_empties, public_history, public-records, public-undone}

-- ---- functions that meet the contracts

-- the result of an outcome of the rules
abbrev pub result_of : Outcome → Result
result_of o = record { reply = reply_of o; memory = o.memory; journal = o.journal }

-- the rules themselves, as eight functions
abbrev pub by_the_rules : Functions
by_the_rules =
    record {
      fresh = λ code mem j. result_of (rules.fresh code mem j);
      step = λ m mem j. result_of (rules.step m mem j);
      tick = λ m mem j. result_of (rules.tick m mem j);
      take = λ channel m mem j. result_of (rules.take channel m mem j);
      give = λ channel byte m mem j. result_of (rules.give channel byte m mem j);
      event = λ m mem j. result_of (rules.event m mem j);
      undo = λ m mem j. result_of (rules.undo m mem j);
      clear = λ m mem j. result_of (rules.clear m mem j);
    }

pub rules_meet : MeetContracts by_the_rules
rules_meet =
    record {
      fresh = λ code mem j. told _ (kept_fresh code mem j).known;
      step = λ m h mem j. told _ (kept_step m mem j h).known;
      tick = λ m h mem j. told _ (kept-tick m mem j h).known;
      take = λ channel m h mem j. told _ (kept-take m mem j h channel).known;
      give = λ channel byte m h mem j. told _ (kept-give m mem j h channel byte).known;
      event = λ m h mem j. told _ (kept-event m mem j h).known;
      undo = λ m h mem j. told _ (kept-undo m mem j h).known;
      clear = λ m h mem j. told _ (kept-clear m mem j h).known;
    }

-- ---- functions that meet the contracts make a chain of contracts

module _ (F : Functions) (M : MeetContracts F) where
  met : (a : Act Call) (s : Whole) → Whole45 s → Met a s (made F a s).reply (made F a s).memory (made F a s).journal
  met (call step) s h = M.step s.machine h s.memory s.journal
  met (call tick) s h = M.tick s.machine h s.memory s.journal
  met (call (calls.take c)) s h = M.take c s.machine h s.memory s.journal
  met (call (give c byte)) s h = M.give c byte s.machine h s.memory s.journal
  met (call event) s h = M.event s.machine h s.memory s.journal
  met undo s h = M.undo s.machine h s.memory s.journal

  still45 : (a : Act Call) (s : Whole) → Whole45 s → Whole45 (hands_on (made F a s))
  still45 a s h =
      subst (λ (o : Outcome). Whole45 (after o)) (sym (met-is s (made F a s).reply (made F a s).memory (made F a s).journal a (met a s h))) (kept s a h)

  chain : (acts : List (Act Call)) (s : Whole) → Whole45 s → Chain s acts (answers F acts s) (ran F acts s)
  unfolding ran answers
  chain [] s h = ended
  chain (a ∷ acts) s h = chains.made _ _ _ (met a s h) (chain acts _ (still45 a s h))

  -- the functions leave the state that the rules leave
  ran-is : (acts : List (Act Call)) (s : Whole) → Whole45 s → ran F acts s ≡ run acts s
  ran-is acts s h = chain_run (chain acts s h)

  stood-is : (acts : List (Act Call)) (s : Whole) → Whole45 s → stood F acts s ≡ standing acts s []
  stood-is acts s h = chain-stands (chain acts s h) []

  ran45 : (acts : List (Act Call)) (s : Whole) → Whole45 s → Whole45 (ran F acts s)
  unfolding ran
  ran45 [] s h = h
  ran45 (a ∷ acts) s h = ran45 acts _ (still45 a s h)

  -- DEMAND 3
  pub reversible : Reversible F
  reversible code mem j acts =
      record {
        state = (public_history code mem j _ _ _ fresh acts _ _ all).0;
        depth = (public_history code mem j _ _ _ fresh acts _ _ all).1;
        records = (public-records code mem j _ _ _ fresh acts _ _ all).0;
        alone = (public-records code mem j _ _ _ fresh acts _ _ all).0 ∙ ap shown (sym (ran-is (in_order k) s h));
        stand-alone = stood-is (in_order k) s h ∙ (public-records code mem j _ _ _ fresh acts _ _ all).1;
        undoing = back;
      }
    where
      s : Whole
      s = hands_on (F.fresh code mem j)

      fresh : FreshContract code mem j (F.fresh code mem j).reply (F.fresh code mem j).memory (F.fresh code mem j).journal
      fresh = M.fresh code mem j

      h : Whole45 s
      h = (fresh_empties code mem j _ _ _ fresh).count

      k : List Call
      k = stood F acts s

      all : Chain s acts (answers F acts s) (ran F acts s)
      all = chain acts s h

      back : (n : ℕ) → n ≤ length k → GivenBack F s acts n
      back n d =
          let u = public-undone code mem j _ _ _ fresh acts _ _ all n d _ _ (chain (replicate n undo) (ran F acts s) (ran45 acts s h)) in
          let m = u.1 in
          record {
            accepted = u.0;
            calls-before = m.calls-before;
            calls-after = m.calls-after;
            all_calls = m.all_calls;
            others-stood = stood-is m.calls-before s h ∙ sym (chain-stands m.before []) ∙ u.2;
            as_then = u.3 ∙ ap shown (chain_run m.before ∙ sym (ran-is m.calls-before s h));
          }
