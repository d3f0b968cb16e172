-- Chains: sequences of public calls by their contracts alone, each call from the state that the call before left.
use Rattle.std.specs.Prelude.{◌≡◌, List, [], ◌∷◌, ◌++◌, ℕ, eqb}
use Rattle.rules.specs.Tests.{if_eq}
use Rattle.rules.specs.Memory.{stores}
use Rattle.rules.specs.declared.Reply.{Reply}
use Rattle.history.specs.Machine.{Act, call, undo}
use Rattle.history.specs.T414.{Call, step, tick, give, event, Whole, stack, Plain, work}
use Rattle.history.specs.T414 as calls
use Rattle.history.specs.CallContracts.{StepContract, TickContract, TakeContract, GiveContract, EventContract, UndoContract, number}

-- the contract of a call of a chain: any but fresh and clear (01, What the contracts have to say: demand 3; DECISIONS 52)
abbrev pub Met : Act Call → Whole → Reply → List ℕ → List ℕ → Type 0
Met (call step) s r mem j = StepContract s.machine s.memory s.journal r mem j
Met (call tick) s r mem j = TickContract s.machine s.memory s.journal r mem j
Met (call (calls.take c)) s r mem j = TakeContract c s.machine s.memory s.journal r mem j
Met (call (give c byte)) s r mem j = GiveContract c byte s.machine s.memory s.journal r mem j
Met (call event) s r mem j = EventContract s.machine s.memory s.journal r mem j
Met undo s r mem j = UndoContract s.machine s.memory s.journal r mem j

-- the state that a call leaves: the machine of its reply, and the lent words (01, What the contracts have to say: demand 3)
abbrev pub left : Reply → List ℕ → List ℕ → Whole
left r mem j = record { machine = r.machine; memory = mem; journal = j }

-- `Chain s acts numbers t`: the calls acts, made one after the other from s, answer these numbers, and the last call leaves t
-- (01, What the contracts have to say: demand 3)
pub data Chain : Whole → List (Act Call) → List ℕ → Whole → Type 0 where
  ended : {s : Whole} → Chain s [] [] s
  made : {s t : Whole} {a : Act Call} {acts : List (Act Call)} {numbers : List ℕ} (r : Reply) (mem j : List ℕ)
      → Met a s r mem j → Chain (left r mem j) acts numbers t → Chain s (a ∷ acts) (number r ∷ numbers) t

-- the standing calls: accepted and not undone, by the numbers answered. The last call first; the calls of k stood before
-- (01, What the contracts have to say: demand 3)
unfoldable pub stands : List (Act Call) → List ℕ → List Call → List Call
stands (a ∷ acts) (n ∷ numbers) k = stands acts numbers (stack a (eqb n 0) k)
stands [] numbers k = k
stands (a ∷ acts) [] k = k

-- a moment of a chain, to which undos lead back: the calls before it, the state then, and the calls after it
-- (01, What the contracts have to say: demand 3)
pub record Moment (s : Whole) (acts : List (Act Call)) (numbers : List ℕ) (t : Whole) : Type 0 where
  pub calls-before : List (Act Call)
  pub calls-after : List (Act Call)
  pub numbers-before : List ℕ
  pub numbers_after : List ℕ
  pub state : Whole
  pub before : Chain s calls-before numbers-before state
  pub after : Chain state calls-after numbers_after t
  pub all_calls : acts ≡ calls-before ++ calls-after
  pub all_numbers : numbers ≡ numbers-before ++ numbers_after

-- ---- the rules without a journal

-- registers and memory after the work of a call; a refused call changes nothing (01, Answers by number)
unfoldable pub worked : Call → Plain → Plain
worked c x = if_eq (work c x).answer 0 (record { regs = (work c x).regs; mem = stores x.mem (work c x).stored }) x

-- registers and memory after the calls of k in order; k has the last call first (01, What the contracts have to say: demand 3)
unfoldable pub given : Plain → List Call → Plain
given x [] = x
given x (c ∷ k) = worked c (given x k)

-- registers and memory, without depth, used and journal (01, What the contracts have to say: demand 3)
abbrev pub plain : Whole → Plain
plain s = record { regs = s.machine.regs; mem = s.memory }
