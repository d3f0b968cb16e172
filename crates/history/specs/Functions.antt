-- Any eight functions of the public types: that they meet the contracts, and demand 3 as a property of the functions, run from fresh
-- (01, What the contracts have to say).
use Rattle.std.specs.Prelude.{◌≡◌, List, [], ◌∷◌, ◌++◌, ℕ, ◌≤◌, length, drop, replicate}
use Rattle.rules.specs.Registers.{registers}
use Rattle.rules.specs.declared.Machine.{Machine}
use Rattle.rules.specs.declared.Reply.{Reply}
use Rattle.history.specs.Machine.{Act, call, undo, in_order}
use Rattle.history.specs.T414.{Call, step, tick, give, event, Whole, run, shown}
use Rattle.history.specs.T414 as calls
use Rattle.history.specs.CallContracts.{Contract, FreshContract, StepContract, TickContract, TakeContract, GiveContract, EventContract, UndoContract, ClearContract, number}
use Rattle.history.specs.Chain.{left, stands, given, plain}

-- the result of a function: its reply, and every lent word (01, What the contracts have to say)
pub record Result : Type 0 where
  pub reply : Reply
  pub memory : List ℕ
  pub journal : List ℕ

-- any function with the arguments of a public call: a machine, memory and journal (01, What the contracts have to say)
abbrev pub Function : Type 0
Function = Machine → List ℕ → List ℕ → Result

-- any function with the arguments of fresh: code, memory and journal (01, What the contracts have to say)
abbrev pub FreshFunction : Type 0
FreshFunction = List ℕ → List ℕ → List ℕ → Result

-- P holds of every call: of any memory and journal, and any machine of 45 registers, since a public function can be given no other
-- (01, Memory and registers; 01, What the contracts have to say)
abbrev pub EveryCall : (Machine → List ℕ → List ℕ → Result → Type 0) → Function → Type 0
EveryCall P f = (m : Machine) → length m.regs ≡ registers → (mem j : List ℕ) → P m mem j (f m mem j)

-- the function meets a contract at every call (01, What the contracts have to say)
abbrev pub Meets : (Machine → Contract) → Function → Type 0
Meets C = EveryCall (λ m mem j r. C m mem j r.reply r.memory r.journal)

-- the function meets the contract of fresh, which takes no machine (01, What the contracts have to say)
abbrev pub MeetsFresh : FreshFunction → Type 0
MeetsFresh f = (code mem j : List ℕ) → FreshContract code mem j (f code mem j).reply (f code mem j).memory (f code mem j).journal

-- any eight functions of the public types (01, The part of the T414 that we build: Calls)
pub record Functions : Type 0 where
  pub fresh : FreshFunction
  pub step : Function
  pub tick : Function
  pub take : (channel : ℕ) → Function
  pub give : (channel byte : ℕ) → Function
  pub event : Function
  pub undo : Function
  pub clear : Function

-- each of eight functions meets its contract (01, What the contracts have to say)
pub record MeetContracts (F : Functions) : Type 0 where
  pub fresh : MeetsFresh F.fresh
  pub step : Meets StepContract F.step
  pub tick : Meets TickContract F.tick
  pub take : (channel : ℕ) → Meets (TakeContract channel) (F.take channel)
  pub give : (channel byte : ℕ) → Meets (GiveContract channel byte) (F.give channel byte)
  pub event : Meets EventContract F.event
  pub undo : Meets UndoContract F.undo
  pub clear : Meets ClearContract F.clear

-- ---- calls of these functions one after the other

-- the state that a call leaves: the machine of its reply, and the lent words (01, What the contracts have to say: demand 3)
abbrev pub hands_on : Result → Whole
hands_on r = left r.reply r.memory r.journal

module _ (F : Functions) where
  -- a call or an undo, made by its function (01, The part of the T414 that we build: Calls)
  abbrev pub made : Act Call → Whole → Result
  made (call step) s = F.step s.machine s.memory s.journal
  made (call tick) s = F.tick s.machine s.memory s.journal
  made (call (calls.take c)) s = F.take c s.machine s.memory s.journal
  made (call (give c byte)) s = F.give c byte s.machine s.memory s.journal
  made (call event) s = F.event s.machine s.memory s.journal
  made undo s = F.undo s.machine s.memory s.journal

  -- the state after the calls, made one after the other (01, What the contracts have to say: demand 3)
  unfoldable pub ran : List (Act Call) → Whole → Whole
  ran [] s = s
  ran (a ∷ acts) s = ran acts (hands_on (made a s))

  -- the numbers that the calls answer (01, Answers by number)
  unfoldable pub answers : List (Act Call) → Whole → List ℕ
  answers [] s = []
  answers (a ∷ acts) s = number (made a s).reply ∷ answers acts (hands_on (made a s))

  -- the standing calls: accepted and not undone, by these numbers, the last call first (01, What the contracts have to say: demand 3)
  abbrev pub stood : List (Act Call) → Whole → List Call
  stood acts s = stands acts (answers acts s) []

  -- n undos after the calls: none is refused, and registers, memory, depth, used and the journal's words in use are as at a moment of the
  -- same sequence, when all standing calls but the last n stood (01, What the contracts have to say: demand 3)
  pub record GivenBack (s : Whole) (acts : List (Act Call)) (n : ℕ) : Type 0 where
    pub accepted : answers (replicate n undo) (ran acts s) ≡ replicate n 0
    pub calls-before : List (Act Call)
    pub calls-after : List (Act Call)
    pub all_calls : acts ≡ calls-before ++ calls-after
    pub others-stood : stood calls-before s ≡ drop n (stood acts s)
    pub as_then : shown (ran (replicate n undo) (ran acts s)) ≡ shown (ran calls-before s)

  -- demand 3 of one sequence of calls from s. The state is compared with the rules (`given`). To compare the functions with themselves (`alone`)
  -- would not be enough: a step that only moves Iptr does so each time (01, What the contracts have to say: demand 3)
  pub record HistoryHolds (s : Whole) (acts : List (Act Call)) : Type 0 where
    -- registers and all memory are those that the rules give for the standing calls, in order
    pub state : plain (ran acts s) ≡ given (plain s) (stood acts s)
    -- depth is the number of standing calls
    pub depth : (ran acts s).machine.depth ≡ length (stood acts s)
    -- the visible state, with used and the journal's words in use, is the one that the rules leave when the standing calls alone are made
    pub records : shown (ran acts s) ≡ shown (run (in_order (stood acts s)) s)
    -- and the one that the functions themselves then leave; none of these calls is refused
    pub alone : shown (ran acts s) ≡ shown (ran (in_order (stood acts s)) s)
    pub stand-alone : stood (in_order (stood acts s)) s ≡ stood acts s
    -- n undos, where at least n calls stand, restore the state before them
    pub undoing : (n : ℕ) → n ≤ length (stood acts s) → GivenBack s acts n

  -- DEMAND 3: from fresh, with any code, memory and journal, after any sequence of steps, ticks, takes, gives, events and undos, some refused
  -- (01, What the contracts have to say: demand 3)
  abbrev pub Reversible : Type 0
  Reversible = (code mem j : List ℕ) (acts : List (Act Call)) → HistoryHolds (hands_on (F.fresh code mem j)) acts
