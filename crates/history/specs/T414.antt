-- Sequences of our calls: `perform` makes the calls of `rules`. And our calls as a machine of Machine.antt (proofs/Calls.antt proves them the same).
use Rattle.std.specs.Prelude.{Bool, false, ◌||◌, List, [], ◌∷◌, ℕ, eqb, length}
use Rattle.std.proofs.Math.Option.{Option, none, some}
use Rattle.std.proofs.Math.ListN as lists
use Rattle.rules.specs.Tests.{pick, if_lt, if_eq}
use Rattle.rules.specs.Memory.{stores, touched}
use Rattle.rules.specs.Work.{Work, begin}
use Rattle.rules.specs.Links as links
use Rattle.rules.specs.Step as steps
use Rattle.rules.specs.Journal.{record_length, record_of, bounds_bad, last_pairs, last_start, last_regs, pairs_at, write_back, strays}
use Rattle.rules.specs.Calls.{Outcome, memory_size_bad, journal_size_bad, not_output, not_input}
use Rattle.rules.specs.Calls as calls
use Rattle.rules.specs.declared.Machine as declared
use Rattle.history.specs.Machine.{Effect, refused, accepted, Act, call, undo, no_way, done, Machine}
use Rattle.history.specs.Machine as any

-- ---- sequences of calls

-- the calls that add a record (01, The journal)
pub data Call : Type 0 where
  step : Call
  tick : Call
  take : ℕ → Call
  give : ℕ → ℕ → Call
  event : Call

-- the whole state: registers, depth, used and every lent word (01, What the contracts have to say)
pub record Whole : Type 0 where
  pub machine : declared.Machine
  pub memory : List ℕ
  pub journal : List ℕ

-- a call or an undo, by its definition in rules (01, The part of the T414 that we build: Calls)
abbrev pub perform : Act Call → Whole → Outcome
perform (call step) s = calls.step s.machine s.memory s.journal
perform (call tick) s = calls.tick s.machine s.memory s.journal
perform (call (take c)) s = calls.take c s.machine s.memory s.journal
perform (call (give c byte)) s = calls.give c byte s.machine s.memory s.journal
perform (call event) s = calls.event s.machine s.memory s.journal
perform undo s = calls.undo s.machine s.memory s.journal

-- the state after a call (01, What the contracts have to say: demand 3)
abbrev pub after : Outcome → Whole
after o = record { machine = o.machine; memory = o.memory; journal = o.journal }

-- the state after calls made one after the other (01, What the contracts have to say: demand 3)
unfoldable pub run : List (Act Call) → Whole → Whole
run [] s = s
run (a ∷ acts) s = run acts (after (perform a s))

-- the stack of standing calls; t tells whether the call is accepted. An accepted call is pushed, an accepted undo pops the last call
-- (01, What the contracts have to say: demand 3)
abbrev pub stack : Act Call → Bool → List Call → List Call
stack a t k = any.stack a (pick t (done 0) (no_way 0)) k

-- the standing calls: accepted and not undone. The last call first; the calls of k stood before (01, What the contracts have to say: demand 3)
unfoldable pub standing : List (Act Call) → Whole → List Call → List Call
standing [] s k = k
standing (a ∷ acts) s k = standing acts (after (perform a s)) (stack a (eqb (perform a s).answer 0) k)

-- the visible state: registers, memory, depth, used, and the journal's words in use (01, What the contracts have to say: demand 3)
pub record Shown : Type 0 where
  pub registers : List ℕ
  pub memory : List ℕ
  pub depth : ℕ
  pub used : ℕ
  pub records : List ℕ

-- the visible part of a state; the journal's words in use are its first `used` words (01, The journal)
abbrev pub shown : Whole → Shown
shown s =
    record {
      registers = s.machine.regs;
      memory = s.memory;
      depth = s.machine.depth;
      used = s.machine.used;
      records = lists.take s.machine.used s.journal;
    }

-- ---- registers and memory, and the effect of a call on them, without a journal

-- registers and memory (01, Memory and registers)
pub record Plain : Type 0 where
  pub regs : List ℕ
  pub mem : List ℕ

-- the work of a call on registers and memory (01, One step; 01, Links, clocks, slice)
abbrev pub work : Call → Plain → Work
work step x = steps.step x.mem (begin x.regs)
work tick x = links.tick (begin x.regs)
work (take c) x = links.take x.mem c (begin x.regs)
work (give c byte) x = links.give x.mem c byte (begin x.regs)
work event x = links.event (begin x.regs)

-- the byte of a take; 0 for any other call (01, Links, clocks, slice; DECISIONS 45)
abbrev pub byte_of : Call → Plain → ℕ
byte_of step x = 0
byte_of tick x = 0
byte_of (take c) x = links.taken x.mem c (begin x.regs)
byte_of (give c byte) x = 0
byte_of event x = 0

-- the words touched, which the record lists (01, The journal; DECISIONS 38)
abbrev pub places : Plain → Work → List ℕ
places x w = touched (length x.mem) w.stored

-- the effect of work: refused with its number, or the new registers and memory, and the record (01, The journal; DECISIONS 44)
unfoldable pub effect : Plain → ℕ → Work → Effect Plain
effect x byte w =
    if_eq w.answer 0
    (accepted (record { regs = w.regs; mem = stores x.mem w.stored }) (record_of x.mem x.regs (places x w)) byte)
    (refused w.answer)

-- 3 BadChannel: take outside 0 to 3, give outside 4 to 7 (01, Answers by number)
abbrev pub bad_channel : Act Call → Bool
bad_channel (call step) = false
bad_channel (call tick) = false
bad_channel (call (take c)) = not_output c
bad_channel (call (give c byte)) = not_input c
bad_channel (call event) = false
bad_channel undo = false

-- 1 Size, 3 BadChannel, 4 JournalBad by depth and used, in the table's order (01, Answers by number)
unfoldable pub guard : Act Call → Plain → ℕ → ℕ → ℕ → Option ℕ
guard a x size depth used =
    pick (memory_size_bad (length x.mem) || journal_size_bad size) (some 1)
    (pick (bad_channel a) (some 3) (pick (bounds_bad size depth used) (some 4) none))

-- the last record's registers, and its pairs written back; none where 4 JournalBad of undo applies
-- (01, The journal; 01, Answers by number)
unfoldable pub unrecord : Plain → ℕ → List ℕ → Option (Plain × ℕ)
unrecord x used j =
    if_lt used (record_length (last_pairs j used)) none
    (pick (strays (length x.mem) (pairs_at j (last_start j used) (last_pairs j used))) none
    (some (record { regs = last_regs j used; mem = write_back x.mem (pairs_at j (last_start j used) (last_pairs j used)) }, last_start j used)))

-- our calls as a machine of Machine.antt (01, What the contracts have to say: demand 3)
abbrev pub t414 : Machine
t414 =
    record {
      Core = Plain;
      Call = Call;
      guard = guard;
      next = λ c x. effect x (byte_of c x) (work c x);
      unrecord = unrecord;
    }
