-- The record rule: depth and used after an accepted call (01, The journal). Demand 3 rests on it.
use Rattle.std.specs.Prelude.{◌≡◌, List, ℕ, ◌+◌, ◌-◌, length}
use Rattle.rules.specs.Journal.{record_length, last_start}
use Rattle.rules.specs.declared.Machine.{Machine}
use Rattle.rules.specs.declared.Reply.{Reply}
use Rattle.history.specs.T414.{Call, Plain, places, work}
use Rattle.history.specs.CallContracts.{Contract, number}

-- an accepted call leaves the depth and used that `counts` gives for memory and journal before the call (01, The journal)
abbrev pub Counted : Contract → (List ℕ → List ℕ → ℕ × ℕ) → Type 0
Counted C counts =
    (mem j : List ℕ) (r : Reply) (mem' j' : List ℕ) → C mem j r mem' j' → number r ≡ 0
    → (r.machine.depth ≡ (counts mem j).0) × (r.machine.used ≡ (counts mem j).1)

-- one record more: its length goes by the number of words that the call stores to (01, The journal; DECISIONS 38)
abbrev pub one_more : Call → Machine → List ℕ → List ℕ → ℕ × ℕ
one_more c m mem j =
    let x : Plain = record { regs = m.regs; mem = mem } in
    (m.depth + 1, m.used + record_length (length (places x (work c x))))

-- one record less: used is the start of the last record (01, The journal)
abbrev pub one_less : Machine → List ℕ → List ℕ → ℕ × ℕ
one_less m mem j = (m.depth - 1, last_start j m.used)

-- no record: after fresh and after clear (01, Memory and registers; 01, The part of the T414 that we build)
abbrev pub no_record : List ℕ → List ℕ → ℕ × ℕ
no_record mem j = (0, 0)
