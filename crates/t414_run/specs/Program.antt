-- The result of t414_run, from any code (01, Numbers at the edges).
use Rattle.std.specs.Prelude.{ℕ, zero, suc, ◌+◌, List}
use Rattle.rules.specs.Tests.{if_eq}
use Rattle.rules.specs.Calls.{Outcome, fresh, step}
use Rattle.rules.specs.declared.Machine.{Machine}
use Rattle.program_io.specs.Answers.{numbers_of}
use Rattle.t414_run.specs.declared.Tally.{Tally}

-- the fields of the program's line, the part and address of its last field (02, No. 1), and the lent words after the run
-- (01, Numbers at the edges)
pub record Result : Type 0 where
  pub machine : Machine
  pub steps : ℕ
  pub refusal : ℕ
  pub part : ℕ
  pub address : ℕ
  pub memory : List ℕ
  pub journal : List ℕ

-- the result that the code returns: its tally, and the lent words after the run (01, Numbers at the edges)
abbrev pub result_of : Tally → List ℕ → List ℕ → Result
result_of t mem j =
    record {
      machine = t.machine;
      steps = t.steps;
      refusal = (numbers_of t.refusal).0;
      part = (numbers_of t.refusal).1;
      address = (numbers_of t.refusal).2;
      memory = mem;
      journal = j;
    }

-- the result of a run that a refusal ends, after some accepted steps (01, Numbers at the edges)
abbrev pub end_at : ℕ → Outcome → Result
end_at steps o =
    record {
      machine = o.machine;
      steps = steps;
      refusal = o.answer;
      part = o.part;
      address = o.address;
      memory = o.memory;
      journal = o.journal;
    }

-- the result after up to n steps more, until a refusal (01, Numbers at the edges)
unfoldable pub run : ℕ → ℕ → Machine → List ℕ → List ℕ → Result
run zero steps m mem j =
    record { machine = m; steps = steps; refusal = 0; part = 0; address = 0; memory = mem; journal = j }
run (suc n) steps m mem j =
    if_eq (step m mem j).answer 0
    (run n (steps + 1) (step m mem j).machine (step m mem j).memory (step m mem j).journal)
    (end_at steps (step m mem j))

-- the result of the program: fresh, and up to 100 steps where fresh is accepted (01, Numbers at the edges)
unfoldable pub program : List ℕ → List ℕ → List ℕ → Result
program code mem j =
    if_eq (fresh code mem j).answer 0
    (run 100 0 (fresh code mem j).machine (fresh code mem j).memory (fresh code mem j).journal)
    (end_at 0 (fresh code mem j))
