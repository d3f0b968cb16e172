-- What a commit answers and leaves, without the machine: the reply of a call is made of it and of the registers of the plan.
use Rattle.std.specs.Prelude.{List, ℕ, ◌+◌, length, Result, Ok, Err}
use Rattle.std.proofs.lemmas.List.Edits.{sets}
use Rattle.rules.specs.Tests.{if_eq, if_lt}
use Rattle.rules.specs.Memory.{Store, stores, touched}
use Rattle.rules.specs.Journal.{record_length}
use Rattle.plan.specs.declared.Refusal.{Refusal}

-- the number of pairs, or the refusal with number, part and address; memory and journal (01, The journal; 02, No. 1)
pub record Effect : Type 0 where
  pub result : Result ℕ Refusal
  pub memory : List ℕ
  pub journal : List ℕ

-- the result of the code with memory and journal at its end (01, The journal)
abbrev pub effect_of : Result ℕ Refusal → List ℕ → List ℕ → Effect
effect_of t mem j = record { result = t; memory = mem; journal = j }

-- a refusal changes nothing (01, Answers by number)
abbrev pub refused_with : ℕ → ℕ → ℕ → List ℕ → List ℕ → Effect
refused_with number part address mem j =
    record { result = Err (record { number = number; kind = part; address = address }); memory = mem; journal = j }

-- the commit of a plan by its refusal (or 0) and its stores: refused with number, part and address, or with 12 where the record does not fit; else
-- the stores are made, and what `words` gives of the words stored to is written at used: their pairs (olds), or the whole record (record_of)
-- (01, The journal; DECISIONS 25, 44, 58)
unfoldable pub committed : (List ℕ → List ℕ) → ℕ → List ℕ → List ℕ → ℕ → ℕ → ℕ → List Store → Effect
committed words used mem j number part address ss =
    if_eq number 0
    (if_lt (length j) (used + record_length (length (touched (length mem) ss))) (refused_with 12 0 0 mem j)
    (record {
      result = Ok (length (touched (length mem) ss));
      memory = stores mem ss;
      journal = sets j used (words (touched (length mem) ss));
    }))
    (refused_with number part address mem j)
