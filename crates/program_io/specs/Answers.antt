-- The numbers of an answer as the code gives them.
use Rattle.std.specs.Prelude.{ℕ, Option, None, Some, eqb}
use Rattle.rules.specs.Tests.{pick}
use Rattle.rules.specs.Work.{outside, kind_fetch, kind_load, kind_store}
use Rattle.program_io.specs.declared.answers.Numbers.{Numbers}
use Rattle.program_io.specs.declared.answers.Part.{Part}
use Rattle.program_io.specs.declared.answers.Part.TheVariants.{Fetch, Load, Store}
use Rattle.program_io.specs.declared.answers.Refusal.{Refusal}
use Rattle.program_io.specs.declared.answers.Refusal.TheVariants.{Numbered, Outside}

-- the part of 10 by its number: 1 is 10a, 2 is 10b, 3 is 10c (02, No. 1; DECISIONS 58)
abbrev pub part_of : ℕ → Part
part_of n = pick (eqb n kind_fetch) Fetch (pick (eqb n kind_load) Load Store)

-- and back (02, No. 1; DECISIONS 58)
abbrev pub number_of_part : Part → ℕ
number_of_part Fetch = kind_fetch
number_of_part Load = kind_load
number_of_part Store = kind_store

-- number, part and address as the code gives them: none where the number is 0, an access outside memory where there is a part
-- (01, Answers by number; 02, No. 1; DECISIONS 58)
abbrev pub in_numbers : ℕ × ℕ × ℕ → Option Refusal
in_numbers t =
    pick (eqb t.0 0) None (pick (eqb t.1 0) (Some (Numbered t.0)) (Some (Outside (record { part = part_of t.1; address = t.2 }))))

-- number, part and address of a refusal (01, Answers by number; 02, No. 1; DECISIONS 58)
abbrev pub numbers_of_refusal : Refusal → ℕ × ℕ × ℕ
numbers_of_refusal (Numbered n) = (n, 0, 0)
numbers_of_refusal (Outside a) = (outside, number_of_part a.part, a.address)

-- and back (01, Answers by number; 02, No. 1; DECISIONS 58)
abbrev pub numbers_of : Option Refusal → ℕ × ℕ × ℕ
numbers_of None = (0, 0, 0)
numbers_of (Some r) = numbers_of_refusal r

-- number, part and address as the struct that the line of t414_run is made of (01, Answers by number; 02, No. 1; DECISIONS 58)
abbrev pub as_struct : ℕ × ℕ × ℕ → Numbers
as_struct t = record { number = t.0; part = t.1; address = t.2 }
