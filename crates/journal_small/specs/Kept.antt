-- The stores of a common step, kept: the pairs of the words in the journal, the values in memory.
use Rattle.std.specs.Prelude.{ℕ, ◌≤◌, ◌≡◌, List, length, get_or}
use Rattle.std.proofs.lemmas.List.Edits.{sets}
use Rattle.rules.specs.Memory.{Store, touched, stores}
use Rattle.rules.specs.Journal.{olds}
use Rattle.step_fast.specs.Fast.{stored}
use Rattle.step_fast.specs.declared.Stored.TheVariants.{Frame}

-- the stores of a frame from word i on: its words in the order of memory (DECISIONS 54)
abbrev pub frame_stores : ℕ → List ℕ → List Store
frame_stores i f = stored (Frame i (get_or f 0 0)) (get_or f 1 0) (get_or f 2 0) (get_or f 3 0)

-- from the memory m and the journal j to m₁ and j₁: the n words of memory that are stored to have their pairs at a place of the journal, and their
-- values in memory (01, The journal; DECISIONS 54)
pub record Kept (m j : List ℕ) (at : ℕ) (made : List Store) (n : ℕ) (m₁ j₁ : List ℕ) : Type 0 where
  pub few : n ≤ 4
  pub number : length (touched (length m) made) ≡ n
  pub pairs : j₁ ≡ sets j at (olds m (touched (length m) made))
  pub values : m₁ ≡ stores m made
