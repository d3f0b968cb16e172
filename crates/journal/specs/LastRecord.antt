-- The test of the last record, before an undo.
use Rattle.std.specs.Prelude.{ℕ, Bool, ◌||◌, List, ltb}
use Rattle.rules.specs.Journal.{record_length, last_pairs, last_start, pairs_at, strays}

-- 4 JournalBad: the last record is longer than used, or an index of its pairs is outside a memory of size words (01, Answers by number)
unfoldable pub record_bad : List ℕ → ℕ → ℕ → Bool
record_bad j used size =
    ltb used (record_length (last_pairs j used)) || strays size (pairs_at j (last_start j used) (last_pairs j used))
