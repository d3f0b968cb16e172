-- The lengths of t414_batch, for contracts: of cases, responses and buffers.
use Rattle.std.specs.Prelude.{ℕ, ◌+◌, ◌*◌}
use Rattle.rules.specs.Registers.{registers}

-- bytes of depth, used and the registers (DECISIONS 53; docs/TESTING.md, The batch protocol)
abbrev pub machine_size : ℕ
machine_size = 16 + 4 * registers

-- bytes of a case before its memory (DECISIONS 53; docs/TESTING.md, The batch protocol)
abbrev pub case_head : ℕ
case_head = 24 + machine_size

-- bytes of a response before its memory (DECISIONS 53; docs/TESTING.md, The batch protocol)
abbrev pub response_head : ℕ
response_head = 12 + machine_size

-- the most words of memory in a case: more than 16,384, so that 1 Size can be asked (01, Answers by number; docs/TESTING.md)
abbrev pub most_words : ℕ
most_words = 16400

-- the most words of journal in a case: more than 65,536, so that 1 Size can be asked (01, Answers by number; docs/TESTING.md)
abbrev pub most_journal : ℕ
most_journal = 65600

-- bytes of the longest response (DECISIONS 53; docs/TESTING.md, The batch protocol)
abbrev pub most_response : ℕ
most_response = response_head + 4 * most_words + 4 * most_journal

-- bytes of each of the two buffers, of cases read and of responses to be written (DECISIONS 53; docs/TESTING.md, The batch protocol)
abbrev pub block : ℕ
block = 524288
