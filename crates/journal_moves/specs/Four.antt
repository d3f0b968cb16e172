-- Four bytes as a word.
use Rattle.std.specs.Prelude.{ℕ, ◌+◌, ◌*◌, List}
use Rattle.rules.specs.Memory.{byte_in}

-- the four bytes from a place as a word, byte 0 the least significant (01, Memory and registers; 002 5.1.4)
unfoldable pub four_bytes : List ℕ → ℕ → ℕ
four_bytes m s = byte_in m s + 256 * byte_in m (s + 1) + 65536 * byte_in m (s + 2) + 16777216 * byte_in m (s + 3)
