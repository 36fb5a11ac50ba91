-- A block, a string of 128 bits, is the number below 2 ^ 128 that it writes in binary; the code holds it in two words.
-- Assumes nothing.
use Rattle.std.specs.Prelude.{ℕ, ◌+◌, ◌*◌, ◌/◌, ◌^◌}
use Rattle.octets.specs.declared.Block.{Block}

-- hi has the leftmost 64 bits
abbrev pub num : Block → ℕ
num b = b.hi * 2 ^ 64 + b.lo

-- how many blocks hold n bytes
unfoldable pub block_count : ℕ → ℕ
block_count n = (n + 15) / 16
