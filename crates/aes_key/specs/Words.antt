-- Words: FIPS 197, sections 3.5 and 4.3. The word of the bytes a, b, c, d is the number below 2^32 that they write, a first.
-- Assumes nothing.
use Rattle.std.specs.Prelude.{ℕ, ◌+◌, ◌*◌, ◌/◌, ◌%◌}

abbrev pub word : ℕ → ℕ → ℕ → ℕ → ℕ
word a b c d = ((a * 256 + b) * 256 + c) * 256 + d

-- the bytes of a word
abbrev pub byte0 : ℕ → ℕ
byte0 w = w / 16777216 % 256

abbrev pub byte1 : ℕ → ℕ
byte1 w = w / 65536 % 256

abbrev pub byte2 : ℕ → ℕ
byte2 w = w / 256 % 256

abbrev pub byte3 : ℕ → ℕ
byte3 w = w % 256
