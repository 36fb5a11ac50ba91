-- How the code holds a state and takes a round: four columns as words, and a table of what one byte gives to its column.
-- Assumes nothing.
use Rattle.std.specs.Prelude.{ℕ, ◌+◌, ◌*◌, ◌^◌, ◌<◌, ◌≡◌, List, ◌++◌}
use Rattle.octets.specs.Lists.{at}
use Rattle.aes_key.specs.Gf.{◌•◌}
use Rattle.aes_key.specs.Sbox.{sbox}
use Rattle.aes_key.specs.Words.{word}
use Rattle.aes.specs.Cipher.{column}
use Rattle.aes.specs.declared.Columns.{Columns}

-- the state of four columns
abbrev pub state : Columns → List ℕ
state s = column s.a ++ column s.b ++ column s.c ++ column s.d

-- the column that a byte in row 0 gives after SubBytes and MixColumns
unfoldable pub spread : ℕ → ℕ
spread k = word (2 • sbox k) (sbox k) (sbox k) (3 • sbox k)

-- t has that column at each byte, written twice, so that a turn of it by bytes is read without turning
pub record IsRound (t : List ℕ) : Type 0 where
  pub entry : (k : ℕ) → k < 256 → at t k ≡ spread k * 2 ^ 32 + spread k
