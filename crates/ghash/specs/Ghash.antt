-- The function GHASH (SP 800-38D, 6.4, Algorithm 2), and the blocks of a string of bytes that it runs over.
-- Assumes nothing.
use Rattle.std.specs.Prelude.{ℕ, zero, suc, List, [], ◌∷◌, length, drop}
use Rattle.std.specs.Int.Bits.{bit_xor}
use Rattle.octets.specs.Bytes.{number, padded}
use Rattle.octets.specs.Blocks.{block_count}

-- the first n blocks of s
unfoldable pub blocks_in : ℕ → List ℕ → List ℕ
blocks_in zero s = []
blocks_in (suc n) s = number (padded 16 s) ∷ blocks_in n (drop 16 s)

-- the blocks of s, the last one padded with zeros
unfoldable pub blocks_of : List ℕ → List ℕ
blocks_of s = blocks_in (block_count (length s)) s

-- step 3, Y(i) = (Y(i-1) + X(i)) • H at each of the blocks, from Y(0) = y: the last Y
-- dot is X ↦ X • H, the product by the hash subkey
unfoldable pub ghash : (ℕ → ℕ) → ℕ → List ℕ → ℕ
ghash dot y [] = y
ghash dot y (x ∷ xs) = ghash dot (dot (bit_xor y x)) xs
