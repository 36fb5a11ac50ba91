-- Counter mode: NIST SP 800-38D, 6.2 and 6.5, over bytes. A block is a number below 2 ^ 128.
-- Assumes nothing.
use Rattle.std.specs.Prelude.{ℕ, zero, suc, ◌+◌, ◌*◌, ◌/◌, ◌%◌, ◌^◌, List, [], ◌++◌, length, take, drop}
use Rattle.octets.specs.Bytes.{bytes_of, xor_bytes}
use Rattle.octets.specs.Blocks.{block_count}

-- 6.2: the incrementing function on the rightmost 32 bits
unfoldable pub inc32 : ℕ → ℕ
inc32 x = x / 2 ^ 32 * 2 ^ 32 + (x % 2 ^ 32 + 1) % 2 ^ 32

-- CIPH, the forward cipher function under the key, on strings of 16 bytes
module _ (ciph : List ℕ → List ℕ) where
  -- 6.5, Algorithm 3, at n blocks of s from the counter block cb: the last block may be partial
  unfoldable pub gctr_blocks : ℕ → ℕ → List ℕ → List ℕ
  gctr_blocks zero cb s = []
  gctr_blocks (suc n) cb s = xor_bytes (take 16 s) (ciph (bytes_of 16 cb)) ++ gctr_blocks n (inc32 cb) (drop 16 s)

  -- GCTR (ICB, X)
  unfoldable pub gctr : ℕ → List ℕ → List ℕ
  gctr icb s = gctr_blocks (block_count (length s)) icb s
