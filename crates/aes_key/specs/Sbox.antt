-- The S-box by its rule: FIPS 197, section 5.1.1. The affine map of the inverse in GF(2^8).
-- Assumes nothing.
use Rattle.std.specs.Prelude.{ℕ, zero, suc, ◌+◌, ◌*◌, ◌/◌, ◌%◌, ◌^◌, ◌<◌, ◌≡◌, List}
use Rattle.octets.specs.Lists.{at}
use Rattle.aes_key.specs.Gf.{inverse}

-- bit i of a byte
unfoldable pub bit : ℕ → ℕ → ℕ
bit b i = b / 2 ^ i % 2

-- bit i of the affine map of b: the sum of five bits of b and bit i of 0x63
unfoldable pub affine_bit : ℕ → ℕ → ℕ
affine_bit b i = (bit b i + bit b ((i + 4) % 8) + bit b ((i + 5) % 8) + bit b ((i + 6) % 8) + bit b ((i + 7) % 8) + bit 0x63 i) % 2

-- the number of the n low bits of the map
unfoldable pub affine_bits : ℕ → ℕ → ℕ
affine_bits b zero = 0
affine_bits b (suc i) = affine_bits b i + affine_bit b i * 2 ^ i

unfoldable pub affine : ℕ → ℕ
affine b = affine_bits b 8

unfoldable pub sbox : ℕ → ℕ
sbox b = affine (inverse b)

-- t is the S-box as a table
pub record IsSbox (t : List ℕ) : Type 0 where
  pub entry : (k : ℕ) → k < 256 → at t k ≡ sbox k
