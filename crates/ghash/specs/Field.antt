-- The product of two blocks, X • Y (SP 800-38D, 6.3, Algorithm 1).
-- A block, a string of 128 bits, is the number below 2 ^ 128 that it writes in binary: the leftmost bit is worth 2 ^ 127,
-- LSB1 (V) is V % 2, and V >> 1 is V / 2.
-- Assumes nothing.
use Rattle.std.specs.Prelude.{ℕ, zero, suc, ◌*◌, ◌/◌, ◌%◌, ◌^◌}
use Rattle.std.specs.Int.Bits.{bit_xor}

-- R = 11100001 || 0^120
abbrev pub R : ℕ
R = 0xe1 * 2 ^ 120

-- a with b added where the bit is 1
unfoldable pub add_if : ℕ → ℕ → ℕ → ℕ
add_if zero a b = a
add_if (suc _) a b = bit_xor a b

-- step 3, V(i+1) of V(i): V >> 1, with R added where LSB1 (V) is 1
unfoldable pub shifted : ℕ → ℕ
shifted v = add_if (v % 2) (v / 2) R

-- step 3 at the last k bits of x, the leftmost first, from Z = z and V = v: the last Z
unfoldable pub products : ℕ → ℕ → ℕ → ℕ → ℕ
products zero x z v = z
products (suc k) x z v = products k x (add_if (x / 2 ^ k % 2) z v) (shifted v)

-- X • Y: from Z(0) = 0^128 and V(0) = Y, all 128 bits of X
infixl 70 ◌•◌
unfoldable pub ◌•◌ : ℕ → ℕ → ℕ
x • y = products 128 x 0 y
