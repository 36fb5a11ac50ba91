-- Bytes as elements of GF(2^8): FIPS 197, section 4. A byte is a number below 256, and bit i its binary digit of weight 2^i.
-- Assumes nothing.
use Rattle.std.specs.Prelude.{ℕ, zero, suc, ◌*◌, ◌/◌, ◌%◌, cond, ltb, eqb}
use Rattle.std.specs.Int.Bits.{bit_xor}

infixl 60 ◌⊕◌
infixl 70 ◌•◌
-- 4.1: the sum of two bytes, and of two words
abbrev pub ◌⊕◌ : ℕ → ℕ → ℕ
a ⊕ b = bit_xor a b

-- 4.2: x_times, the product by x, reduced by x^8 + x^4 + x^3 + x + 1, which is 0x11b
unfoldable pub x_times : ℕ → ℕ
x_times b = cond (ltb b 128) (b * 2) ((b * 2) ⊕ 0x11b)

-- the product of b by the polynomial of the n low bits of a
unfoldable pub times_bits : ℕ → ℕ → ℕ → ℕ
times_bits zero a b = 0
times_bits (suc n) a b = cond (eqb (a % 2) 1) b 0 ⊕ times_bits n (a / 2) (x_times b)

-- 4.2: the product of two bytes
unfoldable pub ◌•◌ : ℕ → ℕ → ℕ
a • b = times_bits 8 a b

-- the product of b^2, b^4, b^8, .., n factors
unfoldable pub squares : ℕ → ℕ → ℕ
squares zero b = 1
squares (suc n) b = let s = b • b in s • squares n s

-- 4.4: the inverse of b is b^254, which is b^2 b^4 .. b^128, and 0 for the inverse of 0; `inverse_is` has the law b • inverse b ≡ 1
unfoldable pub inverse : ℕ → ℕ
inverse b = squares 7 b
