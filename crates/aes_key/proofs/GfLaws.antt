-- Products by 2 and 3 in GF(2^8), and the inverse's law.
-- Assumes nothing.
use mathlib.Core.Path.{◌≡◌, ap}
use mathlib.Core.Bool.{Bool}
use Prim.Native.Nat.{ℕ, suc, ◌<◌}
use lib.Dec.{T, eqb, eqb→eq, ltb, ltb→lt}
use lib.Bits.{xor_zero_r, xor_lt}
use Rattle.octets.proofs.Table.{up_to, below}
use Rattle.aes_key.specs.Gf.{◌⊕◌, ◌•◌, x_times, times_bits, squares, inverse}

pub xor8 : {a b : ℕ} → a < 256 → b < 256 → a ⊕ b < 256
xor8 {a} {b} ha hb = xor_lt 8 a b ha hb

pub two_times : (b : ℕ) → 2 • b ≡ x_times b
unfolding ◌•◌ times_bits
two_times b = xor_zero_r (x_times b)

pub three_times : (b : ℕ) → 3 • b ≡ b ⊕ x_times b
unfolding ◌•◌ times_bits
three_times b = ap (λ (x : ℕ). b ⊕ x) (xor_zero_r (x_times b))

double_small : ℕ → Bool
double_small x = ltb (x_times x) 256

double_test : T (up_to double_small 256)
unfolding double_small x_times
double_test = tt

double_lt : (x : ℕ) → x < 256 → x_times x < 256
unfolding double_small
double_lt x h = ltb→lt (x_times x) 256 (below double_small 256 double_test x h)

pub two_lt : (x : ℕ) → x < 256 → 2 • x < 256
two_lt x h = rw two_times (double_lt x h)

pub three_lt : (x : ℕ) → x < 256 → 3 • x < 256
three_lt x h = rw three_times (xor8 h (double_lt x h))

-- each byte but 0 has its inverse
inverse_right : ℕ → Bool
inverse_right x = eqb (suc x • inverse (suc x)) 1

inverse_test : T (up_to inverse_right 255)
unfolding inverse_right inverse squares ◌•◌ times_bits x_times
inverse_test = tt

pub inverse_is : (x : ℕ) → x < 255 → suc x • inverse (suc x) ≡ 1
unfolding inverse_right
inverse_is x h = eqb→eq (suc x • inverse (suc x)) 1 (below inverse_right 255 inverse_test x h)
