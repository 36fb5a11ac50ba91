-- The product of two blocks, some bits at a time.
-- Assumes nothing.
use mathlib.Core.Path.{◌≡◌, refl, sym, ap, ◌∙◌}
use Prim.Native.Nat.{ℕ, zero, suc, ◌+◌, ◌*◌, ◌/◌, ◌%◌, ◌^◌, ◌<◌}
use native.Mathlib.Nat.{zero-add, suc-add, add-suc, add_comm, zero-div, mul-mod_left, div-eq_of_lt}
use native.Mathlib.Numerals.{add-one}
use lib.Pow.{shr-shr, shl-shr, shl_lt, field, mod-mod-pow}
use lib.Bits.{bit_xor, xor_zero_r}
use Rattle.octets.proofs.XorLaws.{xor_assoc}
use Rattle.ghash.specs.Field.{add_if, shifted, products, ◌•◌}

-- V after k steps
unfoldable pub shifted_by : ℕ → ℕ → ℕ
shifted_by zero v = v
shifted_by (suc k) v = shifted_by k (shifted v)

pub shifted_by_add : (j k v : ℕ) → shifted_by (j + k) v ≡ shifted_by k (shifted_by j v)
unfolding shifted_by
shifted_by_add zero k v = rw (zero-add k)
shifted_by_add (suc j) k v = rw (suc-add j k) (shifted_by_add j k (shifted v))

-- the first j bits, then the other k
pub product_split : (j k x z v : ℕ) → products (j + k) x z v ≡ products k x (products j (x / 2 ^ k) z v) (shifted_by j v)
unfolding products shifted_by
product_split zero k x z v = rw (zero-add k)
product_split (suc j) k x z v =
    rw (suc-add j k, shr-shr x k j, add_comm k j) (product_split j k x (add_if (x / 2 ^ (j + k) % 2) z v) (shifted v))

bit_mod : (x j k : ℕ) → x % 2 ^ (suc j + k) / 2 ^ k % 2 ≡ x / 2 ^ k % 2
bit_mod x j k = rw (field x (suc j) k, ← (add-one j)) (mod-mod-pow (x / 2 ^ k) j 1)

-- the last k bits alone count
more_mod : (j k x z v : ℕ) → products k (x % 2 ^ (j + k)) z v ≡ products k x z v
unfolding products
more_mod j zero x z v = refl
more_mod j (suc k) x z v = rw (add-suc j k, ← (suc-add j k), bit_mod x j k) (more_mod (suc j) k x (add_if (x / 2 ^ k % 2) z v) (shifted v))

pub product_mod : (k x z v : ℕ) → products k (x % 2 ^ k) z v ≡ products k x z v
product_mod k x z v = rw (zero-add k) at (more_mod 0 k x z v)

-- the two words of x, the left one first
pub product_words : (x y : ℕ) → products 64 (x % 2 ^ 64) (products 64 (x / 2 ^ 64) 0 y) (shifted_by 64 y) ≡ x • y
unfolding ◌•◌
product_words x y = product_mod 64 x (products 64 (x / 2 ^ 64) 0 y) (shifted_by 64 y) ∙ sym (product_split 64 64 x 0 y)

-- Z is added to
add_if_sum : (t a b v : ℕ) → add_if t (bit_xor a b) v ≡ bit_xor a (add_if t b v)
unfolding add_if
add_if_sum zero a b v = refl
add_if_sum (suc t) a b v = xor_assoc a b v

products_sum : (k x a b v : ℕ) → products k x (bit_xor a b) v ≡ bit_xor a (products k x b v)
unfolding products
products_sum zero x a b v = refl
products_sum (suc k) x a b v = rw (add_if_sum (x / 2 ^ k % 2) a b v) (products_sum k x a (add_if (x / 2 ^ k % 2) b v) (shifted v))

pub products_from : (k x z v : ℕ) → products k x z v ≡ bit_xor z (products k x 0 v)
products_from k x z v = ap (λ (n : ℕ). products k x n v) (sym (xor_zero_r z)) ∙ products_sum k x z 0 v

-- bits that are 0 add nothing
product_none : (k z v : ℕ) → products k 0 z v ≡ z
unfolding products add_if
product_none zero z v = refl
product_none (suc k) z v = rw (zero-div (2 ^ k)) (product_none k z (shifted v))

-- w bits n, with i zeros before them and k behind them
pub product_middle : (i w k n v : ℕ) → n < 2 ^ w → products (i + (w + k)) (n * 2 ^ k) 0 v ≡ products w n 0 (shifted_by i v)
product_middle i w k n v h =
    let before : n * 2 ^ k / 2 ^ (w + k) ≡ 0 = div-eq_of_lt (shl_lt w k h) in
    product_split i (w + k) (n * 2 ^ k) 0 v
    ∙ ap (λ (z : ℕ). products (w + k) (n * 2 ^ k) z (shifted_by i v)) (ap (λ (q : ℕ). products i q 0 v) before ∙ product_none i 0 v)
    ∙ product_split w k (n * 2 ^ k) 0 (shifted_by i v)
    ∙ ap (λ (q : ℕ). products k (n * 2 ^ k) (products w q 0 (shifted_by i v)) (shifted_by w (shifted_by i v))) (shl-shr n k)
    ∙ sym (product_mod k (n * 2 ^ k) (products w n 0 (shifted_by i v)) (shifted_by w (shifted_by i v)))
    ∙ ap (λ (q : ℕ). products k q (products w n 0 (shifted_by i v)) (shifted_by w (shifted_by i v))) (mul-mod_left n (2 ^ k))
    ∙ product_none k (products w n 0 (shifted_by i v)) (shifted_by w (shifted_by i v))
