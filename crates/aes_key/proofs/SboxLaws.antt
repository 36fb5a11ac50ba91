-- The S-box's rule over a whole table: a computed test, carried to each entry. And its bound.
-- Assumes nothing.
use mathlib.Core.Path.{◌≡◌, sym, subst}
use mathlib.Core.List.{List}
use mathlib.Core.Bool.{Bool}
use Prim.Native.Nat.{ℕ, ◌<◌}
use native.Mathlib.Nat.{mod-lt}
use native.Mathlib.Omega.{arith}
use lib.Dec.{T, eqb, eqb→eq, lit<}
use lib.ListN.{length, get_or}
use Rattle.octets.proofs.Table.{every, at}
use Rattle.aes_key.specs.Gf.{inverse}
use Rattle.aes_key.specs.Sbox.{sbox, affine, affine_bits, affine_bit, IsSbox}

abbrev pub right : ℕ → ℕ → Bool
right k x = eqb x (sbox k)

pub passes : (xs : List ℕ) → T (every right 0 xs) → length xs ≡ 256 → IsSbox xs
passes xs t len = record { entry = λ k h. eqb→eq (get_or xs k 0) (sbox k) (at right xs t k (subst (λ (n : ℕ). k < n) (sym len) h)) }

bit_lt : (b i : ℕ) → affine_bit b i < 2
unfolding affine_bit
bit_lt b i = mod-lt _ (lit< tt)

affine_lt : (b : ℕ) → affine b < 256
unfolding affine affine_bits
affine_lt b = omega (arith, bit_lt b 0, bit_lt b 1, bit_lt b 2, bit_lt b 3, bit_lt b 4, bit_lt b 5, bit_lt b 6, bit_lt b 7)

pub sbox_lt : (k : ℕ) → sbox k < 256
unfolding sbox
sbox_lt k = affine_lt (inverse k)
