-- Signed numbers of 64 bits: a use as the machine keeps it, its sign test, and its size.
-- Assumes nothing.
use Prim.Native.Nat.{ℕ, zero, suc, ◌+◌, ◌^◌, ◌<◌, ◌≤◌}
use mathlib.Core.Path.{◌≡◌, refl, sym, ap, ap₂, ◌∙◌}
use mathlib.Core.Bool.{Bool, true, false}
use mathlib.Core.List.{List, ◌∷◌, ◌++◌}
use lib.ListN.{length, length-append}
use native.Mathlib.Omega.{arith}
use lib.Dec.{ltb}
use lib.IntN.{ℤ, pos, negsuc, nat_abs, sub_ℕ, ◌-ℤ◌}
use lib.Signed.{mag, lt_z}
use borrow.Author.Tests.{le-ltb}
use mir.Syntax.{w32, w64}
use mir.Val.{SFits, to_z, of_z}
use mir.ValLaws.{to_z-of_z}
use Rattle.table.proofs.OrderLaws.{clash}
use Rattle.heat.specs.Uses.{counted}
use Rattle.heat.specs.Numerals.{minus_byte, numeral, signed_numeral}

-- ---- a number that is kept as its bits

pub read : (z : ℤ) → SFits w64 z → to_z w64 (of_z w64 z) ≡ z
read z f = to_z-of_z w64 z f

pub wide : (z : ℤ) → mag z < 2 ^ 32 → SFits w64 z
wide z h = record { sfits = omega arith }

-- ---- by the sign test

pub below_signed : (z : ℤ) → lt_z z (pos 0) ≡ true → minus_byte ∷ numeral (nat_abs z) ≡ signed_numeral z
unfolding signed_numeral
below_signed (pos n) e = clash (sym e ∙ le-ltb n 0 (omega arith))
below_signed (negsuc n) e = refl

pub plain_signed : (z : ℤ) → lt_z z (pos 0) ≡ false → numeral (nat_abs z) ≡ signed_numeral z
unfolding signed_numeral
plain_signed (pos n) e = refl
plain_signed (negsuc n) e = clash e

pub below_counted : (z : ℤ) → lt_z z (pos 0) ≡ true → 0 ≡ counted z
unfolding counted
below_counted (pos n) e = clash (sym e ∙ le-ltb n 0 (omega arith))
below_counted (negsuc n) e = refl

pub plain_counted : (z : ℤ) → lt_z z (pos 0) ≡ false → nat_abs z ≡ counted z
unfolding counted
plain_counted (pos n) e = refl
plain_counted (negsuc n) e = clash e

pub counted_fits : (z : ℤ) → mag z < 2 ^ 32 → counted z < 2 ^ 32
unfolding counted
counted_fits (pos n) h = h
counted_fits (negsuc n) h = omega arith

pub size_short : (z : ℤ) → length (numeral (nat_abs z)) ≤ length (signed_numeral z)
unfolding signed_numeral
size_short (pos n) = omega arith
size_short (negsuc n) = omega arith

-- by the minus
pub size_shorter : (z : ℤ) → lt_z z (pos 0) ≡ true → (s : List ℕ) → length (numeral (nat_abs z) ++ s) < length (signed_numeral z) + length s
size_shorter z e s = let n = ap length (below_signed z e) in let a = length-append (numeral (nat_abs z)) s in omega arith

-- ---- the difference of two readings

-- of two naturals it is no larger than the larger
sub_mag : (a b m : ℕ) → a ≤ m → b ≤ m → mag (sub_ℕ a b) ≤ m
sub_mag a b m h k = go (ltb a b) refl
  where
    go : (t : Bool) → ltb a b ≡ t → mag (sub_ℕ a b) ≤ m
    go true e = rw e (omega arith)
    go false e = rw e (omega arith)

pub difference_small : (a b : ℤ) → mag a < 2 ^ 31 → mag b < 2 ^ 31 → mag (b -ℤ a) < 2 ^ 32
difference_small (pos zero) (pos n) h k = omega arith
difference_small (pos (suc m)) (pos n) h k = let s = sub_mag n (suc m) (2 ^ 31) (omega arith) (omega arith) in omega arith
difference_small (negsuc m) (pos n) h k = omega arith
difference_small (pos zero) (negsuc n) h k = let s = sub_mag 0 (suc n) (2 ^ 31) (omega arith) (omega arith) in omega arith
difference_small (pos (suc m)) (negsuc n) h k = omega arith
difference_small (negsuc m) (negsuc n) h k = let s = sub_mag (suc m) (suc n) (2 ^ 31) (omega arith) (omega arith) in omega arith

-- what was made of two readings, kept as their bits, and kept as its own
pub kept : (a b : ℤ) {z : ℤ} → mag a < 2 ^ 31 → mag b < 2 ^ 31 → z ≡ to_z w32 (of_z w32 b) -ℤ to_z w32 (of_z w32 a) → to_z w64 (of_z w64 z) ≡ b -ℤ a
kept a b ha hb e =
    let fa : SFits w32 a = record { sfits = ha } in
    let fb : SFits w32 b = record { sfits = hb } in
    ap (λ (y : ℤ). to_z w64 (of_z w64 y)) (e ∙ ap₂ ◌-ℤ◌ (to_z-of_z w32 b fb) (to_z-of_z w32 a fa)) ∙ read (b -ℤ a) (wide (b -ℤ a) (difference_small a b ha hb))
