-- Eight digits: the code's tests and sums are the definition's, and every number from -9,999,999 to 99,999,999 is the reading of its digits.
-- Assumes nothing.
use Prim.Native.Nat.{ℕ, zero, suc, ◌+◌, ◌-◌, ◌*◌, ◌/◌, ◌%◌, ◌^◌, ◌<◌, ◌≤◌}
use mathlib.Core.Path.{◌≡◌, refl, sym, ap, ap₂, subst, ◌∙◌}
use mathlib.Core.Bool.{Bool, true, false, cond, ◌&&◌}
use mathlib.Core.List.{List, [], ◌∷◌}
use native.Mathlib.Omega.{arith}
use lib.Dec.{leb, eqb}
use lib.IntN.{ℤ, pos, negsuc, ◌-ℤ◌}
use lib.ListN.{take}
use lib.Signed.{mag}
use mir.Syntax.{w32}
use mir.Val.{SFits, to_z, of_z}
use mir.ValLaws.{to_z-of_z, to_z_pos}
use borrow.Author.Tests.{le-leb, lt-leb, eq-eqb, ne_eqb}
use Rattle.std.specs.Prelude.{Some, None}
use Rattle.octets.specs.Lists.{at}
use Rattle.octets.specs.Bytes.{padded}
use Rattle.octets.proofs.BoolLaws.{and_assoc, and_true}
use Rattle.octets.proofs.LittleLaws.{from_padded}
use Rattle.transaction.specs.Signed.{minus}
use Rattle.bus.specs.Digits.{pair_of, digits_in, decimal, all_digits, reading_by, reading_of}

-- ---- four bytes, and their eight digits

pub four : (s : List ℕ) → padded 4 s ≡ at s 0 ∷ at s 1 ∷ at s 2 ∷ at s 3 ∷ []
four s = sym (from_padded 4 0 s)

abbrev pub eight : ℕ → ℕ → ℕ → ℕ → List ℕ
eight a b c d = a % 16 ∷ a / 16 ∷ b % 16 ∷ b / 16 ∷ c % 16 ∷ c / 16 ∷ d % 16 ∷ d / 16 ∷ []

abbrev pub seven : ℕ → ℕ → ℕ → ℕ → ℕ
seven a b c d = a % 16 + a / 16 * 10 + (b % 16 + b / 16 * 10) * 100 + (c % 16 + c / 16 * 10) * 10000 + d % 16 * 1000000

abbrev pair : ℕ → Bool
pair b = leb (b % 16) 9 && leb (b / 16) 9

-- a byte of two digits has both, and its number
pub pair_has : (b : ℕ) {n : ℕ} → pair_of b ≡ Some n → (pair b ≡ true) × (n ≡ b % 16 + b / 16 * 10)
unfolding pair_of
pair_has b {n = n} e = by (pair b) refl e
  where
    by : (t : Bool) → pair b ≡ t → cond t (Some (b % 16 + b / 16 * 10)) None ≡ Some n → (pair b ≡ true) × (n ≡ b % 16 + b / 16 * 10)
    by true q e = (q, cc)
    by false q e = cc

pub pair_none : (b : ℕ) → pair_of b ≡ None → pair b ≡ false
unfolding pair_of
pair_none b e = by (pair b) refl e
  where
    by : (t : Bool) → pair b ≡ t → cond t (Some (b % 16 + b / 16 * 10)) None ≡ None → pair b ≡ false
    by true q e = cc
    by false q e = q

-- ---- tests one after the other

all_seven : (p1 p2 p3 p4 p5 p6 p7 : Bool) → p1 && (p2 && (p3 && (p4 && (p5 && (p6 && (p7 && true)))))) ≡ (p1 && p2) && (p3 && p4) && (p5 && p6) && p7
all_seven p1 p2 p3 p4 p5 p6 p7 = simp (and_assoc, and_true) refl

-- the eighth behind the others
and_last : (p1 p2 p3 p4 p5 p6 p7 q : Bool)
    → p1 && (p2 && (p3 && (p4 && (p5 && (p6 && (p7 && (q && true))))))) ≡ (p1 && (p2 && (p3 && (p4 && (p5 && (p6 && (p7 && true))))))) && q
and_last p1 p2 p3 p4 p5 p6 p7 q = simp (and_assoc, and_true) refl

-- ---- a minus

pub minus_is : (n : ℕ) → pos 0 -ℤ pos n ≡ minus n
unfolding minus
minus_is zero = refl
minus_is (suc n) = rw (le-leb 1 (suc n) (omega arith)) (ap negsuc (let e : suc n - 1 ≡ n = omega arith in e))

pub minus_small : (n : ℕ) → n < 2 ^ 31 → mag (minus n) < 2 ^ 31
unfolding minus
minus_small zero h = omega arith
minus_small (suc n) h = omega arith

-- the negative of a small number
pub minus_fits : (n : ℕ) → n < 2 ^ 31 → SFits w32 (pos 0 -ℤ to_z w32 n)
minus_fits n h = subst (SFits w32) (sym (ap (λ (z : ℤ). pos 0 -ℤ z) (to_z_pos w32 n h) ∙ minus_is n)) (record { sfits = minus_small n h })

-- ---- the code's steps

module _ (s : List ℕ) {a b c d : ℕ} (ea : a ≡ at s 0) (eb : b ≡ at s 1) (ec : c ≡ at s 2) (ed : d ≡ at s 3) where
  reading_is : reading_of s ≡ reading_by (eight a b c d)
  unfolding reading_of digits_in
  reading_is = ap (λ (l : List ℕ). reading_by (digits_in l)) (four s) ∙ ap reading_by (sym (ap₂ (λ (f g : List ℕ → List ℕ). f (g [])) x y))
    where
      x : ◌≡◌ {A = List ℕ → List ℕ} (λ (l : List ℕ). a % 16 ∷ a / 16 ∷ b % 16 ∷ b / 16 ∷ l) (λ (l : List ℕ). at s 0 % 16 ∷ at s 0 / 16 ∷ at s 1 % 16 ∷ at s 1 / 16 ∷ l)
      x = ap₂ (λ (m n : ℕ). λ (l : List ℕ). m % 16 ∷ m / 16 ∷ n % 16 ∷ n / 16 ∷ l) ea eb

      y : ◌≡◌ {A = List ℕ → List ℕ} (λ (l : List ℕ). c % 16 ∷ c / 16 ∷ d % 16 ∷ d / 16 ∷ l) (λ (l : List ℕ). at s 2 % 16 ∷ at s 2 / 16 ∷ at s 3 % 16 ∷ at s 3 / 16 ∷ l)
      y = ap₂ (λ (m n : ℕ). λ (l : List ℕ). m % 16 ∷ m / 16 ∷ n % 16 ∷ n / 16 ∷ l) ec ed

  -- the first seven
  low_is : all_digits (take 7 (eight a b c d)) ≡ pair a && pair b && pair c && leb (d % 16) 9
  unfolding all_digits
  low_is = all_seven (leb (a % 16) 9) (leb (a / 16) 9) (leb (b % 16) 9) (leb (b / 16) 9) (leb (c % 16) 9) (leb (c / 16) 9) (leb (d % 16) 9)

  all_is : all_digits (eight a b c d) ≡ pair a && pair b && pair c && leb (d % 16) 9 && leb (d / 16) 9
  unfolding all_digits
  all_is =
      and_last (leb (a % 16) 9) (leb (a / 16) 9) (leb (b % 16) 9) (leb (b / 16) 9) (leb (c % 16) 9) (leb (c / 16) 9) (leb (d % 16) 9) (leb (d / 16) 9)
      ∙ ap (λ (t : Bool). t && leb (d / 16) 9) low_is

  -- one of them is above 9
  pub reading_low : pair a && pair b && pair c && leb (d % 16) 9 ≡ false → None ≡ reading_of s
  unfolding reading_by
  reading_low e = sym (reading_is ∙ rw (all_is, low_is, e))

  pub reading_first : pair_of a ≡ None → None ≡ reading_of s
  reading_first e = reading_low (rw (pair_none a e))

  pub reading_second : {x : ℕ} → pair_of a ≡ Some x → pair_of b ≡ None → None ≡ reading_of s
  reading_second p e = reading_low (rw ((pair_has a p).0, pair_none b e))

  pub reading_third : {x y : ℕ} → pair_of a ≡ Some x → pair_of b ≡ Some y → pair_of c ≡ None → None ≡ reading_of s
  reading_third p q e = reading_low (rw ((pair_has a p).0, (pair_has b q).0, pair_none c e))

  module _ {x y z : ℕ} (p : pair_of a ≡ Some x) (q : pair_of b ≡ Some y) (r : pair_of c ≡ Some z) where
    pub reading_seventh : 9 < d % 16 → None ≡ reading_of s
    reading_seventh h = reading_low (rw ((pair_has a p).0, (pair_has b q).0, (pair_has c r).0, lt-leb (d % 16) 9 h))

    module _ (low : d % 16 ≤ 9) where
      seven_is : x + y * 100 + z * 10000 + d % 16 * 1000000 ≡ seven a b c d
      seven_is = let u = (pair_has a p).1 in let v = (pair_has b q).1 in let w = (pair_has c r).1 in omega arith

      low_holds : pair a && pair b && pair c && leb (d % 16) 9 ≡ true
      low_holds = rw ((pair_has a p).0, (pair_has b q).0, (pair_has c r).0, le-leb (d % 16) 9 low)

      pub reading_plain : x + y * 100 + z * 10000 + d % 16 * 1000000 + d / 16 * 10000000 < 2 ^ 31 → d / 16 ≤ 9
          → Some (to_z w32 (x + y * 100 + z * 10000 + d % 16 * 1000000 + d / 16 * 10000000)) ≡ reading_of s
      unfolding reading_by decimal
      reading_plain h top =
          let m = seven_is in
          let n : x + y * 100 + z * 10000 + d % 16 * 1000000 + d / 16 * 10000000 ≡ decimal (eight a b c d) = omega arith in
          ap Some (to_z_pos w32 (x + y * 100 + z * 10000 + d % 16 * 1000000 + d / 16 * 10000000) h ∙ ap pos n)
          ∙ sym (reading_is ∙ rw (all_is, low_holds, le-leb (d / 16) 9 top))

      behind : 9 < d / 16 → reading_of s ≡ cond (eqb (d / 16) 0x0f) (Some (minus (decimal (take 7 (eight a b c d))))) None
      unfolding reading_by
      behind h = reading_is ∙ rw (all_is, low_is, low_holds, lt-leb (d / 16) 9 h)

      pub reading_minus : x + y * 100 + z * 10000 + d % 16 * 1000000 < 2 ^ 31 → SFits w32 (pos 0 -ℤ to_z w32 (x + y * 100 + z * 10000 + d % 16 * 1000000)) → d / 16 ≡ 0x0f
          → Some (to_z w32 (of_z w32 (pos 0 -ℤ to_z w32 (x + y * 100 + z * 10000 + d % 16 * 1000000)))) ≡ reading_of s
      unfolding decimal
      reading_minus h f e =
          let k = x + y * 100 + z * 10000 + d % 16 * 1000000 in
          let m = seven_is in
          let n : k ≡ decimal (take 7 (eight a b c d)) = omega arith in
          ap Some (to_z-of_z w32 (pos 0 -ℤ to_z w32 k) f ∙ ap (λ (t : ℤ). pos 0 -ℤ t) (to_z_pos w32 k h) ∙ minus_is k ∙ ap minus n)
          ∙ sym (behind (omega (arith, e)) ∙ rw (eq-eqb (d / 16) 0x0f e))

      pub reading_none : 9 < d / 16 → (d / 16 ≡ 0x0f → ⊥) → None ≡ reading_of s
      reading_none h e = sym (behind h ∙ rw (ne_eqb (d / 16) 0x0f e))
