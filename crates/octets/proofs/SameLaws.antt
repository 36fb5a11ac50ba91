-- Comparison without an early exit.
-- Assumes nothing.
use mathlib.Core.Path.{◌≡◌, refl, sym, ap, ap₂, ◌∙◌}
use mathlib.Core.Bool.{Bool, true, false, ◌&&◌}
use mathlib.Core.List.{List, [], ◌∷◌}
use Prim.Native.Nat.{ℕ, zero, suc, ◌+◌, ◌-◌, ◌<◌, ◌≤◌}
use native.Mathlib.Numerals.{add-one, unary_clauses}
use native.Mathlib.Omega.{arith}
use borrow.Author.Tests.{eq-eqb, ne_eqb, eqb-true, eqb-false}
use lib.Bits.{bit_xor, bit_or, xor_self}
use lib.Dec.{eqb, eqb-suc-zero}
use Rattle.std.proofs.lemmas.Nat.{le_or_l}
use lib.ListN.{length, get_or, take, drop, drop_of_length-le}
use lib.Seq.{drop-cons, take-length}
use Rattle.octets.specs.Bytes.{same_bytes}
use Rattle.octets.proofs.BoolLaws.{and_assoc, and_true, and_false}
use Rattle.octets.proofs.XorLaws.{xor_none}

xor_test : (x y : ℕ) (b : Bool) → eqb x y ≡ b → eqb (bit_xor x y) 0 ≡ b
xor_test x y true e = eq-eqb (bit_xor x y) 0 (ap (bit_xor x) (sym (eqb-true x y e)) ∙ xor_self x)
xor_test x y false e = ne_eqb (bit_xor x y) 0 (λ z. eqb-false x y e (xor_none x y z))

or_test : (d x y : ℕ) → eqb (bit_or d (bit_xor x y)) 0 ≡ eqb d 0 && eqb x y
or_test zero x y = xor_test x y (eqb x y) refl
or_test (suc d) x y = ne_eqb (bit_or (suc d) (bit_xor x y)) 0 (λ z. omega (arith, le_or_l (suc d) (bit_xor x y), z)) ∙ ap (λ (b : Bool). b && eqb x y) (sym (eqb-suc-zero d))

-- a string less none of its bytes
pub whole : (k : ℕ) (s : List ℕ) → k ≡ 0 → take (length s - k) (drop k s) ≡ s
whole k s e = rw e (simp unary_clauses (take-length s))

-- a byte more of a comparison
pub same_turn : (d i : ℕ) (s t : List ℕ) → i < length s → length s ≡ length t
    → eqb (bit_or d (bit_xor (get_or s i 0) (get_or t i 0))) 0 && same_bytes (drop (i + 1) s) (drop (i + 1) t) ≡ eqb d 0 && same_bytes (drop i s) (drop i t)
unfolding same_bytes
same_turn d i s t h e =
    rw (add-one i, drop-cons s i 0 h, drop-cons t i 0 (omega arith), or_test d (get_or s i 0) (get_or t i 0))
    (and_assoc (eqb d 0) (eqb (get_or s i 0) (get_or t i 0)) (same_bytes (drop (suc i) s) (drop (suc i) t)))

-- no byte left
pub same_end : (d i : ℕ) (s t : List ℕ) → length s ≤ i → length t ≤ i → eqb d 0 && same_bytes (drop i s) (drop i t) ≡ eqb d 0
unfolding same_bytes
same_end d i s t h g = rw (drop_of_length-le s h, drop_of_length-le t g) (and_true (eqb d 0))

-- strings of two lengths differ
pub same_length : (s t : List ℕ) → (length s ≡ length t → ⊥) → same_bytes s t ≡ false
unfolding same_bytes
same_length [] [] h = absurd (h refl)
same_length [] (y ∷ t) h = refl
same_length (x ∷ s) [] h = refl
same_length (x ∷ s) (y ∷ t) h = ap (λ (b : Bool). eqb x y && b) (same_length s t (λ e. h (ap suc e))) ∙ and_false (eqb x y)

pub same_refl : (s : List ℕ) → same_bytes s s ≡ true
unfolding same_bytes
same_refl [] = refl
same_refl (x ∷ s) = ap₂ (λ (p q : Bool). p && q) (eq-eqb x x refl) (same_refl s)

both_true : (x y : ℕ) (s t : List ℕ) (p q : Bool) → eqb x y ≡ p → same_bytes s t ≡ q → (q ≡ true → s ≡ t) → p && q ≡ true → x ∷ s ≡ y ∷ t
both_true x y s t true q e f g z = ap₂ (λ (a : ℕ) (l : List ℕ). a ∷ l) (eqb-true x y e) (g z)
both_true x y s t false q e f g z = let no_way : ◌≡◌ {A = ℕ} 0 1 = cc in absurd (omega arith)

-- the test tells the truth
pub same_equal : (s t : List ℕ) → same_bytes s t ≡ true → s ≡ t
unfolding same_bytes
same_equal [] [] e = refl
same_equal [] (y ∷ t) e = let z : ◌≡◌ {A = ℕ} 0 1 = cc in absurd (omega arith)
same_equal (x ∷ s) [] e = let z : ◌≡◌ {A = ℕ} 0 1 = cc in absurd (omega arith)
same_equal (x ∷ s) (y ∷ t) e = both_true x y s t (eqb x y) (same_bytes s t) refl refl (same_equal s t) e
