-- Tests joined by `and` and `or`.
-- Assumes nothing.
use mathlib.Core.Path.{◌≡◌, refl}
use mathlib.Core.Bool.{Bool, true, false, ◌&&◌, ◌||◌}
use Prim.Native.Nat.{ℕ}
use native.Mathlib.Omega.{arith}

pub and_assoc : (p q r : Bool) → (p && q) && r ≡ p && (q && r)
and_assoc true q r = refl
and_assoc false q r = refl

pub and_true : (p : Bool) → p && true ≡ p
and_true true = refl
and_true false = refl

pub and_false : (p : Bool) → p && false ≡ false
and_false true = refl
and_false false = refl

pub or_true : (p : Bool) → (p || true) ≡ true
or_true true = refl
or_true false = refl

-- both hold
pub and_left : (p q : Bool) → p && q ≡ true → p ≡ true
and_left true q e = refl
and_left false q e = e

pub and_right : (p q : Bool) → p && q ≡ true → q ≡ true
and_right true q e = e
and_right false q e = let z : ◌≡◌ {A = ℕ} 0 1 = cc in absurd (omega arith)

-- neither holds
pub or_left : (p q : Bool) → (p || q) ≡ false → p ≡ false
or_left true q e = e
or_left false q e = refl

pub or_right : (p q : Bool) → (p || q) ≡ false → q ≡ false
or_right true q e = let z : ◌≡◌ {A = ℕ} 0 1 = cc in absurd (omega arith)
or_right false q e = e
