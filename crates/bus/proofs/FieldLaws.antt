-- A test's two sides; a DIF or VIF with its extension bytes, byte after byte; and the sum of bytes.
-- Assumes nothing.
use Prim.Native.Nat.{ℕ, zero, suc, ◌+◌, ◌%◌, ◌<◌, ◌≤◌}
use mathlib.Core.Path.{◌≡◌, refl}
use mathlib.Core.Bool.{Bool, true, false, cond, not}
use mathlib.Core.List.{List, [], ◌∷◌}
use native.Mathlib.Nat.{not-suc-le-zero, le_of_suc-le-suc}
use native.Mathlib.Omega.{arith}
use lib.Dec.{ltb}
use lib.ListN.{length, drop}
use borrow.Author.Tests.{lt-ltb, le-ltb, ltb-false}
use Rattle.std.specs.Prelude.{Some, None}
use Rattle.std.specs.List.{fold, position, position_or_len}
use Rattle.std.specs.Option.{unwrap_or}
use Rattle.std.proofs.lemmas.List.Sums.{prefix_len-le-length}
use Rattle.octets.specs.Lists.{at}
use Rattle.bus.specs.Frame.{sum}
use Rattle.bus.specs.Records.{field_len}

-- ---- what holds of both sides of a test

pub cond_by : {A : Type 0} (P : A → Type 0) (b : Bool) (x y : A) → (b ≡ true → P x) → (b ≡ false → P y) → P (cond b x y)
cond_by P true x y f g = f refl
cond_by P false x y f g = g refl

-- ---- a field

pub field_here : (x : ℕ) (s : List ℕ) → x < 0x80 → field_len (x ∷ s) ≡ 1
unfolding field_len
field_here x s h = rw (lt-ltb x 0x80 h)

pub field_on : (x : ℕ) (s : List ℕ) → 0x80 ≤ x → field_len (x ∷ s) ≡ suc (field_len s)
unfolding field_len
field_on x s h = rw (le-ltb x 0x80 h)

-- the byte at i is the last one
pub field_end : (s : List ℕ) (i : ℕ) → i < length s → at s i < 0x80 → field_len (drop i s) ≡ 1
field_end [] i l h = absurd (not-suc-le-zero l)
field_end (x ∷ s) zero l h = field_here x s h
field_end (x ∷ s) (suc i) l h = field_end s i (le_of_suc-le-suc l) h

-- the place of the last one
field_at : (s : List ℕ) → position_or_len (λ x. ltb x 0x80) s + 1 ≡ field_len s
unfolding field_len
field_at [] = refl
field_at (x ∷ s) =
    cond_by (λ n. position_or_len (λ y. ltb y 0x80) (x ∷ s) + 1 ≡ n) (ltb x 0x80) 1 (suc (field_len s)) (λ e. rw e refl) (λ e. let i = field_at s in rw e (omega arith))

pub field_place : (s : List ℕ) → unwrap_or (position (λ x. ltb x 0x80) s) (length s) + 1 ≡ field_len s
field_place s =
    let k = position_or_len (λ x. ltb x 0x80) s in
    let h = prefix_len-le-length (λ x. not (ltb x 0x80)) s in
    let e = field_at s in
    cond_by (λ p. unwrap_or p (length s) + 1 ≡ field_len s) (ltb k (length s)) (Some k) None (λ _. e) (λ t. let g = ltb-false k (length s) t in omega arith)

field_bounds : (s : List ℕ) → (1 ≤ field_len s) × (field_len s ≤ length s + 1)
unfolding field_len
field_bounds [] = (omega arith, omega arith)
field_bounds (x ∷ s) =
    let b = (field_bounds s).1 in
    cond_by (λ n. (1 ≤ n) × (n ≤ length (x ∷ s) + 1)) (ltb x 0x80) 1 (suc (field_len s)) (λ _. (omega arith, omega arith)) (λ _. (omega arith, omega arith))

pub field_some : (s : List ℕ) → 1 ≤ field_len s
field_some s = (field_bounds s).0

pub field_bound : (s : List ℕ) → field_len s ≤ length s + 1
field_bound s = (field_bounds s).1

-- ---- the sum

sum_from : (s : List ℕ) (total : ℕ) → total < 256 → fold (λ t x. (t + x) % 256) total s ≡ (total + sum s) % 256
unfolding sum
sum_from [] total h = omega arith
sum_from (x ∷ s) total h = let i = sum_from s ((total + x) % 256) (omega arith) in omega arith

pub sum_fold : (s : List ℕ) → fold (λ t x. (t + x) % 256) 0 s ≡ sum s % 256
sum_fold s = let e = sum_from s 0 (omega arith) in omega arith
