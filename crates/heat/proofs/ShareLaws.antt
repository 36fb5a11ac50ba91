-- What holds of the shares: the floors are together no more than the house, and the shares are the house. Each share is its floor, or one more where
-- there is a remainder. No use has no share, a greater use has no smaller one, and of equal uses the lower meter's is the other's or one more.
-- Assumes nothing.
use Prim.Native.Nat.{ℕ, zero, suc, ◌+◌, ◌-◌, ◌*◌, ◌/◌, ◌%◌, ◌≤◌, ◌<◌}
use mathlib.Core.Path.{◌≡◌, refl, sym, ap, ap₂, ◌∙◌}
use mathlib.Core.Bool.{Bool, true, false, cond, ◌&&◌}
use mathlib.Core.Logic.{◌⊎◌, inl, inr, ⊎_elim}
use native.Mathlib.Nat.{eq-or-lt_of_le, le-div_iff_mul-le, mod-lt, zero-mod, zero-div, div-zero, div-add-mod', le_of_mul-le-mul_right}
use native.Mathlib.Omega.{arith}
use lib.Dec.{ltb, eqb}
use borrow.Author.Tests.{ltb-true, ltb-false, lt-ltb, le-ltb, ne_eqb}
use Rattle.octets.proofs.BoolLaws.{or_left, and_right}
use Rattle.transaction.specs.Transaction.{meters}
use Rattle.heat.specs.Sums.{sum_below, count_below}
use Rattle.heat.specs.Shares.{house, total, floor, remainder, missing, before, rank, share}
use Rattle.heat.proofs.SumLaws.{sum_same, count_same, count_le, sum_add, sum_times, sum_le, sum_part, bit_le}
use Rattle.heat.specs.Claim.{Sooner, lower, larger}
use Rattle.heat.proofs.RankLaws.{sooner, sooner_is, before_other, ahead_le, few_are}

-- ---- where the uses are equal, meter by meter, so are the shares

module _ (g g' : ℕ → ℕ) (e : (m : ℕ) → m < meters → g m ≡ g' m) where
  pub total_same : total g ≡ total g'
  unfolding total
  total_same = sum_same g g' meters e

  pub floor_same : (m : ℕ) → m < meters → floor g m ≡ floor g' m
  unfolding floor
  floor_same m h = ap₂ (λ (u t : ℕ). u * house / t) (e m h) total_same

  pub remainder_same : (m : ℕ) → m < meters → remainder g m ≡ remainder g' m
  unfolding remainder
  remainder_same m h = ap₂ (λ (u t : ℕ). u * house % t) (e m h) total_same

  pub missing_same : missing g ≡ missing g'
  unfolding missing
  missing_same = ap (λ (s : ℕ). house - s) (sum_same (floor g) (floor g') meters floor_same)

pub rank_same : (l l' : ℕ → Bool) (r r' : ℕ → ℕ) → ((m : ℕ) → m < meters → l m ≡ l' m) → ((m : ℕ) → m < meters → r m ≡ r' m) → (m : ℕ) → m < meters
    → rank l r m ≡ rank l' r' m
unfolding rank before
rank_same l l' r r' el er m h =
    count_same (λ k. l k && before r k m) (λ k. l' k && before r' k m) meters (λ k q. rw (el k q, er k q, er m h))

pub share_same : (l l' : ℕ → Bool) (g g' : ℕ → ℕ) → ((m : ℕ) → m < meters → l m ≡ l' m) → ((m : ℕ) → m < meters → g m ≡ g' m) → (m : ℕ) → m < meters
    → share l g m ≡ share l' g' m
unfolding share
share_same l l' g g' el eg m h =
    let er = rank_same l l' (remainder g) (remainder g') el (remainder_same g g' eg) m h in
    rw (floor_same g g' eg m h, er, missing_same g g' eg)

-- ---- the floors and the units that they leave

-- the division of one meter's part
parts : (g : ℕ → ℕ) (m : ℕ) → floor g m * total g + remainder g m ≡ g m * house
unfolding floor remainder
parts g m = div-add-mod' (g m * house) (total g)

-- the divisions added up
balance : (g : ℕ → ℕ) → sum_below (floor g) meters * total g + sum_below (remainder g) meters ≡ house * total g
balance g =
    let whole : sum_below g meters ≡ total g = unfold total in refl in
    omega (
      arith,
      sum_add (λ m. floor g m * total g) (remainder g) meters,
      sum_times (floor g) (total g) meters,
      sum_same (λ m. floor g m * total g + remainder g m) (λ m. g m * house) meters (λ m h. parts g m),
      sum_times g house meters,
    )

pub floors_fit : (g : ℕ → ℕ) → sum_below (floor g) meters ≤ house
unfolding floor
floors_fit g = go (total g) refl
  where
    go : (t : ℕ) → total g ≡ t → sum_below (floor g) meters ≤ house
    go zero e =
        let nothing : (m : ℕ) → m < meters → floor g m ≤ floor g m * 0 = λ m h. rw (e, div-zero) (omega arith) in
        omega (arith, sum_le (floor g) (λ m. floor g m * 0) meters nothing, sum_times (floor g) 0 meters)
    go (suc t) e = le_of_mul-le-mul_right {k = total g} (omega (arith, balance g)) (omega arith)

pub floors_and_missing : (g : ℕ → ℕ) → sum_below (floor g) meters + missing g ≡ house
unfolding missing
floors_and_missing g = omega (arith, floors_fit g)

-- one of the units goes to m
abbrev gets : (ℕ → Bool) → (ℕ → ℕ) → ℕ → Bool
gets l g m = ltb (rank l (remainder g) m) (missing g)

pub share_most : (l : ℕ → Bool) (g : ℕ → ℕ) (m : ℕ) → m < meters → share l g m ≤ house
unfolding share
share_most l g m h = go (gets l g m) refl
  where
    go : (b : Bool) → gets l g m ≡ b → floor g m + cond b 1 0 ≤ house
    go true e = omega (arith, ltb-true, sum_part (floor g) meters m h, floors_and_missing g)
    go false e = omega (arith, sum_part (floor g) meters m h, floors_and_missing g)

-- ---- of two

share_near : (l : ℕ → Bool) (g : ℕ → ℕ) (m : ℕ) → (floor g m ≤ share l g m) × (share l g m ≤ floor g m + 1)
unfolding share
share_near l g m = omega (arith, bit_le (gets l g m) true (λ e. refl))

-- of equal floors, the one that comes before has no smaller share
share_before : (l : ℕ → Bool) (g : ℕ → ℕ) (k m : ℕ) → floor g k ≡ floor g m → before (remainder g) m k ≡ true → share l g k ≤ share l g m
unfolding share rank
share_before l g k m e b = omega (arith, bit_le (gets l g k) (gets l g m) more)
  where
    more : gets l g k ≡ true → gets l g m ≡ true
    more t = lt-ltb (rank l (remainder g) m) (missing g) (omega (arith, ltb-true, ahead_le l (remainder g) meters m k b))

pub equal_use : (l : ℕ → Bool) (g : ℕ → ℕ) (k m : ℕ) → k < m → m < meters → l k ≡ true → l m ≡ true → g k ≡ g m
    → (share l g m ≤ share l g k) × (share l g k ≤ share l g m + 1)
unfolding floor remainder
equal_use l g k m h hm lk lm e =
    let same : floor g m ≡ floor g k = rw e in
    let tie : remainder g m ≡ remainder g k = rw e in
    let first = sooner_is (remainder g) k m (lower tie h) in
    (share_before l g m k same first, omega (arith, share_near l g k, share_near l g m))

floor_le : (g : ℕ → ℕ) → (total g ≡ 0 → ⊥) → (k m : ℕ) → g k ≤ g m → floor g k ≤ floor g m
unfolding floor
floor_le g some k m h = let pos : 0 < total g = omega arith in (le-div_iff_mul-le pos).1 (omega (arith, parts g k))

pub greater_use : (l : ℕ → Bool) (g : ℕ → ℕ) → (total g ≡ 0 → ⊥) → (k m : ℕ) → k < meters → m < meters → l k ≡ true → l m ≡ true → g k < g m
    → share l g k ≤ share l g m
greater_use l g some k m hk hm lk lm h =
    ⊎_elim
    (λ e. share_before l g k m e (sooner_is (remainder g) m k (larger (omega (arith, parts g k, parts g m, ap (λ (f : ℕ). f * total g) e)))))
    (λ q. omega (arith, share_near l g k, share_near l g m))
    (eq-or-lt_of_le (floor_le g some k m (omega arith)))

-- whoever gets a unit comes before whoever gets none
pub units_to_the_largest : (l : ℕ → Bool) (g : ℕ → ℕ) (k m : ℕ) → share l g m ≡ floor g m + 1 → share l g k ≡ floor g k → Sooner (remainder g) m k
unfolding share rank
units_to_the_largest l g k m hm hk = go (gets l g m) (gets l g k) refl refl hm hk (before (remainder g) m k) refl
  where
    fewer : gets l g m ≡ true → gets l g k ≡ false → rank l (remainder g) m < rank l (remainder g) k
    fewer x y = omega (arith, ltb-true (rank l (remainder g) m) (missing g) x, ltb-false (rank l (remainder g) k) (missing g) y)

    other : gets l g m ≡ true → gets l g k ≡ false → before (remainder g) m k ≡ false → ⊥
    other x y z =
        let apart : m ≡ k → ⊥ = λ e. omega (arith, fewer x y, ap (rank l (remainder g)) e) in
        omega (arith, fewer x y, ahead_le l (remainder g) meters k m (before_other (remainder g) m k apart z))

    go : (a b : Bool) → gets l g m ≡ a → gets l g k ≡ b → floor g m + cond a 1 0 ≡ floor g m + 1 → floor g k + cond b 1 0 ≡ floor g k → (c : Bool) → before (remainder g) m k ≡ c
        → Sooner (remainder g) m k
    go true false x y p q true z = sooner (remainder g) m k z
    go true false x y p q false z = absurd (other x y z)
    go true true x y p q c z = absurd (omega arith)
    go false b x y p q c z = absurd (omega arith)

-- ---- the units that are missing

-- each remainder is less than the total, so there are no more units than remainders
missing_le : (g : ℕ → ℕ) → (total g ≡ 0 → ⊥) → (p : ℕ → Bool) → ((k : ℕ) → k < meters → p k ≡ false → remainder g k ≡ 0)
    → missing g ≤ count_below p meters
unfolding remainder count_below
missing_le g some p h =
    let t = total g in
    let bit : ℕ → ℕ = λ k. cond (p k) 1 0 in
    let whole : (sum_below (floor g) meters + missing g) * t ≡ house * t = ap (λ (x : ℕ). x * t) (floors_and_missing g) in
    le_of_mul-le-mul_right {k = t}
    (omega (arith, balance g, sum_le (remainder g) (λ k. bit k * t) meters (λ k q. at (p k) k (h k q)), sum_times bit t meters))
    (omega arith)
  where
    at : (b : Bool) (k : ℕ) → (b ≡ false → remainder g k ≡ 0) → remainder g k ≤ cond b 1 0 * total g
    at true k e = omega (arith, mod-lt (g k * house) {m = total g} (omega arith))
    at false k e = omega (arith, e refl)

-- no use, no part
floor_none : (g : ℕ → ℕ) (m : ℕ) → g m ≡ 0 → floor g m ≡ 0
unfolding floor
floor_none g m e = rw e (zero-div (total g))

-- what has no remainder comes before none that has one
not_before : (r : ℕ → ℕ) (k m : ℕ) {n : ℕ} → r k ≡ 0 → r m ≡ suc n → before r k m ≡ false
unfolding before
not_before r k m z e = rw (le-ltb (r m) (r k) (omega arith), ne_eqb (r m) (r k) (λ q. omega arith))

remainder_none : (g : ℕ → ℕ) (m : ℕ) → g m ≡ 0 → remainder g m ≡ 0
unfolding remainder
remainder_none g m e = rw e (zero-mod (total g))

module _ (l : ℕ → Bool) (g : ℕ → ℕ) (some : total g ≡ 0 → ⊥) (none : (m : ℕ) → l m ≡ false → g m ≡ 0) where
  -- all that have a remainder come before one that has none, so none of the units is left for it
  last : (m : ℕ) → remainder g m ≡ 0 → missing g ≤ rank l (remainder g) m
  unfolding rank before
  last m e = missing_le g some (λ k. l k && before (remainder g) k m) (λ k h. at k (l k) refl)
    where
      at : (k : ℕ) (b : Bool) → l k ≡ b → b && before (remainder g) k m ≡ false → remainder g k ≡ 0
      at k true f q =
          let r = remainder g in
          omega (arith, ltb-false (r m) (r k) (or_left (ltb (r m) (r k)) (eqb (r m) (r k) && ltb k m) q))
      at k false f q = remainder_none g k (none k f)

  -- whether all are ranked or those that l lists: a unit goes to the same
  pub rank_of_all : (m : ℕ) → ltb (rank (λ k. true) (remainder g) m) (missing g) ≡ ltb (rank l (remainder g) m) (missing g)
  unfolding rank
  rank_of_all m = go (remainder g m) refl
    where
      go : (r : ℕ) → remainder g m ≡ r → ltb (rank (λ k. true) (remainder g) m) (missing g) ≡ ltb (rank l (remainder g) m) (missing g)
      go zero e =
          let most = last m e in
          let more = count_le (λ k. l k && before (remainder g) k m) (λ k. before (remainder g) k m) meters (λ k h q. and_right (l k) (before (remainder g) k m) q) in
          le-ltb (rank (λ k. true) (remainder g) m) (missing g) (omega arith) ∙ sym (le-ltb (rank l (remainder g) m) (missing g) most)
      go (suc r) e = ap (λ (n : ℕ). ltb n (missing g)) (count_same (λ k. before (remainder g) k m) (λ k. l k && before (remainder g) k m) meters (λ k h. one (l k) k refl))
        where
          one : (b : Bool) (k : ℕ) → l k ≡ b → before (remainder g) k m ≡ b && before (remainder g) k m
          one true k f = refl
          one false k f = not_before (remainder g) k m (remainder_none g k (none k f)) e

  pub floor_or_more : (m : ℕ) → m < meters → (share l g m ≡ floor g m) ⊎ ((share l g m ≡ floor g m + 1) × (remainder g m ≡ 0 → ⊥))
  unfolding share
  floor_or_more m h = go (gets l g m) refl
    where
      go : (b : Bool) → gets l g m ≡ b → (floor g m + cond b 1 0 ≡ floor g m) ⊎ ((floor g m + cond b 1 0 ≡ floor g m + 1) × (remainder g m ≡ 0 → ⊥))
      go true e = inr (refl, λ z. omega (arith, ltb-true, last m z))
      go false e = inl (omega arith)

  pub no_use_no_share : (m : ℕ) → m < meters → g m ≡ 0 → share l g m ≡ 0
  no_use_no_share m h e =
      ⊎_elim (λ q. q ∙ floor_none g m e) (λ q. absurd (q.1 (remainder_none g m e))) (floor_or_more m h)

  pub shares_add_up : sum_below (λ m. cond (l m) (share l g m) 0) meters ≡ house
  unfolding share rank count_below
  shares_add_up =
      let more : ℕ → Bool = λ m. l m && gets l g m in
      sum_same (λ m. cond (l m) (share l g m) 0) (λ m. floor g m + cond (more m) 1 0) meters (λ m h. at m (l m) refl)
      ∙ omega (
        arith,
        sum_add (floor g) (λ m. cond (more m) 1 0) meters,
        few_are l (remainder g) meters (missing g),
        missing_le g some l (λ k h f. remainder_none g k (none k f)),
        floors_and_missing g,
      )
    where
      at : (m : ℕ) (b : Bool) → l m ≡ b → cond b (share l g m) 0 ≡ floor g m + cond (b && gets l g m) 1 0
      at m true e = refl
      at m false e = omega (arith, floor_none g m (none m e))
