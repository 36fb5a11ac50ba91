-- Of any remainders, to come before is a strict total order; and of the listed numbers below n, j have fewer than j before them, or all have, where
-- there are not so many.
-- Assumes nothing.
use Prim.Native.Nat.{ℕ, zero, suc, ◌+◌, ◌-◌, ◌≤◌, ◌<◌, min}
use mathlib.Core.Path.{◌≡◌, refl, sym}
use mathlib.Core.Bool.{Bool, true, false, cond, ◌&&◌, ◌||◌}
use mathlib.Core.Logic.{◌↔◌, ⊎_elim}
use native.Mathlib.Nat.{eq-or-lt_of_le}
use native.Mathlib.Numerals.{add-one}
use native.Mathlib.Omega.{arith}
use lib.Dec.{ltb, eqb}
use borrow.Author.Tests.{ltb-true, ltb-false, eqb-true, lt-ltb, le-ltb, eq-eqb}
use Rattle.octets.proofs.BoolLaws.{and_left, and_right, and_false, or_left, or_right, or_true}
use Rattle.octets.proofs.EveryLaws.{and_both}
use Rattle.table.proofs.OrderLaws.{clash}
use Rattle.heat.specs.Sums.{sum_below, count_below}
use Rattle.heat.specs.Shares.{before}
use Rattle.heat.specs.Claim.{Sooner, larger, lower}
use Rattle.heat.proofs.SumLaws.{count_more, count_same, count_le, count_less}

-- ---- the order

module _ (r : ℕ → ℕ) where
  pub sooner : (k m : ℕ) → before r k m ≡ true → Sooner r k m
  unfolding before
  sooner k m = go (ltb (r m) (r k)) (eqb (r m) (r k)) (ltb k m) refl refl refl
    where
      go : (a b c : Bool) → ltb (r m) (r k) ≡ a → eqb (r m) (r k) ≡ b → ltb k m ≡ c → (a || (b && c)) ≡ true → Sooner r k m
      go true b c x y z e = larger (ltb-true (r m) (r k) x)
      go false true true x y z e = lower (eqb-true (r m) (r k) y) (ltb-true k m z)
      go false true false x y z e = clash (sym e)
      go false false c x y z e = clash (sym e)

  pub sooner_is : (k m : ℕ) → Sooner r k m → before r k m ≡ true
  unfolding before
  sooner_is k m (larger h) = rw (lt-ltb (r m) (r k) h)
  sooner_is k m (lower e h) = rw (eq-eqb (r m) (r k) e, lt-ltb k m h) (or_true (ltb (r m) (r k)))

  pub before_irrefl : (m : ℕ) → before r m m ≡ false
  unfolding before
  before_irrefl m = rw (le-ltb (r m) (r m) (omega arith), le-ltb m m (omega arith)) (and_false (eqb (r m) (r m)))

  sooner_trans : (i k m : ℕ) → Sooner r i k → Sooner r k m → Sooner r i m
  sooner_trans i k m (larger x) (larger y) = larger (omega arith)
  sooner_trans i k m (larger x) (lower d y) = larger (omega arith)
  sooner_trans i k m (lower e x) (larger y) = larger (omega arith)
  sooner_trans i k m (lower e x) (lower d y) = lower (omega arith) (omega arith)

  pub before_trans : (i k m : ℕ) → before r i k ≡ true → before r k m ≡ true → before r i m ≡ true
  before_trans i k m p q = sooner_is i m (sooner_trans i k m (sooner i k p) (sooner k m q))

  -- one of two different ones is before the other
  pub before_other : (k m : ℕ) → (k ≡ m → ⊥) → before r k m ≡ false → before r m k ≡ true
  unfolding before
  before_other k m d e =
      let less = ltb-false (r m) (r k) (or_left (ltb (r m) (r k)) (eqb (r m) (r k) && ltb k m) e) in
      let tie = or_right (ltb (r m) (r k)) (eqb (r m) (r k) && ltb k m) e in
      ⊎_elim
      (λ q. let low = ltb-false k m (rw (eq-eqb (r m) (r k) (sym q)) at tie) in sooner_is m k (lower q (omega arith)))
      (λ q. sooner_is m k (larger q))
      (eq-or-lt_of_le less)

-- ---- how many listed numbers below n come before m

abbrev pub ahead : (ℕ → Bool) → (ℕ → ℕ) → ℕ → ℕ → ℕ
ahead l r n m = count_below (λ k. l k && before r k m) n

module _ (l : ℕ → Bool) (r : ℕ → ℕ) (n : ℕ) where
  -- what comes before one comes before all that this one comes before
  further : (k m : ℕ) → before r k m ≡ true → (i : ℕ) → i < n → l i && before r i k ≡ true → l i && before r i m ≡ true
  further k m e i h p = and_both (and_left (l i) (before r i k) p) (before_trans r i k m (and_right (l i) (before r i k) p) e)

  pub ahead_le : (k m : ℕ) → before r k m ≡ true → ahead l r n k ≤ ahead l r n m
  ahead_le k m e = count_le (λ i. l i && before r i k) (λ i. l i && before r i m) n (further k m e)

  -- and the one itself is one more
  ahead_less : (k m : ℕ) → before r k m ≡ true → k < n → l k ≡ true → ahead l r n k < ahead l r n m
  ahead_less k m e h p =
      count_less (λ i. l i && before r i k) (λ i. l i && before r i m) n k (further k m e) h
      (rw before_irrefl (and_false (l k))) (and_both p e)

  ahead_most : (m : ℕ) → ahead l r n m ≤ count_below l n
  ahead_most m = count_le (λ k. l k && before r k m) l n (λ i h. and_left (l i) (before r i m))

-- ---- how many have fewer than j before them

-- with one number more, which has x before it, one that had a before it has a': it comes after the new one, or before it
data Moved (x a a' : ℕ) : Type 0 where
  after : x ≤ a → a' ≡ a + 1 → Moved x a a'
  stays : a < x → a' ≡ a → Moved x a a'

moved_in : {x a a' : ℕ} (j : ℕ) → x < j → Moved x a a' → (a' < j) ↔ (a < j - 1)
moved_in j h (after p e) = omega arith
moved_in j h (stays p e) = omega arith

moved_out : {x a a' : ℕ} (j : ℕ) → j ≤ x → Moved x a a' → (a' < j) ↔ (a < j)
moved_out j h (after p e) = omega arith
moved_out j h (stays p e) = omega arith

-- of those that pass b, both tests say the same
test_same : (b : Bool) (x y u v : ℕ) → (b ≡ true → (x < y) ↔ (u < v)) → b && ltb x y ≡ b && ltb u v
test_same false x y u v h = refl
test_same true x y u v h = go (ltb u v) refl
  where
    go : (b : Bool) → ltb u v ≡ b → ltb x y ≡ b
    go true e = lt-ltb x y ((h refl).1 (ltb-true u v e))
    go false e =
        let q = ltb-false u v e in
        let never : x < y → ⊥ = λ p. omega (arith, (h refl).0 p) in
        le-ltb x y (omega arith)

-- those below n that have fewer than j of the first k before them
abbrev few : (ℕ → Bool) → (ℕ → ℕ) → ℕ → ℕ → ℕ → ℕ
few l r n k j = count_below (λ m. l m && ltb (ahead l r k m) j) n

module _ (l : ℕ → Bool) (r : ℕ → ℕ) (n : ℕ) where
  ahead_more : (m : ℕ) → ahead l r n m + cond (l n && before r n m) 1 0 ≡ ahead l r (n + 1) m
  ahead_more m = count_more (λ k. l k && before r k m) n

  moved : l n ≡ true → (m : ℕ) → m < n → l m ≡ true → Moved (ahead l r n n) (ahead l r n m) (ahead l r (n + 1) m)
  moved t m h p = go (before r n m) refl
    where
      go : (b : Bool) → before r n m ≡ b → Moved (ahead l r n n) (ahead l r n m) (ahead l r (n + 1) m)
      go true e = after (ahead_le l r n n m e) (sym (rw (t, e) at (ahead_more m)))
      go false e = stays (ahead_less l r n m n (before_other r n m (omega arith) e) h p) (omega (arith, rw (t, e) at (ahead_more m)))

  -- the new one has no more before it than it had
  itself : ahead l r (n + 1) n ≡ ahead l r n n
  itself = omega (arith, rw (before_irrefl r n, and_false (l n)) at (ahead_more n))

  few_same : (j i : ℕ) → ((m : ℕ) → m < n → l m ≡ true → (ahead l r (n + 1) m < j) ↔ (ahead l r n m < i)) → few l r n (n + 1) j ≡ few l r n n i
  few_same j i h =
      count_same (λ m. l m && ltb (ahead l r (n + 1) m) j) (λ m. l m && ltb (ahead l r n m) i) n
      (λ m q. test_same (l m) (ahead l r (n + 1) m) j (ahead l r n m) i (h m q))

  few_more : (j : ℕ) → few l r n (n + 1) j + cond (l n && ltb (ahead l r n n) j) 1 0 ≡ few l r (n + 1) (n + 1) j
  few_more j = rw itself at (count_more (λ m. l m && ltb (ahead l r (n + 1) m) j) n)

  few_step : ((j : ℕ) → few l r n n j ≡ min j (count_below l n)) → (j : ℕ) → few l r (n + 1) (n + 1) j ≡ min j (count_below l (n + 1))
  few_step ih j = go (l n) (ltb (ahead l r n n) j) refl refl
    where
      go : (a b : Bool) → l n ≡ a → ltb (ahead l r n n) j ≡ b → few l r (n + 1) (n + 1) j ≡ min j (count_below l (n + 1))
      go false b t e =
          let same : few l r n (n + 1) j ≡ few l r n n j = few_same j j (λ m h p. omega (arith, rw t at (ahead_more m))) in
          omega (arith, rw t at (few_more j), rw t at (count_more l n), ih j)
      go true true t e =
          let x = ltb-true (ahead l r n n) j e in
          let same : few l r n (n + 1) j ≡ few l r n n (j - 1) = few_same j (j - 1) (λ m h p. moved_in j x (moved t m h p)) in
          omega (arith, rw (t, e) at (few_more j), rw t at (count_more l n), ih (j - 1))
      go true false t e =
          let x = ltb-false (ahead l r n n) j e in
          let same : few l r n (n + 1) j ≡ few l r n n j = few_same j j (λ m h p. moved_out j x (moved t m h p)) in
          omega (arith, rw (t, e) at (few_more j), rw t at (count_more l n), ih j, ahead_most l r n n)

pub few_are : (l : ℕ → Bool) (r : ℕ → ℕ) (n j : ℕ) → count_below (λ m. l m && ltb (ahead l r n m) j) n ≡ min j (count_below l n)
few_are l r zero j = unfold count_below sum_below in omega arith
few_are l r (suc n) j = rw (← (add-one n)) (few_step l r n (few_are l r n) j)
