-- Sums, counts and tests over the numbers below another: a loop's step, equal parts give equal wholes, and larger parts a larger whole.
-- Assumes nothing.
use Prim.Native.Nat.{ℕ, zero, suc, ◌+◌, ◌*◌, ◌≤◌, ◌<◌}
use mathlib.Core.Path.{◌≡◌, refl, sym, ap, ap₂, subst}
use mathlib.Core.Bool.{Bool, true, false, cond, ◌||◌}
use mathlib.Core.Logic.{⊎_elim}
use native.Mathlib.Nat.{not-suc-le-zero, le_of_suc-le-suc, eq-or-lt_of_le}
use native.Mathlib.Numerals.{add-one}
use native.Mathlib.Omega.{arith}
use Rattle.table.proofs.OrderLaws.{clash}
use Rattle.heat.specs.Sums.{sum_below, count_below, any_below}

-- ---- one number more

pub sum_more : (f : ℕ → ℕ) (n : ℕ) → sum_below f n + f n ≡ sum_below f (n + 1)
unfolding sum_below
sum_more f n = rw add-one

pub count_more : (p : ℕ → Bool) (n : ℕ) → count_below p n + cond (p n) 1 0 ≡ count_below p (n + 1)
unfolding count_below
count_more p n = sum_more (λ i. cond (p i) 1 0) n

pub any_more : (p : ℕ → Bool) (n : ℕ) → (any_below p n || p n) ≡ any_below p (n + 1)
unfolding any_below
any_more p n = rw add-one

-- ---- two functions, or two tests, that are equal at each number

pub sum_same : (f g : ℕ → ℕ) (n : ℕ) → ((i : ℕ) → i < n → f i ≡ g i) → sum_below f n ≡ sum_below g n
unfolding sum_below
sum_same f g zero e = refl
sum_same f g (suc n) e = ap₂ ◌+◌ (sum_same f g n (λ i h. e i (omega arith))) (e n (omega arith))

pub count_same : (p q : ℕ → Bool) (n : ℕ) → ((i : ℕ) → i < n → p i ≡ q i) → count_below p n ≡ count_below q n
unfolding count_below
count_same p q n e = sum_same (λ i. cond (p i) 1 0) (λ i. cond (q i) 1 0) n (λ i h. ap (λ (b : Bool). cond b 1 0) (e i h))

pub any_same : (p q : ℕ → Bool) (n : ℕ) → ((i : ℕ) → i < n → p i ≡ q i) → any_below p n ≡ any_below q n
unfolding any_below
any_same p q zero e = refl
any_same p q (suc n) e = ap₂ ◌||◌ (any_same p q n (λ i h. e i (omega arith))) (e n (omega arith))

-- ---- sums of sums, and of multiples

pub sum_add : (f g : ℕ → ℕ) (n : ℕ) → sum_below (λ i. f i + g i) n ≡ sum_below f n + sum_below g n
unfolding sum_below
sum_add f g zero = refl
sum_add f g (suc n) = omega (arith, sum_add f g n)

pub sum_times : (f : ℕ → ℕ) (c n : ℕ) → sum_below (λ i. f i * c) n ≡ sum_below f n * c
unfolding sum_below
sum_times f c zero = omega arith
sum_times f c (suc n) = omega (arith, sum_times f c n)

-- ---- larger parts

pub sum_le : (f g : ℕ → ℕ) (n : ℕ) → ((i : ℕ) → i < n → f i ≤ g i) → sum_below f n ≤ sum_below g n
unfolding sum_below
sum_le f g zero h = omega arith
sum_le f g (suc n) h = omega (arith, sum_le f g n (λ i l. h i (omega arith)), h n (omega arith))

-- larger by as much as one part is
pub sum_gap : (f g : ℕ → ℕ) (n i d : ℕ) → ((k : ℕ) → k < n → f k ≤ g k) → i < n → f i + d ≤ g i → sum_below f n + d ≤ sum_below g n
unfolding sum_below
sum_gap f g zero i d h l p = absurd (not-suc-le-zero l)
sum_gap f g (suc n) i d h l p =
    let rest : (k : ℕ) → k < n → f k ≤ g k = λ k q. h k (omega arith) in
    ⊎_elim
    (λ e. let last : f n + d ≤ g n = subst (λ (k : ℕ). f k + d ≤ g k) e p in omega (arith, sum_le f g n rest))
    (λ q. omega (arith, sum_gap f g n i d rest q p, h n (omega arith)))
    (eq-or-lt_of_le (le_of_suc-le-suc l))

-- a part is no more than the whole
pub sum_part : (f : ℕ → ℕ) (n i : ℕ) → i < n → f i ≤ sum_below f n
sum_part f n i l = omega (arith, sum_gap (λ k. 0) f n i (f i) (λ k q. omega arith) l (omega arith))

pub bit_le : (p q : Bool) → (p ≡ true → q ≡ true) → cond p 1 0 ≤ cond q 1 0
bit_le true true h = omega arith
bit_le true false h = clash (sym (h refl))
bit_le false q h = omega arith

pub count_le : (p q : ℕ → Bool) (n : ℕ) → ((i : ℕ) → i < n → p i ≡ true → q i ≡ true) → count_below p n ≤ count_below q n
unfolding count_below
count_le p q n h = sum_le (λ i. cond (p i) 1 0) (λ i. cond (q i) 1 0) n (λ i l. bit_le (p i) (q i) (h i l))

-- one number passes the second test alone
pub count_less : (p q : ℕ → Bool) (n i : ℕ) → ((k : ℕ) → k < n → p k ≡ true → q k ≡ true) → i < n → p i ≡ false → q i ≡ true
    → count_below p n < count_below q n
unfolding count_below
count_less p q n i h l e f =
    let gap : cond (p i) 1 0 + 1 ≤ cond (q i) 1 0 = rw (e, f) (omega arith) in
    omega (arith, sum_gap (λ k. cond (p k) 1 0) (λ k. cond (q k) 1 0) n i 1 (λ k m. bit_le (p k) (q k) (h k m)) l gap)

pub count_most : (p : ℕ → Bool) (n : ℕ) → count_below p n ≤ n
unfolding count_below sum_below
count_most p zero = omega arith
count_most p (suc n) = omega (arith, count_most p n, bit_le (p n) true (λ e. refl))
