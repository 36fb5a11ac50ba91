-- 02, CR 5: "its share of the house in millionths". "Shares are rounded down; the missing units go one each to the largest remainders, lower meter
-- first among equals. Shares always add up to 1,000,000." Of the meters, l says which are listed and g what each adds to the total: 0 if it is not
-- listed or its use is negative.
-- Assumes nothing.
use Rattle.std.specs.Prelude.{ℕ, ◌+◌, ◌-◌, ◌*◌, ◌/◌, ◌%◌, Bool, cond, ◌&&◌, ◌||◌, ltb, eqb}
use Rattle.transaction.specs.Transaction.{meters}
use Rattle.heat.specs.Sums.{sum_below, count_below}

-- the house, in millionths
abbrev pub house : ℕ
house = 1000000

unfoldable pub total : (ℕ → ℕ) → ℕ
total g = sum_below g meters

-- its part, rounded down, and the remainder
unfoldable pub floor : (ℕ → ℕ) → ℕ → ℕ
floor g m = g m * house / total g

unfoldable pub remainder : (ℕ → ℕ) → ℕ → ℕ
remainder g m = g m * house % total g

-- the units that the floors leave
unfoldable pub missing : (ℕ → ℕ) → ℕ
missing g = house - sum_below (floor g) meters

-- by the remainders r, k comes before m: the larger one, and the lower meter of equal ones
unfoldable pub before : (ℕ → ℕ) → ℕ → ℕ → Bool
before r k m = ltb (r m) (r k) || (eqb (r m) (r k) && ltb k m)

-- how many listed meters come before it
unfoldable pub rank : (ℕ → Bool) → (ℕ → ℕ) → ℕ → ℕ
rank l r m = count_below (λ k. l k && before r k m) meters

-- one more than the floor where fewer come before it than units are missing
unfoldable pub share : (ℕ → Bool) → (ℕ → ℕ) → ℕ → ℕ
share l g m = floor g m + cond (ltb (rank l (remainder g) m) (missing g)) 1 0
