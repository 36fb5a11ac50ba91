-- Numbers in decimal, as ASCII: 02, CR 5, "it prints exactly these lines, .. in decimal".
-- Assumes nothing.
use Rattle.std.specs.Prelude.{ℕ, zero, suc, ◌+◌, ◌/◌, ◌%◌, cond, List, [], ◌∷◌, ◌++◌, ltb, ℤ, pos, negsuc}

-- 0
abbrev pub zero_byte : ℕ
zero_byte = 48

-- -
abbrev pub minus_byte : ℕ
minus_byte = 45

-- with so many digits at the most: what stands before the last digit, and that
unfoldable pub numeral_within : ℕ → ℕ → List ℕ
numeral_within zero n = []
numeral_within (suc k) n = cond (ltb n 10) ((zero_byte + n) ∷ []) (numeral_within k (n / 10) ++ ((zero_byte + n % 10) ∷ []))

-- n has no more digits than n + 1
unfoldable pub numeral : ℕ → List ℕ
numeral n = numeral_within (suc n) n

unfoldable pub signed_numeral : ℤ → List ℕ
signed_numeral (pos n) = numeral n
signed_numeral (negsuc n) = minus_byte ∷ numeral (suc n)
