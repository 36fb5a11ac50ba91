-- 02, CR 1: "Its 8 BCD digits come lowest byte first; a top digit of F makes the other seven negative." "a digit above 9 in the one taken" is
-- unusable. Of a byte the low four bits are the lower digit (EN 13757-3).
-- Assumes nothing.
use Rattle.std.specs.Prelude.{ℕ, ◌+◌, ◌*◌, ◌/◌, ◌%◌, Bool, true, cond, ◌&&◌, List, [], ◌∷◌, leb, eqb, pos, take, ℤ, Option, Some, None}
use Rattle.octets.specs.Lists.{at}
use Rattle.octets.specs.Bytes.{padded}
use Rattle.transaction.specs.Signed.{minus}

-- the data of a record with DIF 0C
abbrev pub digit_bytes : ℕ
digit_bytes = 4

-- the digits of bytes, the lowest first
unfoldable pub digits_in : List ℕ → List ℕ
digits_in [] = []
digits_in (b ∷ s) = b % 16 ∷ b / 16 ∷ digits_in s

-- the number that digits write, the lowest first
unfoldable pub decimal : List ℕ → ℕ
decimal [] = 0
decimal (d ∷ ds) = d + 10 * decimal ds

-- none is above 9
unfoldable pub all_digits : List ℕ → Bool
all_digits [] = true
all_digits (d ∷ ds) = leb d 9 && all_digits ds

-- the number that the two digits of a byte write, where there are two
unfoldable pub pair_of : ℕ → Option ℕ
pair_of b = cond (leb (b % 16) 9 && leb (b / 16) 9) (Some (b % 16 + b / 16 * 10)) None

-- of eight digits
unfoldable pub reading_by : List ℕ → Option ℤ
reading_by ds =
    cond (all_digits ds) (Some (pos (decimal ds)))
    (cond (all_digits (take 7 ds) && eqb (at ds 7) 0x0f) (Some (minus (decimal (take 7 ds)))) None)

-- of the data at the start of s
unfoldable pub reading_of : List ℕ → Option ℤ
reading_of s = reading_by (digits_in (padded digit_bytes s))
