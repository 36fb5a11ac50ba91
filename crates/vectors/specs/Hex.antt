-- Hexadecimal digits, as the files of test vectors have them: 0 to 9 and a to f.
-- Assumes nothing.
use Rattle.std.specs.Prelude.{ℕ, zero, suc, ◌+◌, ◌-◌, ◌*◌, cond, List, [], ◌∷◌, ◌++◌, ltb, leb, Option, None, Some}
use Rattle.octets.specs.Lists.{at}

-- the value of the digit whose ASCII code is c, and none where it is no digit: '0' is 48, '9' 57, 'a' 97 and 'f' 102
abbrev pub digit_value : ℕ → Option ℕ
digit_value c = cond (ltb c 48) None (cond (leb c 57) (Some (c - 48)) (cond (ltb c 97) None (cond (leb c 102) (Some (c - 97 + 10)) None)))

-- a digit's value, and 0 where there is none
abbrev pub or_zero : Option ℕ → ℕ
or_zero None = 0
or_zero (Some d) = d

abbrev pub value_or_zero : ℕ → ℕ
value_or_zero c = or_zero (digit_value c)

-- the byte that digits 2 i and 2 i + 1 of s write
abbrev pub byte_of : List ℕ → ℕ → ℕ
byte_of s i = value_or_zero (at s (2 * i)) * 16 + value_or_zero (at s (2 * i + 1))

-- the first n bytes that s writes
unfoldable pub bytes_to : List ℕ → ℕ → List ℕ
bytes_to s zero = []
bytes_to s (suc n) = bytes_to s n ++ (byte_of s n ∷ [])
