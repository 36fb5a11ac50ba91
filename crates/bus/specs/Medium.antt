-- 02, CR 1: "Media 07 and 16 give code 1; 06 and 15 code 2; 04 and 0C code 3; 0A and 0B code 4." "VIF 13 (litres, codes 1 and 2) or 06 (kWh,
-- codes 3 and 4)". All hexadecimal.
-- Assumes nothing.
use Rattle.std.specs.Prelude.{ℕ, cond, ◌||◌, leb, eqb, Option, Some, None}

-- the code of a medium, and 0 of an unlisted one
unfoldable pub code_of : ℕ → ℕ
code_of m =
    cond (eqb m 0x07 || eqb m 0x16) 1
    (cond (eqb m 0x06 || eqb m 0x15) 2
    (cond (eqb m 0x04 || eqb m 0x0c) 3
    (cond (eqb m 0x0a || eqb m 0x0b) 4 0)))

-- the code that there is, of a medium's code
unfoldable pub listed : ℕ → Option ℕ
listed code = cond (eqb code 0) None (Some code)

abbrev pub litres : ℕ
litres = 0x13

abbrev pub kilowatt_hours : ℕ
kilowatt_hours = 0x06

-- the VIF of a code's unit
unfoldable pub unit_of : ℕ → ℕ
unit_of code = cond (leb code 2) litres kilowatt_hours
