-- 02, CR 1: "The first record with DIF 0C and VIF 13 (litres, codes 1 and 2) or 06 (kWh, codes 3 and 4) is taken." "Records before it are passed
-- over by their DIF's data length, with DIF and VIF extension bytes; 2F is filler." "a DIF ending in D or F other than filler 2F, a VIF of 7C or FC,
-- a digit above 9 in the one taken and a record that overruns count as unusable and end the search." A record (EN 13757-3) is a DIF, one more
-- byte while the last one has its top bit set, a VIF, the same again, and data.
-- Assumes nothing.
use Rattle.std.specs.Prelude.{ℕ, zero, suc, ◌+◌, ◌%◌, Bool, cond, ◌&&◌, ◌||◌, List, [], ◌∷◌, ltb, eqb, length, get_or, drop, ℤ, Option, Some, None}
use Rattle.octets.specs.Lists.{at}
use Rattle.bus.specs.Digits.{reading_of}
use Rattle.bus.specs.declared.Met.{Met}
use Rattle.bus.specs.declared.Met.TheVariants as M

-- ---- a record

abbrev pub filler : ℕ
filler = 0x2f

-- the DIF that is taken
abbrev pub wanted_dif : ℕ
wanted_dif = 0x0c

-- the data's length, by the DIF's low four bits
abbrev pub data_lens : List (Option ℕ)
data_lens =
    Some 0 ∷ Some 1 ∷ Some 2 ∷ Some 3 ∷ Some 4 ∷ Some 4 ∷ Some 6 ∷ Some 8 ∷ Some 0 ∷ Some 1 ∷ Some 2 ∷ Some 3 ∷ Some 4 ∷ None ∷ Some 6 ∷ None ∷ []

unfoldable pub data_len : ℕ → Option ℕ
data_len dif = get_or data_lens (dif % 16) None

-- the length of a DIF or VIF with its extension bytes; where s ends before them it is beyond
unfoldable pub field_len : List ℕ → ℕ
field_len [] = 1
field_len (x ∷ s) = cond (ltb x 0x80) 1 (suc (field_len s))

abbrev pub dif_of : List ℕ → ℕ
dif_of s = at s 0

abbrev pub vif_of : List ℕ → ℕ
vif_of s = at s (field_len s)

unfoldable pub unusable_vif : ℕ → Bool
unusable_vif vif = eqb vif 0x7c || eqb vif 0xfc

-- the length of a record with so many bytes of data
unfoldable pub record_len : ℕ → List ℕ → ℕ
record_len size s = field_len s + field_len (drop (field_len s) s) + size

unfoldable pub wanted : ℕ → List ℕ → Bool
wanted unit s = eqb (dif_of s) wanted_dif && eqb (vif_of s) unit

-- ---- what the search meets: something to pass, the record that is taken, or its end

unfoldable pub look_record : Option ℕ → ℕ → List ℕ → Met
look_record None unit s = M.End
look_record (Some size) unit s =
    cond (unusable_vif (vif_of s) || ltb (length s) (record_len size s)) M.End
    (cond (wanted unit s) M.Take (M.Pass (record_len size s)))

unfoldable pub look : ℕ → List ℕ → Met
look unit s =
    cond (eqb (length s) 0) M.End
    (cond (eqb (dif_of s) filler) (M.Pass 1)
    (look_record (data_len (dif_of s)) unit s))

-- ---- the search

-- where its data begins in the record that is taken, behind DIF and VIF
abbrev pub data_place : ℕ
data_place = 2

unfoldable pub follow : Met → (ℕ → Option ℤ) → Option ℤ → Option ℤ
follow (M.Pass n) behind here = behind n
follow M.Take behind here = here
follow M.End behind here = None

-- so many steps at the most, a step for a filler or a record
unfoldable pub first_within : ℕ → ℕ → List ℕ → Option ℤ
first_within zero unit s = None
first_within (suc n) unit s = follow (look unit s) (λ k. first_within n unit (drop k s)) (reading_of (drop data_place s))

-- all of them: a step passes one byte at least
unfoldable pub first_reading : ℕ → List ℕ → Option ℤ
first_reading unit s = first_within (length s) unit s
