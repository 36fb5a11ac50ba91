-- 02, CR 5: "it prints exactly these lines, by meter number, in decimal:
--     meter,used,share
--     4,1,333334
--     .."
-- Each line ends with one newline.
-- Assumes nothing.
use Rattle.std.specs.Prelude.{ℕ, zero, suc, Option, Some, None, ◌+◌, ◌*◌, cond, List, [], ◌∷◌, ◌++◌, ℤ, length}
use Rattle.transaction.specs.Transaction.{meters}
use Rattle.table.specs.declared.Table.{Table}
use Rattle.octets.specs.Lists.{at}
use Rattle.heat.specs.Uses.{listed, used, gain, use_in}
use Rattle.heat.specs.Shares.{share}
use Rattle.heat.specs.Numerals.{numeral, signed_numeral}

abbrev pub comma : ℕ
comma = 44

abbrev pub newline : ℕ
newline = 10

-- meter,used,share
abbrev pub heading : List ℕ
heading = 109 ∷ 101 ∷ 116 ∷ 101 ∷ 114 ∷ comma ∷ 117 ∷ 115 ∷ 101 ∷ 100 ∷ comma ∷ 115 ∷ 104 ∷ 97 ∷ 114 ∷ 101 ∷ newline ∷ []

unfoldable pub line : ℕ → ℤ → ℕ → List ℕ
line m z part = numeral m ++ (comma ∷ (signed_numeral z ++ (comma ∷ (numeral part ++ (newline ∷ [])))))

-- the share of a listed meter
unfoldable pub share_of : Table → Table → ℕ → ℕ
share_of s e m = share (listed s e) (gain s e) m

-- the line of a meter, where it has one
unfoldable pub line_of : Table → Table → ℕ → List ℕ
line_of s e m = cond (listed s e m) (line m (used s e m) (share_of s e m)) []

-- those of the meters below n, by meter number
unfoldable pub lines_below : Table → Table → ℕ → List ℕ
lines_below s e zero = []
lines_below s e (suc n) = lines_below s e n ++ line_of s e n

unfoldable pub split_text : Table → Table → List ℕ
split_text s e = heading ++ lines_below s e meters

-- ---- by what each meter used, and the shares

-- the line of a meter, where it has one
unfoldable pub line_by : ℕ → Option ℤ → ℕ → List ℕ
line_by m None part = []
line_by m (Some z) part = line m z part

-- those of the meters below n
unfoldable pub lines_in : List (Option ℤ) → List ℕ → ℕ → List ℕ
lines_in us ps zero = []
lines_in us ps (suc n) = lines_in us ps n ++ line_by n (use_in us n) (at ps n)

unfoldable pub text_in : List (Option ℤ) → List ℕ → List ℕ
text_in us ps = heading ++ lines_in us ps meters

-- ---- the longest

-- three digits, a comma, a sign and ten digits, a comma, seven digits, the newline
abbrev pub line_max : ℕ
line_max = 3 + 1 + 11 + 1 + 7 + 1

abbrev pub text_max : ℕ
text_max = length heading + line_max * meters
