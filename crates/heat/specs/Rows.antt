-- What the lines of a split say, row by row, and the lines read back, by their commas and newlines: a text that says something else than its rows,
-- or that can be read in two ways, is found out by that.
-- Assumes nothing.
use Rattle.std.specs.Prelude.{ℕ, zero, suc, ◌+◌, ◌-◌, ◌*◌, cond, List, [], ◌∷◌, ◌++◌, eqb, ℤ, pos, length}
use Rattle.transaction.specs.Signed.{minus}
use Rattle.table.specs.declared.Table.{Table}
use Rattle.heat.specs.Uses.{listed, used}
use Rattle.heat.specs.Numerals.{zero_byte, minus_byte}
use Rattle.heat.specs.Text.{comma, newline, share_of}

-- ---- the rows

pub record Row : Type 0 where
  pub meter : ℕ
  pub used : ℤ
  pub share : ℕ

-- those of the meters below n, by meter number
unfoldable pub rows_below : Table → Table → ℕ → List Row
rows_below s e zero = []
rows_below s e (suc n) = rows_below s e n ++ cond (listed s e n) (record { meter = n; used = used s e n; share = share_of s e n } ∷ []) []

-- ---- numbers, read back

-- the number that decimal digits write after a
unfoldable pub number_from : ℕ → List ℕ → ℕ
number_from a [] = a
number_from a (x ∷ t) = number_from (10 * a + (x - zero_byte)) t

unfoldable pub number_in : List ℕ → ℕ
number_in t = number_from 0 t

unfoldable pub signed_in : List ℕ → ℤ
signed_in [] = pos 0
signed_in (x ∷ t) = cond (eqb x minus_byte) (minus (number_in t)) (pos (number_in (x ∷ t)))

-- ---- lines, read back

-- the bytes before the first b, and those behind it
unfoldable pub up_to : ℕ → List ℕ → List ℕ
up_to b [] = []
up_to b (x ∷ t) = cond (eqb x b) [] (x ∷ up_to b t)

unfoldable pub past : ℕ → List ℕ → List ℕ
past b [] = []
past b (x ∷ t) = cond (eqb x b) t (past b t)

-- the row of the line that the bytes begin with
unfoldable pub row_in : List ℕ → Row
row_in t = record {
  meter = number_in (up_to comma t);
  used = signed_in (up_to comma (past comma t));
  share = number_in (up_to newline (past comma (past comma t)));
}

-- line after line, so many at the most
unfoldable pub rows_within : ℕ → List ℕ → List Row
rows_within zero t = []
rows_within (suc k) [] = []
rows_within (suc k) (x ∷ t) = row_in (x ∷ t) ∷ rows_within k (past newline (x ∷ t))

-- all of them, behind the heading
unfoldable pub rows_in : List ℕ → List Row
rows_in t = rows_within (length t) (past newline t)
