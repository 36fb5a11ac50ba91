-- 02, CR 5: "The program heatsplit reads the two plain tables, the start's first, 6,144 bytes each, from standard input." "It refuses, printing one line
-- only, the word refused, a blank and the number, with 4 input that isn't two tables, with 18 a meter present in both that is heat in one table and
-- another code in the other, and with 19, after that, a total of zero." A function with a lent output refuses, after these, one that is shorter than
-- the text: 3, with the length needed. A refusal puts nothing out.
-- Assumes nothing.
use Rattle.std.specs.Prelude.{ℕ, Option, Some, None, cond, Result, Ok, Err, Bool, not, ◌&&◌, List, [], ◌∷◌, ◌++◌, ltb, eqb, length, take, drop}
use Rattle.transaction.specs.Transaction.{meters}
use Rattle.table.specs.declared.Table.{Table}
use Rattle.table.specs.TableText.{table_len, is_table, table_from}
use Rattle.protocol.specs.declared.Store.TheVariants as S
use Rattle.protocol.specs.Said.{Said, refused, taken, Told, turn_down}
use Rattle.heat.specs.Sums.{any_below}
use Rattle.heat.specs.Uses.{code_changed, gain}
use Rattle.heat.specs.Shares.{total}
use Rattle.heat.specs.Numerals.{numeral}
use Rattle.heat.specs.Text.{newline, split_text, text_max}
use Rattle.heat.specs.declared.SplitError.{SplitError}
use Rattle.heat.specs.declared.SplitError.TheVariants as E

-- ---- the input: two tables, end to end

abbrev pub start_bytes : List ℕ → List ℕ
start_bytes b = take table_len b

abbrev pub end_bytes : List ℕ → List ℕ
end_bytes b = drop table_len b

unfoldable pub two_tables : List ℕ → Bool
two_tables b = is_table (start_bytes b) && is_table (end_bytes b)

abbrev pub start_table : List ℕ → Table
start_table b = table_from (start_bytes b)

abbrev pub end_table : List ℕ → Table
end_table b = table_from (end_bytes b)

-- the two tables, where the bytes are that
unfoldable pub year_of : List ℕ → Option (Table × Table)
year_of b = cond (two_tables b) (Some (start_table b, end_table b)) None

-- ---- what is answered

-- the number of a refusal, and the values returned with it
unfoldable pub number_of : SplitError → ℕ
number_of (E.Short n) = 3
number_of E.NoTables = 4
number_of E.CodeChanged = 18
number_of E.NothingUsed = 19

unfoldable pub values_of : SplitError → List ℕ
values_of (E.Short n) = n ∷ []
values_of E.NoTables = []
values_of E.CodeChanged = []
values_of E.NothingUsed = []

-- the code's answers, in these terms
unfoldable pub said_by : Result ℕ SplitError → Said
said_by (Ok n) = taken S.Nothing n
said_by (Err e) = refused (number_of e) (values_of e)

-- some meter's code changed from heat or to heat
unfoldable pub any_changed : Table → Table → Bool
any_changed s e = any_below (code_changed s e) meters

-- with room for so many bytes
unfoldable pub split_of : Table → Table → ℕ → Told
split_of s e room =
    turn_down (any_changed s e) 18 []
    (turn_down (eqb (total (gain s e)) 0) 19 []
    (turn_down (ltb room (length (split_text s e))) 3 (length (split_text s e) ∷ [])
    (record { said = taken S.Nothing (length (split_text s e)); put = split_text s e })))

unfoldable pub heat_split : List ℕ → ℕ → Told
heat_split b room = turn_down (not (two_tables b)) 4 [] (split_of (start_table b) (end_table b) room)

-- ---- what the program prints

-- refused, a blank, the number
unfoldable pub refused_line : ℕ → List ℕ
refused_line n = 114 ∷ 101 ∷ 102 ∷ 117 ∷ 115 ∷ 101 ∷ 100 ∷ 32 ∷ (numeral n ++ (newline ∷ []))

unfoldable pub shown_by : Said → List ℕ → List ℕ
shown_by (refused n vs) put = refused_line n
shown_by (taken st n) put = put

-- of all the input
unfoldable pub printed : List ℕ → List ℕ
printed b = shown_by (heat_split b text_max).said (heat_split b text_max).put
