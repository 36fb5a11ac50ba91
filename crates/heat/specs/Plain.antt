-- The plain table that the split reads (02, CR 5: "the two plain tables .., 6,144 bytes each"): a table's text, put out with room for so many bytes.
-- "Lent outputs need room for just what they get" (CR 1): 3, with the length needed.
-- Assumes nothing.
use Rattle.std.specs.Prelude.{ℕ, Result, Ok, Err, [], ◌∷◌, ltb}
use Rattle.table.specs.declared.Table.{Table}
use Rattle.table.specs.TableText.{table_len, table_text}
use Rattle.protocol.specs.declared.Store.TheVariants as S
use Rattle.protocol.specs.Said.{Said, refused, taken, Told, turn_down}
use Rattle.heat.specs.declared.NoRoom.{NoRoom}

-- the numbers and values of the code's answers
unfoldable pub plain_by : Result (Unit {0}) NoRoom → Said
plain_by (Ok _) = taken S.Nothing table_len
plain_by (Err _) = refused 3 (table_len ∷ [])

unfoldable pub plain_table : Table → ℕ → Told
plain_table t room = turn_down (ltb room table_len) 3 (table_len ∷ []) (record { said = taken S.Nothing table_len; put = table_text t })
