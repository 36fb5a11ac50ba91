-- 01, The list, the book and the card: "The book's table has for each meter the latest of all writes to it in the book: the write's code and
-- reading, with the stamp, lane and number of its transaction. A meter without a write has no reading." Here as a statement about one meter's
-- entry, in which the book is a set and the order of its records plays no part.
-- Assumes nothing.
use Rattle.std.specs.Prelude.{ℕ, ◌≡◌, false}
use mathlib.Core.List.{List, Memᴰ}
use Rattle.std.proofs.Math.Option.{some}
use Rattle.table.specs.declared.Entry.{Entry}
use Rattle.table.specs.Order.{later}
use Rattle.table.specs.Table.{no_entry}
use Rattle.table.specs.Written.{written}
use Rattle.sealed.specs.Record.{Opened}

-- the transaction of a record writes e to meter m
abbrev pub Writes : Opened → ℕ → Entry → Type 0
Writes r m e = written r.text r.lane r.number m ≡ some e

-- e is the latest of all writes to meter m in the book b: there is none, and no reading; or e is one of them, and none of them is later
pub data LatestOf (b : List Opened) (m : ℕ) (e : Entry) : Type 0 where
  unwritten : ((r : Opened) (d : Entry) → Memᴰ r b → Writes r m d → ⊥) → e ≡ no_entry → LatestOf b m e
  written_by : (r : Opened) → Memᴰ r b → Writes r m e → ((y : Opened) (d : Entry) → Memᴰ y b → Writes y m d → later d e ≡ false) → LatestOf b m e
