-- 02, CR 5: "From a table at the start and one at the end of the year, for each heat meter present in both .. what it used". "Used is end minus
-- start, signed. A negative use gets share 0 and is left out of the total." "It refuses .. with 18 a meter present in both that is heat in one table
-- and another code in the other".
-- Assumes nothing.
use Rattle.std.specs.Prelude.{ℕ, ◌^◌, ◌<◌, ◌≡◌, List, Option, Some, None, Result, Ok, Err, slice_index_or, is_some, Bool, not, cond, ◌&&◌, ◌||◌, eqb, ℤ, pos, negsuc, ◌-ℤ◌}
use Rattle.std.specs.Int.Signed.{mag}
use Rattle.transaction.specs.Transaction.{meters}
use Rattle.table.specs.declared.Entry.{Entry}
use Rattle.table.specs.declared.Table.{Table}
use Rattle.table.specs.Table.{entry_for}
use Rattle.heat.specs.declared.SplitError.{SplitError}
use Rattle.heat.specs.declared.SplitError.TheVariants as E

-- 01, Layouts, codes: "3 heat, kWh"
abbrev pub heat_code : ℕ
heat_code = 3

abbrev pub is_heat : Entry → Bool
is_heat e = eqb e.code heat_code

-- ---- of a meter's two entries, the start's and the end's

abbrev pub in_both : Entry → Entry → Bool
in_both a b = a.present && b.present

-- a heat meter present in both
unfoldable pub heat_in_both : Entry → Entry → Bool
heat_in_both a b = in_both a b && is_heat a && is_heat b

-- present in both, heat in one and another code in the other
unfoldable pub heat_in_one : Entry → Entry → Bool
heat_in_one a b = in_both a b && ((is_heat a && not (is_heat b)) || (not (is_heat a) && is_heat b))

-- end minus start
unfoldable pub difference : Entry → Entry → ℤ
difference a b = b.reading -ℤ a.reading

-- what of a use is in the total: nothing of a negative one
unfoldable pub counted : ℤ → ℕ
counted (pos n) = n
counted (negsuc n) = 0

-- ---- of two tables, the start's first, by meter

-- the meter has a line
unfoldable pub listed : Table → Table → ℕ → Bool
listed s e m = heat_in_both (entry_for s m) (entry_for e m)

-- its code changed from heat or to heat
unfoldable pub code_changed : Table → Table → ℕ → Bool
code_changed s e m = heat_in_one (entry_for s m) (entry_for e m)

unfoldable pub used : Table → Table → ℕ → ℤ
used s e m = difference (entry_for s m) (entry_for e m)

-- what it adds to the total
unfoldable pub gain : Table → Table → ℕ → ℕ
gain s e m = cond (listed s e m) (counted (used s e m)) 0

-- ---- what a meter used, where it has a line: None where it has none

-- by its two entries; or that its code changed
unfoldable pub use_by : Entry → Entry → Result (Option ℤ) SplitError
use_by a b = cond (heat_in_one a b) (Err E.CodeChanged) (Ok (cond (heat_in_both a b) (Some (difference a b)) None))

unfoldable pub use_at : Table → Table → ℕ → Option ℤ
use_at s e m = cond (listed s e m) (Some (used s e m)) None

-- what it adds to the total
unfoldable pub gain_of : Option ℤ → ℕ
gain_of None = 0
gain_of (Some z) = counted z

-- in a list by meter
abbrev pub use_in : List (Option ℤ) → ℕ → Option ℤ
use_in us m = slice_index_or us m None

-- the list has what each meter used by two tables
abbrev pub AreUses : Table → Table → List (Option ℤ) → Type 0
AreUses s e us = (m : ℕ) → m < meters → use_in us m ≡ use_at s e m

-- a difference of two readings of 32 bits has 33
abbrev pub SmallUse : Option ℤ → Type 0
SmallUse u = (z : ℤ) → u ≡ Some z → mag z < 2 ^ 32

abbrev pub AreSmall : List (Option ℤ) → Type 0
AreSmall us = (m : ℕ) → SmallUse (use_in us m)

-- which meters have a line, and what each adds to the total, by a list
abbrev pub listed_in : List (Option ℤ) → ℕ → Bool
listed_in us m = is_some (use_in us m)

abbrev pub gains_in : List (Option ℤ) → ℕ → ℕ
gains_in us m = gain_of (use_in us m)
