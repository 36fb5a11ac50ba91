-- What holds of the definitions of CR 5, whatever the tables. What a meter is, who gets a unit, and what the lines say stand here in words, and not
-- as the tests that the definitions use, so that a definition that lists, shares or prints wrongly is found out. The proof is in proofs/Theorem.antt.
-- Assumes nothing.
use Rattle.std.specs.Prelude.{ℕ, suc, ◌+◌, ◌≤◌, ◌<◌, ◌≡◌, true, ◌⊎◌, ℤ, pos, ◌-ℤ◌, length, take, set, replicate, ◌≤ℤ◌, ◌<ℤ◌}
use mathlib.Core.List.{List, [], ◌∷◌, ◌++◌, Memᴰ}
use Rattle.octets.specs.Lists.{at}
use Rattle.transaction.specs.Transaction.{meters}
use Rattle.table.specs.declared.Entry.{Entry}
use Rattle.table.specs.declared.Table.{Table}
use Rattle.table.specs.Table.{no_entry, entry_for}
use Rattle.table.specs.Canonical.{CanonicalTable}
use Rattle.table.specs.TableText.{table_text}
use Rattle.protocol.specs.Said.{refused}
use Rattle.heat.specs.Uses.{heat_code, used, gain}
use Rattle.heat.specs.Shares.{house, total, floor, remainder}
use Rattle.heat.specs.Numerals.{numeral, signed_numeral}
use Rattle.heat.specs.Text.{heading, share_of, split_text, text_max}
use Rattle.heat.specs.Rows.{Row, number_in, signed_in, rows_in}
use Rattle.heat.specs.Answer.{split_of, heat_split, printed}

-- ---- which meters

-- "heat meter present in both"
pub record HeatInBoth (s e : Table) (m : ℕ) : Type 0 where
  pub in_start : (entry_for s m).present ≡ true
  pub in_end : (entry_for e m).present ≡ true
  pub heat_in_start : (entry_for s m).code ≡ heat_code
  pub heat_in_end : (entry_for e m).code ≡ heat_code

-- "a meter present in both that is heat in one table and another code in the other"
pub record HeatInOne (s e : Table) (m : ℕ) : Type 0 where
  pub in_start : (entry_for s m).present ≡ true
  pub in_end : (entry_for e m).present ≡ true
  pub changed : (((entry_for s m).code ≡ heat_code) × ((entry_for e m).code ≡ heat_code → ⊥)) ⊎ (((entry_for s m).code ≡ heat_code → ⊥) × ((entry_for e m).code ≡ heat_code))

-- ---- the lines, as they are read back

pub record HasLine (text : List ℕ) (m : ℕ) : Type 0 where
  pub row : Row
  pub among : Memᴰ row (rows_in text)
  pub its : row.meter ≡ m

-- "by meter number": the meters rise, from low on and below high
unfoldable pub Rising : ℕ → ℕ → List Row → Type 0
Rising low high [] = Unit {0}
Rising low high (r ∷ rs) = (low ≤ r.meter) × (r.meter < high) × Rising (suc r.meter) high rs

unfoldable pub shares_in : List Row → ℕ
shares_in [] = 0
shares_in (r ∷ rs) = r.share + shares_in rs

-- ---- the units that are missing

-- k comes before m: "to the largest remainders, lower meter first among equals"
pub data Sooner (r : ℕ → ℕ) (k m : ℕ) : Type 0 where
  larger : r m < r k → Sooner r k m
  lower : r m ≡ r k → k < m → Sooner r k m

-- ---- two tables with something to share

abbrev pub SomeUse : Table → Table → Type 0
SomeUse s e = total (gain s e) ≡ 0 → ⊥

-- ---- the request's example: "With meters 4, 9 and 200 going from 10 to 11 and meter 12 from 5 to 3"

abbrev pub heat_at : ℕ → Entry
heat_at n = record { stamp = 0; number = 0; reading = pos n; code = heat_code; lane = 0; present = true }

abbrev pub house_of : ℕ → ℕ → Table
house_of most twelve = record { entries = set (set (set (set (replicate meters no_entry) 4 (heat_at most)) 9 (heat_at most)) 12 (heat_at twelve)) 200 (heat_at most) }

-- 4,1,333334  9,1,333333  12,-2,0  200,1,333333
abbrev pub example_text : List ℕ
example_text =
    heading ++ (52 ∷ 44 ∷ 49 ∷ 44 ∷ 51 ∷ 51 ∷ 51 ∷ 51 ∷ 51 ∷ 52 ∷ 10 ∷ 57 ∷ 44 ∷ 49 ∷ 44 ∷ 51 ∷ 51 ∷ 51 ∷ 51 ∷ 51 ∷ 51 ∷ 10 ∷ 49 ∷ 50 ∷ 44 ∷ 45 ∷ 50 ∷ 44 ∷ 48 ∷ 10 ∷ 50 ∷ 48 ∷ 48 ∷ 44 ∷ 49 ∷ 44 ∷ 51 ∷ 51 ∷ 51 ∷ 51 ∷ 51 ∷ 51 ∷ 10 ∷ [])

-- ---- the claim

pub record HeatClaim : Type 0 where
  -- "for each heat meter present in both, print what it used and its share": such a meter has a line, no other has, and each line says that
  pub heat_has_line : (s e : Table) (m : ℕ) → m < meters → HeatInBoth s e m → HasLine (split_text s e) m
  pub line_is_heat : (s e : Table) (m : ℕ) → HasLine (split_text s e) m → HeatInBoth s e m
  pub line_says : (s e : Table) (r : Row) → Memᴰ r (rows_in (split_text s e))
      → (r.used ≡ (entry_for e r.meter).reading -ℤ (entry_for s r.meter).reading) × (r.share ≡ share_of s e r.meter)
  pub by_meter_number : (s e : Table) → Rising 0 meters (rows_in (split_text s e))
  -- a printed number read back is the number
  pub number_reads_back : (n : ℕ) → number_in (numeral n) ≡ n
  pub signed_reads_back : (z : ℤ) → signed_in (signed_numeral z) ≡ z
  -- "Shares always add up to 1,000,000", as they are printed
  pub shares_add_up : (s e : Table) → SomeUse s e → shares_in (rows_in (split_text s e)) ≡ house
  -- "Shares are rounded down; the missing units go one each to the largest remainders, lower meter first among equals"
  pub floor_or_one_more : (s e : Table) (m : ℕ) → SomeUse s e → m < meters
      → (share_of s e m ≡ floor (gain s e) m) ⊎ ((share_of s e m ≡ floor (gain s e) m + 1) × (remainder (gain s e) m ≡ 0 → ⊥))
  pub units_to_the_largest : (s e : Table) (k m : ℕ) → share_of s e m ≡ floor (gain s e) m + 1 → share_of s e k ≡ floor (gain s e) k
      → Sooner (remainder (gain s e)) m k
  -- "A negative use gets share 0", and so does one of 0
  pub no_use_no_share : (s e : Table) (m : ℕ) → SomeUse s e → m < meters → used s e m ≤ℤ pos 0 → share_of s e m ≡ 0
  -- of two that are listed: equal uses differ by one at the most, for the lower meter; a greater use has no smaller share
  pub equal_uses : (s e : Table) (k m : ℕ) → k < m → m < meters → HeatInBoth s e k → HeatInBoth s e m → used s e k ≡ used s e m
      → (share_of s e m ≤ share_of s e k) × (share_of s e k ≤ share_of s e m + 1)
  pub greater_use : (s e : Table) (k m : ℕ) → SomeUse s e → k < meters → m < meters → HeatInBoth s e k → HeatInBoth s e m → used s e k <ℤ used s e m
      → share_of s e k ≤ share_of s e m
  -- 18 exactly if some meter is heat in one of the two alone
  pub changed_is_18 : (s e : Table) (room m : ℕ) → m < meters → HeatInOne s e m → (split_of s e room).said ≡ refused 18 []
  pub unchanged_no_18 : (s e : Table) (room : ℕ) → ((m : ℕ) → m < meters → HeatInOne s e m → ⊥) → (split_of s e room).said ≡ refused 18 [] → ⊥
  -- the tables are read from their texts, and the text of a split has 6,161 bytes at the most
  pub of_the_texts : (s e : Table) (room : ℕ) → CanonicalTable s → CanonicalTable e → heat_split (table_text s ++ table_text e) room ≡ split_of s e room
  pub text_is_short : (s e : Table) → CanonicalTable s → CanonicalTable e → (length (split_text s e) ≤ text_max) × (text_max ≡ 6161)
  -- so the program, whose room that is, never says 3, whatever bytes it reads
  pub never_3 : (b : List ℕ) (n : ℕ) → ((i : ℕ) → at b i < 256) → (heat_split b text_max).said ≡ refused 3 (n ∷ []) → ⊥
  -- a longer input than two tables is refused by its first 12,289 bytes
  pub first_bytes_decide : (b : List ℕ) → printed (take 12289 b) ≡ printed b
  -- the request's example
  pub example : printed (table_text (house_of 10 5) ++ table_text (house_of 11 3)) ≡ example_text
