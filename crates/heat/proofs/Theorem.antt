-- The claim about CR 5, from the laws.
-- Assumes nothing.
use Prim.Native.Nat.{ℕ, zero, suc, ◌^◌, ◌<◌}
use mathlib.Core.Path.{◌≡◌, refl, sym, ap, subst, ◌∙◌}
use mathlib.Core.Bool.{Bool, true, false, not}
use mathlib.Core.List.{List, [], ◌∷◌, ◌++◌, Memᴰ}
use native.Mathlib.Omega.{arith}
use lib.Dec.{ltb, eqb}
use lib.IntN.{◌-ℤ◌}
use borrow.Author.Tests.{not-false, ltb-true}
use lib.ListN.{length, get_or, set, replicate}
use Rattle.transaction.specs.Transaction.{meters}
use Rattle.table.specs.declared.Entry.{Entry}
use Rattle.table.specs.declared.Table.{Table}
use Rattle.table.specs.Table.{no_entry, entry_for}
use Rattle.table.specs.Canonical.{Canonical, absent, present, CanonicalTable}
use Rattle.table.specs.TableText.{table_text}
use Rattle.protocol.specs.declared.Store.TheVariants as S
use Rattle.protocol.specs.Said.{refused, taken, Told, turn_down}
use Rattle.protocol.specs.Sheet.{number}
use Rattle.heat.specs.Uses.{difference, used, gain}
use Rattle.heat.specs.Shares.{total}
use Rattle.heat.specs.Text.{share_of, split_text, text_max}
use Rattle.heat.specs.Rows.{Row, rows_below, rows_in}
use Rattle.heat.specs.Answer.{start_table, end_table, two_tables, number_of, values_of, said_by, any_changed, split_of, heat_split, shown_by, printed}
use Rattle.heat.specs.Claim.{HeatInBoth, HasLine, Rising, shares_in, heat_at, house_of, HeatClaim}
use Rattle.heat.proofs.ListedLaws as uses
use Rattle.heat.proofs.RowLaws.{number_reads_back, signed_reads_back, text_reads_back, row_is_listed, listed_has_row, rows_rise, shares_in_rows}
use Rattle.heat.proofs.SplitLaws.{answer_changed, answer_written}
use Rattle.heat.proofs.LengthLaws.{text_is_short, of_the_texts, room_enough, first_bytes_decide}
use Rattle.heat.proofs.ExampleLaws as the_example

-- ---- the lines

module _ (s e : Table) where
  row_read : (r : Row) → Memᴰ r (rows_in (split_text s e)) → Memᴰ r (rows_below s e meters)
  row_read r h = subst (λ (rs : List Row). Memᴰ r rs) (text_reads_back s e) h

  has_line : (m : ℕ) → m < meters → HeatInBoth s e m → HasLine (split_text s e) m
  has_line m h b = record {
    row = record { meter = m; used = used s e m; share = share_of s e m };
    among = subst (λ (rs : List Row). Memᴰ (record { meter = m; used = used s e m; share = share_of s e m }) rs) (sym (text_reads_back s e)) (listed_has_row s e meters m h (uses.heat_listed s e m b));
    its = refl;
  }

  is_heat_law : (m : ℕ) → HasLine (split_text s e) m → HeatInBoth s e m
  is_heat_law m l = subst (HeatInBoth s e) l.its (uses.listed_heat s e l.row.meter (row_is_listed s e meters l.row (row_read l.row l.among)).1)

  says : (r : Row) → Memᴰ r (rows_in (split_text s e)) → (r.used ≡ (entry_for e r.meter).reading -ℤ (entry_for s r.meter).reading) × (r.share ≡ share_of s e r.meter)
  unfolding used difference
  says r h = let f = row_is_listed s e meters r (row_read r h) in (f.2, f.3)

-- ---- 18

-- of what the chain says, only its first refusal is 18
by_18 : (a b c : Bool) (n : ℕ) (put : List ℕ)
    → number (turn_down a 18 [] (turn_down b 19 [] (turn_down c 3 (n ∷ []) (record { said = taken S.Nothing n; put = put })))).said ≡ 18 → a ≡ true
unfolding turn_down number
by_18 true b c n put h = refl
by_18 false true c n put h = absurd (omega arith)
by_18 false false true n put h = absurd (omega arith)
by_18 false false false n put h = absurd (omega arith)

said_18 : (s e : Table) (room : ℕ) → (split_of s e room).said ≡ refused 18 [] → any_changed s e ≡ true
unfolding split_of number
said_18 s e room h = by_18 (any_changed s e) (eqb (total (gain s e)) 0) (ltb room (length (split_text s e))) (length (split_text s e)) (split_text s e) (ap number h)

changed_18 : (s e : Table) (room : ℕ) → any_changed s e ≡ true → (split_of s e room).said ≡ refused 18 []
unfolding said_by number_of values_of
changed_18 s e room h = ap (λ (t : Told). t.said) (answer_changed s e room h)

-- ---- 3

-- of what the chain says, only its last refusal is 3
by_3 : (o a b c : Bool) (n : ℕ) (put : List ℕ)
    → number (turn_down o 4 [] (turn_down a 18 [] (turn_down b 19 [] (turn_down c 3 (n ∷ []) (record { said = taken S.Nothing n; put = put }))))).said ≡ 3 → (o ≡ false) × (c ≡ true)
unfolding turn_down number
by_3 true a b c n put h = absurd (omega arith)
by_3 false true b c n put h = absurd (omega arith)
by_3 false false true c n put h = absurd (omega arith)
by_3 false false false true n put h = (refl, refl)
by_3 false false false false n put h = absurd (omega arith)

no_3 : (b : List ℕ) (n : ℕ) → ((i : ℕ) → get_or b i 0 < 256) → (heat_split b text_max).said ≡ refused 3 (n ∷ []) → ⊥
unfolding heat_split split_of number
no_3 b n bytes h =
    let s = start_table b in
    let e = end_table b in
    let k = length (split_text s e) in
    let f = by_3 (not (two_tables b)) (any_changed s e) (eqb (total (gain s e)) 0) (ltb text_max k) k (split_text s e) (ap number h) in
    let short = ltb-true text_max k f.1 in
    let room = room_enough b bytes (not-false (two_tables b) f.0) in
    omega arith

-- ---- the example's tables

none_there : (n k : ℕ) → get_or (replicate n no_entry) k no_entry ≡ no_entry
none_there zero k = refl
none_there (suc n) zero = refl
none_there (suc n) (suc k) = none_there n k

put_there : (es : List Entry) (m k : ℕ) (x : Entry) → ((j : ℕ) → Canonical (get_or es j no_entry)) → Canonical x → Canonical (get_or (set es m x) k no_entry)
put_there [] m k x h c = h k
put_there (y ∷ es) zero zero x h c = c
put_there (y ∷ es) zero (suc k) x h c = h (suc k)
put_there (y ∷ es) (suc m) zero x h c = h zero
put_there (y ∷ es) (suc m) (suc k) x h c = put_there es m k x (λ j. h (suc j)) c

heat_canonical : (n : ℕ) → n < 2 ^ 31 → Canonical (heat_at n)
heat_canonical n h = present (record { here = refl; code_low = omega arith; code_high = omega arith; lane = omega arith; stamp = omega arith; number = omega arith; reading = h })

house_canonical : (a b : ℕ) → a < 2 ^ 31 → b < 2 ^ 31 → CanonicalTable (house_of a b)
house_canonical a b ha hb = record { long = refl; all = record { each = λ k. put_there (set (set (set none 4 x) 9 x) 12 y) 200 k x (λ k. put_there (set (set none 4 x) 9 x) 12 k y (λ k. put_there (set none 4 x) 9 k x (λ k. put_there none 4 k x (λ k. absent (none_there meters k)) cx) cx) cy) cx } }
  where
    none : List Entry
    none = replicate meters no_entry

    x : Entry
    x = heat_at a

    y : Entry
    y = heat_at b

    cx : Canonical x
    cx = heat_canonical a ha

    cy : Canonical y
    cy = heat_canonical b hb

-- ---- the example

shown_text : (s e : Table) → CanonicalTable s → CanonicalTable e → any_changed s e ≡ false → (total (gain s e) ≡ 0 → ⊥) → printed (table_text s ++ table_text e) ≡ split_text s e
unfolding printed shown_by said_by
shown_text s e cs ce c t = ap (λ (x : Told). shown_by x.said x.put) (of_the_texts s e cs ce text_max ∙ answer_written s e text_max c t refl (text_is_short s e cs ce))

-- ---- the claim

pub heat_claim : HeatClaim
heat_claim = record {
  heat_has_line = has_line;
  line_is_heat = is_heat_law;
  line_says = says;
  by_meter_number = λ s e. subst (Rising 0 meters) (sym (text_reads_back s e)) (rows_rise s e meters);
  number_reads_back = number_reads_back;
  signed_reads_back = signed_reads_back;
  shares_add_up = λ s e some. ap shares_in (text_reads_back s e) ∙ shares_in_rows s e meters ∙ uses.shares_add_up s e some;
  floor_or_one_more = λ s e m some h. uses.floor_or_one_more s e some m h;
  units_to_the_largest = uses.units_to_the_largest;
  no_use_no_share = λ s e m some h z. uses.no_use_no_share s e some m h z;
  equal_uses = uses.equal_uses;
  greater_use = λ s e k m some hk hm bk bm z. uses.greater_use s e some k m hk hm bk bm z;
  changed_is_18 = λ s e room m h c. changed_18 s e room (uses.any_changed_law s e m h c);
  unchanged_no_18 = λ s e room h q. uses.none_changed s e h (said_18 s e room q);
  of_the_texts = λ s e room cs ce. of_the_texts s e cs ce room;
  text_is_short = λ s e cs ce. (text_is_short s e cs ce, refl);
  never_3 = no_3;
  first_bytes_decide = first_bytes_decide;
  example =
      shown_text (house_of 10 5) (house_of 11 3) (house_canonical 10 5 (omega arith) (omega arith)) (house_canonical 11 3 (omega arith) (omega arith)) the_example.none_changed the_example.some_use
      ∙ the_example.example_lines;
}
