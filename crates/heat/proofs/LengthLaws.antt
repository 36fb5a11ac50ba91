-- Tables read from their texts, how long the text of their split is, and what the first bytes of an input decide.
-- Assumes nothing.
use Prim.Native.Nat.{ℕ, zero, suc, ◌*◌, ◌^◌, ◌<◌, ◌≤◌}
use mathlib.Core.Path.{◌≡◌, refl, sym, ap, ap₂, ◌∙◌}
use mathlib.Core.Bool.{Bool, true, false, cond}
use mathlib.Core.List.{List, [], ◌∷◌, ◌++◌}
use native.Mathlib.Omega.{arith}
use lib.Dec.{ltb}
use lib.ListN.{length, get_or, take, drop, length-append}
use lib.Seq.{take_all, take_at, drop_at, length-take-le}
use lib.Signed.{mag}
use borrow.Author.Tests.{ltb-true, ltb-false}
use Rattle.octets.proofs.BoolLaws.{and_left, and_right}
use Rattle.transaction.specs.Transaction.{meters}
use Rattle.table.specs.declared.Entry.{Entry}
use Rattle.table.specs.declared.Table.{Table}
use Rattle.table.specs.Table.{entry_for}
use Rattle.table.specs.Canonical.{Canonical, absent, present, CanonicalTable}
use Rattle.table.specs.TableText.{table_len, table_text, is_table, table_from}
use Rattle.table.proofs.TextLaws.{length_table}
use Rattle.table.proofs.RoundTrip.{text_is_table, table_back, from_canonical}
use Rattle.protocol.specs.Said.{Told}
use Rattle.heat.specs.Uses.{listed, difference, used, gain}
use Rattle.heat.specs.Shares.{share}
use Rattle.heat.specs.Text.{line, share_of, line_of, lines_below, split_text, line_max, text_max}
use Rattle.heat.specs.Answer.{start_bytes, end_bytes, start_table, end_table, two_tables, split_of, heat_split, shown_by, printed}
use Rattle.heat.proofs.SignedLaws.{difference_small}
use Rattle.heat.proofs.ShareLaws.{share_most}
use Rattle.heat.proofs.TextLaws.{length_line, length_split}
use Rattle.heat.proofs.SplitLaws.{other_length, answer_none, answer_split}

-- ---- how long

small_reading : (e : Entry) → Canonical e → mag e.reading < 2 ^ 31
small_reading e (absent q) = rw q (omega arith)
small_reading e (present p) = p.reading

module _ (s e : Table) (cs : CanonicalTable s) (ce : CanonicalTable e) where
  small_use : (m : ℕ) → mag (used s e m) < 2 ^ 32
  unfolding used difference
  small_use m = difference_small (entry_for s m).reading (entry_for e m).reading (small_reading (entry_for s m) (cs.all.each m)) (small_reading (entry_for e m) (ce.all.each m))

  length_one : (m : ℕ) → m < meters → length (line_of s e m) ≤ line_max
  unfolding line_of share_of
  length_one m h = go (listed s e m)
    where
      go : (t : Bool) → length (cond t (line m (used s e m) (share (listed s e) (gain s e) m)) []) ≤ line_max
      go true = length_line m (used s e m) (share (listed s e) (gain s e) m) h (small_use m) (share_most (listed s e) (gain s e) m h)
      go false = omega arith

  length_lines : (n : ℕ) → n ≤ meters → length (lines_below s e n) ≤ line_max * n
  unfolding lines_below
  length_lines zero h = omega arith
  length_lines (suc n) h =
      let a = length-append (lines_below s e n) (line_of s e n) in
      let b = length_lines n (omega arith) in
      let c = length_one n (omega arith) in
      omega arith

  pub text_is_short : length (split_text s e) ≤ text_max
  text_is_short = let a = length_split s e in let b = length_lines meters (omega arith) in omega arith

-- ---- from their texts

module _ (s e : Table) (cs : CanonicalTable s) (ce : CanonicalTable e) where
  first_text : take table_len (table_text s ++ table_text e) ≡ table_text s
  first_text = take_at (table_text s) (table_text e) table_len (length_table s cs.long)

  second_text : drop table_len (table_text s ++ table_text e) ≡ table_text e
  second_text = drop_at (table_text s) (table_text e) table_len (length_table s cs.long)

  pub of_the_texts : (room : ℕ) → heat_split (table_text s ++ table_text e) room ≡ split_of s e room
  of_the_texts room =
      answer_split (table_text s ++ table_text e) room two
      ∙ ap₂ (λ (x y : Table). split_of x y room) (ap table_from first_text ∙ table_back s cs) (ap table_from second_text ∙ table_back e ce)
    where
      two : two_tables (table_text s ++ table_text e) ≡ true
      two = unfold two_tables in rw (first_text, second_text, text_is_table s cs, text_is_table e ce)

-- ---- of any bytes there is room

take_bytes : (n : ℕ) (b : List ℕ) → ((i : ℕ) → get_or b i 0 < 256) → (i : ℕ) → get_or (take n b) i 0 < 256
take_bytes zero b h i = omega arith
take_bytes (suc n) [] h i = omega arith
take_bytes (suc n) (x ∷ b) h zero = h zero
take_bytes (suc n) (x ∷ b) h (suc i) = take_bytes n b (λ j. h (suc j)) i

drop_bytes : (n : ℕ) (b : List ℕ) → ((i : ℕ) → get_or b i 0 < 256) → (i : ℕ) → get_or (drop n b) i 0 < 256
drop_bytes zero b h i = h i
drop_bytes (suc n) [] h i = omega arith
drop_bytes (suc n) (x ∷ b) h i = drop_bytes n b (λ j. h (suc j)) i

pub room_enough : (b : List ℕ) → ((i : ℕ) → get_or b i 0 < 256) → two_tables b ≡ true → length (split_text (start_table b) (end_table b)) ≤ text_max
unfolding two_tables
room_enough b h t =
    let first = and_left (is_table (start_bytes b)) (is_table (end_bytes b)) t in
    let second = and_right (is_table (start_bytes b)) (is_table (end_bytes b)) t in
    text_is_short (start_table b) (end_table b) (from_canonical (start_bytes b) (take_bytes table_len b h) first) (from_canonical (end_bytes b) (drop_bytes table_len b h) second)

-- ---- the first bytes

pub first_bytes_decide : (b : List ℕ) → printed (take 12289 b) ≡ printed b
unfolding printed
first_bytes_decide b = go (ltb 12288 (length b)) refl
  where
    show : Told → List ℕ
    show t = shown_by t.said t.put

    go : (t : Bool) → ltb 12288 (length b) ≡ t → show (heat_split (take 12289 b) text_max) ≡ show (heat_split b text_max)
    go true h =
        let l = ltb-true 12288 (length b) h in
        let n = length-take-le 12289 b (omega arith) in
        ap show (answer_none (take 12289 b) text_max (other_length (take 12289 b) (λ q. omega arith)) ∙ sym (answer_none b text_max (other_length b (λ q. omega arith))))
    go false h = let l = ltb-false 12288 (length b) h in ap (λ (x : List ℕ). show (heat_split x text_max)) (take_all 12289 b (omega arith))
