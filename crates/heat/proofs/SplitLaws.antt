-- What `heat_split` answers: the shares by the arrays that the code has, and each answer from the tests that lead to it.
-- Assumes nothing.
use Prim.Native.Nat.{ℕ, ◌<◌, ◌≤◌}
use mathlib.Core.Path.{◌≡◌, refl, sym, ap, ap₂, ◌∙◌}
use mathlib.Core.Bool.{Bool, true, false, cond}
use mathlib.Core.List.{List, []}
use native.Mathlib.Omega.{arith}
use lib.Dec.{eqb}
use lib.ListN.{length, take, drop, length-take, length-drop}
use lib.Seq.{take_at}
use borrow.Author.Tests.{eqb-true, eq-eqb, ne_eqb, lt-ltb, le-ltb}
use Rattle.octets.specs.Lists.{at, over}
use Rattle.octets.proofs.CopyLaws.{over_room}
use Rattle.octets.proofs.BoolLaws.{and_left, and_right, and_false}
use Rattle.transaction.specs.Transaction.{meters}
use Rattle.table.specs.declared.Table.{Table}
use Rattle.table.specs.TableText.{table_len, legal_entries, is_table}
use Rattle.protocol.specs.Said.{Told, turn_down}
use Rattle.heat.specs.Uses.{listed, gain, gain_of, AreUses, listed_in, gains_in}
use Rattle.heat.specs.Shares.{total, share}
use Rattle.heat.specs.Text.{share_of, split_text}
use Rattle.heat.specs.Answer.{start_bytes, end_bytes, two_tables, start_table, end_table, year_of, number_of, values_of, said_by, any_changed, split_of, heat_split}
use Rattle.std.specs.Prelude.{ℤ, Option, Some, None, is_some, Ok, Err}
use Rattle.heat.specs.declared.SplitError.{SplitError}
use Rattle.heat.specs.declared.SplitError.TheVariants as E
use Rattle.heat.proofs.ShareLaws.{total_same, share_same}
use Rattle.heat.proofs.UsesLaws.{use_listed, use_gain}

-- ---- the shares, by what each meter used

module _ (s e : Table) (us : List (Option ℤ)) (are : AreUses s e us) where
  listed_found : (m : ℕ) → m < meters → listed_in us m ≡ listed s e m
  listed_found m h = ap is_some (are m h) ∙ use_listed s e m

  gain_found : (m : ℕ) → m < meters → gains_in us m ≡ gain s e m
  gain_found m h = ap gain_of (are m h) ∙ use_gain s e m

  pub total_found : total (gains_in us) ≡ total (gain s e)
  total_found = total_same (gains_in us) (gain s e) gain_found

  module _ (ps : List ℕ) (q : (m : ℕ) → m < meters → at ps m ≡ cond (listed_in us m) (share (listed_in us) (gains_in us) m) 0) where
    pub shares_found : (m : ℕ) → m < meters → at ps m ≡ cond (listed s e m) (share_of s e m) 0
    unfolding share_of
    shares_found m h =
        q m h ∙ ap₂ (λ (t : Bool) (y : ℕ). cond t y 0) (listed_found m h) (share_same (listed_in us) (listed s e) (gains_in us) (gain s e) listed_found gain_found m h)

-- ---- the text, where it was put

pub text_there : {x t : List ℕ} (d : List ℕ) {last : List ℕ} {n : ℕ} → last ≡ over x d → x ≡ t → n ≡ length x → n ≤ length d → take n last ≡ t
text_there {x} d {last} {n} e q h r = ap₂ take h (e ∙ over_room x d (omega arith)) ∙ take_at x (drop (length x) d) (length x) refl ∙ q

-- ---- the answers

-- turned down, with nothing put out
abbrev pub turned : SplitError → Told
turned h = record { said = said_by (Err h); put = [] }

module _ (s e : Table) (room : ℕ) where
  pub answer_changed : any_changed s e ≡ true → split_of s e room ≡ turned E.CodeChanged
  unfolding split_of turn_down said_by number_of values_of
  answer_changed c = rw c

  module _ (c : any_changed s e ≡ false) where
    pub answer_nothing : total (gain s e) ≡ 0 → split_of s e room ≡ turned E.NothingUsed
    unfolding split_of turn_down said_by number_of values_of
    answer_nothing t = rw (c, eq-eqb (total (gain s e)) 0 t)

    module _ (t : total (gain s e) ≡ 0 → ⊥) {n : ℕ} (long : n ≡ length (split_text s e)) where
      pub answer_short : room < n → split_of s e room ≡ turned (E.Short n)
      unfolding split_of turn_down said_by number_of values_of
      answer_short h = rw (c, ne_eqb (total (gain s e)) 0 t, ← long, lt-ltb room n h)

      pub answer_written : n ≤ room → split_of s e room ≡ record { said = said_by (Ok n); put = split_text s e }
      unfolding split_of turn_down said_by
      answer_written h = rw (c, ne_eqb (total (gain s e)) 0 t, ← long, le-ltb room n h)

-- ---- of any bytes

is_long : (b : List ℕ) → is_table b ≡ true → length b ≡ table_len
unfolding is_table
is_long b h = eqb-true (length b) table_len (and_left (eqb (length b) table_len) (legal_entries meters b) h)

module _ (b : List ℕ) where
  -- two tables have twice a table's bytes
  pub two_long : two_tables b ≡ true → length b ≡ 12288
  unfolding two_tables
  two_long h =
      let p = is_long (start_bytes b) (and_left (is_table (start_bytes b)) (is_table (end_bytes b)) h) in
      let q = is_long (end_bytes b) (and_right (is_table (start_bytes b)) (is_table (end_bytes b)) h) in
      let r = length-take table_len b in
      let d = length-drop table_len b in
      omega arith

  no_true : (t : Bool) → (t ≡ true → ⊥) → t ≡ false
  no_true true h = absurd (h refl)
  no_true false h = refl

  pub other_length : (length b ≡ 12288 → ⊥) → two_tables b ≡ false
  other_length h = no_true (two_tables b) (λ t. h (two_long t))

  module _ (room : ℕ) where
    pub answer_none : two_tables b ≡ false → heat_split b room ≡ turned E.NoTables
    unfolding heat_split turn_down said_by number_of values_of
    answer_none h = rw h

    pub answer_split : two_tables b ≡ true → heat_split b room ≡ split_of (start_table b) (end_table b) room
    unfolding heat_split turn_down
    answer_split h = rw h

  pub not_first : {t : Bool} → t ≡ is_table (start_bytes b) → t ≡ false → two_tables b ≡ false
  unfolding two_tables
  not_first e h = rw (sym e ∙ h)

  pub not_second : {t : Bool} → t ≡ is_table (end_bytes b) → t ≡ false → two_tables b ≡ false
  unfolding two_tables
  not_second e h = rw (sym e ∙ h) (and_false (is_table (start_bytes b)))

  pub both_are : {t u : Bool} → t ≡ is_table (start_bytes b) → t ≡ true → u ≡ is_table (end_bytes b) → u ≡ true → two_tables b ≡ true
  unfolding two_tables
  both_are et ht eu hu = rw (sym et ∙ ht, sym eu ∙ hu)

-- the two tables, or none

year_none : (b : List ℕ) → None ≡ year_of b → two_tables b ≡ false
unfolding year_of
year_none b e = go (two_tables b) refl e
  where
    go : (t : Bool) → two_tables b ≡ t → ◌≡◌ {A = Option (Table × Table)} None (cond t (Some (start_table b, end_table b)) None) → two_tables b ≡ false
    go true q e = cc
    go false q e = q

year_some : (b : List ℕ) (y : Table × Table) → Some y ≡ year_of b → (two_tables b ≡ true) × (y ≡ (start_table b, end_table b))
unfolding year_of
year_some b y e = go (two_tables b) refl e
  where
    go : (t : Bool) → two_tables b ≡ t → ◌≡◌ {A = Option (Table × Table)} (Some y) (cond t (Some (start_table b, end_table b)) None) → (two_tables b ≡ true) × (y ≡ (start_table b, end_table b))
    go true q e = (q, cc)
    go false q e = cc

module _ (b : List ℕ) (room : ℕ) where
  pub answer_no_year : None ≡ year_of b → heat_split b room ≡ turned E.NoTables
  answer_no_year e = answer_none b room (year_none b e)

  pub answer_year : (y : Table × Table) → Some y ≡ year_of b → split_of y.0 y.1 room ≡ heat_split b room
  answer_year y e = let p = year_some b y e in ap (λ (z : Table × Table). split_of z.0 z.1 room) p.1 ∙ sym (answer_split b room p.0)
