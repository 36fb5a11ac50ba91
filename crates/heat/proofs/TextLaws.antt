-- The lines of a split: how long they are, and how the code puts them down.
-- Assumes nothing.
use Prim.Native.Nat.{ℕ, zero, suc, ◌+◌, ◌-◌, ◌^◌, ◌<◌, ◌≤◌}
use mathlib.Core.Path.{◌≡◌, refl, sym, ap, ap₂, ◌∙◌}
use mathlib.Core.Bool.{Bool, true, false, cond}
use mathlib.Core.List.{List, [], ◌∷◌, ◌++◌}
use native.Mathlib.Numerals.{add-one}
use native.Mathlib.Omega.{arith}
use lib.IntN.{ℤ, pos, negsuc}
use lib.ListN.{length, take, drop, length-append}
use lib.Signed.{mag}
use borrow.Rule.Slice.PartMut.{mid_of, put_mid}
use Rattle.octets.specs.Lists.{at, over}
use Rattle.std.specs.Prelude.{Option, Some, None}
use Rattle.octets.proofs.CopyLaws.{length_over}
use Rattle.octets.proofs.PartLaws.{mid_rest, put_rest}
use Rattle.transaction.specs.Transaction.{meters}
use Rattle.table.specs.declared.Table.{Table}
use Rattle.table.proofs.TextLaws.{over_append}
use Rattle.heat.specs.Uses.{listed, used, use_in, use_at, AreUses}
use Rattle.heat.specs.Numerals.{numeral, signed_numeral}
use Rattle.heat.specs.Shares.{house}
use Rattle.heat.specs.Text.{comma, newline, heading, line, share_of, line_of, lines_below, split_text, line_max, line_by, lines_in, text_in}
use Rattle.heat.proofs.NumeralLaws.{length_numeral}

-- ---- how long

pub length_signed : (z : ℤ) → mag z < 2 ^ 32 → length (signed_numeral z) ≤ 11
unfolding signed_numeral
length_signed (pos n) h = let a = length_numeral 9 n (omega arith) in omega arith
length_signed (negsuc n) h = let a = length_numeral 9 (suc n) (omega arith) in omega arith

length_of : (m : ℕ) (z : ℤ) (part : ℕ) → length (line m z part) ≡ length (numeral m) + (1 + (length (signed_numeral z) + (1 + (length (numeral part) + 1))))
unfolding line
length_of m z part = simp length-append (omega arith)

pub length_line : (m : ℕ) (z : ℤ) (part : ℕ) → m < meters → mag z < 2 ^ 32 → part ≤ house → length (line m z part) ≤ line_max
length_line m z part hm hz hp =
    let e = length_of m z part in
    let a = length_numeral 2 m (omega arith) in
    let b = length_signed z hz in
    let c = length_numeral 6 part (omega arith) in
    omega arith

-- ---- there is room for each piece before those that stand

pub room_signed : (z : ℤ) (part : ℕ) → mag z < 2 ^ 32 → part ≤ house → length (signed_numeral z) + length (comma ∷ (numeral part ++ (newline ∷ []))) ≤ line_max
room_signed z part hz hp =
    let b = length_signed z hz in
    let c = length_numeral 6 part (omega arith) in
    let d = length-append (numeral part) (newline ∷ []) in
    omega arith

pub room_meter : (m : ℕ) (z : ℤ) (part : ℕ) → m < meters → mag z < 2 ^ 32 → part ≤ house
    → length (numeral m) + length (comma ∷ (signed_numeral z ++ (comma ∷ (numeral part ++ (newline ∷ []))))) ≤ line_max
unfolding line
room_meter m z part hm hz hp =
    let a = length_line m z part hm hz hp in
    let b = length-append (numeral m) (comma ∷ (signed_numeral z ++ (comma ∷ (numeral part ++ (newline ∷ []))))) in
    omega arith

-- ---- one after the other, by what each meter used and the shares

module _ (us : List (Option ℤ)) (ps : List ℕ) where
  lines_more : (m : ℕ) → lines_in us ps m ++ line_by m (use_in us m) (at ps m) ≡ lines_in us ps (m + 1)
  unfolding lines_in
  lines_more m = rw add-one

  pub long_more : (m : ℕ) {n k : ℕ} → n ≡ length (lines_in us ps m) → k ≡ length (line_by m (use_in us m) (at ps m)) → n + k ≡ length (lines_in us ps (m + 1))
  long_more m n k = ap₂ ◌+◌ n k ∙ sym (length-append (lines_in us ps m) (line_by m (use_in us m) (at ps m))) ∙ ap length (lines_more m)

  -- the next line over what is left of the buffer, behind those that stand there
  pub put_more : (m : ℕ) (d : List ℕ) {out last : List ℕ} {at' : ℕ} → at' ≡ length (lines_in us ps m) → at' ≤ length d → out ≡ over (lines_in us ps m) d
      → last ≡ over (line_by m (use_in us m) (at ps m)) (mid_of at' (length out - at') out) → put_mid at' (length out - at') out last ≡ over (lines_in us ps (m + 1)) d
  put_more m d {out} {last} {at'} n room eo el =
      let t = lines_in us ps m in
      let x = line_by m (use_in us m) (at ps m) in
      let lo : length out ≡ length d = ap length eo ∙ length_over t d in
      put_rest at' out last (omega arith)
      ∙ ap (λ (l : List ℕ). take at' out ++ l) (el ∙ ap (over x) (mid_rest at' out))
      ∙ ap₂ (λ (k : ℕ) (l : List ℕ). take k l ++ over x (drop k l)) n eo
      ∙ over_append t x d (omega arith)
      ∙ ap (λ (l : List ℕ). over l d) (lines_more m)

  -- all of them behind the heading
  pub put_all : (d : List ℕ) (k : ℕ) {out last : List ℕ} → length heading + k ≡ length d → out ≡ over heading d
      → last ≡ over (lines_in us ps meters) (mid_of (length heading) k out) → put_mid (length heading) k out last ≡ over (text_in us ps) d
  unfolding text_in
  put_all d k {out} {last} room eo el =
      let x = lines_in us ps meters in
      let n = length heading in
      let lo : length out ≡ length d = ap length eo ∙ length_over heading d in
      let is : k ≡ length out - n = omega arith in
      ap (λ (k : ℕ). put_mid n k out last) is
      ∙ put_rest n out last (omega arith)
      ∙ ap (λ (l : List ℕ). take n out ++ l) (el ∙ ap (λ (k : ℕ). over x (mid_of n k out)) is ∙ ap (over x) (mid_rest n out))
      ∙ ap (λ (l : List ℕ). take n l ++ over x (drop n l)) eo
      ∙ over_append heading x d (omega arith)

  pub length_text : length (text_in us ps) ≡ length heading + length (lines_in us ps meters)
  unfolding text_in
  length_text = length-append heading (lines_in us ps meters)

-- ---- they are those of two tables

module _ (s e : Table) (us : List (Option ℤ)) (ps : List ℕ) (are : AreUses s e us) (shares : (m : ℕ) → m < meters → at ps m ≡ cond (listed s e m) (share_of s e m) 0) where
  one_is : (m : ℕ) → m < meters → line_by m (use_in us m) (at ps m) ≡ line_of s e m
  unfolding line_of use_at line_by
  one_is m h = ap₂ (line_by m) (are m h) (shares m h) ∙ go (listed s e m)
    where
      go : (t : Bool) → line_by m (cond t (Some (used s e m)) None) (cond t (share_of s e m) 0) ≡ cond t (line m (used s e m) (share_of s e m)) []
      go true = refl
      go false = refl

  lines_are : (n : ℕ) → n ≤ meters → lines_in us ps n ≡ lines_below s e n
  unfolding lines_in lines_below
  lines_are zero h = refl
  lines_are (suc n) h = ap₂ ◌++◌ (lines_are n (omega arith)) (one_is n (omega arith))

  pub text_is : text_in us ps ≡ split_text s e
  unfolding text_in split_text
  text_is = ap (λ (l : List ℕ). heading ++ l) (lines_are meters (omega arith))

pub length_split : (s e : Table) → length (split_text s e) ≡ length heading + length (lines_below s e meters)
unfolding split_text
length_split s e = length-append heading (lines_below s e meters)
