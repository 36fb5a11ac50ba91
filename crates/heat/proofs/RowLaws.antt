-- The lines of a split, read back: a number and a signed number from their numerals, a row from its line, and all the rows from the whole text; and
-- which rows there are: one for each listed meter, by meter number, and none for another.
-- Assumes nothing.
use Prim.Native.Nat.{ℕ, zero, suc, ◌+◌, ◌-◌, ◌*◌, ◌/◌, ◌%◌, ◌<◌, ◌≤◌}
use mathlib.Core.Path.{◌≡◌, refl, sym, ap, ap₂, subst, ◌∙◌}
use mathlib.Core.Bool.{Bool, true, false, cond}
use mathlib.Core.List.Memᴰ
use mathlib.Core.List.{List, [], ◌∷◌, ◌++◌, append_assoc, append-nil, Memᴰ}
use mathlib.Core.Logic.{⊎_elim}
use native.Mathlib.Nat.{not-suc-le-zero, le_of_suc-le-suc, eq-or-lt_of_le}
use native.Mathlib.Omega.{arith}
use lib.Dec.{ltb, eqb}
use lib.IntN.{ℤ, pos, negsuc}
use lib.ListN.{length, length-append}
use borrow.Author.Tests.{ltb-true, ltb-false, eq-eqb, ne_eqb}
use Rattle.transaction.specs.Transaction.{meters}
use Rattle.table.specs.declared.Table.{Table}
use Rattle.heat.specs.Uses.{listed, used}
use Rattle.heat.specs.Numerals.{zero_byte, minus_byte, numeral, signed_numeral}
use Rattle.heat.specs.Text.{comma, newline, heading, line, share_of, line_of, lines_below, split_text}
use Rattle.transaction.specs.Signed.{minus}
use Rattle.heat.specs.Rows.{Row, rows_below, number_from, number_in, signed_in, up_to, past, row_in, rows_within, rows_in}
use Rattle.heat.specs.Sums.{sum_below}
use Rattle.heat.specs.Claim.{Rising, shares_in}
use Rattle.heat.proofs.NumeralLaws.{numeral_digit, numeral_more}

-- ---- a number

from_append : (a : ℕ) (s t : List ℕ) → number_from a (s ++ t) ≡ number_from (number_from a s) t
unfolding number_from
from_append a [] t = refl
from_append a (x ∷ s) t = from_append (10 * a + (x - zero_byte)) s t

in_digit : (n : ℕ) → n < 10 → number_in (numeral n) ≡ n
unfolding number_in number_from
in_digit n h = rw (numeral_digit n h) (omega arith)

in_more : (n : ℕ) → 10 ≤ n → number_in (numeral (n / 10)) ≡ n / 10 → number_in (numeral n) ≡ n
unfolding number_in number_from
in_more n h e = rw (numeral_more n h, from_append 0 (numeral (n / 10)), e) (omega arith)

reads_below : (k n : ℕ) → n < k → number_in (numeral n) ≡ n
reads_below zero n h = absurd (not-suc-le-zero h)
reads_below (suc k) n h = go (ltb n 10) refl (λ (l : 10 ≤ n). reads_below k (n / 10) (omega arith))
  where
    go : (b : Bool) → ltb n 10 ≡ b → (10 ≤ n → number_in (numeral (n / 10)) ≡ n / 10) → number_in (numeral n) ≡ n
    go true e rest = in_digit n (ltb-true n 10 e)
    go false e rest = let l = ltb-false n 10 e in in_more n l (rest l)

pub number_reads_back : (n : ℕ) → number_in (numeral n) ≡ n
number_reads_back n = reads_below (suc n) n (omega arith)

-- ---- a byte that stands nowhere

data Plain (b : ℕ) : List ℕ → Type 0 where
  none : Plain b []
  more : {x : ℕ} {t : List ℕ} → eqb x b ≡ false → Plain b t → Plain b (x ∷ t)

plain_append : {b : ℕ} {s t : List ℕ} → Plain b s → Plain b t → Plain b (s ++ t)
plain_append none q = q
plain_append (more e p) q = more e (plain_append p q)

-- a byte below the digits: in no numeral
plain_digit : (b n : ℕ) → b < zero_byte → Plain b ((zero_byte + n) ∷ [])
plain_digit b n h = more (ne_eqb (zero_byte + n) b (λ e. omega arith)) none

plain_below : (b k n : ℕ) → b < zero_byte → n < k → Plain b (numeral n)
plain_below b zero n h l = absurd (not-suc-le-zero l)
plain_below b (suc k) n h l = go (ltb n 10) refl (λ (m : 10 ≤ n). plain_below b k (n / 10) h (omega arith))
  where
    go : (t : Bool) → ltb n 10 ≡ t → (10 ≤ n → Plain b (numeral (n / 10))) → Plain b (numeral n)
    go true e rest = rw (numeral_digit n (ltb-true n 10 e)) (plain_digit b n h)
    go false e rest = let m = ltb-false n 10 e in rw (numeral_more n m) (plain_append (rest m) (plain_digit b (n % 10) h))

plain_numeral : (b n : ℕ) → b < zero_byte → Plain b (numeral n)
plain_numeral b n h = plain_below b (suc n) n h (omega arith)

plain_signed : (b : ℕ) (z : ℤ) → b < minus_byte → Plain b (signed_numeral z)
unfolding signed_numeral
plain_signed b (pos n) h = plain_numeral b n (omega arith)
plain_signed b (negsuc n) h = more (ne_eqb minus_byte b (λ e. omega arith)) (plain_numeral b (suc n) (omega arith))

-- ---- a signed number

no_minus : {t : List ℕ} → Plain minus_byte t → signed_in t ≡ pos (number_in t)
unfolding signed_in number_in number_from
no_minus none = refl
no_minus (more e p) = rw e

pub signed_reads_back : (z : ℤ) → signed_in (signed_numeral z) ≡ z
unfolding signed_numeral signed_in minus
signed_reads_back (pos n) = no_minus (plain_numeral minus_byte n (omega arith)) ∙ ap pos (number_reads_back n)
signed_reads_back (negsuc n) = ap minus (number_reads_back (suc n))

-- ---- up to a byte, and past it

up_to_law : {b : ℕ} {s : List ℕ} (u : List ℕ) → Plain b s → up_to b (s ++ (b ∷ u)) ≡ s
unfolding up_to
up_to_law {b} u none = rw (eq-eqb b b refl)
up_to_law u (more e p) = rw (e, up_to_law u p)

-- what a byte stands nowhere in is passed over
past_over : {b : ℕ} {s : List ℕ} (u : List ℕ) → Plain b s → past b (s ++ u) ≡ past b u
unfolding past
past_over u none = refl
past_over u (more e p) = rw e (past_over u p)

past_at : {b : ℕ} {s : List ℕ} (u : List ℕ) → Plain b s → past b (s ++ (b ∷ u)) ≡ u
unfolding past
past_at {b} u p = past_over (b ∷ u) p ∙ rw (eq-eqb b b refl)

-- ---- a line, and u behind it

module _ (m : ℕ) (z : ℤ) (part : ℕ) (u : List ℕ) where
  -- behind the second comma, behind the first, and all of it
  abbrev third : List ℕ
  third = numeral part ++ (newline ∷ u)

  abbrev second : List ℕ
  second = signed_numeral z ++ (comma ∷ third)

  abbrev whole : List ℕ
  whole = numeral m ++ (comma ∷ second)

  line_then : line m z part ++ u ≡ whole
  unfolding line
  line_then = simp append_assoc

  past_first : past comma whole ≡ second
  past_first = past_at second (plain_numeral comma m (omega arith))

  past_second : past comma (past comma whole) ≡ third
  past_second = ap (past comma) past_first ∙ past_at third (plain_signed comma z (omega arith))

  row_whole : row_in whole ≡ record { meter = m; used = z; share = part }
  unfolding row_in
  row_whole = rw (past_second, past_first, up_to_law second (plain_numeral comma m (omega arith)), up_to_law third (plain_signed comma z (omega arith)), up_to_law u (plain_numeral newline part (omega arith)), number_reads_back m, signed_reads_back z, number_reads_back part)

  row_back : row_in (line m z part ++ u) ≡ record { meter = m; used = z; share = part }
  row_back = ap row_in line_then ∙ row_whole

  past_whole : past newline whole ≡ u
  unfolding past
  past_whole =
      past_over (comma ∷ second) (plain_numeral newline m (omega arith))
      ∙ past_over (comma ∷ third) (plain_signed newline z (omega arith))
      ∙ past_at u (plain_numeral newline part (omega arith))

  past_line : past newline (line m z part ++ u) ≡ u
  past_line = ap (past newline) line_then ∙ past_whole

  line_some : length u < length (line m z part ++ u)
  line_some = rw line_then (simp length-append (omega arith))

-- ---- line after line

lines_of : List Row → List ℕ
lines_of [] = []
lines_of (r ∷ rs) = line r.meter r.used r.share ++ lines_of rs

of_append : (rs qs : List Row) → lines_of (rs ++ qs) ≡ lines_of rs ++ lines_of qs
unfolding lines_of
of_append [] qs = refl
of_append (r ∷ rs) qs = rw (of_append rs qs, append_assoc)

-- a line has some bytes
of_long : (rs : List Row) → length rs ≤ length (lines_of rs)
unfolding lines_of
of_long [] = omega arith
of_long (r ∷ rs) = let l = of_long rs in let k = line_some r.meter r.used r.share (lines_of rs) in omega arith

within_some : (k : ℕ) (t : List ℕ) → 0 < length t → rows_within (suc k) t ≡ row_in t ∷ rows_within k (past newline t)
unfolding rows_within
within_some k [] h = absurd (not-suc-le-zero h)
within_some k (x ∷ t) h = refl

within_lines : (k : ℕ) (rs : List Row) → length rs ≤ k → rows_within k (lines_of rs) ≡ rs
unfolding lines_of rows_within
within_lines zero [] h = refl
within_lines (suc k) [] h = refl
within_lines zero (r ∷ rs) h = absurd (not-suc-le-zero h)
within_lines (suc k) (r ∷ rs) h =
    let t = lines_of rs in
    let l = line_some r.meter r.used r.share t in
    within_some k (line r.meter r.used r.share ++ t) (omega arith)
    ∙ ap₂ (λ (q : Row) (s : List ℕ). q ∷ rows_within k s) (row_back r.meter r.used r.share t) (past_line r.meter r.used r.share t)
    ∙ ap (λ (qs : List Row). r ∷ qs) (within_lines k rs (omega arith))

-- ---- the text

behind_heading : (t : List ℕ) → past newline (heading ++ t) ≡ t
unfolding past
behind_heading t = refl

module _ (s e : Table) where
  -- the row of a meter
  abbrev row_of : ℕ → Row
  row_of m = record { meter = m; used = used s e m; share = share_of s e m }

  -- the line of that row, where there is one
  line_of_law : (m : ℕ) (b : Bool) → cond b (line m (used s e m) (share_of s e m)) [] ≡ lines_of (cond b (row_of m ∷ []) [])
  unfolding lines_of
  line_of_law m true = sym (append-nil (line m (used s e m) (share_of s e m)))
  line_of_law m false = refl

  lines_are : (n : ℕ) → lines_below s e n ≡ lines_of (rows_below s e n)
  unfolding lines_below rows_below lines_of line_of
  lines_are zero = refl
  lines_are (suc n) = ap₂ ◌++◌ (lines_are n) (line_of_law n (listed s e n)) ∙ sym (of_append (rows_below s e n) (cond (listed s e n) (row_of n ∷ []) []))

  rows_within_law : (n : ℕ) → rows_within (length (heading ++ lines_below s e n)) (lines_below s e n) ≡ rows_below s e n
  rows_within_law n = rw lines_are (within_lines (length (heading ++ lines_of (rows_below s e n))) (rows_below s e n) (let l = of_long (rows_below s e n) in omega arith))

  pub text_reads_back : rows_in (split_text s e) ≡ rows_below s e meters
  unfolding rows_in split_text
  text_reads_back = ap (rows_within (length (heading ++ lines_below s e meters))) (behind_heading (lines_below s e meters)) ∙ rows_within_law meters

  -- ---- which rows there are

  abbrev Right : Row → ℕ → Type 0
  Right r n = (r.meter < n) × (listed s e r.meter ≡ true) × (r.used ≡ used s e r.meter) × (r.share ≡ share_of s e r.meter)

  last_right : (n : ℕ) (r : Row) (b : Bool) → listed s e n ≡ b → Memᴰ r (cond b (row_of n ∷ []) []) → Right r (suc n)
  last_right n r true h i = subst (λ (q : Row). Right q (suc n)) (sym (Memᴰ.eq_of_singleton i)) (omega arith, h, refl, refl)
  last_right n r false h i = absurd (Memᴰ.not-nil i)

  pub row_is_listed : (n : ℕ) (r : Row) → Memᴰ r (rows_below s e n) → (r.meter < n) × (listed s e r.meter ≡ true) × (r.used ≡ used s e r.meter) × (r.share ≡ share_of s e r.meter)
  unfolding rows_below
  row_is_listed zero r i = absurd (Memᴰ.not-nil i)
  row_is_listed (suc n) r i =
      ⊎_elim
      (λ j. let a = row_is_listed n r j in (omega arith, a.1, a.2, a.3))
      (last_right n r (listed s e n) refl)
      (Memᴰ.append_cases (rows_below s e n) i)

  last_there : (n : ℕ) → listed s e n ≡ true → Memᴰ (row_of n) (cond (listed s e n) (row_of n ∷ []) [])
  last_there n h = rw h (Memᴰ.head refl)

  pub listed_has_row : (n m : ℕ) → m < n → listed s e m ≡ true → Memᴰ (record { meter = m; used = used s e m; share = share_of s e m }) (rows_below s e n)
  unfolding rows_below
  listed_has_row zero m l h = absurd (not-suc-le-zero l)
  listed_has_row (suc n) m l h =
      ⊎_elim
      (λ q. Memᴰ.append_right (rows_below s e n) (subst (λ (k : ℕ). Memᴰ (row_of k) (cond (listed s e n) (row_of n ∷ []) [])) (sym q) (last_there n (subst (λ (k : ℕ). listed s e k ≡ true) q h))))
      (λ k. Memᴰ.append_left (cond (listed s e n) (row_of n ∷ []) []) (listed_has_row n m k h))
      (eq-or-lt_of_le (le_of_suc-le-suc l))

-- ---- by meter number

rising_wider : (low n : ℕ) (rs : List Row) → Rising low n rs → Rising low (suc n) rs
unfolding Rising
rising_wider low n [] h = tt
rising_wider low n (r ∷ rs) h = let b = h.1 in (h.0, omega arith, rising_wider (suc r.meter) n rs h.2)

rising_last : (low n : ℕ) (rs : List Row) (r : Row) → r.meter ≡ n → low ≤ n → Rising low n rs → Rising low (suc n) (rs ++ (r ∷ []))
unfolding Rising
rising_last low n [] r e l h = (omega arith, omega arith, tt)
rising_last low n (x ∷ rs) r e l h = let b = h.1 in (h.0, omega arith, rising_last (suc x.meter) n rs r e (omega arith) h.2)

pub rows_rise : (s e : Table) (n : ℕ) → Rising 0 n (rows_below s e n)
unfolding rows_below Rising
rows_rise s e zero = tt
rows_rise s e (suc n) = go (listed s e n) (rows_rise s e n)
  where
    row : Row
    row = record { meter = n; used = used s e n; share = share_of s e n }

    go : (t : Bool) → Rising 0 n (rows_below s e n) → Rising 0 (suc n) (rows_below s e n ++ cond t (row ∷ []) [])
    go true h = rising_last 0 n (rows_below s e n) row refl (omega arith) h
    go false h = rw (append-nil (rows_below s e n)) (rising_wider 0 n (rows_below s e n) h)

-- ---- what the rows' shares add up to

shares_append : (xs ys : List Row) → shares_in (xs ++ ys) ≡ shares_in xs + shares_in ys
unfolding shares_in
shares_append [] ys = omega arith
shares_append (x ∷ xs) ys = let a = shares_append xs ys in omega arith

pub shares_in_rows : (s e : Table) (n : ℕ) → shares_in (rows_below s e n) ≡ sum_below (λ m. cond (listed s e m) (share_of s e m) 0) n
unfolding rows_below sum_below shares_in
shares_in_rows s e zero = refl
shares_in_rows s e (suc n) = shares_append (rows_below s e n) (cond (listed s e n) (record { meter = n; used = used s e n; share = share_of s e n } ∷ []) []) ∙ ap₂ ◌+◌ (shares_in_rows s e n) (go (listed s e n))
  where
    go : (t : Bool) → shares_in (cond t (record { meter = n; used = used s e n; share = share_of s e n } ∷ []) []) ≡ cond t (share_of s e n) 0
    go true = omega arith
    go false = refl
