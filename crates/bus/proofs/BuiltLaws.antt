-- Digits and records as one writes them are read as what was written.
-- Assumes nothing.
use Prim.Native.Nat.{ℕ, zero, suc, ◌+◌, ◌*◌, ◌/◌, ◌%◌, ◌^◌, ◌<◌, ◌≤◌}
use mathlib.Core.Path.{◌≡◌, refl, sym, ap, ap₂, ◌∙◌}
use mathlib.Core.Bool.{Bool, true, false, ◌&&◌}
use mathlib.Core.List.{List, [], ◌∷◌, ◌++◌, append_assoc}
use native.Mathlib.Nat.{pow-suc, add-zero}
use native.Mathlib.Omega.{arith}
use lib.Dec.{eqb}
use lib.IntN.{ℤ, pos, negsuc}
use lib.ListN.{length, take, drop, length-append}
use lib.Seq.{drop-append_seam, get_or-append-add, drop_at}
use borrow.Author.Tests.{le-leb, eq-eqb, ne_eqb, eqb-true}
use Rattle.std.specs.Prelude.{Some}
use Rattle.octets.specs.Lists.{at}
use Rattle.octets.specs.Bytes.{padded}
use Rattle.transaction.specs.Signed.{minus}
use Rattle.bus.specs.Digits.{digits_in, decimal, all_digits, reading_by, reading_of}
use Rattle.bus.specs.Records.{filler, wanted_dif, data_len, field_len, dif_of, vif_of, unusable_vif, record_len, wanted, first_reading}
use Rattle.bus.specs.Claim.{digits_of, packed, bcd, EightDigits, Written, digits, minus_zero, Field, Unwanted, Before, nothing, filler_then, record_then}
use Rattle.bus.proofs.MediumLaws.{wanted_size}
use Rattle.bus.proofs.FieldLaws.{field_here, field_on}
use Rattle.bus.proofs.LookLaws.{look_filler, look_take, look_pass}
use Rattle.bus.proofs.SearchLaws.{search_pass, search_take}

-- ---- digits

-- a byte of two digits
low_digit : (a b : ℕ) → a < 16 → (a + 16 * b) % 16 ≡ a
low_digit a b h = omega arith

high_digit : (a b : ℕ) → a < 16 → (a + 16 * b) / 16 ≡ b
high_digit a b h = omega arith

ten : (n : ℕ) → n % 10 < 16
ten n = omega arith

module _ (n : ℕ) where
  -- each digit where the division by ten before it leaves it
  abbrev below : ℕ → ℕ
  below zero = n
  below (suc k) = below k / 10

  seven_digits : (top : ℕ) (rest : List ℕ) → digits_in (padded 4 (packed (digits_of 7 n (top ∷ [])) ++ rest)) ≡ digits_of 7 n (top ∷ [])
  unfolding digits_in digits_of packed padded
  seven_digits top rest = λ i.
      low_digit (below 0 % 10) (below 1 % 10) (ten (below 0)) i
      ∷ high_digit (below 0 % 10) (below 1 % 10) (ten (below 0)) i
      ∷ low_digit (below 2 % 10) (below 3 % 10) (ten (below 2)) i
      ∷ high_digit (below 2 % 10) (below 3 % 10) (ten (below 2)) i
      ∷ low_digit (below 4 % 10) (below 5 % 10) (ten (below 4)) i
      ∷ high_digit (below 4 % 10) (below 5 % 10) (ten (below 4)) i
      ∷ low_digit (below 6 % 10) top (ten (below 6)) i
      ∷ high_digit (below 6 % 10) top (ten (below 6)) i
      ∷ []

  eight_digits : (rest : List ℕ) → digits_in (padded 4 (packed (digits_of 8 n []) ++ rest)) ≡ digits_of 8 n []
  unfolding digits_of
  eight_digits rest = seven_digits (below 7 % 10) rest

all_good : (k n : ℕ) (l : List ℕ) → all_digits (digits_of k n l) ≡ all_digits l
unfolding all_digits digits_of
all_good zero n l = refl
all_good (suc k) n l = rw (le-leb (n % 10) 9 (omega arith)) (all_good k (n / 10) l)

digits_are : (k n : ℕ) → n < 10 ^ k → decimal (digits_of k n []) ≡ n
unfolding decimal digits_of
digits_are zero n h = omega arith
digits_are (suc k) n h =
    let e = pow-suc 10 k in
    let ih = digits_are k (n / 10) (omega arith) in
    omega arith

read_plain : (n : ℕ) → n < 10 ^ 8 → reading_by (digits_of 8 n []) ≡ Some (pos n)
unfolding reading_by all_digits
read_plain n h = rw (all_good 8 n []) (ap (λ (k : ℕ). Some (pos k)) (digits_are 8 n h))

sign_last : (n : ℕ) → (take 7 (digits_of 7 n (0x0f ∷ [])) ≡ digits_of 7 n []) × (at (digits_of 7 n (0x0f ∷ [])) 7 ≡ 0x0f)
unfolding digits_of
sign_last n = (refl, refl)

read_minus : (n : ℕ) → n < 10 ^ 7 → reading_by (digits_of 7 n (0x0f ∷ [])) ≡ Some (minus n)
unfolding reading_by all_digits
read_minus n h =
    rw (all_good 7 n (0x0f ∷ []), (sign_last n).0, (sign_last n).1, all_good 7 n []) (ap (λ (k : ℕ). Some (minus k)) (digits_are 7 n h))

pub every_number : (v : ℤ) (rest : List ℕ) → EightDigits v → reading_of (bcd v ++ rest) ≡ Some v
unfolding reading_of bcd EightDigits minus
every_number (pos n) rest h = ap reading_by (eight_digits n rest) ∙ read_plain n (omega arith)
every_number (negsuc n) rest h = ap reading_by (seven_digits (suc n) 0x0f rest) ∙ read_minus (suc n) (omega arith)

pub written_read : (v : ℤ) (b rest : List ℕ) → Written v b → reading_of (b ++ rest) ≡ Some v
unfolding reading_of minus
written_read v b rest (digits w e) = every_number w rest e
written_read v b rest minus_zero = ap reading_by (seven_digits 0 0x0f rest) ∙ read_minus 0 (omega arith)

pub length_written : (v : ℤ) (b : List ℕ) → Written v b → length b ≡ 4
unfolding bcd packed digits_of
length_written v b (digits (pos n) e) = refl
length_written v b (digits (negsuc n) e) = refl
length_written v b minus_zero = refl

-- ---- fields

field_length : (d s : List ℕ) → Field d → field_len (d ++ s) ≡ length d
unfolding Field
field_length [] s f = absurd f
field_length (x ∷ []) s f = field_here x s f
field_length (x ∷ (y ∷ d)) s f = field_on x (y ∷ (d ++ s)) f.0 ∙ ap suc (field_length (y ∷ d) s f.1)

field_first : (d s : List ℕ) → Field d → at (d ++ s) 0 ≡ at d 0
unfolding Field
field_first [] s f = absurd f
field_first (x ∷ d) s f = refl

field_nonempty : (d : List ℕ) → Field d → 1 ≤ length d
unfolding Field
field_nonempty [] f = absurd f
field_nonempty (x ∷ d) f = omega arith

-- ---- a whole unwanted record

module _ (unit : ℕ) (d v x s : List ℕ) (fd : Field d) (fv : Field v) (nf : at d 0 ≡ filler → ⊥) (sz : data_len (at d 0) ≡ Some (length x)) (pl : unusable_vif (at v 0) ≡ false) (ot : at d 0 ≡ wanted_dif → at v 0 ≡ unit → ⊥) where
  abbrev whole : List ℕ
  whole = d ++ (v ++ (x ++ s))

  dif_is : dif_of whole ≡ at d 0
  dif_is = field_first d (v ++ (x ++ s)) fd

  dif_len : field_len whole ≡ length d
  dif_len = field_length d (v ++ (x ++ s)) fd

  vif_is : vif_of whole ≡ at v 0
  vif_is = ap (at whole) dif_len ∙ get_d_append_seam_at ∙ field_first v (x ++ s) fv
    where
      get_d_append_seam_at : at whole (length d) ≡ at (v ++ (x ++ s)) 0
      get_d_append_seam_at = ap (at whole) (sym (add-zero (length d))) ∙ get_or-append-add d (v ++ (x ++ s)) 0 0

  len_is : record_len (length x) whole ≡ length d + length v + length x
  unfolding record_len
  len_is =
      ap₂ (λ (m n : ℕ). m + n + length x) dif_len
      (ap field_len (ap (λ (n : ℕ). drop n whole) dif_len ∙ drop-append_seam d (v ++ (x ++ s))) ∙ field_length v (x ++ s) fv)

  long_is : length whole ≡ length d + length v + length x + length s
  long_is =
      let a = length-append d (v ++ (x ++ s)) in
      let b = length-append v (x ++ s) in
      let c = length-append x s in
      omega arith

  not_wanted : wanted unit whole ≡ false
  unfolding wanted
  not_wanted = rw (dif_is, vif_is) (by (eqb (at d 0) wanted_dif) (eqb (at v 0) unit) refl refl)
    where
      by : (p q : Bool) → eqb (at d 0) wanted_dif ≡ p → eqb (at v 0) unit ≡ q → p && q ≡ false
      by false q e f = refl
      by true false e f = refl
      by true true e f = absurd (ot (eqb-true (at d 0) wanted_dif e) (eqb-true (at v 0) unit f))

  pub parted : whole ≡ (d ++ (v ++ x)) ++ s
  parted = ap (λ (t : List ℕ). d ++ t) (sym (append_assoc v x s)) ∙ sym (append_assoc d (v ++ x) s)

  record_long : length (d ++ (v ++ x)) ≡ length d + length v + length x
  record_long = let a = length-append d (v ++ x) in let b = length-append v x in omega arith

  pub passes : first_reading unit whole ≡ first_reading unit s
  passes =
      let h = field_nonempty d fd in
      search_pass unit whole
      (look_pass unit whole (λ e. omega (arith, long_is)) (λ e. nf (sym dif_is ∙ e)) (length x) (ap data_len dif_is ∙ sz) (ap unusable_vif vif_is ∙ pl) (omega (arith, len_is, long_is)) not_wanted)
      ∙ ap (first_reading unit) (ap₂ drop len_is parted ∙ drop_at (d ++ (v ++ x)) s (length d + length v + length x) record_long)

pub unwanted_passes : (unit : ℕ) (r s : List ℕ) → Unwanted unit r → first_reading unit (r ++ s) ≡ first_reading unit s
unwanted_passes unit r s u =
    ap (λ (t : List ℕ). first_reading unit (t ++ s)) u.parts
    ∙ ap (first_reading unit) (sym (parted unit u.dif u.vif u.content s u.dif_field u.vif_field u.no_filler u.sized u.plain u.other))
    ∙ passes unit u.dif u.vif u.content s u.dif_field u.vif_field u.no_filler u.sized u.plain u.other

pub filler_passes : (unit : ℕ) (s : List ℕ) → first_reading unit (filler ∷ s) ≡ first_reading unit s
filler_passes unit s = search_pass unit (filler ∷ s) (look_filler unit (filler ∷ s) (λ e. omega arith) refl)

pub before_passes : (unit : ℕ) (b : List ℕ) → Before unit b → (s : List ℕ) → first_reading unit (b ++ s) ≡ first_reading unit s
before_passes unit b nothing s = refl
before_passes unit b (filler_then t p) s = filler_passes unit (t ++ s) ∙ before_passes unit t p s
before_passes unit b (record_then r t u p) s = ap (first_reading unit) (append_assoc r t s) ∙ unwanted_passes unit r (t ++ s) u ∙ before_passes unit t p s

-- ---- the record that is taken

module _ (unit : ℕ) (l : unit < 0x7c) (content rest : List ℕ) where
  abbrev here : List ℕ
  here = wanted_dif ∷ unit ∷ (content ++ rest)

  here_fields : (field_len here ≡ 1) × (field_len (unit ∷ (content ++ rest)) ≡ 1)
  here_fields = (field_here wanted_dif (unit ∷ (content ++ rest)) (omega arith), field_here unit (content ++ rest) (omega arith))

  here_len : record_len 4 here ≡ 6
  unfolding record_len
  here_len = ap₂ (λ (m n : ℕ). m + n + 4) here_fields.0 (ap (λ (n : ℕ). field_len (drop n here)) here_fields.0 ∙ here_fields.1)

  here_vif : vif_of here ≡ unit
  here_vif = ap (at here) here_fields.0

  here_plain : unusable_vif (vif_of here) ≡ false
  unfolding unusable_vif
  here_plain = rw (here_vif, ne_eqb unit 0x7c (λ e. omega arith), ne_eqb unit 0xfc (λ e. omega arith))

  here_wanted : wanted unit here ≡ true
  unfolding wanted
  here_wanted = rw here_vif (eq-eqb unit unit refl)

  pub wanted_taken : (v : ℤ) → Written v content → first_reading unit here ≡ Some v
  wanted_taken v w =
      let a = length-append content rest in
      let b = length_written v content w in
      search_take unit here (look_take unit here (λ e. omega arith) (λ e. omega arith) 4 wanted_size here_plain (omega (arith, here_len)) here_wanted) ∙ written_read v content rest w
