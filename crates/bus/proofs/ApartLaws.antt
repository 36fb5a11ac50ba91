-- What is read was written so: a reading that is found takes the bytes apart into what stands before the wanted record, its digits, and the rest.
-- Assumes nothing.
use Prim.Native.Nat.{ℕ, zero, suc, ◌+◌, ◌-◌, ◌*◌, ◌/◌, ◌%◌, ◌^◌, ◌<◌, ◌≤◌}
use mathlib.Core.Path.{◌≡◌, refl, sym, ap, subst, ◌∙◌}
use mathlib.Core.Bool.{Bool, true, false, cond, ◌&&◌, ◌||◌}
use mathlib.Core.List.{List, [], ◌∷◌, ◌++◌, append_assoc}
use mathlib.Core.Logic.{◌⊎◌, inl, inr, ⊎_elim}
use native.Mathlib.Nat.{not-suc-le-zero, le_of_suc-le-suc, add-zero}
use native.Mathlib.Omega.{arith}
use lib.Dec.{leb, ltb, eqb}
use lib.IntN.{ℤ, pos, negsuc}
use lib.ListN.{length, take, drop, length-drop, take-append-drop}
use lib.Seq.{get_or-take, get_or-drop, take-add, length-take-le}
use borrow.Author.Tests.{leb-true, ltb-true, ltb-false, eqb-true, eqb-false, eq-eqb}
use Rattle.std.specs.Prelude.{Option, Some, None}
use Rattle.octets.specs.Lists.{at}
use Rattle.octets.specs.Bytes.{padded}
use Rattle.octets.proofs.BoolLaws.{and_left, and_right, or_left, or_right}
use Rattle.octets.proofs.EveryLaws.{and_both}
use Rattle.table.proofs.OrderLaws.{clash}
use Rattle.bus.specs.declared.Met.{Met}
use Rattle.bus.specs.declared.Met.TheVariants as M
use Rattle.transaction.specs.Signed.{minus}
use Rattle.bus.specs.Digits.{digits_in, decimal, all_digits, reading_by, reading_of}
use Rattle.bus.specs.Records.{filler, wanted_dif, data_len, field_len, dif_of, vif_of, unusable_vif, record_len, wanted, look_record, look, follow, first_within, first_reading, data_place}
use Rattle.bus.specs.Claim.{digits_of, packed, bcd, EightDigits, Written, digits, minus_zero, Field, Unwanted, Before, nothing, filler_then, record_then}
use Rattle.bus.proofs.MediumLaws.{wanted_size}
use Rattle.bus.proofs.FieldLaws.{cond_by, field_end, field_some}
use Rattle.bus.proofs.LookLaws.{wanted_has}
use Rattle.bus.proofs.FrameLaws.{places}
use Rattle.bus.proofs.DigitLaws.{eight}
use Rattle.bus.proofs.TakenLaws.{decimal_lt}

-- ---- what is found is a reading

is_reading : Option ℤ → Bool
is_reading (Some z) = true
is_reading None = false

reading_from : Option ℤ → ℤ
reading_from (Some z) = z
reading_from None = pos 0

pub no_reading : {X : Type 0} {v : ℤ} → None ≡ Some v → X
unfolding is_reading
no_reading e = clash (sym (ap is_reading e))

same_reading : {z v : ℤ} → Some z ≡ Some v → z ≡ v
unfolding reading_from
same_reading e = ap reading_from e

pub reading_by_law : (b : Bool) (x y : Option ℤ) {v : ℤ} → cond b x y ≡ Some v → ((b ≡ true) × (x ≡ Some v)) ⊎ ((b ≡ false) × (y ≡ Some v))
reading_by_law true x y e = inl (refl, e)
reading_by_law false x y e = inr (refl, e)

-- ---- digits

digits_of_law : (k : ℕ) (ds l : List ℕ) → length ds ≡ k → all_digits ds ≡ true → digits_of k (decimal ds) l ≡ ds ++ l
unfolding digits_of decimal all_digits
digits_of_law zero [] l e g = refl
digits_of_law zero (d ∷ ds) l e g = absurd (let z : 0 < 0 = omega (arith, e) in not-suc-le-zero z)
digits_of_law (suc k) [] l e g = absurd (let z : 0 < 0 = omega (arith, e) in not-suc-le-zero z)
digits_of_law (suc k) (d ∷ ds) l e g =
    let h = leb-true d 9 (and_left (leb d 9) (all_digits ds) g) in
    let lo : (d + 10 * decimal ds) % 10 ≡ d = omega arith in
    let hi : (d + 10 * decimal ds) / 10 ≡ decimal ds = omega arith in
    rw (lo, hi) (ap (λ (t : List ℕ). d ∷ t) (digits_of_law k ds l (omega (arith, e)) (and_right (leb d 9) (all_digits ds) g)))

signed : (n : ℕ) → n < 10 ^ 7 → Written (minus n) (packed (digits_of 7 n (0x0f ∷ [])))
unfolding minus bcd EightDigits
signed zero h = minus_zero
signed (suc n) h = digits (negsuc n) (omega arith)

module _ (a b c d : ℕ) where
  abbrev bytes : List ℕ
  bytes = a ∷ b ∷ c ∷ d ∷ []

  abbrev ds : List ℕ
  ds = eight a b c d

  packed_back : packed ds ≡ bytes
  unfolding packed
  packed_back =
      let e : (n : ℕ) → n % 16 + 16 * (n / 16) ≡ n = λ n. omega arith in
      λ i. e a i ∷ e b i ∷ e c i ∷ e d i ∷ []

  -- eight digits
  plain_back : all_digits ds ≡ true → Written (pos (decimal ds)) bytes
  unfolding bcd EightDigits
  plain_back g =
      let h : decimal ds < 10 ^ 8 = decimal_lt ds g in
      subst (Written (pos (decimal ds))) (ap packed (digits_of_law 8 ds [] refl g) ∙ packed_back) (digits (pos (decimal ds)) (omega arith))

  -- seven under a sign
  minus_back : all_digits (take 7 ds) ≡ true → at ds 7 ≡ 0x0f → Written (minus (decimal (take 7 ds))) bytes
  minus_back g s =
      let h : decimal (take 7 ds) < 10 ^ 7 = decimal_lt (take 7 ds) g in
      let all : digits_of 7 (decimal (take 7 ds)) (0x0f ∷ []) ≡ ds =
      digits_of_law 7 (take 7 ds) (0x0f ∷ []) refl g ∙ ap (λ (n : ℕ). take 7 ds ++ (n ∷ [])) (sym s) in
      subst (Written (minus (decimal (take 7 ds)))) (ap packed all ∙ packed_back) (signed (decimal (take 7 ds)) h)

  pub reading_back : (v : ℤ) → reading_by (digits_in bytes) ≡ Some v → Written v bytes
  unfolding reading_by digits_in
  reading_back v e =
      ⊎_elim
      (λ p. subst (λ (z : ℤ). Written z bytes) (same_reading p.1) (plain_back p.0))
      (λ q.
      ⊎_elim
      (λ p. subst (λ (z : ℤ). Written z bytes) (same_reading p.1) (minus_back (and_left (all_digits (take 7 ds)) (eqb (at ds 7) 0x0f) p.0) (eqb-true (at ds 7) 0x0f (and_right (all_digits (take 7 ds)) (eqb (at ds 7) 0x0f) p.0))))
      (λ p. no_reading p.1)
      (reading_by_law (all_digits (take 7 ds) && eqb (at ds 7) 0x0f) (Some (minus (decimal (take 7 ds)))) None q.1))
      (reading_by_law (all_digits ds) (Some (pos (decimal ds))) _ e)

pub read_written : (t : List ℕ) (v : ℤ) → 4 ≤ length t → reading_of t ≡ Some v → Written v (take 4 t)
unfolding reading_of padded
read_written [] v h e = absurd (let z : 0 < 0 = omega arith in not-suc-le-zero z)
read_written (a ∷ []) v h e = absurd (let z : 0 < 0 = omega arith in not-suc-le-zero z)
read_written (a ∷ b ∷ []) v h e = absurd (let z : 0 < 0 = omega arith in not-suc-le-zero z)
read_written (a ∷ b ∷ c ∷ []) v h e = absurd (let z : 0 < 0 = omega arith in not-suc-le-zero z)
read_written (a ∷ b ∷ c ∷ d ∷ t) v h e = reading_back a b c d v e

-- ---- fields

field_cons : (x : ℕ) (t : List ℕ) → 0x80 ≤ x → Field t → Field (x ∷ t)
unfolding Field
field_cons x [] h f = absurd f
field_cons x (y ∷ t) h f = (h, f)

field_taken : (s : List ℕ) → field_len s ≤ length s → Field (take (field_len s) s)
unfolding field_len Field
field_taken [] h = absurd (not-suc-le-zero h)
field_taken (x ∷ s) h =
    cond_by (λ n. n ≤ length (x ∷ s) → Field (take n (x ∷ s))) (ltb x 0x80) 1 (suc (field_len s)) (λ e _. ltb-true x 0x80 e)
    (λ e g. field_cons x (take (field_len s) s) (ltb-false x 0x80 e) (field_taken s (le_of_suc-le-suc g))) h

-- ---- what the search meets

View : ℕ → List ℕ → Met → Type 0
View unit s (M.Pass n) = (s ≡ filler ∷ drop n s) ⊎ Unwanted unit (take n s)
View unit s M.Take = (6 ≤ length s) × ((at s 0 ≡ wanted_dif) × (at s 1 ≡ unit))
View unit s M.End = Unit {0}

abbrev size_in : Option ℕ → ℕ
size_in (Some n) = n
size_in None = 0

module _ (unit : ℕ) (s : List ℕ) where
  module _ (nf : dif_of s ≡ filler → ⊥) (size : ℕ) (sized : data_len (dif_of s) ≡ Some size) (plain : unusable_vif (vif_of s) ≡ false) (whole : record_len size s ≤ length s) where
    abbrev d : ℕ
    d = field_len s

    abbrev v : ℕ
    v = field_len (drop d s)

    parts : (1 ≤ d) × (1 ≤ v) × (d + v + size ≤ length s) × (length (drop d s) ≡ length s - d) × (length (drop v (drop d s)) ≡ length s - d - v)
    unfolding record_len
    parts = (field_some s, field_some (drop d s), whole, length-drop d s, length-drop v (drop d s) ∙ ap (λ (n : ℕ). n - v) (length-drop d s))

    view_take : wanted unit s ≡ true → View unit s M.Take
    unfolding View
    view_take e =
        let p1 = parts.0 in
        let p2 = parts.1 in
        let p3 = parts.2 in
        let has = wanted_has unit s e in
        let dif = has.0 in
        let vif = has.1 in
        let one : field_len s ≡ 1 = field_end s 0 (omega arith) (omega (arith, dif)) in
        let four : 4 ≡ size = ap size_in (sym wanted_size ∙ ap data_len (sym dif) ∙ sized) in
        (omega arith, (dif, ap (at s) (sym one) ∙ vif))

    view_pass : wanted unit s ≡ false → Unwanted unit (take (record_len size s) s)
    unfolding wanted record_len
    view_pass e =
        let p = parts in
        let p1 = p.0 in
        let p2 = p.1 in
        let p3 = p.2 in
        let p4 = p.3 in
        let p5 = p.4 in
        let dif_is : at (take d s) 0 ≡ dif_of s = get_or-take d s 0 0 (omega arith) in
        let vif_is : at (take v (drop d s)) 0 ≡ vif_of s = get_or-take v (drop d s) 0 0 (omega arith) ∙ get_or-drop d s 0 0 ∙ ap (at s) (add-zero d) in
        let long : length (take size (drop v (drop d s))) ≡ size = length-take-le size (drop v (drop d s)) (omega arith) in
        record {
          dif = take d s;
          vif = take v (drop d s);
          content = take size (drop v (drop d s));
          parts = ap (λ (n : ℕ). take n s) (let e : d + v + size ≡ d + (v + size) = omega arith in e) ∙ take-add d (v + size) s ∙ ap (λ (t : List ℕ). take d s ++ t) (take-add v size (drop d s));
          dif_field = field_taken s (omega arith);
          vif_field = field_taken (drop d s) (omega arith);
          no_filler = λ q. nf (sym dif_is ∙ q);
          sized = ap data_len dif_is ∙ sized ∙ ap Some (sym long);
          plain = ap unusable_vif vif_is ∙ plain;
          other = λ q r. clash (sym (and_both (eq-eqb (dif_of s) wanted_dif (sym dif_is ∙ q)) (eq-eqb (vif_of s) unit (sym vif_is ∙ r))) ∙ e);
        }

  record_view : (dif_of s ≡ filler → ⊥) → (n : Option ℕ) → data_len (dif_of s) ≡ n → View unit s (look_record n unit s)
  unfolding look_record View
  record_view nf None e = tt
  record_view nf (Some size) e =
      cond_by (View unit s) (unusable_vif (vif_of s) || ltb (length s) (record_len size s)) M.End (cond (wanted unit s) M.Take (M.Pass (record_len size s))) (λ _. tt)
      (λ o.
      let plain = or_left (unusable_vif (vif_of s)) (ltb (length s) (record_len size s)) o in
      let whole = ltb-false (length s) (record_len size s) (or_right (unusable_vif (vif_of s)) (ltb (length s) (record_len size s)) o) in
      cond_by (View unit s) (wanted unit s) M.Take (M.Pass (record_len size s)) (view_take nf size e plain whole) (λ w. inr (view_pass nf size e plain whole w)))

  -- a filler, a whole unwanted record, the wanted one, or the end
  look_view : View unit s (look unit s)
  unfolding look View
  look_view =
      cond_by (View unit s) (eqb (length s) 0) M.End (cond (eqb (dif_of s) filler) (M.Pass 1) (look_record (data_len (dif_of s)) unit s)) (λ _. tt)
      (λ some.
      cond_by (View unit s) (eqb (dif_of s) filler) (M.Pass 1) (look_record (data_len (dif_of s)) unit s)
      (λ f. inl (places 1 0 s (let h = eqb-false (length s) 0 some in omega arith) ∙ ap (λ (n : ℕ). n ∷ drop 1 s) (eqb-true (dif_of s) filler f)))
      (λ f. record_view (eqb-false (dif_of s) filler f) (data_len (dif_of s)) refl))

-- ---- the search

pub record Sought (unit : ℕ) (s : List ℕ) (v : ℤ) : Type 0 where
  pub records : List ℕ
  pub content : List ℕ
  pub rest : List ℕ
  pub before : Before unit records
  pub written : Written v content
  pub whole : s ≡ records ++ (wanted_dif ∷ unit ∷ (content ++ rest))

module _ (unit : ℕ) (s : List ℕ) (v : ℤ) where
  behind_filler : (n : ℕ) → s ≡ filler ∷ drop n s → Sought unit (drop n s) v → Sought unit s v
  behind_filler n e g = record {
    records = filler ∷ g.records;
    content = g.content;
    rest = g.rest;
    before = filler_then g.records g.before;
    written = g.written;
    whole = e ∙ ap (λ (t : List ℕ). filler ∷ t) g.whole;
  }

  behind_record : (n : ℕ) → Unwanted unit (take n s) → Sought unit (drop n s) v → Sought unit s v
  behind_record n u g = record {
    records = take n s ++ g.records;
    content = g.content;
    rest = g.rest;
    before = record_then (take n s) g.records u g.before;
    written = g.written;
    whole =
        sym (take-append-drop n s) ∙ ap (λ (t : List ℕ). take n s ++ t) g.whole
        ∙ sym (append_assoc (take n s) g.records (wanted_dif ∷ unit ∷ (g.content ++ g.rest)));
  }

  here : View unit s M.Take → reading_of (drop data_place s) ≡ Some v → Sought unit s v
  unfolding View
  here w e =
      let h = w.0 in
      let l = length-drop data_place s in
      record {
        records = [];
        content = take 4 (drop data_place s);
        rest = drop 4 (drop data_place s);
        before = nothing;
        written = read_written (drop data_place s) v (omega arith) e;
        whole = places data_place 0 s (omega arith) ∙ (λ i. w.1.0 i ∷ w.1.1 i ∷ sym (take-append-drop 4 (drop data_place s)) i);
      }

  follow_sought : (m : Met) → View unit s m → (f : ℕ → Option ℤ) → ((n : ℕ) → f n ≡ Some v → Sought unit (drop n s) v) → follow m f (reading_of (drop data_place s)) ≡ Some v → Sought unit s v
  unfolding follow View
  follow_sought (M.Pass n) w f ih e = ⊎_elim (λ l. behind_filler n l (ih n e)) (λ u. behind_record n u (ih n e)) w
  follow_sought M.Take w f ih e = here w e
  follow_sought M.End w f ih e = no_reading e

within_sought : (n unit : ℕ) (s : List ℕ) (v : ℤ) → first_within n unit s ≡ Some v → Sought unit s v
unfolding first_within
within_sought zero unit s v e = no_reading e
within_sought (suc n) unit s v e = follow_sought unit s v (look unit s) (look_view unit s) (λ k. first_within n unit (drop k s)) (λ k. within_sought n unit (drop k s) v) e

pub sought : (unit : ℕ) (s : List ℕ) (v : ℤ) → first_reading unit s ≡ Some v → Sought unit s v
unfolding first_reading
sought unit s v e = within_sought (length s) unit s v e
