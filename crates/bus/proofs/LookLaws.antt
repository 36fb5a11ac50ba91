-- What the search meets: each answer from the tests that lead to it, and how far a step goes.
-- Assumes nothing.
use Prim.Native.Nat.{ℕ, zero, suc, ◌≤◌}
use mathlib.Core.Path.{◌≡◌, ap, ◌∙◌}
use mathlib.Core.Bool.{true, false, cond, ◌||◌}
use mathlib.Core.List.{List, [], ◌∷◌}
use native.Mathlib.Omega.{arith}
use lib.Dec.{ltb, eqb}
use lib.ListN.{length, drop}
use borrow.Author.Tests.{eq-eqb, ne_eqb, le-ltb, ltb-false, eqb-true, eqb-false}
use Rattle.std.specs.Prelude.{Option, Some, None}
use Rattle.std.specs.List.{slice_get}
use Rattle.bus.specs.declared.Met.{Met}
use Rattle.bus.specs.declared.Met.TheVariants as M
use Rattle.octets.proofs.BoolLaws.{and_left, and_right, or_right}
use Rattle.bus.specs.Records.{filler, wanted_dif, data_len, field_len, dif_of, vif_of, unusable_vif, record_len, wanted, look_record, look, data_place}
use Rattle.bus.proofs.FieldLaws.{cond_by, field_some}

-- past the end
pub get_past : (s : List ℕ) (i : ℕ) → None ≡ slice_get s i → length s ≤ i
get_past [] i e = omega arith
get_past (x ∷ s) zero e = cc
get_past (x ∷ s) (suc i) e = let h = get_past s i e in omega arith

module _ (unit : ℕ) (s : List ℕ) where
  -- what is wanted has the DIF that is taken, and the unit's VIF
  pub wanted_has : wanted unit s ≡ true → (dif_of s ≡ wanted_dif) × (vif_of s ≡ unit)
  unfolding wanted
  wanted_has e =
      let dif = eqb-true (dif_of s) wanted_dif (and_left (eqb (dif_of s) wanted_dif) (eqb (vif_of s) unit) e) in
      let vif = eqb-true (vif_of s) unit (and_right (eqb (dif_of s) wanted_dif) (eqb (vif_of s) unit) e) in
      (dif, vif)

  -- nothing is left
  pub look_none : length s ≡ 0 → look unit s ≡ M.End
  unfolding look
  look_none e = rw (eq-eqb (length s) 0 e)

  module _ (more : length s ≡ 0 → ⊥) where
    pub look_filler : dif_of s ≡ filler → look unit s ≡ M.Pass 1
    unfolding look
    look_filler e = rw (ne_eqb (length s) 0 more, eq-eqb (dif_of s) filler e)

    module _ (other : dif_of s ≡ filler → ⊥) where
      pub look_record_law : look unit s ≡ look_record (data_len (dif_of s)) unit s
      unfolding look
      look_record_law = rw (ne_eqb (length s) 0 more, ne_eqb (dif_of s) filler other)

      module _ (size : ℕ) (sized : data_len (dif_of s) ≡ Some size) where
        pub look_sized : look unit s ≡ cond (unusable_vif (vif_of s) || ltb (length s) (record_len size s)) M.End (cond (wanted unit s) M.Take (M.Pass (record_len size s)))
        unfolding look_record
        look_sized = look_record_law ∙ ap (λ (n : Option ℕ). look_record n unit s) sized

        module _ (fine : unusable_vif (vif_of s) ≡ false) (whole : record_len size s ≤ length s) where
          pub look_whole : look unit s ≡ cond (wanted unit s) M.Take (M.Pass (record_len size s))
          look_whole = look_sized ∙ rw (fine, le-ltb (length s) (record_len size s) whole)

          pub look_take : wanted unit s ≡ true → look unit s ≡ M.Take
          look_take e = look_whole ∙ rw e

          pub look_pass : wanted unit s ≡ false → look unit s ≡ M.Pass (record_len size s)
          look_pass e = look_whole ∙ rw e

-- ---- a step

-- something passed is one byte at least, and lies within s; in the record that is taken the data begins within it
abbrev pub Within : List ℕ → Met → Type 0
Within s (M.Pass n) = (1 ≤ n) × (n ≤ length s)
Within s M.Take = data_place ≤ length s
Within s M.End = Unit {0}

module _ (unit : ℕ) (s : List ℕ) where
  record_within : (n : Option ℕ) → Within s (look_record n unit s)
  unfolding look_record record_len
  record_within None = tt
  record_within (Some size) =
      let d = field_some s in
      let v = field_some (drop (field_len s) s) in
      cond_by (Within s) (unusable_vif (vif_of s) || ltb (length s) (record_len size s)) M.End _ (λ e. tt)
      (λ e.
      let h = ltb-false (length s) (record_len size s) (or_right (unusable_vif (vif_of s)) _ e) in
      cond_by (Within s) (wanted unit s) M.Take (M.Pass (record_len size s)) (λ t. omega arith) (λ t. (omega arith, h)))

  pub look_within : Within s (look unit s)
  unfolding look
  look_within =
      cond_by (Within s) (eqb (length s) 0) M.End _ (λ e. tt)
      (λ e.
      let some = eqb-false (length s) 0 e in
      cond_by (Within s) (eqb (dif_of s) filler) (M.Pass 1) _ (λ t. (omega arith, omega arith)) (λ t. record_within (data_len (dif_of s))))
