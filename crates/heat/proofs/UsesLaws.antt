-- What two tables say of a meter, read where its entries lie, and what is kept of it in a list.
-- Assumes nothing.
use Prim.Native.Nat.{ℕ, zero, suc, ◌+◌, ◌<◌}
use mathlib.Core.Path.{◌≡◌, refl, sym, ap₂, ◌∙◌}
use mathlib.Core.Bool.{Bool, true, false, cond}
use mathlib.Core.List.{List, [], ◌∷◌}
use native.Mathlib.Omega.{arith}
use lib.IntN.{ℤ}
use lib.ListN.{length, set, replicate}
use Rattle.std.specs.Prelude.{Option, Some, None, Ok, Err, is_some}
use Rattle.std.proofs.Common.{◌≢◌, get_or, get_or-set_other, get_or-set_same, below_more}
use Rattle.table.specs.declared.Entry.{Entry}
use Rattle.table.specs.declared.Table.{Table}
use Rattle.table.specs.Table.{entry_for}
use Rattle.table.specs.TableText.{is_table, table_from, table_read, entry_in}
use Rattle.table.proofs.ReadLaws.{entry_in_table}
use Rattle.heat.specs.declared.SplitError.{SplitError}
use Rattle.heat.specs.declared.SplitError.TheVariants as E
use Rattle.heat.specs.Uses.{heat_in_both, heat_in_one, difference, counted, listed, code_changed, used, gain, use_by, use_at, gain_of, use_in, SmallUse, AreSmall}

-- ---- a table

pub read_is : (s : List ℕ) → is_some (table_read s) ≡ is_table s
unfolding table_read
read_is s = by_case (is_table s)
  where
    by_case : (t : Bool) → is_some (cond t (Some (table_from s)) None) ≡ t
    by_case true = refl
    by_case false = refl

-- ---- one meter, by its entries a and b, which lie in the texts s and e of two tables

-- what was answered of it
by_tests : (t h : Bool) (z : ℤ) {u : Option ℤ} → cond t (Err E.CodeChanged) (Ok (cond h (Some z) None)) ≡ Ok u → (t ≡ false) × (u ≡ cond h (Some z) None)
by_tests true h z e = cc
by_tests false h z e = (refl, cc)

by_tests_err : (t h : Bool) (z : ℤ) {x : SplitError} → cond t (Err E.CodeChanged) (Ok (cond h (Some z) None)) ≡ Err x → (t ≡ true) × (x ≡ E.CodeChanged)
by_tests_err true h z e = (refl, cc)
by_tests_err false h z e = cc

module _ (s e : List ℕ) (m : ℕ) (hs : is_table s ≡ true) (he : is_table e ≡ true) {a b : Entry} (ea : a ≡ entry_in s m) (eb : b ≡ entry_in e m) where
  start_is : a ≡ entry_for (table_from s) m
  start_is = ea ∙ entry_in_table s m hs

  end_is : b ≡ entry_for (table_from e) m
  end_is = eb ∙ entry_in_table e m he

  listed_at : heat_in_both a b ≡ listed (table_from s) (table_from e) m
  unfolding listed
  listed_at = ap₂ heat_in_both start_is end_is

  changed_at : heat_in_one a b ≡ code_changed (table_from s) (table_from e) m
  unfolding code_changed
  changed_at = ap₂ heat_in_one start_is end_is

  used_at : difference a b ≡ used (table_from s) (table_from e) m
  unfolding used
  used_at = ap₂ difference start_is end_is

  pub read_ok : {u : Option ℤ} → use_by a b ≡ Ok u → (code_changed (table_from s) (table_from e) m ≡ false) × (u ≡ use_at (table_from s) (table_from e) m)
  unfolding use_by use_at
  read_ok {u} q =
      let p = by_tests (heat_in_one a b) (heat_in_both a b) (difference a b) q in
      (sym changed_at ∙ p.0, p.1 ∙ ap₂ (λ (t : Bool) (z : ℤ). cond t (Some z) None) listed_at used_at)

  pub read_err : {x : SplitError} → use_by a b ≡ Err x → (code_changed (table_from s) (table_from e) m ≡ true) × (x ≡ E.CodeChanged)
  unfolding use_by
  read_err q =
      let p = by_tests_err (heat_in_one a b) (heat_in_both a b) (difference a b) q in
      (sym changed_at ∙ p.0, p.1)

-- ---- in a list

pub none_used : (n k : ℕ) → use_in (replicate n None) k ≡ None
none_used zero k = refl
none_used (suc n) zero = refl
none_used (suc n) (suc k) = none_used n k

pub none_small : (n : ℕ) → AreSmall (replicate n None)
none_small n k z e = let h = sym (none_used n k) ∙ e in absurd (cc)

pub small_more : (us : List (Option ℤ)) (m : ℕ) (u : Option ℤ) → AreSmall us → SmallUse u → AreSmall (set us m u)
small_more [] m u all h k = all k
small_more (x ∷ us) zero u all h zero = h
small_more (x ∷ us) zero u all h (suc k) = all (suc k)
small_more (x ∷ us) (suc m) u all h zero = all zero
small_more (x ∷ us) (suc m) u all h (suc k) = small_more us m u (λ j. all (suc j)) h k

pub set_more : {A : Type 0} (none : A) (f : ℕ → A) (us : List A) (m : ℕ) (u : A) → m < length us → ((k : ℕ) → k < m → get_or us k none ≡ f k) → u ≡ f m
    → (k : ℕ) → k < m + 1 → get_or (set us m u) k none ≡ f k
set_more none f us m u h all is =
    below_more _ _ (λ k l. let ne : k ≢ m = omega arith in rw get_or-set_other (all k l)) (rw get_or-set_same is)

-- what the list gives is what the tables give
pub use_listed : (s e : Table) (m : ℕ) → is_some (use_at s e m) ≡ listed s e m
unfolding use_at
use_listed s e m = by_case (listed s e m) (used s e m)
  where
    by_case : (t : Bool) (z : ℤ) → is_some (cond t (Some z) None) ≡ t
    by_case true z = refl
    by_case false z = refl

pub use_gain : (s e : Table) (m : ℕ) → gain_of (use_at s e m) ≡ gain s e m
unfolding use_at gain gain_of
use_gain s e m = by_case (listed s e m) (used s e m)
  where
    by_case : (t : Bool) (z : ℤ) → gain_of (cond t (Some z) None) ≡ cond t (counted z) 0
    by_case true z = refl
    by_case false z = refl
