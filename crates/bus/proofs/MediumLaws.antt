-- The arms of the two matches: a medium's code, and a DIF's data length.
-- Assumes nothing.
use Prim.Native.Nat.{ℕ, zero, suc, ◌%◌, ◌≤◌}
use mathlib.Core.Path.{◌≡◌, refl, sym, ap, subst}
use mathlib.Core.Bool.{Bool, true, false, cond}
use mathlib.Core.List.{List, [], ◌∷◌}
use lib.Dec.{eqb, lit≤}
use lib.ListN.{get_or}
use borrow.Author.Tests.{eqb-true, eqb-false}
use Rattle.std.specs.Prelude.{Option, Some, None}
use Rattle.bus.specs.Medium.{listed}
use Rattle.bus.specs.Records.{wanted_dif, data_lens, data_len}

-- a code that is listed is not 0
pub unlisted : (code : ℕ) → None ≡ listed code → code ≡ 0
unfolding listed
unlisted code e = by (eqb code 0) refl e
  where
    by : (t : Bool) → eqb code 0 ≡ t → None ≡ cond t None (Some code) → code ≡ 0
    by true q e = eqb-true code 0 q
    by false q e = cc

pub listed_is : (code : ℕ) {c : ℕ} → Some c ≡ listed code → (c ≡ code) × (code ≡ 0 → ⊥)
unfolding listed
listed_is code {c = c} e = by (eqb code 0) refl e
  where
    by : (t : Bool) → eqb code 0 ≡ t → Some c ≡ cond t None (Some code) → (c ≡ code) × (code ≡ 0 → ⊥)
    by true q e = cc
    by false q e = (cc, eqb-false code 0 q)

-- the length of the low four bits
pub len_at : (dif n : ℕ) → dif % 16 ≡ n → get_or data_lens n None ≡ data_len dif
unfolding data_len
len_at dif n e = sym (ap (λ (k : ℕ). get_or data_lens k None) e)

pub wanted_size : data_len wanted_dif ≡ Some 4
wanted_size = sym (len_at wanted_dif wanted_dif refl)

-- it is 8 at the most
abbrev Small : Option ℕ → Type 0
Small (Some n) = n ≤ 8
Small None = Unit {0}

abbrev AllSmall : List (Option ℕ) → Type 0
AllSmall [] = Unit {0}
AllSmall (x ∷ l) = Small x × AllSmall l

small_at : (l : List (Option ℕ)) → AllSmall l → (i : ℕ) → Small (get_or l i None)
small_at [] a i = tt
small_at (x ∷ l) a zero = a.0
small_at (x ∷ l) a (suc i) = small_at l a.1 i

pub len_small : (dif : ℕ) {n : ℕ} → data_len dif ≡ Some n → n ≤ 8
unfolding data_len
len_small dif e =
    subst Small e
    (small_at data_lens
    (lit≤ tt, (lit≤ tt, (lit≤ tt, (lit≤ tt, (lit≤ tt, (lit≤ tt, (lit≤ tt, (lit≤ tt, (lit≤ tt, (lit≤ tt, (lit≤ tt, (lit≤ tt, (lit≤ tt, (tt, (lit≤ tt, (tt, tt))))))))))))))))
    (dif % 16))
