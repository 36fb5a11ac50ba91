-- Which meters are listed and which changed their code, in words and as the definitions test it; and what holds of the shares of two tables.
-- Assumes nothing.
use Prim.Native.Nat.{ℕ, zero, suc, ◌+◌, ◌<◌, ◌≤◌}
use mathlib.Core.Path.{◌≡◌, refl, sym, ap, ◌∙◌}
use mathlib.Core.Bool.{Bool, true, false, not, cond, ◌&&◌, ◌||◌}
use mathlib.Core.Logic.{◌⊎◌, inl, inr, ⊎_elim}
use native.Mathlib.Nat.{not-suc-le-zero, le_of_suc-le-suc, eq-or-lt_of_le}
use native.Mathlib.Omega.{arith}
use lib.Dec.{leb→le, ltb→lt}
use lib.IntN.{ℤ, pos, negsuc}
use lib.Signed.{◌≤ℤ◌, ◌<ℤ◌}
use borrow.Author.Tests.{eqb-true, eqb-false, eq-eqb, ne_eqb}
use Rattle.octets.proofs.BoolLaws.{and_left, and_right, or_true}
use Rattle.table.proofs.OrderLaws.{clash}
use Rattle.transaction.specs.Transaction.{meters}
use Rattle.table.specs.declared.Table.{Table}
use Rattle.table.specs.Table.{entry_for}
use Rattle.heat.specs.Sums.{sum_below, any_below}
use Rattle.heat.specs.Uses.{heat_code, in_both, is_heat, heat_in_both, heat_in_one, counted, listed, code_changed, used, gain}
use Rattle.heat.specs.Shares.{house, floor, remainder}
use Rattle.heat.specs.Text.{share_of}
use Rattle.heat.specs.Answer.{any_changed}
use Rattle.heat.specs.Claim.{HeatInBoth, HeatInOne, Sooner, SomeUse}
use Rattle.heat.proofs.ShareLaws as shares

-- ---- listed

module _ (s e : Table) (m : ℕ) where
  pub listed_heat : listed s e m ≡ true → HeatInBoth s e m
  unfolding listed heat_in_both
  listed_heat t =
      let a = entry_for s m in
      let b = entry_for e m in
      let both = and_left (in_both a b && is_heat a) (is_heat b) t in
      let here = and_left (in_both a b) (is_heat a) both in
      record {
        in_start = and_left a.present b.present here;
        in_end = and_right a.present b.present here;
        heat_in_start = eqb-true a.code heat_code (and_right (in_both a b) (is_heat a) both);
        heat_in_end = eqb-true b.code heat_code (and_right (in_both a b && is_heat a) (is_heat b) t);
      }

  pub heat_listed : HeatInBoth s e m → listed s e m ≡ true
  unfolding listed heat_in_both
  heat_listed h = rw (h.in_start, h.in_end, eq-eqb (entry_for s m).code heat_code h.heat_in_start, eq-eqb (entry_for e m).code heat_code h.heat_in_end)

-- ---- changed

one_of : (x y : Bool) → ((x && not y) || (not x && y)) ≡ true → ((x ≡ true) × (y ≡ false)) ⊎ ((x ≡ false) × (y ≡ true))
one_of true false e = inl (refl, refl)
one_of true true e = clash (sym e)
one_of false true e = inr (refl, refl)
one_of false false e = clash (sym e)

module _ (s e : Table) (m : ℕ) where
  pub changed_one : code_changed s e m ≡ true → HeatInOne s e m
  unfolding code_changed heat_in_one
  changed_one t =
      let a = entry_for s m in
      let b = entry_for e m in
      let x = (is_heat a && not (is_heat b)) || (not (is_heat a) && is_heat b) in
      let here = and_left (in_both a b) x t in
      record {
        in_start = and_left a.present b.present here;
        in_end = and_right a.present b.present here;
        changed = ⊎_elim (λ c. inl (eqb-true a.code heat_code c.0, eqb-false b.code heat_code c.1)) (λ c. inr (eqb-false a.code heat_code c.0, eqb-true b.code heat_code c.1)) (one_of (is_heat a) (is_heat b) (and_right (in_both a b) x t));
      }

  pub one_changed : HeatInOne s e m → code_changed s e m ≡ true
  unfolding code_changed heat_in_one
  one_changed h =
      ⊎_elim
      (λ c. rw (h.in_start, h.in_end, eq-eqb (entry_for s m).code heat_code c.0, ne_eqb (entry_for e m).code heat_code c.1))
      (λ c. rw (h.in_start, h.in_end, ne_eqb (entry_for s m).code heat_code c.0, eq-eqb (entry_for e m).code heat_code c.1))
      h.changed

pub any_of : (p : ℕ → Bool) (n i : ℕ) → i < n → p i ≡ true → any_below p n ≡ true
unfolding any_below
any_of p zero i h e = absurd (not-suc-le-zero h)
any_of p (suc n) i h e =
    ⊎_elim
    (λ q. ap (λ (t : Bool). any_below p n || t) (ap p (sym q) ∙ e) ∙ or_true (any_below p n))
    (λ l. ap (λ (t : Bool). t || p n) (any_of p n i l e))
    (eq-or-lt_of_le (le_of_suc-le-suc h))

any_none : (p : ℕ → Bool) (n : ℕ) → ((i : ℕ) → i < n → p i ≡ true → ⊥) → any_below p n ≡ true → ⊥
unfolding any_below
any_none p zero h e = clash (sym e)
any_none p (suc n) h e = go (any_below p n) (p n) refl refl e (any_none p n (λ i l. h i (omega arith)))
  where
    go : (a b : Bool) → any_below p n ≡ a → p n ≡ b → (a || b) ≡ true → (any_below p n ≡ true → ⊥) → ⊥
    go true b x y q rest = rest x
    go false true x y q rest = h n (omega arith) y
    go false false x y q rest = clash (sym q)

pub any_changed_law : (s e : Table) (m : ℕ) → m < meters → HeatInOne s e m → any_changed s e ≡ true
unfolding any_changed
any_changed_law s e m h c = any_of (code_changed s e) meters m h (one_changed s e m c)

pub none_changed : (s e : Table) → ((m : ℕ) → m < meters → HeatInOne s e m → ⊥) → any_changed s e ≡ true → ⊥
unfolding any_changed
none_changed s e h = any_none (code_changed s e) meters (λ m l t. h m l (changed_one s e m t))

-- ---- uses

-- one that is not listed adds nothing
none_gained : (s e : Table) (m : ℕ) → listed s e m ≡ false → gain s e m ≡ 0
unfolding gain
none_gained s e m h = rw h

listed_gained : (s e : Table) (m : ℕ) → listed s e m ≡ true → gain s e m ≡ counted (used s e m)
unfolding gain
listed_gained s e m h = rw h

nothing_counted : (z : ℤ) → z ≤ℤ pos 0 → counted z ≡ 0
unfolding counted
nothing_counted (pos zero) h = refl
nothing_counted (pos (suc n)) h = absurd (not-suc-le-zero (leb→le (suc n) 0 h.le))
nothing_counted (negsuc n) h = refl

-- a use of 0 or below adds nothing
no_gain : (s e : Table) (m : ℕ) → used s e m ≤ℤ pos 0 → gain s e m ≡ 0
unfolding gain
no_gain s e m h = go (listed s e m)
  where
    go : (t : Bool) → cond t (counted (used s e m)) 0 ≡ 0
    go true = nothing_counted (used s e m) h
    go false = refl

more_counted : (a b : ℤ) → a <ℤ b → (counted a < counted b) ⊎ ((counted a ≡ 0) × (counted b ≡ 0))
unfolding counted
more_counted (pos a) (pos b) h = inl (ltb→lt a b h.lt)
more_counted (pos a) (negsuc b) h = absurd h.lt
more_counted (negsuc a) (pos zero) h = inr (refl, refl)
more_counted (negsuc a) (pos (suc b)) h = inl (omega arith)
more_counted (negsuc a) (negsuc b) h = inr (refl, refl)

-- ---- the shares of two tables

module _ (s e : Table) where
  module _ (some : SomeUse s e) where
    pub shares_add_up : sum_below (λ m. cond (listed s e m) (share_of s e m) 0) meters ≡ house
    unfolding share_of
    shares_add_up = shares.shares_add_up (listed s e) (gain s e) some (none_gained s e)

    pub floor_or_one_more : (m : ℕ) → m < meters → (share_of s e m ≡ floor (gain s e) m) ⊎ ((share_of s e m ≡ floor (gain s e) m + 1) × (remainder (gain s e) m ≡ 0 → ⊥))
    unfolding share_of
    floor_or_one_more m h = shares.floor_or_more (listed s e) (gain s e) some (none_gained s e) m h

    pub no_use_no_share : (m : ℕ) → m < meters → used s e m ≤ℤ pos 0 → share_of s e m ≡ 0
    unfolding share_of
    no_use_no_share m h z = shares.no_use_no_share (listed s e) (gain s e) some (none_gained s e) m h (no_gain s e m z)

    pub greater_use : (k m : ℕ) → k < meters → m < meters → HeatInBoth s e k → HeatInBoth s e m → used s e k <ℤ used s e m → share_of s e k ≤ share_of s e m
    unfolding share_of
    greater_use k m hk hm bk bm z =
        let lk = heat_listed s e k bk in
        let lm = heat_listed s e m bm in
        let gk = listed_gained s e k lk in
        let gm = listed_gained s e m lm in
        ⊎_elim
        (λ q. shares.greater_use (listed s e) (gain s e) some k m hk hm lk lm (omega arith))
        (λ q. let x = shares.no_use_no_share (listed s e) (gain s e) some (none_gained s e) k hk (gk ∙ q.0) in omega arith)
        (more_counted (used s e k) (used s e m) z)

  pub equal_uses : (k m : ℕ) → k < m → m < meters → HeatInBoth s e k → HeatInBoth s e m → used s e k ≡ used s e m → (share_of s e m ≤ share_of s e k) × (share_of s e k ≤ share_of s e m + 1)
  unfolding share_of
  equal_uses k m h hm bk bm z =
      let lk = heat_listed s e k bk in
      let lm = heat_listed s e m bm in
      shares.equal_use (listed s e) (gain s e) k m h hm lk lm (listed_gained s e k lk ∙ ap counted z ∙ sym (listed_gained s e m lm))

  pub units_to_the_largest : (k m : ℕ) → share_of s e m ≡ floor (gain s e) m + 1 → share_of s e k ≡ floor (gain s e) k → Sooner (remainder (gain s e)) m k
  unfolding share_of
  units_to_the_largest k m p q = shares.units_to_the_largest (listed s e) (gain s e) k m p q
