-- The end of the reading: it is taken exactly where each lane with R < V has reached V. The search for a lane that has not goes from lane 0 up,
-- so both ways are one induction over the lanes still to be looked at.
-- Assumes nothing.
use Prim.Native.Nat.{ℕ, zero, suc, ◌+◌, ◌≤◌, ◌<◌}
use mathlib.Core.Path.{◌≡◌, refl, ap, subst}
use mathlib.Core.Bool.{Bool, true, false, cond, not, ◌&&◌}
use mathlib.Core.List.{List}
use Rattle.std.specs.Prelude.{Option, Some, None}
use mathlib.Core.Logic.{◌⊎◌, inl, inr}
use native.Mathlib.Nat.{eq-or-lt_of_le}
use native.Mathlib.Omega.{arith}
use borrow.Author.Tests.{ltb-true, eqb-true, eq-eqb, lt-ltb}
use lib.Dec.{ltb, eqb}
use Rattle.octets.specs.Lists.{at}
use Rattle.table.specs.Table.{lanes}
use Rattle.protocol.specs.Replay.{Reading, reading, missing_from, or_missing, ended}
use Rattle.protocol.specs.declared.Vault.{Vault}

module _ (x : Vault) (last : List ℕ) where
  -- a lane with R < V has reached V
  abbrev pub Reached : ℕ → Type 0
  Reached l = at x.r l < at x.v l → at last l ≡ at x.v l

  -- whether a lane is missing
  short : ℕ → Bool
  short l = ltb (at x.r l) (at x.v l) && not (eqb (at last l) (at x.v l))

  reached_short : (l : ℕ) → Reached l → short l ≡ false
  unfolding short
  reached_short l h = go (ltb (at x.r l) (at x.v l)) refl
    where
      go : (b : Bool) → ltb (at x.r l) (at x.v l) ≡ b → b && not (eqb (at last l) (at x.v l)) ≡ false
      go true e = rw (eq-eqb (at last l) (at x.v l) (h (ltb-true (at x.r l) (at x.v l) e)))
      go false e = refl

  short_reached : (l : ℕ) → short l ≡ false → Reached l
  unfolding short
  short_reached l e h = go (eqb (at last l) (at x.v l)) refl (lt-ltb (at x.r l) (at x.v l) h)
    where
      go : (b : Bool) → eqb (at last l) (at x.v l) ≡ b → ltb (at x.r l) (at x.v l) ≡ true → at last l ≡ at x.v l
      go true q t = eqb-true (at last l) (at x.v l) q
      go false q t = let z : ◌≡◌ {A = ℕ} 0 1 = cc in absurd (omega arith)

  -- a lane is one that is not missing, or above it
  here_or_above : (lane l : ℕ) → short lane ≡ false → (suc lane ≤ l → Reached l) → (lane ≡ l) ⊎ (lane < l) → Reached l
  here_or_above lane l s k (inl q) = subst Reached q (short_reached lane s)
  here_or_above lane l s k (inr q) = k q

  none_by : (n lane : ℕ) → ((l : ℕ) → lane ≤ l → l < lane + n → Reached l) → missing_from n lane x last ≡ None
  unfolding missing_from short
  none_by zero lane h = refl
  none_by (suc n) lane h = rw (reached_short lane (h lane (omega arith) (omega arith))) (none_by n (suc lane) (λ l a b. h l (omega arith) (omega arith)))

  by_none : (n lane : ℕ) → missing_from n lane x last ≡ None → (l : ℕ) → lane ≤ l → l < lane + n → Reached l
  unfolding missing_from short
  by_none zero lane e l a b = absurd (omega arith)
  by_none (suc n) lane e l a b = go (short lane) refl e (λ f c. by_none n (suc lane) f l c (omega arith))
    where
      go : (b : Bool) → short lane ≡ b → cond b (Some lane) (missing_from n (suc lane) x last) ≡ None → (missing_from n (suc lane) x last ≡ None → suc lane ≤ l → Reached l) → Reached l
      go true s f k = let z : ◌≡◌ {A = ℕ} 0 1 = cc in absurd (omega arith)
      go false s f k = here_or_above lane l s (k f) (eq-or-lt_of_le a)

  by_some : (n lane m : ℕ) → missing_from n lane x last ≡ Some m → (l : ℕ) → lane ≤ l → l < m → Reached l
  unfolding missing_from short
  by_some zero lane m e l a b = let z : ◌≡◌ {A = ℕ} 0 1 = cc in absurd (omega arith)
  by_some (suc n) lane m e l a b = go (short lane) refl e (λ f c. by_some n (suc lane) m f l c b)
    where
      go : (b : Bool) → short lane ≡ b → cond b (Some lane) (missing_from n (suc lane) x last) ≡ Some m → (missing_from n (suc lane) x last ≡ Some m → suc lane ≤ l → Reached l) → Reached l
      go true s f k = let z : lane ≡ m = cc in absurd (omega arith)
      go false s f k = here_or_above lane l s (k f) (eq-or-lt_of_le a)

  -- where all lanes have reached V, none is missing
  missing_none : ((l : ℕ) → l < lanes → Reached l) → missing_from lanes 0 x last ≡ None
  missing_none h = none_by lanes 0 (λ l a b. h l (omega arith))

  -- and where none is missing, all have
  pub none_missing : missing_from lanes 0 x last ≡ None → (l : ℕ) → l < lanes → Reached l
  none_missing e l h = by_none lanes 0 e l (omega arith) (omega arith)

  -- where one is, all below it have
  pub below_missing : (m : ℕ) → missing_from lanes 0 x last ≡ Some m → (l : ℕ) → l < m → Reached l
  below_missing m e l h = by_some lanes 0 m e l (omega arith) h

-- where each lane has reached V the reading stands
pub reached_ends : (x : Vault) (g : Reading) → ((l : ℕ) → l < lanes → Reached x g.last l) → ended x (reading g) ≡ reading g
unfolding ended or_missing
reached_ends x g h = ap (λ (o : Option ℕ). or_missing o (reading g)) (missing_none x g.last h)

-- and one that stands has brought each lane to V
pub ends_reached : (x : Vault) (f g : Reading) → ended x (reading f) ≡ reading g → (f ≡ g) × ((l : ℕ) → l < lanes → Reached x f.last l)
unfolding ended or_missing
ends_reached x f g e = go (missing_from lanes 0 x f.last) refl e
  where
    go : (o : Option ℕ) → missing_from lanes 0 x f.last ≡ o → or_missing o (reading f) ≡ reading g → (f ≡ g) × ((l : ℕ) → l < lanes → Reached x f.last l)
    go None q e = (cc, none_missing x f.last q)
    go (Some l) q e = let z : ◌≡◌ {A = ℕ} 0 1 = cc in absurd (omega arith)
