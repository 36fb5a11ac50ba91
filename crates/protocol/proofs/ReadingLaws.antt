-- The ways through a reading, once: the record at the offset is passed over, enters or stops the reading, and where the log does not go on
-- nothing changes. So what holds of how far a reading has come, with so many records left at the most, and is kept on each of these ways, holds at its end.
-- Assumes nothing.
use Prim.Native.Nat.{ℕ, zero, suc, ◌≤◌, ◌<◌}
use mathlib.Core.Path.{◌≡◌, refl, ap, subst, ◌∙◌}
use mathlib.Core.Bool.{Bool, true, false, cond, not, ◌&&◌}
use mathlib.Core.Option.{Option, none, some}
use mathlib.Core.List.{List, []}
use native.Mathlib.Omega.{arith}
use lib.Dec.{leb, ltb, eqb}
use lib.ListN.{length, drop, set, drop_of_length-le}
use borrow.Author.Tests.{leb-false, ltb-false, eqb-true}
use Rattle.octets.specs.Lists.{at}
use Rattle.octets.proofs.BoolLaws.{or_left, or_right}
use Rattle.table.specs.declared.Table.{Table}
use Rattle.table.specs.Table.{lanes, entered}
use Rattle.sealed.specs.Aead.{Aead}
use Rattle.sealed.specs.Record.{Opened}
use Rattle.sealed.specs.Log.{record_at, records_to, torn_at}
use Rattle.sealed.proofs.LogTrip.{records_nil}
use Rattle.sealed.proofs.TornLaws.{records_torn}
use Rattle.protocol.specs.declared.Vault.{Vault}
use Rattle.protocol.specs.Replay.{Reading, Read, stopped, reading, passed_over, or_stop, behind, step_opened, step, goes_on, step_on, steps, ended, replay, at_first}
use Rattle.protocol.proofs.MissingLaws.{Reached, ends_reached}

-- behind a record that is passed over, and behind one that enters
abbrev pub passing : Reading → Opened → Reading
passing g r = record { offset = behind g r; last = g.last; table = g.table }

abbrev pub entering : Reading → Opened → Reading
entering g r = record { offset = behind g r; last = set g.last r.lane r.number; table = entered g.table r.text r.lane r.number }

-- a record that is not passed over is above R and not above V
not_passed : (x : Vault) (r : Opened) → passed_over x r ≡ false → (at x.r r.lane < r.number) × (r.number ≤ at x.v r.lane)
unfolding passed_over
not_passed x r p =
    let low = leb r.number (at x.r r.lane) in
    let high = ltb (at x.v r.lane) r.number in
    (leb-false _ _ (or_left low high p), ltb-false _ _ (or_right low high p))

-- where the log does not go on no whole record is left
pub none_left : (log : List ℕ) (offset n : ℕ) → goes_on log offset ≡ false → records_to n (drop offset log) ≡ []
unfolding goes_on
none_left log offset n p = go (ltb offset (length log)) refl (torn_at log offset) refl p
  where
    go : (b : Bool) → ltb offset (length log) ≡ b → (c : Bool) → torn_at log offset ≡ c → (b && not c) ≡ false → records_to n (drop offset log) ≡ []
    go false e c t p = ap (records_to n) (drop_of_length-le log (ltb-false _ _ e)) ∙ records_nil n
    go true e true t p = records_torn log offset n t
    go true e false t p = let z : ◌≡◌ {A = ℕ} 0 1 = cc in absurd (omega arith)

module _ (a : Aead) (x : Vault) (log : List ℕ) (P : ℕ → Reading → Type 0)
    (passes : (n : ℕ) (g : Reading) (r : Opened) → P (suc n) g → record_at a log g.offset ≡ some r → passed_over x r ≡ true → P n (passing g r))
    (enters : (n : ℕ) (g : Reading) (r : Opened) → P (suc n) g → record_at a log g.offset ≡ some r → at x.r r.lane < r.number → r.number ≤ at x.v r.lane → r.number ≡ suc (at g.last r.lane) → P n (entering g r))
    (ends : (n : ℕ) (g : Reading) → P (suc n) g → goes_on log g.offset ≡ false → P n g) where
  -- with n records left at the most; of a reading that was stopped nothing is said
  Kept : ℕ → Read → Type 0
  Kept n (stopped k vs) = Unit {0}
  Kept n (reading g) = P n g

  -- whichever of two it is
  kept_cond : (n : ℕ) (b : Bool) (d e : Read) → (b ≡ true → Kept n d) → (b ≡ false → Kept n e) → Kept n (cond b d e)
  kept_cond n true d e h k = h refl
  kept_cond n false d e h k = k refl

  -- where a test has to hold
  kept_stop : (n : ℕ) (b : Bool) (k : ℕ) (vs : List ℕ) (d : Read) → (b ≡ true → Kept n d) → Kept n (or_stop (not b) k vs d)
  unfolding or_stop Kept
  kept_stop n true k vs d h = h refl
  kept_stop n false k vs d h = tt

  kept_opened : (n : ℕ) (g : Reading) (o : Option Opened) → record_at a log g.offset ≡ o → P (suc n) g → Kept n (step_opened x g o)
  unfolding step_opened Kept
  kept_opened n g none e h = tt
  kept_opened n g (some r) e h =
      kept_cond n (passed_over x r) _ _ (λ p. passes n g r h e p)
      (λ p. kept_stop n (eqb r.epoch x.e) _ _ _
      (λ _. kept_stop n (eqb r.number (suc (at g.last r.lane))) _ _ _ (λ q. let i = not_passed x r p in enters n g r h e i.0 i.1 (eqb-true _ _ q))))

  -- a record more
  kept_on : (n : ℕ) (d : Read) → Kept (suc n) d → Kept n (step_on a x log d)
  unfolding step_on step Kept
  kept_on n (stopped k vs) h = tt
  kept_on n (reading g) h =
      kept_cond n (goes_on log g.offset) _ _ (λ p. kept_opened n g (record_at a log g.offset) refl h) (λ p. ends n g h p)

  -- several
  kept_steps : (n : ℕ) (d : Read) → Kept n d → Kept 0 (steps n a x log d)
  unfolding steps
  kept_steps zero d h = h
  kept_steps (suc n) d h = kept_steps n (step_on a x log d) (kept_on n d h)

  -- an accepted reading, which has brought each lane to V
  kept_ended : (d : Read) (g : Reading) → Kept 0 d → ended x d ≡ reading g → P 0 g × ((l : ℕ) → l < lanes → Reached x g.last l)
  unfolding ended Kept
  kept_ended (stopped k vs) g h e = let z : ◌≡◌ {A = ℕ} 0 1 = cc in absurd (omega arith)
  kept_ended (reading f) g h e =
      let i = ends_reached x f g e in
      subst (λ (k : Reading). P 0 k × ((l : ℕ) → l < lanes → Reached x k.last l)) i.0 (h, i.1)

  pub kept_replay : (t : Table) (g : Reading) → P (length log) (at_first x t) → replay a x t log ≡ reading g → P 0 g × ((l : ℕ) → l < lanes → Reached x g.last l)
  unfolding replay Kept
  kept_replay t g h e = kept_ended (steps (length log) a x log (reading (at_first x t))) g (kept_steps (length log) (reading (at_first x t)) h) e
