-- Load's rule for the vault's 27 numbers, as facts about each number and each lane, and back. The stores of Recover, Checkpoint and Truncate
-- keep it: S, N or E rises by one below the maximum, R or V of a lane is set to its W, or R to a count of at most V. Each is a law about one
-- lane, since a store leaves every other lane as it was; a store to a lane past the end of its array changes nothing.
-- Assumes nothing.
use Prim.Native.Nat.{ℕ, zero, suc, ◌≤◌, ◌<◌}
use mathlib.Core.Path.{◌≡◌, refl, ap}
use mathlib.Core.Bool.{Bool, true, false, ◌&&◌, ◌||◌}
use mathlib.Core.List.{List, [], ◌∷◌}
use mathlib.Core.Logic.{◌⊎◌, inl, inr}
use native.Mathlib.Omega.{arith}
use lib.Dec.{leb, eqb}
use lib.ListN.{set}
use borrow.Author.Tests.{leb-true, eqb-true, le-leb, eq-eqb}
use Rattle.octets.specs.Lists.{at}
use Rattle.octets.proofs.BoolLaws.{or_true}
use Rattle.octets.proofs.EveryLaws.{and_true, and_both, all_at, all_of}
use Rattle.table.specs.Table.{lanes}
use Rattle.protocol.specs.Vaults.{counter_max, lane_ok, vault_ok, set_v, set_r, set_e, set_s, set_n}
use Rattle.protocol.specs.States.{listed, points_max, valid}
use Rattle.protocol.specs.declared.Vault.{Vault}
use Rattle.protocol.specs.declared.State.{State}

-- ---- the rule as facts

-- "V ≤ W and R ≤ W, and R > V only where R = W"
pub record LaneFine (w v r : ℕ) : Type 0 where
  pub most : w ≤ counter_max
  pub seen : v ≤ w
  pub gone : r ≤ w
  pub past : (r ≤ v) ⊎ (r ≡ w)

pub record VaultFine (x : Vault) : Type 0 where
  pub e : x.e ≤ counter_max
  pub s : x.s ≤ counter_max
  pub n : x.n ≤ counter_max
  pub lane : (l : ℕ) → l < lanes → LaneFine (at x.w l) (at x.v l) (at x.r l)

lane_past : (w v r : ℕ) → (leb r v || eqb r w) ≡ true → (r ≤ v) ⊎ (r ≡ w)
lane_past w v r h = go (leb r v) refl h
  where
    go : (b : Bool) → leb r v ≡ b → (b || eqb r w) ≡ true → (r ≤ v) ⊎ (r ≡ w)
    go true q h = inl (leb-true r v q)
    go false q h = inr (eqb-true r w h)

past_lane : (w v r : ℕ) → (r ≤ v) ⊎ (r ≡ w) → (leb r v || eqb r w) ≡ true
past_lane w v r (inl h) = rw (le-leb r v h)
past_lane w v r (inr h) = rw (eq-eqb r w h, or_true (leb r v))

lane_fine : (w v r : ℕ) → lane_ok w v r ≡ true → LaneFine w v r
unfolding lane_ok
lane_fine w v r h =
    let a = and_true (leb w counter_max && leb v w && leb r w) (leb r v || eqb r w) h in
    let b = and_true (leb w counter_max && leb v w) (leb r w) a.0 in
    let c = and_true (leb w counter_max) (leb v w) b.0 in
    record { most = leb-true w counter_max c.0; seen = leb-true v w c.1; gone = leb-true r w b.1; past = lane_past w v r a.1 }

fine_lane : (w v r : ℕ) → LaneFine w v r → lane_ok w v r ≡ true
unfolding lane_ok
fine_lane w v r f = and_both (and_both (and_both (le-leb w counter_max f.most) (le-leb v w f.seen)) (le-leb r w f.gone)) (past_lane w v r f.past)

pub vault_fine : (x : Vault) → vault_ok x ≡ true → VaultFine x
unfolding vault_ok
vault_fine x h =
    let a = and_true (leb x.e counter_max && leb x.s counter_max && leb x.n counter_max) _ h in
    let b = and_true (leb x.e counter_max && leb x.s counter_max) (leb x.n counter_max) a.0 in
    let c = and_true (leb x.e counter_max) (leb x.s counter_max) b.0 in
    record {
      e = leb-true x.e counter_max c.0;
      s = leb-true x.s counter_max c.1;
      n = leb-true x.n counter_max b.1;
      lane = λ l k. lane_fine (at x.w l) (at x.v l) (at x.r l) (all_at _ lanes a.1 l k);
    }

pub fine_vault : (x : Vault) → VaultFine x → vault_ok x ≡ true
unfolding vault_ok
fine_vault x f =
    and_both
    (and_both (and_both (le-leb x.e counter_max f.e) (le-leb x.s counter_max f.s)) (le-leb x.n counter_max f.n))
    (all_of _ lanes (λ l k. fine_lane (at x.w l) (at x.v l) (at x.r l) (f.lane l k)))

-- ---- a number set

-- an element after a store: what the new value has at its place, and the old ones have
at_set : (P : ℕ → Type 0) (s : List ℕ) (i k j : ℕ) → (j ≡ i → P k) → P (at s j) → P (at (set s i k) j)
at_set P [] i k j new old = old
at_set P (x ∷ s) zero k zero new old = new refl
at_set P (x ∷ s) zero k (suc j) new old = old
at_set P (x ∷ s) (suc i) k zero new old = old
at_set P (x ∷ s) (suc i) k (suc j) new old = at_set P s i k j (λ e. new (ap suc e)) old

module _ (x : Vault) (f : VaultFine x) where
  pub fine_n : x.n < counter_max → VaultFine (set_n x (suc x.n))
  fine_n h = record { e = f.e; s = f.s; n = h; lane = f.lane }

  pub fine_s : x.s < counter_max → VaultFine (set_s x (suc x.s))
  fine_s h = record { e = f.e; s = h; n = f.n; lane = f.lane }

  pub fine_e : x.e < counter_max → VaultFine (set_e x (suc x.e))
  fine_e h = record { e = h; s = f.s; n = f.n; lane = f.lane }

  -- R of a lane is set to a number that its lane may have
  set_r_law : (l k : ℕ) → (LaneFine (at x.w l) (at x.v l) (at x.r l) → LaneFine (at x.w l) (at x.v l) k) → VaultFine (set_r x l k)
  set_r_law l k new = record {
    e = f.e;
    s = f.s;
    n = f.n;
    lane = λ j h. at_set (λ (i : ℕ). LaneFine (at x.w j) (at x.v j) i) x.r l k j (λ e. subst_lane j e h) (f.lane j h);
  }
    where
      subst_lane : (j : ℕ) → j ≡ l → j < lanes → LaneFine (at x.w j) (at x.v j) k
      subst_lane j e h = rw e (new (f.lane l (omega arith)))

  -- to its W
  pub fine_r_w : (l : ℕ) → VaultFine (set_r x l (at x.w l))
  fine_r_w l = set_r_law l (at x.w l) (λ a. record { most = a.most; seen = a.seen; gone = omega arith; past = inr refl })

  -- to a count of at most V
  pub fine_r_count : (l k : ℕ) → k ≤ at x.v l → VaultFine (set_r x l k)
  fine_r_count l k h = set_r_law l k (λ a. record { most = a.most; seen = a.seen; gone = omega (arith, a.seen); past = inl h })

  -- V of a lane is set to its W
  pub fine_v_w : (l : ℕ) → VaultFine (set_v x l (at x.w l))
  fine_v_w l = record {
    e = f.e;
    s = f.s;
    n = f.n;
    lane = λ j h. at_set (λ (i : ℕ). LaneFine (at x.w j) i (at x.r j)) x.v l (at x.w l) j (λ e. level j e h) (f.lane j h);
  }
    where
      level : (j : ℕ) → j ≡ l → j < lanes → LaneFine (at x.w j) (at x.w l) (at x.r j)
      level j e h = rw e (let a = f.lane l (omega arith) in record { most = a.most; seen = omega arith; gone = a.gone; past = inl a.gone })

-- ---- a handed state

pub record StateFine (c : State) : Type 0 where
  pub vault : VaultFine c.vault
  pub listed : c.journal.count ≤ listed
  pub pointed : c.points.count ≤ points_max

pub state_fine : (c : State) → valid c ≡ true → StateFine c
unfolding valid
state_fine c h =
    let a = and_true (vault_ok c.vault && leb c.journal.count listed) (leb c.points.count points_max) h in
    let b = and_true (vault_ok c.vault) (leb c.journal.count listed) a.0 in
    record { vault = vault_fine c.vault b.0; listed = leb-true c.journal.count listed b.1; pointed = leb-true c.points.count points_max a.1 }

pub fine_state : (c : State) → StateFine c → valid c ≡ true
unfolding valid
fine_state c f = and_both (and_both (fine_vault c.vault f.vault) (le-leb c.journal.count listed f.listed)) (le-leb c.points.count points_max f.pointed)
