-- The stores of the operations that take several calls, in order, and the calls that name them.
-- 01, Operations, Recover: "Then the stores: N, checkpoint S + 1, S; the same three again; R = W for lanes 0 to 7; if any W ≠ V, also E + 1 and
-- V = W for lanes 0 to 7; empty the log. That makes 15 or 24. Then it is in service with no point and no position used."
-- Checkpoint: "stores N + 1, the file .., then S + 1. Points set before it began are then covered."
-- Truncate: "stores R of lanes 0 to 7 from the point's counts, then deletion of records below it."
-- The theorems are in proofs/TallyLaws.antt.
-- Assumes nothing.
use Rattle.std.specs.Prelude.{ℕ, zero, suc, ◌≤◌, ◌<◌, ◌≡◌, Bool, true, cond, length, Some}
use mathlib.Core.List.{List, [], ◌∷◌, ◌++◌, map, Memᴰ}
use Rattle.std.proofs.Math.Option.{Option, some, none}
use Rattle.octets.specs.Lists.{at}
use Rattle.table.specs.Table.{lanes}
use Rattle.protocol.specs.States.{no_journal, no_points}
use Rattle.protocol.specs.Said.{Said, refused, taken, Answered}
use Rattle.protocol.specs.Truncate.{points_of, find_point, truncate}
use Rattle.protocol.specs.declared.Vault.{Vault}
use Rattle.protocol.specs.declared.Point.{Point}
use Rattle.protocol.specs.declared.State.{State}
use Rattle.protocol.specs.declared.Phase.TheVariants as F
use Rattle.protocol.specs.declared.Due.TheVariants as D
use Rattle.protocol.specs.declared.Store.{Store}
use Rattle.protocol.specs.declared.Store.TheVariants as S

-- ---- the stores

-- a store for each of n lanes, from a lane on
unfoldable pub from_lane : (ℕ → Store) → ℕ → ℕ → List Store
from_lane store lane zero = []
from_lane store lane (suc n) = store lane ∷ from_lane store (suc lane) n

-- for lanes 0 to 7
abbrev pub each_lane : (ℕ → Store) → List Store
each_lane store = from_lane store 0 lanes

abbrev pub store_r : Vault → ℕ → Store
store_r x lane = S.R lane (at x.w lane)

abbrev pub store_v : Vault → ℕ → Store
store_v x lane = S.V lane (at x.w lane)

-- "if any W ≠ V, also E + 1 and V = W for lanes 0 to 7; empty the log"
unfoldable pub last_stores : Bool → Vault → List Store
last_stores also x = cond also (S.E (suc x.e) ∷ each_lane (store_v x)) [] ++ (S.Empty ∷ [])

-- the stores of a recovery, where x are the vault's numbers before it, and also says whether any W ≠ V
unfoldable pub recovery_stores : Bool → Vault → List Store
recovery_stores also x =
    S.N (suc x.n) ∷ S.File ∷ S.S (suc x.s)
    ∷ S.N (suc (suc x.n)) ∷ S.File ∷ S.S (suc (suc x.s))
    ∷ (each_lane (store_r x) ++ last_stores also x)

-- the stores of a truncation at a point
unfoldable pub truncate_stores : Point → List Store
truncate_stores p = each_lane (λ lane. S.R lane (at p.counts lane)) ++ (S.Delete p.position ∷ [])

-- the stores of a checkpoint, where x are the vault's numbers before it
unfoldable pub checkpoint_stores : Vault → List Store
checkpoint_stores x = S.N (suc x.n) ∷ S.File ∷ S.S (suc x.s) ∷ []

-- ---- the calls

-- the answers to so many calls of an operation, each handed the state last returned
unfoldable pub answers : (State → Answered) → ℕ → State → List Answered
answers op zero c = []
answers op (suc n) c = op c ∷ answers op n (op c).state

-- the state that the last of them returned
unfoldable pub last_state : (State → Answered) → ℕ → State → State
last_state op zero c = c
last_state op (suc n) c = last_state op n (op c).state

-- the store that a taken call names; a refused one names none
unfoldable pub named : Said → Option Store
named (refused n vs) = none
named (taken st n) = some st

abbrev pub named_by : List Answered → List (Option Store)
named_by said = map (λ (a : Answered). named a.said) said

-- the bytes that they put out
abbrev pub put_by : List Answered → List (List ℕ)
put_by said = map (λ (a : Answered). a.put) said

-- as many calls as there are stores: every one is taken and names the next store, and the state returned last is as Q says
pub record Names (op : State → Answered) (c : State) (stores : List Store) (Q : State → Type 0) : Type 0 where
  pub each : named_by (answers op (length stores) c) ≡ map some stores
  pub ends : Q (last_state op (length stores) c)

-- ---- the state behind the last store

-- "Then it is in service with no point and no position used."
pub record Serves (c : State) : Type 0 where
  pub phase : c.phase ≡ F.Serving
  pub due : c.due ≡ D.Nothing
  pub journal : c.journal ≡ no_journal
  pub points : c.points ≡ no_points

-- all but the vault's numbers, the due store and the points is as it was
pub record Unchanged (c d : State) : Type 0 where
  pub phase : d.phase ≡ c.phase
  pub table : d.table ≡ c.table
  pub journal : d.journal ≡ c.journal
  pub any : d.points.any ≡ c.points.any
  pub newest : d.points.newest ≡ c.points.newest
  pub held : d.held ≡ c.held
  pub key : d.key ≡ c.key

-- Truncate, c before and d after: "That point and older ones are dropped, so their places are free." The points that were kept are those up to the
-- position, and behind them those that stay. Of the vault's numbers R alone is another, by the stores.
pub record Dropped (c : State) (position : ℕ) (d : State) : Type 0 where
  pub due : d.due ≡ D.Nothing
  pub older : List Point
  pub parted : points_of c.points ≡ older ++ points_of d.points
  pub gone : (p : Point) → Memᴰ p older → p.position ≤ position
  pub stays : (p : Point) → Memᴰ p (points_of d.points) → position < p.position
  pub places : d.points.count ≡ length (points_of d.points)
  pub vault : d.vault ≡ record { w = c.vault.w; v = c.vault.v; r = d.vault.r; e = c.vault.e; s = c.vault.s; n = c.vault.n }
  pub rest : Unchanged c d

-- Checkpoint, c before and d after: "Points set before it began are then covered." N and S have risen by 1.
pub record Covered (c d : State) : Type 0 where
  pub due : d.due ≡ D.Nothing
  pub vault : d.vault ≡ record { w = c.vault.w; v = c.vault.v; r = c.vault.r; e = c.vault.e; s = suc c.vault.s; n = suc c.vault.n }
  pub points : points_of d.points ≡ map (λ (p : Point). record { position = p.position; counts = p.counts; covered = true }) (points_of c.points)
  pub places : d.points.count ≡ c.points.count
  pub rest : Unchanged c d

-- at each point that c keeps, d takes a truncation
abbrev pub Truncates : State → State → Type 0
Truncates c d = (position : ℕ) (p : Point) → find_point position (points_of c.points) ≡ Some p → Names (λ e. truncate e position) d (truncate_stores p) (Dropped d position)
