-- The ways through an operation, once: its answer is a refusal that leaves the state, or one of its endings, each behind the tests that lead to it.
-- So a predicate of answers that holds of the refusals and of the endings holds of the operation.
-- Assumes nothing.
use Prim.Native.Nat.{ℕ, suc, ◌≤◌, ◌<◌}
use mathlib.Core.Path.{◌≡◌, refl, sym}
use mathlib.Core.Bool.{Bool, true, false, cond, not, ◌&&◌}
use mathlib.Core.List.{List, [], ◌∷◌}
use mathlib.Core.Option.{Option, some, none}
use Rattle.std.specs.Prelude as Code
use Rattle.std.specs.Prelude.{Some, None}
use native.Mathlib.Omega.{arith}
use lib.Dec.{leb}
use borrow.Author.Tests.{leb-false, not-false}
use Rattle.octets.specs.Lists.{at}
use Rattle.transaction.specs.Transaction.{legal}
use Rattle.table.specs.declared.Table.{Table}
use Rattle.table.specs.Table.{lanes}
use Rattle.table.proofs.OrderLaws.{clash}
use Rattle.sealed.specs.Aead.{aes_gcm}
use Rattle.sealed.specs.Record.{Opened}
use Rattle.protocol.specs.Vaults.{counter_max}
use Rattle.protocol.specs.States.{listed, points_max, ready, with_vault, with_points}
use Rattle.protocol.specs.Said.{Said, refused, Answered, refusing, taking, refuse}
use Rattle.protocol.specs.Steps.{stands_if, raise_s, raise_n, raise_e, put_r, put_v, stepped, file_step}
use Rattle.protocol.specs.Load.{key_len, loaded, blank, load}
use Rattle.protocol.specs.Accept.{too_low, accepted, accept, held_record, seal}
use Rattle.protocol.specs.Commit.{committed, commit_opened, commit}
use Rattle.protocol.specs.Point.{pointed, point}
use Rattle.protocol.specs.Checkpoint.{checkpointed, checkpoint_first, checkpoint_last, checkpoint_step, checkpoint_due, checkpoint}
use Rattle.protocol.specs.Truncate.{dropped_to, truncate_lane, truncate_first, truncate_next, truncate_delete, truncate_step, truncate_due, truncate}
use Rattle.protocol.specs.Replay.{Read, stopped, reading}
use Rattle.protocol.specs.Recover.{recovered, recover_read, recover_first, recover_number, in_service, recover_step, recover_due, recover_phase, recover}
use Rattle.protocol.specs.History.{is_taken}
use Rattle.protocol.specs.declared.Vault.{Vault}
use Rattle.protocol.specs.declared.State.{State}
use Rattle.protocol.specs.declared.Point.{Point}
use Rattle.protocol.specs.declared.Phase.{Phase}
use Rattle.protocol.specs.declared.Phase.TheVariants as F
use Rattle.protocol.specs.declared.Due.{Due}
use Rattle.protocol.specs.declared.Due.TheVariants as D
use Rattle.protocol.specs.declared.CheckpointStep.TheVariants as K
use Rattle.protocol.specs.declared.TruncateStep.{TruncateStep}
use Rattle.protocol.specs.declared.TruncateStep.TheVariants as L
use Rattle.protocol.specs.declared.RecoverStep.{RecoverStep}
use Rattle.protocol.specs.declared.RecoverStep.TheVariants as G
use Rattle.protocol.specs.declared.RecoverNumber.{RecoverNumber}
use Rattle.protocol.specs.declared.RecoverNumber.TheVariants as M
use Rattle.protocol.specs.declared.Store.{Store}
use Rattle.protocol.specs.declared.Store.TheVariants as S
use Rattle.protocol.proofs.StopLaws.{number_ok, read_by, ReadNumbered, from_numbered}

-- what is not at a limit is below any that is not lower
within : (a b k : ℕ) → leb a b ≡ false → a ≤ k → b < k
within a b k e h = let z = leb-false a b e in omega arith

module _ (P : Answered → Type 0) (c : State) (down : (n : ℕ) (vs : List ℕ) → number_ok n ≡ true → P (refusing c n vs)) where
  -- turned down, or past the test
  past : (b : Bool) (n : ℕ) (vs : List ℕ) (a : Answered) → number_ok n ≡ true → (b ≡ false → P a) → P (refuse b c n vs a)
  unfolding refuse
  past true n vs a k h = down n vs k
  past false n vs a k h = h refl

  pub walk_accept : (text : List ℕ) (lane position : ℕ)
      → (not (ready c) ≡ false → legal text ≡ true → lane < lanes → too_low c.points c.journal position ≡ false → c.journal.count < listed → at c.vault.w lane < counter_max
      → P (taking (accepted c text lane position) (S.W lane (suc (at c.vault.w lane))) []))
      → P (accept c text lane position)
  unfolding accept
  walk_accept text lane position h =
      past _ 1 [] _ refl (λ r. past _ 4 [] _ refl (λ t. past _ 5 [] _ refl (λ l. past _ 6 [] _ refl (λ p. past _ 7 [] _ refl (λ m. past _ 8 [] _ refl (λ w. h r (not-false _ t) (leb-false _ _ l) p (within _ _ _ m (omega arith)) (within _ _ _ w (omega arith))))))))

  pub walk_seal : (room : ℕ) → P (taking (with_vault c c.vault D.Nothing) (S.Record c.held.position) (held_record c)) → P (seal c room)
  unfolding seal
  walk_seal room h = past _ 1 [] _ refl (λ r. past _ 3 _ _ refl (λ l. h))

  walk_opened : (o : Option Opened) → ((r : Opened) → P (taking (committed c r) (S.V r.lane r.number) [])) → P (commit_opened c o)
  unfolding commit_opened
  walk_opened none h = down 9 _ refl
  walk_opened (some r) h = past _ 10 _ _ refl (λ e. past _ 11 _ _ refl (λ n. h r))

  pub walk_commit : (bytes : List ℕ) → ((r : Opened) → P (taking (committed c r) (S.V r.lane r.number) [])) → P (commit c bytes)
  unfolding commit
  walk_commit bytes h = past _ 1 [] _ refl (λ r. walk_opened _ h)

  pub walk_point : (position : ℕ)
      → (not (ready c) ≡ false → (c.points.any && leb position c.points.newest) ≡ false → c.points.count < points_max → P (taking (pointed c position) S.Nothing []))
      → P (point c position)
  unfolding point
  walk_point position h = past _ 1 [] _ refl (λ r. past _ 6 [] _ refl (λ p. past _ 7 [] _ refl (λ n. past _ 15 [] _ refl (λ u. h r p (within _ _ _ n (omega arith))))))

  -- the longer operations: a store that leaves all but the vault's numbers and the due store, or the last one
  module _ (stored : (x : Vault) (d : Due) (st : Store) (out : List ℕ) → P (taking (with_vault c x d) st out)) where
    step : (b : Bool) (y : Vault) (d : Due) (st : Store) → P (stepped c (stands_if b y d st))
    unfolding stepped stands_if
    step true y d st = down 1 [] refl
    step false y d st = stored y d st []

    file_step_law : (room : ℕ) (d : Due) → P (file_step c room d)
    unfolding file_step
    file_step_law room d = past _ 1 [] _ refl (λ s. past _ 3 _ _ refl (λ l. stored _ _ _ _))

    checkpoint_due_law : (room : ℕ) (d : Due) → P (taking (checkpointed c) (S.S (suc c.vault.s)) []) → P (checkpoint_due c room d)
    unfolding checkpoint_due checkpoint_first checkpoint_step checkpoint_last raise_n
    checkpoint_due_law room D.Nothing h = past _ 8 [] _ refl (λ s. step _ _ _ _)
    checkpoint_due_law room (D.Checkpoint K.File) h = file_step_law room _
    checkpoint_due_law room (D.Checkpoint K.Version) h = past _ 1 [] _ refl (λ s. h)
    checkpoint_due_law room D.Record h = down 1 [] refl
    checkpoint_due_law room (D.Truncate p s) h = down 1 [] refl
    checkpoint_due_law room (D.Recover s) h = down 1 [] refl

    pub walk_checkpoint : (room : ℕ) → P (taking (checkpointed c) (S.S (suc c.vault.s)) []) → P (checkpoint c room)
    unfolding checkpoint
    walk_checkpoint room h = past _ 1 [] _ refl (λ v. checkpoint_due_law room c.due h)

    lane_r : (position lane : ℕ) (p : Point) → P (truncate_lane c position lane p)
    unfolding truncate_lane put_r
    lane_r position lane p = step _ _ _ _

    truncate_first_law : (position : ℕ) (o : Code.Option Point) → P (truncate_first c position o)
    unfolding truncate_first
    truncate_first_law position None = down 14 [] refl
    truncate_first_law position (Some p) = past _ 14 [] _ refl (λ u. lane_r position 0 p)

    truncate_next_law : (position lane : ℕ) (o : Code.Option Point) → P (truncate_next c position lane o)
    unfolding truncate_next
    truncate_next_law position lane None = down 1 [] refl
    truncate_next_law position lane (Some p) = lane_r position lane p

    truncate_step_law : (position : ℕ) (s : TruncateStep) → P (taking (with_points c (dropped_to c.points position) D.Nothing) (S.Delete position) []) → P (truncate_step c position s)
    unfolding truncate_step truncate_delete
    truncate_step_law position (L.R lane) h = truncate_next_law position lane _
    truncate_step_law position L.Delete h = h

    truncate_due_law : (position : ℕ) (d : Due) → P (taking (with_points c (dropped_to c.points position) D.Nothing) (S.Delete position) []) → P (truncate_due c position d)
    unfolding truncate_due
    truncate_due_law position D.Nothing h = truncate_first_law position _
    truncate_due_law position (D.Truncate p s) h = past _ 1 [] _ refl (λ q. truncate_step_law position s h)
    truncate_due_law position D.Record h = down 1 [] refl
    truncate_due_law position (D.Checkpoint s) h = down 1 [] refl
    truncate_due_law position (D.Recover s) h = down 1 [] refl

    pub walk_truncate : (position : ℕ) → P (taking (with_points c (dropped_to c.points position) D.Nothing) (S.Delete position) []) → P (truncate c position)
    unfolding truncate
    walk_truncate position h = past _ 1 [] _ refl (λ v. truncate_due_law position c.due h)

    -- Recover: the calls that go on
    recover_number_law : (n : RecoverNumber) → P (stepped c (recover_number c.vault n))
    unfolding recover_number raise_s raise_n raise_e put_r put_v
    recover_number_law (M.S b) = step _ _ _ _
    recover_number_law M.N = step _ _ _ _
    recover_number_law (M.R l) = step _ _ _ _
    recover_number_law M.E = step _ _ _ _
    recover_number_law (M.V l) = step _ _ _ _

    recover_step_law : P (taking (in_service c) S.Empty []) → (room : ℕ) (s : RecoverStep) → P (recover_step c room s)
    unfolding recover_step
    recover_step_law last room (G.File b) = file_step_law room _
    recover_step_law last room (G.Number n) = recover_number_law n
    recover_step_law last room G.Empty = last

    recover_due_law : P (taking (in_service c) S.Empty []) → (room : ℕ) (d : Due) → P (recover_due c room d)
    unfolding recover_due
    recover_due_law last room (D.Recover s) = recover_step_law last room s
    recover_due_law last room D.Nothing = down 1 [] refl
    recover_due_law last room D.Record = down 1 [] refl
    recover_due_law last room (D.Checkpoint s) = down 1 [] refl
    recover_due_law last room (D.Truncate p s) = down 1 [] refl

  -- and the call that accepts
  recover_read_law : ((t : Table) → P (taking (recovered c t) (S.N (suc c.vault.n)) [])) → (r : Read) → ReadNumbered r → P (recover_read c r)
  unfolding recover_read read_by
  recover_read_law read (stopped n vs) h = down n vs h.by
  recover_read_law read (reading g) h = read g.table

  recover_phase_law : (file log : List ℕ) (room : ℕ) (f : Phase) → ((t : Table) → P (taking (recovered c t) (S.N (suc c.vault.n)) []))
      → (f ≡ F.Recovering → (x : Vault) (d : Due) (st : Store) (out : List ℕ) → P (taking (with_vault c x d) st out)) → P (taking (in_service c) S.Empty []) → P (recover_phase c file log room f)
  unfolding recover_phase recover_first
  recover_phase_law file log room F.Cold read stored last = past _ 1 [] _ refl (λ v. past _ 3 _ _ refl (λ l. past _ 8 [] _ refl (λ s. recover_read_law read _ (from_numbered (aes_gcm c.key) c.vault file log))))
  recover_phase_law file log room F.Recovering read stored last = past _ 1 [] _ refl (λ v. recover_due_law (stored refl) last room c.due)
  recover_phase_law file log room F.Serving read stored last = down 1 [] refl

  pub walk_recover : (file log : List ℕ) (room : ℕ) → ((t : Table) → P (taking (recovered c t) (S.N (suc c.vault.n)) []))
      → (c.phase ≡ F.Recovering → (x : Vault) (d : Due) (st : Store) (out : List ℕ) → P (taking (with_vault c x d) st out)) → P (taking (in_service c) S.Empty []) → P (recover c file log room)
  unfolding recover
  walk_recover file log room read stored last = recover_phase_law file log room c.phase read stored last

-- Load hands back a blank state where it refuses
pub walk_load : (P : Answered → Type 0) → ((n : ℕ) (vs : List ℕ) → number_ok n ≡ true → P (refusing blank n vs)) → (x : Vault) (key : List ℕ) → P (taking (loaded x key) S.Nothing []) → P (load x key)
unfolding load
walk_load P down x key h = past P blank down _ 2 [] _ refl (λ v. past P blank down _ 3 (key_len ∷ []) _ refl (λ l. h))

-- ---- what a call says where a test is passed, and where it decides

-- what was taken was not turned down
pub through : (P : Answered → Type 0) (b : Bool) (c : State) (n : ℕ) (vs : List ℕ) (a : Answered) → (b ≡ false → is_taken a.said ≡ true → P a)
    → is_taken (refuse b c n vs a).said ≡ true → P (refuse b c n vs a)
unfolding refuse is_taken
through P true c n vs a go h = clash (sym h)
through P false c n vs a go h = go refl h

pub past_refuse : (b : Bool) (c : State) (n : ℕ) (vs : List ℕ) (a : Answered) (x : Said) → b ≡ false → a.said ≡ x → (refuse b c n vs a).said ≡ x
unfolding refuse
past_refuse true c n vs a x e f = clash e
past_refuse false c n vs a x e f = f

pub at_refuse : (b d : Bool) (c : State) (n : ℕ) (vs : List ℕ) (a : Answered) (x : Said) → b ≡ d → a.said ≡ x → (refuse b c n vs a).said ≡ cond d (refused n vs) x
unfolding refuse
at_refuse true true c n vs a x e f = refl
at_refuse false false c n vs a x e f = f
at_refuse true false c n vs a x e f = clash e
at_refuse false true c n vs a x e f = clash (sym e)
