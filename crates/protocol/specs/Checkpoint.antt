-- 01, Operations: "Checkpoint: stores N + 1, the file of the whole table with version S + 1 and the raised N as seal number, then S + 1.
-- Points set before it began are then covered." Three calls: N, the file, S.
-- Assumes nothing.
use Rattle.std.specs.Prelude.{ℕ, suc, true, not, ◌&&◌, ◌||◌, [], map, leb}
use Rattle.protocol.specs.Vaults.{counter_max, set_s}
use Rattle.protocol.specs.States.{valid, serving}
use Rattle.protocol.specs.Said.{Answered, refuse, refusing, taking}
use Rattle.protocol.specs.Steps.{raise_n, stepped, file_step}
use Rattle.protocol.specs.declared.Point.{Point}
use Rattle.protocol.specs.declared.Points.{Points}
use Rattle.protocol.specs.declared.State.{State}
use Rattle.protocol.specs.declared.Due.{Due}
use Rattle.protocol.specs.declared.Due.TheVariants as D
use Rattle.protocol.specs.declared.CheckpointStep.{CheckpointStep}
use Rattle.protocol.specs.declared.CheckpointStep.TheVariants as K
use Rattle.protocol.specs.declared.Store.TheVariants as S

unfoldable pub covered_point : Point → Point
covered_point p = record { position = p.position; counts = p.counts; covered = true }

unfoldable pub covered_points : Points → Points
covered_points p = record { items = map covered_point p.items; count = p.count; any = p.any; newest = p.newest }

unfoldable pub checkpointed : State → State
checkpointed c = record {
  vault = set_s c.vault (suc c.vault.s);
  phase = c.phase;
  due = D.Nothing;
  table = c.table;
  journal = c.journal;
  points = covered_points c.points;
  held = c.held;
  key = c.key;
}

-- the call that names N
unfoldable pub checkpoint_first : State → Answered
checkpoint_first c =
    refuse (leb counter_max c.vault.s || leb counter_max c.vault.n) c 8 []
    (stepped c (raise_n c.vault (D.Checkpoint K.File)))

-- the call that names S; an S at the maximum already is turned down with 1: no call left such a state
unfoldable pub checkpoint_last : State → Answered
checkpoint_last c = refuse (leb counter_max c.vault.s) c 1 [] (taking (checkpointed c) (S.S (suc c.vault.s)) [])

unfoldable pub checkpoint_step : State → ℕ → CheckpointStep → Answered
checkpoint_step c room K.File = file_step c room (D.Checkpoint K.Version)
checkpoint_step c room K.Version = checkpoint_last c

unfoldable pub checkpoint_due : State → ℕ → Due → Answered
checkpoint_due c room D.Nothing = checkpoint_first c
checkpoint_due c room (D.Checkpoint step) = checkpoint_step c room step
checkpoint_due c room D.Record = refusing c 1 []
checkpoint_due c room (D.Truncate position step) = refusing c 1 []
checkpoint_due c room (D.Recover step) = refusing c 1 []

unfoldable pub checkpoint : State → ℕ → Answered
checkpoint c room = refuse (not (valid c && serving c.phase)) c 1 [] (checkpoint_due c room c.due)
