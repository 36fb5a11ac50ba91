-- The state as plain numbers: kinds of a due store 0 to 12, phases 1 to 3. A state of zeros is none: no phase is 0.
-- Assumes nothing.
use Rattle.std.specs.Prelude.{ℕ, Bool, cond, ◌&&◌, eqb}
use Rattle.protocol.specs.declared.State.{State}
use Rattle.protocol.specs.declared.Phase.{Phase}
use Rattle.protocol.specs.declared.Phase.TheVariants as F
use Rattle.protocol.specs.declared.Due.{Due}
use Rattle.protocol.specs.declared.Due.TheVariants as D
use Rattle.protocol.specs.declared.CheckpointStep.TheVariants as K
use Rattle.protocol.specs.declared.TruncateStep.TheVariants as L
use Rattle.protocol.specs.declared.RecoverStep.TheVariants as G
use Rattle.protocol.specs.declared.RecoverNumber.TheVariants as M
use Rattle.boundary.specs.declared.DueNumbers.{DueNumbers}
use Rattle.boundary.specs.declared.FlatState.{FlatState}

-- ---- the store that is due

abbrev pub numbers : ℕ → ℕ → ℕ → ℕ → DueNumbers
numbers kind position lane second = record { position = position; kind = kind; lane = lane; second = second }

-- the numbers of a due store: its kind, and what it has of a position, a lane and whether it is the second checkpoint's
unfoldable pub due_numbers : Due → DueNumbers
due_numbers D.Nothing = numbers 0 0 0 0
due_numbers D.Record = numbers 1 0 0 0
due_numbers (D.Checkpoint K.File) = numbers 2 0 0 0
due_numbers (D.Checkpoint K.Version) = numbers 3 0 0 0
due_numbers (D.Truncate position (L.R lane)) = numbers 4 position lane 0
due_numbers (D.Truncate position L.Delete) = numbers 5 position 0 0
due_numbers (D.Recover (G.File second)) = numbers 6 0 0 (cond second 1 0)
due_numbers (D.Recover (G.Number (M.S second))) = numbers 7 0 0 (cond second 1 0)
due_numbers (D.Recover (G.Number M.N)) = numbers 8 0 0 0
due_numbers (D.Recover (G.Number (M.R lane))) = numbers 9 0 lane 0
due_numbers (D.Recover (G.Number M.E)) = numbers 10 0 0 0
due_numbers (D.Recover (G.Number (M.V lane))) = numbers 11 0 lane 0
due_numbers (D.Recover G.Empty) = numbers 12 0 0 0

-- the due store of these numbers; nothing where the kind is none of 1 to 12
unfoldable pub due_of : DueNumbers → Due
due_of d =
    cond (eqb d.kind 1) D.Record
    (cond (eqb d.kind 2) (D.Checkpoint K.File)
    (cond (eqb d.kind 3) (D.Checkpoint K.Version)
    (cond (eqb d.kind 4) (D.Truncate d.position (L.R d.lane))
    (cond (eqb d.kind 5) (D.Truncate d.position L.Delete)
    (cond (eqb d.kind 6) (D.Recover (G.File (eqb d.second 1)))
    (cond (eqb d.kind 7) (D.Recover (G.Number (M.S (eqb d.second 1))))
    (cond (eqb d.kind 8) (D.Recover (G.Number M.N))
    (cond (eqb d.kind 9) (D.Recover (G.Number (M.R d.lane)))
    (cond (eqb d.kind 10) (D.Recover (G.Number M.E))
    (cond (eqb d.kind 11) (D.Recover (G.Number (M.V d.lane)))
    (cond (eqb d.kind 12) (D.Recover G.Empty) D.Nothing)))))))))))

-- the same four numbers
unfoldable pub same_due : DueNumbers → DueNumbers → Bool
same_due a b = eqb a.position b.position && eqb a.kind b.kind && eqb a.lane b.lane && eqb a.second b.second

-- the numbers are those of a due store: the one that they stand for has just them
unfoldable pub due_known : DueNumbers → Bool
due_known d = same_due (due_numbers (due_of d)) d

-- ---- the phase

unfoldable pub phase_number : Phase → ℕ
phase_number F.Cold = 1
phase_number F.Recovering = 2
phase_number F.Serving = 3

-- the phase of a number; cold where it is neither 2 nor 3
unfoldable pub phase_of : ℕ → Phase
phase_of p = cond (eqb p 2) F.Recovering (cond (eqb p 3) F.Serving F.Cold)

unfoldable pub phase_known : ℕ → Bool
phase_known p = eqb (phase_number (phase_of p)) p

-- ---- the state

unfoldable pub known_by : DueNumbers → ℕ → Bool
known_by d p = due_known d && phase_known p

-- the numbers of due store and phase are such as a state has
abbrev pub known : FlatState → Bool
known s = known_by s.due s.phase

-- the state that stands in the numbers
unfoldable pub thaw : FlatState → State
thaw s = record {
  vault = s.vault;
  phase = phase_of s.phase;
  due = due_of s.due;
  table = s.table;
  journal = s.journal;
  points = s.points;
  held = s.held;
  key = s.key;
}

-- a state, written down in numbers
unfoldable pub freeze : State → FlatState
freeze c = record {
  vault = c.vault;
  due = due_numbers c.due;
  table = c.table;
  journal = c.journal;
  points = c.points;
  held = c.held;
  key = c.key;
  phase = phase_number c.phase;
}
