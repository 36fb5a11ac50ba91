-- 01, Operations: "Truncate at a covered point, named by its position: stores R of lanes 0 to 7 from the point's counts, then deletion of
-- records below it. That point and older ones are dropped, so their places are free." Nine calls: R of lanes 0 to 7, the deletion.
-- Assumes nothing.
use Rattle.std.specs.Prelude.{ℕ, suc, ◌-◌, Bool, cond, not, ◌&&◌, List, [], ◌∷◌, ◌++◌, ltb, eqb, length, take, replicate, Option, Some, None}
use Rattle.octets.specs.Lists.{at}
use Rattle.table.specs.Table.{lanes}
use Rattle.protocol.specs.States.{points_max, no_point, valid, serving, with_points}
use Rattle.protocol.specs.Said.{Answered, refuse, refusing, taking}
use Rattle.protocol.specs.Steps.{put_r, stepped}
use Rattle.protocol.specs.declared.Point.{Point}
use Rattle.protocol.specs.declared.Points.{Points}
use Rattle.protocol.specs.declared.State.{State}
use Rattle.protocol.specs.declared.Due.{Due}
use Rattle.protocol.specs.declared.Due.TheVariants as D
use Rattle.protocol.specs.declared.TruncateStep.{TruncateStep}
use Rattle.protocol.specs.declared.TruncateStep.TheVariants as L
use Rattle.protocol.specs.declared.Store.TheVariants as S

unfoldable pub points_of : Points → List Point
points_of p = take p.count p.items

unfoldable pub find_point : ℕ → List Point → Option Point
find_point position [] = None
find_point position (p ∷ ps) = cond (eqb p.position position) (Some p) (find_point position ps)

unfoldable pub points_above : ℕ → List Point → List Point
points_above position [] = []
points_above position (p ∷ ps) = cond (ltb position p.position) (p ∷ points_above position ps) (points_above position ps)

-- the points above a position, with empty places behind
unfoldable pub dropped_to : Points → ℕ → Points
dropped_to p position = record {
  items = points_above position (points_of p) ++ replicate (points_max - length (points_above position (points_of p))) no_point;
  count = length (points_above position (points_of p));
  any = p.any;
  newest = p.newest;
}

-- the store that is due behind R of a lane
unfoldable pub after_truncate_r : ℕ → ℕ → Due
after_truncate_r lane position = D.Truncate position (cond (ltb (suc lane) lanes) (L.R (suc lane)) L.Delete)

unfoldable pub truncate_lane : State → ℕ → ℕ → Point → Answered
truncate_lane c position lane p =
    stepped c (put_r c.vault lane (at p.counts lane) (after_truncate_r lane position))

-- no checkpoint covers the point
unfoldable pub uncovered : Point → Bool
uncovered p = not p.covered

unfoldable pub truncate_first : State → ℕ → Option Point → Answered
truncate_first c position None = refusing c 14 []
truncate_first c position (Some p) = refuse (uncovered p) c 14 [] (truncate_lane c position 0 p)

-- a continuing call names the due store: at another position, or where its point or lane is none, it is turned down
unfoldable pub truncate_next : State → ℕ → ℕ → Option Point → Answered
truncate_next c position lane None = refusing c 1 []
truncate_next c position lane (Some p) = truncate_lane c position lane p

-- the deletion, with the points above the position
unfoldable pub truncate_delete : State → ℕ → Answered
truncate_delete c position = taking (with_points c (dropped_to c.points position) D.Nothing) (S.Delete position) []

unfoldable pub truncate_step : State → ℕ → TruncateStep → Answered
truncate_step c position (L.R lane) = truncate_next c position lane (find_point position (points_of c.points))
truncate_step c position L.Delete = truncate_delete c position

unfoldable pub truncate_due : State → ℕ → Due → Answered
truncate_due c position D.Nothing = truncate_first c position (find_point position (points_of c.points))
truncate_due c position (D.Truncate p step) = refuse (not (eqb p position)) c 1 [] (truncate_step c position step)
truncate_due c position D.Record = refusing c 1 []
truncate_due c position (D.Checkpoint step) = refusing c 1 []
truncate_due c position (D.Recover step) = refusing c 1 []

unfoldable pub truncate : State → ℕ → Answered
truncate c position = refuse (not (valid c && serving c.phase)) c 1 [] (truncate_due c position c.due)
