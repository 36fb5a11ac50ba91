-- `journal::points::dropped_to` meets its contract. The invariant: of the points so far those above the position are put. Assumes nothing.
use Rattle.journal.proofs.PointLaws.{Kept}
use Rattle.protocol.specs.Truncate.{points_above}
use Rattle.protocol.specs.States.{points_max}
use lib.ListN.{length, take}
use mathlib.Core.Path.{◌≡◌}
use Prim.Native.Nat.{◌≤◌}
use Rattle.journal.proofs.points.dropped_to.Given as goal

abbrev pub invariant-loop-q : goal.invariant-loop-q
invariant-loop-q l = record {
  few : l.count ≤ l.q-index;
  room : length l.kept ≤ points_max;
  long : length l.items ≡ points_max;
  put : Kept (points_above l.position (take l.q-index l.kept)) l.items l.count;
}
