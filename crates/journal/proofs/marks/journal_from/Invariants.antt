-- `journal::marks::journal_from` meets its contract. The invariant: of the records so far those at or above the position are put. Assumes nothing.
use Rattle.journal.proofs.LaidLaws.{Laid}
use Rattle.protocol.specs.Point.{marks_of, marks_from}
use Rattle.protocol.specs.States.{listed}
use lib.ListN.{length, take}
use mathlib.Core.Path.{◌≡◌}
use Prim.Native.Nat.{◌≤◌}
use Rattle.journal.proofs.marks.journal_from.Given as goal

abbrev pub invariant-loop-p : goal.invariant-loop-p
invariant-loop-p l = record {
  few : l.kept.count ≤ length l.yielded;
  long : length l.kept.positions ≡ listed;
  wide : length l.kept.lanes ≡ listed;
  laid : Laid (marks_from l.position (take (length l.yielded) (marks_of l.fn.j))) l.kept.positions l.kept.lanes l.kept.count;
}
