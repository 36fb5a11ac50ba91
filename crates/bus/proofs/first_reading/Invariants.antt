-- `bus::first_reading` meets its contract. The invariant: what the search finds in the rest is what it finds from the start. The measure is the bytes left.
-- Assumes nothing.
use Rattle.std.proofs.Common.{◌≡◌, length}
use Rattle.bus.specs.Records.{first_reading}
use Rattle.bus.proofs.first_reading.Given as goal

abbrev pub invariant-loop-n : goal.invariant-loop-n
invariant-loop-n l = first_reading l.unit l.rest ≡ first_reading l.unit l.s

abbrev pub decreases-loop-n : goal.decreases-loop-n
decreases-loop-n l = length l.rest
