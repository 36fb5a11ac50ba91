-- `octets::same` meets its contract. The invariant: no bit has differed so far, and the rest is equal, exactly if all is.
-- Assumes nothing.
use mathlib.Core.Bool.{◌&&◌}
use lib.Dec.{eqb}
use lib.ListN.{length, drop}
use Rattle.octets.specs.Bytes.{same_bytes}
use mathlib.Core.Path.{◌≡◌}
use Rattle.octets.proofs.same.Given as goal

abbrev pub invariant-loop-x : goal.invariant-loop-x
invariant-loop-x l = eqb l.diff 0 && same_bytes (drop (length l.yielded) l.a) (drop (length l.yielded) l.b) ≡ same_bytes l.a l.b
