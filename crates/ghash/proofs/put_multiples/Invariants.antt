-- `ghash::put_multiples` meets its contract. The invariant: the first j rows are right, and v is what V is after 4j steps.
-- Assumes nothing.
use Rattle.std.proofs.Common.{◌≡◌, ◌*◌, length, take}
use Rattle.octets.specs.Blocks.{num}
use Rattle.ghash.specs.Multiples.{rows_to}
use Rattle.ghash.proofs.ProductLaws.{shifted_by}
use Rattle.ghash.proofs.put_multiples.Given as goal

abbrev pub invariant-loop-j : goal.invariant-loop-j
invariant-loop-j l = record {
  long : length l.m ≡ 1024;
  step : num l.v ≡ shifted_by (4 * l.j) (num l.initial.v);
  rows : take (32 * l.j) l.m ≡ rows_to l.j (num l.initial.v);
}
