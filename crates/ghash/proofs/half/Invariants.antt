-- `ghash::half` meets its contract. The invariant: z is z0 and the entries that the first k times four bits of x pick.
-- Assumes nothing.
use Rattle.std.proofs.Common.{◌≡◌}
use Rattle.octets.specs.Blocks.{num}
use Rattle.ghash.specs.Multiples.{sum_to}
use Rattle.ghash.proofs.half.Given as goal

abbrev pub invariant-loop-k : goal.invariant-loop-k
invariant-loop-k l = num l.z ≡ sum_to l.m l.b l.x (num l.initial.z) l.k
