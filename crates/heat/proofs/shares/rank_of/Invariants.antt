-- `heat::shares::rank_of` meets its contract. The invariant: those so far that come before are counted. Assumes nothing.
use Rattle.heat.specs.Sums.{count_below}
use Rattle.heat.specs.Shares.{before}
use Rattle.octets.specs.Lists.{at}
use Rattle.std.proofs.Common.{◌≡◌}
use Rattle.heat.proofs.shares.rank_of.Given as goal

abbrev pub invariant-loop-k : goal.invariant-loop-k
invariant-loop-k l = l.count ≡ count_below (λ i. before (at l.remainders) i l.m) l.k
