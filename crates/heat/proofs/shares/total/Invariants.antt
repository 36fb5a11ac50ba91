-- `heat::shares::total` meets its contract. The invariant: the sum of the gains so far, which are small. Assumes nothing.
use Rattle.heat.specs.Sums.{sum_below}
use Rattle.heat.specs.Uses.{gains_in}
use Rattle.std.proofs.Common.{◌≡◌, ◌≤◌, ◌*◌, ◌^◌}
use Rattle.heat.proofs.shares.total.Given as goal

abbrev pub invariant-loop-used : goal.invariant-loop-used
invariant-loop-used l = record { is : l.sum ≡ sum_below (gains_in l.uses.each) l.used-index; small : l.sum ≤ 2 ^ 32 * l.used-index }
