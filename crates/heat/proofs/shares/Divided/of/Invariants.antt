-- `heat::shares::Divided::of` meets its contract. The invariant: the remainders so far, and the sum of the floors, which is small. Assumes nothing.
use Rattle.heat.specs.Sums.{sum_below}
use Rattle.heat.specs.Uses.{gains_in}
use Rattle.heat.specs.Shares.{floor, remainder}
use Rattle.octets.specs.Lists.{at}
use Rattle.transaction.specs.Transaction.{meters}
use Rattle.std.proofs.Common.{ℕ, ◌≡◌, ◌<◌, ◌≤◌, ◌*◌, ◌^◌, length}
use Rattle.heat.proofs.shares.Divided.of.Given as goal

abbrev pub invariant-loop-m : goal.invariant-loop-m
invariant-loop-m l = record {
  rests : (k : ℕ) → k < l.m → at l.remainders k ≡ remainder (gains_in l.uses.each) k;
  sum : l.given ≡ sum_below (floor (gains_in l.uses.each)) l.m;
  small : l.given ≤ 2 ^ 52 * l.m;
  long : length l.remainders ≡ meters;
}
