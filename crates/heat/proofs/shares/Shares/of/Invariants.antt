-- `heat::shares::Shares::of` meets its contract. The invariant: the shares so far. Assumes nothing.
use Rattle.heat.specs.Uses.{listed_in, gains_in}
use Rattle.heat.specs.Shares.{share}
use Rattle.octets.specs.Lists.{at}
use Rattle.transaction.specs.Transaction.{meters}
use Rattle.std.specs.Prelude.{cond}
use Rattle.std.proofs.Common.{ℕ, ◌≡◌, ◌<◌, length}
use Rattle.heat.proofs.shares.Shares.of.Given as goal

abbrev pub invariant-loop-m : goal.invariant-loop-m
invariant-loop-m l = record {
  shares : (k : ℕ) → k < l.m → at l.each k ≡ cond (listed_in l.uses.each k) (share (listed_in l.uses.each) (gains_in l.uses.each) k) 0;
  long : length l.each ≡ meters;
}
