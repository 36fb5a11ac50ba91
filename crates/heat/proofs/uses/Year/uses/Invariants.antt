-- `heat::uses::Year::uses` meets its contract. The invariant: of the meters so far, no code changed, and what each used, which is small. Assumes nothing.
use Rattle.heat.specs.Sums.{any_below}
use Rattle.heat.specs.Uses.{code_changed, use_at, use_in, AreSmall}
use Rattle.transaction.specs.Transaction.{meters}
use Rattle.std.proofs.Common.{ℕ, ◌≡◌, ◌<◌, false, length}
use Rattle.heat.proofs.uses.Year.uses.Given as goal

abbrev pub invariant-loop-m : goal.invariant-loop-m
invariant-loop-m l = record {
  same : any_below (code_changed l.self.0 l.self.1) l.m ≡ false;
  uses : (k : ℕ) → k < l.m → use_in l.each k ≡ use_at l.self.0 l.self.1 k;
  small : AreSmall l.each;
  long : length l.each ≡ meters;
}
