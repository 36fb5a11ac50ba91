use Rattle.heat.proofs.DividedLaws.{shares_fit}
use Rattle.std.proofs.Common.{arith}
use Rattle.heat.proofs.shares.Shares.of.Goals as goal

pub invariant_of-result : goal.invariant_of-result
invariant_of-result c = record { most = λ m h. shares_fit c.args.uses.now.each c.loop-m.each (λ k q. c.loop-m.invariant.shares k (omega arith)) m h }
