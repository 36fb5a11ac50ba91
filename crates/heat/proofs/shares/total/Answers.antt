use Rattle.heat.proofs.SumLaws.{sum_more}
use Rattle.heat.specs.Sums.{sum_below}
use Rattle.heat.specs.Uses.{gains_in}
use Rattle.heat.specs.Shares.{total}
use Rattle.transaction.specs.Transaction.{meters}
use Rattle.std.proofs.Common.{◌≡◌, ◌+◌, arith, refl, ap, ap₂, ◌∙◌}
use Rattle.heat.proofs.shares.total.Goals as goal

pub loop-used-init : goal.loop-used-init
unfolding sum_below
loop-used-init c = record { is = refl; small = omega arith }

pub overflow_add-sum : goal.overflow_add-sum
overflow_add-sum c = record { fits = omega arith }

pub loop-used-preserved : goal.loop-used-preserved
loop-used-preserved c =
    let l = c.loop-used in
    let u = c.args.uses.now in
    record {
      is = ap₂ ◌+◌ l.invariant.is c.gain_of-sum.ensures.value ∙ sum_more (gains_in u.each) l.used-index;
      small = omega arith;
    }

pub returns : goal.returns
unfolding total
returns c =
    let l = c.loop-used in
    let all : l.used-index ≡ meters = omega arith in
    l.invariant.is ∙ ap (sum_below (gains_in c.args.uses.now.each)) all
