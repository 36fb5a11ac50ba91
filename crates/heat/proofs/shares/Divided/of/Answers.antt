use Rattle.heat.proofs.SumLaws.{sum_more}
use Rattle.heat.proofs.ShareLaws.{floors_fit}
use Rattle.heat.proofs.UsesLaws.{set_more}
use Rattle.heat.specs.Sums.{sum_below}
use Rattle.heat.specs.Uses.{gains_in}
use Rattle.heat.specs.Shares.{house, floor, remainder, missing}
use Rattle.transaction.specs.Transaction.{meters}
use Rattle.std.proofs.Common.{ℕ, ◌≡◌, ◌+◌, ◌-◌, ◌*◌, ◌/◌, ◌%◌, arith, refl, ap, ap₂, ◌∙◌, length-set}
use Rattle.heat.proofs.shares.Divided.of.Goals as goal

pub loop-m-init : goal.loop-m-init
unfolding sum_below
loop-m-init c = record { rests = λ k h. absurd (omega arith); sum = refl; small = omega arith; long = refl }

pub loop-m-preserved : goal.loop-m-preserved
unfolding floor remainder
loop-m-preserved c =
    let l = c.loop-m in
    let u = c.args.uses.now in
    let x = gains_in u.each l.m * house in
    let part = c.part_of-part.ensures in
    record {
      rests = set_more 0 (remainder (gains_in u.each)) l.remainders l.m c.part_of-part.result.remainder (omega arith) l.invariant.rests (part.remainder ∙ ap (λ (t : ℕ). x % t) c.total-sum.ensures);
      sum = ap₂ ◌+◌ l.invariant.sum (part.floor ∙ ap (λ (t : ℕ). x / t) c.total-sum.ensures) ∙ sum_more (floor (gains_in u.each)) l.m;
      small = omega arith;
      long = length-set l.remainders l.m c.part_of-part.result.remainder ∙ l.invariant.long;
    }

pub overflow_sub-result : goal.overflow_sub-result
overflow_sub-result c =
    let l = c.loop-m in
    let all : l.m ≡ meters = omega arith in
    let is = l.invariant.sum ∙ ap (sum_below (floor (gains_in c.args.uses.now.each))) all in
    let fit = floors_fit (gains_in c.args.uses.now.each) in
    omega arith

pub invariant_of-result : goal.invariant_of-result
unfolding missing
invariant_of-result c =
    let l = c.loop-m in
    let all : l.m ≡ meters = omega arith in
    record {
      some = omega arith;
      whole = c.total-sum.ensures;
      rests = λ m h. l.invariant.rests m (omega arith);
      units = ap (λ (x : ℕ). house - x) (l.invariant.sum ∙ ap (sum_below (floor (gains_in c.args.uses.now.each))) all);
    }
