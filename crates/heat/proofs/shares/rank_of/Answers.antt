use Rattle.heat.proofs.SumLaws.{count_more, count_most}
use Rattle.heat.proofs.DividedLaws.{bit_is, byte_most}
use Rattle.heat.specs.Sums.{sum_below, count_below}
use Rattle.heat.specs.Shares.{before, rank}
use Rattle.octets.specs.Lists.{at}
use Rattle.transaction.specs.Transaction.{meters}
use Rattle.std.proofs.Common.{ℕ, Bool, ◌≡◌, ◌+◌, arith, refl, ap, ap₂, ◌∙◌}
use Rattle.heat.proofs.shares.rank_of.Goals as goal

pub loop-k-init : goal.loop-k-init
unfolding count_below sum_below
loop-k-init c = refl

pub overflow_add-count : goal.overflow_add-count
unfolding before
overflow_add-count c =
    let l = c.loop-k in
    let a = c.args in
    let most = count_most (λ i. before (at a.remainders.now) i a.m) l.k in
    let is = l.invariant in
    let bit = byte_most (before (at a.remainders.now) l.k a.m) in
    record { fits = omega arith }

pub loop-k-preserved : goal.loop-k-preserved
unfolding before
loop-k-preserved c =
    let l = c.loop-k in
    let p : ℕ → Bool = λ i. before (at c.args.remainders.now) i c.args.m in
    ap₂ ◌+◌ l.invariant (bit_is (p l.k)) ∙ count_more p l.k

pub returns : goal.returns
unfolding rank
returns c =
    let l = c.loop-k in
    let all : l.k ≡ meters = omega arith in
    l.invariant ∙ ap (count_below (λ i. before (at c.args.remainders.now) i c.args.m)) all
