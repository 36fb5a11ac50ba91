-- `heat::shares::Divided::share_of` meets its contract: its part and its rank are the definition's. Assumes nothing.
use Rattle.heat.proofs.DividedLaws.{gets_one, gets_none}
use Rattle.heat.specs.Uses.{gains_in}
use Rattle.heat.specs.Shares.{house, floor}
use Rattle.std.proofs.Common.{ℕ, ◌*◌, ◌/◌, ◌<◌, arith, ap, ◌∙◌}
use Rattle.heat.proofs.shares.Divided.share_of.Goals as goal

pub returns-then-rank_of-self : goal.returns-then-rank_of-self
unfolding floor
returns-then-rank_of-self c =
    let d = c.args.self.now in
    let m = c.args.m in
    let us = d.uses.now.each in
    let some : 0 < d.sum = d.some in
    let whole = d.whole in
    gets_one us d.remainders m c.requires (omega arith) d.rests d.units c.if-is_none.ensures (c.part_of-floor.ensures.floor ∙ ap (λ (t : ℕ). gains_in us m * house / t) d.whole) c.rank_of.ensures c.if-rank_of-self.true

pub returns : goal.returns
unfolding floor
returns c =
    let d = c.args.self.now in
    let m = c.args.m in
    let us = d.uses.now.each in
    let some : 0 < d.sum = d.some in
    let whole = d.whole in
    gets_none us d.remainders m c.requires (omega arith) d.rests d.units c.if-is_none.ensures (c.part_of-floor.ensures.floor ∙ ap (λ (t : ℕ). gains_in us m * house / t) d.whole) c.rank_of.ensures c.if-rank_of-self.false
