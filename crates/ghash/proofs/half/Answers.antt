use Rattle.std.proofs.Common.{ℕ, ◌+◌, ◌-◌, ◌*◌, ◌/◌, ◌%◌, ◌^◌, refl, sym, ap, ◌∙◌, bit_xor}
use Rattle.octets.specs.Blocks.{num}
use Rattle.ghash.specs.Multiples.{entry_at, sum_to}
use Rattle.ghash.proofs.TableLaws.{sum_more}
use Rattle.ghash.proofs.half.Goals as goal

pub loop-k-init : goal.loop-k-init
unfolding sum_to
loop-k-init c = refl

pub loop-k-preserved : goal.loop-k-preserved
loop-k-preserved c =
    let l = c.loop-k in
    let a = c.args in
    let e = entry_at a.m.now (a.b + l.k) (a.x / 2 ^ (60 - 4 * l.k) % 16) in
    c.add-z.ensures ∙ ap (λ (q : ℕ). bit_xor q e) l.invariant ∙ sym (sum_more a.m.now a.b a.x (num a.z0) l.k)
