use Rattle.std.proofs.Common.{ℕ, length, min, sym, ap, ◌∙◌}
use Rattle.octets.specs.Blocks.{num}
use Rattle.ghash.specs.Multiples.{product_by}
use Rattle.ghash.specs.Ghash.{ghash}
use Rattle.ghash.proofs.HashLaws.{hash_more, blocks_none}
use Rattle.std.specs.Slice.Iter.{chunks_rest}
use Rattle.ghash.proofs.hash.Goals as goal

pub loop-block-preserved : goal.loop-block-preserved
loop-block-preserved c =
    let l = c.loop-block in
    let f = product_by c.args.m.now in
    let cut = c.in-Some.ensures.steps in
    record {
      sixteen = cut.0 ∙ l.invariant.sixteen;
      left = hash_more f (num l.y) (num c.first_block.result) (num c.product-y.result) _ _ _ cut.1.0 (cut.1.1 ∙ ap (λ (n : ℕ). min n (length (chunks_rest l.block-iterator))) l.invariant.sixteen) cut.1.2
          c.first_block.ensures.number (c.product-y.ensures ∙ ap f c.add.ensures)
          ∙ l.invariant.left;
    }

pub returns : goal.returns
unfolding ghash
returns c =
    let l = c.loop-block in
    let f = product_by c.args.m.now in
    sym (ap (ghash f (num l.y)) (blocks_none _ c.in-None.ensures.steps.1.0)) ∙ l.invariant.left
