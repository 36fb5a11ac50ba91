-- `ghash::product` meets its contract: each word of x picks its 16 entries, the left one first.
-- Assumes nothing.
use borrow.Author.Rules.{rules}
use Rattle.octets.specs.Blocks.{num}
use Rattle.ghash.proofs.TableLaws.{sum_words}
use Rattle.ghash.proofs.product.Goals as goal

pub returns : goal.returns
returns c =
    let a = c.args in
    sum_words a.m.now a.x.hi a.x.lo (num c.half-z.result) (num c.half.result) (search rules)
    c.half-z.ensures c.half.ensures
