-- `ghash::row` meets its contract: each entry is a sum of some of V and V after one, two and three steps,
-- and the words of a sum are the sums of the words.
-- Assumes nothing.
use borrow.Author.Rules.{rules}
use Rattle.ghash.proofs.WordLaws.{row_words}
use Rattle.ghash.proofs.row.Goals as goal

pub returns : goal.returns
returns c =
    let v = c.args.v in
    let w = c.shift-w.result in
    let x = c.shift-x.result in
    let y = c.shift-y.result in
    row_words v.hi v.lo w.hi w.lo x.hi x.lo y.hi y.lo
    (search rules) (search rules) (search rules) (search rules)
    c.shift-w.ensures c.shift-x.ensures c.shift-y.ensures
