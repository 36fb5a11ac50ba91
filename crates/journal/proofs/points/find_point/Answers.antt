-- `journal::points::find_point` meets its contract: the chain goes over the points kept. Assumes nothing.
use mathlib.Core.Path.{ap, ◌∙◌}
use Rattle.std.specs.Prelude.{eqb}
use Rattle.std.proofs.lemmas.Iterator.{YieldsList-from_slice}
use Rattle.std.proofs.lemmas.Iterator.Search.{find_from_yields_List}
use borrow.Author.Rules.{rules}
use borrow.Author.Tests.{tests}
use lib.ListN.{take}
use mathlib.Core.Bool.{Bool}
use Rattle.protocol.specs.declared.Point.{Point}
use Rattle.protocol.specs.Truncate.{find_point}
use Rattle.journal.proofs.PointLaws.{kept_first, found_is}
use Rattle.journal.proofs.points.find_point.Goals as goal

pub returns : goal.returns
returns c =
    let a = c.args in
    let n = c.kept_in.result in
    let test : Point → Bool = λ q. eqb q.position a.position in
    c.copied.ensures
    ∙ find_from_yields_List test _ _ _ c.find.ensures.ran (YieldsList-from_slice (take n a.p.items) cc) (λ x b q k. search (rules, tests))
    ∙ found_is a.position (take n a.p.items)
    ∙ ap (find_point a.position) (kept_first a.p c.kept_in.ensures.count)
