-- `journal::points::covered_points` meets its contract. Assumes nothing.
use mathlib.Core.Path.{◌≡◌, refl, sym, ◌∙◌}
use lib.ListN.{length}
use borrow.Author.Rules.{rules}
use borrow.Author.Tests.{tests}
use native.Mathlib.Omega.{arith}
use Rattle.table.proofs.Arrays.{length_of_map}
use Rattle.protocol.specs.States.{points_max, no_point}
use Rattle.protocol.specs.Checkpoint.{covered_point, covered_points}
use Rattle.journal.proofs.PointLaws.{mapped}
use Rattle.journal.proofs.points.covered_points.Goals as goal

pub returns : goal.returns
unfolding covered_points
returns c =
    let p = c.args.p in
    let long : length p.items ≡ points_max = search (rules, length_of_map) in
    let m = c.map.ensures.items in
    rw (mapped covered_point p.items c.map.result no_point (m.long ∙ sym long) (λ i h. let q = m.at i no_point (covered_point no_point) (omega arith) in search (rules, tests))) refl
