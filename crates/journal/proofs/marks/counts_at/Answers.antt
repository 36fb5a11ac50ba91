-- `journal::marks::counts_at` meets its contract: the chain takes off the records at or above the position. Assumes nothing.
use mathlib.Core.Path.{◌≡◌, sym, ap, ◌∙◌}
use mathlib.Core.List.{List, map}
use Prim.Native.Nat.{ℕ}
use lib.ListN.{length, take}
use Rattle.std.specs.List.{fold, filter}
use lib.Dec.{leb}
use mathlib.Core.Bool.{Bool}
use Rattle.std.proofs.lemmas.Iterator.{YieldsList-from_slice, YieldsList-from_zip, YieldsList-from_map}
use Rattle.std.proofs.lemmas.Iterator.Consumers.{fold_from_yields_List, YieldsList-from_filter, YieldsList-at}
use borrow.Author.Rules.{rules}
use borrow.Author.Tests.{tests}
use Rattle.table.specs.Table.{lanes}
use Rattle.protocol.specs.States.{listed}
use Rattle.protocol.specs.Point.{marks_of, marks_from}
use Rattle.journal.specs.Less.{one_less}
use Rattle.journal.proofs.MarkLaws.{pairs_are}
use Rattle.journal.proofs.CountLaws.{counts_fold, from_filter}
use Rattle.journal.proofs.marks.counts_at.Goals as goal

pub returns : goal.returns
returns c =
    let a = c.args in
    let n = c.listed_in-n.result in
    let long : length a.x.w ≡ lanes = search rules in
    let ps : length a.j.positions ≡ listed = search rules in
    let ls : length a.j.lanes ≡ listed = search rules in
    let test : ℕ × ℕ → Bool = λ m. leb a.position m.0 in
    fold_from_yields_List _ one_less a.x.w _ c.fold.ensures.ran
    (
    YieldsList-from_map _ (λ m. m.1)
    (YieldsList-at c.map.ensures.source (YieldsList-from_filter _ test (YieldsList-from_zip (YieldsList-from_slice (take n a.j.positions) cc) (YieldsList-from_slice (take n a.j.lanes) cc)) c.filter.ensures.closure (λ x b q k. search (rules, tests))))
    c.map.ensures.closure
    (λ x r q k. search rules)
    )
    (λ left x b q k. search rules)
    ∙ ap (λ (r : List (ℕ × ℕ)). fold one_less a.x.w (map (λ m. m.1) r)) (ap (filter test) (pairs_are a.j (ls ∙ sym ps) c.listed_in-n.ensures.count) ∙ from_filter a.position (marks_of a.j))
    ∙ counts_fold a.x.w (marks_from a.position (marks_of a.j)) long
