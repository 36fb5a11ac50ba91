-- `journal::marks::unseen_below` meets its contract: the chain goes from the last record to the first. Assumes nothing.
use mathlib.Core.Path.{◌≡◌, sym, ap, ◌∙◌}
use mathlib.Core.List.{List}
use mathlib.Core.Bool.{Bool, false}
use Prim.Native.Nat.{ℕ}
use lib.ListN.{length, take}
use Rattle.std.specs.List.{fold}
use Rattle.std.proofs.lemmas.Iterator.{YieldsList-from_zip}
use Rattle.std.proofs.lemmas.Iterator.Adapters.{YieldsList-from_rev_slice}
use Rattle.std.proofs.lemmas.Iterator.Consumers.{fold_from_yields_List}
use borrow.Author.Rules.{rules}
use borrow.Author.Tests.{tests}
use Rattle.table.specs.Table.{lanes}
use Rattle.protocol.specs.States.{listed}
use Rattle.protocol.specs.Point.{marks_of}
use Rattle.journal.proofs.MarkLaws.{pairs_back}
use Rattle.journal.proofs.CountLaws.{looked_at, unseen_fold}
use Rattle.journal.proofs.marks.unseen_below.Goals as goal

pub returns : goal.returns
returns c =
    let a = c.args in
    let n = c.listed_in-n.result in
    let long : length a.x.w ≡ lanes = search rules in
    let ps : length a.j.positions ≡ listed = search rules in
    let ls : length a.j.lanes ≡ listed = search rules in
    ap (λ (s : List ℕ × Bool). s.1)
    (fold_from_yields_List _ (looked_at a.position c.args.x.v) (a.x.w, false) _ c.fold-unseen.ensures.ran (YieldsList-from_zip (YieldsList-from_rev_slice (take n a.j.positions) cc) (YieldsList-from_rev_slice (take n a.j.lanes) cc)) (λ left x b q k. search (rules, tests))
    ∙ ap (λ (r : List (ℕ × ℕ)). fold (looked_at a.position c.args.x.v) (a.x.w, false) r) (pairs_back a.j (ls ∙ sym ps) c.listed_in-n.ensures.count)
    ∙ unseen_fold a.position a.x.w c.args.x.v (marks_of a.j) long)
