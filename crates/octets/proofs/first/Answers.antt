-- `octets::first` meets its contract: a long string begins with them, and a short one is copied over zeros. Assumes nothing.
use Rattle.std.proofs.Common.{ℕ, sym, ◌∙◌, replicate}
use Rattle.std.proofs.lemmas.List.{length-replicate}
use Rattle.octets.specs.Lists.{over}
use Rattle.octets.proofs.CopyLaws.{over_zeros, length_over}
use Rattle.octets.proofs.ByteLaws.{padded_whole, padded_take}
use Rattle.octets.proofs.first.Goals as goal

pub returns-in-Some : goal.returns-in-Some
returns-in-Some g c =
    let e = c.in-Some.ensures.cases in
    e.same ∙ sym (padded_take g.row.N c.args.s.now e.enough)

pub returns : goal.returns
returns g c =
    let n = g.row.N in
    let s = c.args.s.now in
    let zeros = replicate {A = ℕ} n 0 in
    c.copy.ensures ∙ sym (padded_whole n (over s zeros) (length_over s zeros ∙ length-replicate n 0)) ∙ over_zeros n s
