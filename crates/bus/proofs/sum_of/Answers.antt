-- `bus::sum_of` meets its contract: the fold's steps come to the sum. Assumes nothing.
use Rattle.std.proofs.Common.{◌≡◌, ◌+◌, ◌%◌, ◌∙◌}
use Rattle.std.specs.List.{fold}
use borrow.Author.Rules.{rules}
use Rattle.bus.proofs.FieldLaws.{sum_fold}
use Rattle.bus.proofs.sum_of.Goals as goal

pub returns : goal.returns
returns c =
    let e : c.fold.result ≡ fold (λ t x. (t + x) % 256) 0 c.args.s.now = search rules in
    e ∙ sum_fold c.args.s.now
