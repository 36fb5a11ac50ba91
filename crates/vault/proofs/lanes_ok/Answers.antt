-- `vault::lanes_ok` meets its contract: the chain tests each lane below 8. Assumes nothing.
use Rattle.std.specs.Prelude.{ℕ, Bool, refl}
use Rattle.std.proofs.Common.{◌∙◌}
use Rattle.std.proofs.lemmas.Iterator.{YieldsList-from_range}
use Rattle.std.proofs.lemmas.Iterator.Search.{all_from_yields_List}
use borrow.Author.Rules.{rules}
use borrow.Author.Tests.{tests}
use Rattle.octets.specs.Lists.{at}
use Rattle.table.specs.Table.{lanes}
use Rattle.protocol.specs.Vaults.{lane_ok}
use Rattle.vault.proofs.BelowLaws.{all_in_range}
use Rattle.vault.proofs.lanes_ok.Goals as goal

pub returns : goal.returns
returns c =
    let x = c.args.x in
    let test : ℕ → Bool = λ i. lane_ok (at x.w i) (at x.v i) (at x.r i) in
    all_from_yields_List test _ _ _ c.all.ensures.ran (YieldsList-from_range 0 lanes lanes refl refl) (λ i b q k. search (rules, tests)) ∙ all_in_range test lanes
