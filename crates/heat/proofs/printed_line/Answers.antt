-- `heat::printed_line` meets its contract: the line stands at the start of the array. Assumes nothing.
use Rattle.heat.specs.Text.{text_max}
use Rattle.octets.proofs.CopyLaws.{over_room}
use lib.ListN.{replicate}
use mathlib.Core.Path.{refl, ◌∙◌}
use Rattle.heat.proofs.printed_line.Goals as goal

pub returns : goal.returns
returns c =
    let a = c.args in
    record { bytes = c.copy.ensures ∙ over_room a.s.now (replicate text_max 0) c.requires; len = refl }
