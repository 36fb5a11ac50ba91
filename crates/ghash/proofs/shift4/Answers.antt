-- `ghash::shift4` meets its contract: it is what four calls of `shift` ensure.
-- Assumes nothing.
use mathlib.Core.Path.{ap, ◌∙◌}
use Rattle.ghash.specs.Field.{shifted}
use Rattle.ghash.proofs.shift4.Goals as goal

pub returns : goal.returns
returns c =
    let one = c.shift.ensures in
    let two = c.shift-2.ensures ∙ ap shifted one in
    let three = c.shift-3.ensures ∙ ap shifted two in
    c.shift-4.ensures ∙ ap shifted three
