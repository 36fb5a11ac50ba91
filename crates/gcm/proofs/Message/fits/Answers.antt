-- `gcm::Message::fits` meets its contract: the tag is computed, and all of it is compared. Assumes nothing.
use Rattle.octets.proofs.PartLaws.{mid_rest}
use Rattle.octets.specs.Bytes.{same_bytes}
use mathlib.Core.Path.{ap₂}
use mathlib.Core.Path.{◌∙◌}
use Rattle.gcm.proofs.Message.fits.Goals as goal

pub returns : goal.returns
returns c =
    let a = c.args in
    c.same.ensures ∙ ap₂ same_bytes (mid_rest a.self.n a.s.now) (c.block_bytes-tag.ensures ∙ c.tag.ensures)
