-- `octets::little::bytes8` meets its contract: the library's bytes, the lowest first. Assumes nothing.
use Rattle.std.proofs.Common.{◌∙◌}
use Rattle.octets.proofs.WidthLaws.{le_bytes}
use Rattle.octets.proofs.little.bytes8.Goals as goal

pub returns : goal.returns
returns c = c.to_le_bytes.ensures ∙ le_bytes 8 c.args.x
