-- `octets::block_bytes` meets its contract: the bytes of the block's number. Assumes nothing.
use Rattle.std.proofs.Common.{ap, ◌∙◌}
use Rattle.octets.specs.Bytes.{bytes_of}
use Rattle.octets.proofs.WidthLaws.{be_bytes}
use Rattle.octets.proofs.block_bytes.Goals as goal

pub returns : goal.returns
returns c = c.to_be_bytes.ensures ∙ be_bytes 16 c.from.result ∙ ap (bytes_of 16) c.from.ensures
