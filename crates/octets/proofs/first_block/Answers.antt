-- `octets::first_block` meets its contract: the number that the first 16 bytes write. Assumes nothing.
use Rattle.std.proofs.Common.{ap, ◌∙◌}
use Rattle.octets.specs.Bytes.{bytes_of}
use Rattle.octets.proofs.ByteLaws.{bytes_padded}
use Rattle.octets.proofs.WidthLaws.{read_big}
use Rattle.octets.proofs.first_block.Goals as goal

pub returns : goal.returns
returns c =
    let s = c.args.s.now in
    let e = c.from.ensures ∙ read_big 15 s c.from_be_bytes.ensures c.first.ensures in
    record { number = e; bytes = ap (bytes_of 16) e ∙ bytes_padded 16 s (λ i. (c.type_inv.s i).fits) }
