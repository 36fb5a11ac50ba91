-- `octets::little::u32_in` meets its contract: the bytes that are read are those of the padded string. Assumes nothing.
use Rattle.octets.proofs.WidthLaws.{read_little}
use Rattle.octets.proofs.little.u32_in.Goals as goal

pub returns : goal.returns
returns c =
    let all = read_little 3 c.args.s.now (λ i. (c.type_inv.s i).fits) c.from_le_bytes.ensures c.first.ensures in
    record { number = all.0; bytes = all.1 }
