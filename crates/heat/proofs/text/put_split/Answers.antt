-- `heat::text::put_split` meets its contract: the heading, and the lines behind it. Assumes nothing.
use Rattle.heat.proofs.TextLaws.{put_all, length_text}
use Rattle.std.proofs.Common.{arith}
use Rattle.heat.proofs.text.put_split.Goals as goal

pub returns : goal.returns
returns c =
    let a = c.args in
    let put = c.put_lines.ensures in
    let long = length_text a.uses.now.each a.shares.now.each in
    let n = put.len.0 in
    let most = put.len.1 in
    record { len = (omega arith, omega arith); bytes = put_all a.uses.now.each a.shares.now.each a.out.now 6144 (omega arith) c.copy.ensures put.bytes }
