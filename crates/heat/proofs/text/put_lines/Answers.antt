use Rattle.heat.proofs.TextLaws.{long_more, put_more}
use Rattle.heat.specs.Text.{lines_in}
use Rattle.octets.proofs.CopyLaws.{over_none}
use Rattle.std.proofs.Common.{arith, refl, sym}
use Rattle.heat.proofs.text.put_lines.Goals as goal

pub loop-m-init : goal.loop-m-init
unfolding lines_in
loop-m-init c = record { len = refl; small = omega arith; bytes = sym (over_none c.args.out.now) }

pub loop-m-preserved : goal.loop-m-preserved
loop-m-preserved c =
    let l = c.loop-m in
    let a = c.args in
    let inv = l.invariant in
    let put = c.put_line-at.ensures in
    let room = c.requires in
    let most = inv.small in
    let more = put.len.1 in
    record {
      len = long_more a.uses.now.each a.shares.now.each l.m inv.len put.len.0;
      small = omega arith;
      bytes = put_more a.uses.now.each a.shares.now.each l.m a.out.now inv.len (omega arith) inv.bytes put.bytes;
    }
