-- `heat::text::line_of` meets its contract: each piece is put before what is written, and there is room for all of them. Assumes nothing.
use Rattle.heat.proofs.NumeralLaws.{length_numeral}
use Rattle.heat.proofs.TextLaws.{length_signed, room_signed, room_meter}
use Rattle.heat.proofs.SignedLaws.{read}
use Rattle.heat.specs.Text.{line}
use Rattle.std.proofs.Common.{arith, length-append}
use Rattle.heat.proofs.text.line_of.Goals as goal

pub digits_before-requires : goal.digits_before-requires
digits_before-requires c =
    let s = length_numeral 6 c.args.share (omega arith) in
    rw (c.byte_before.ensures, c.new-l.ensures) (omega arith)

pub byte_before-requires-2 : goal.byte_before-requires-2
byte_before-requires-2 c =
    let s = length_numeral 6 c.args.share (omega arith) in
    rw (c.digits_before.ensures, c.byte_before.ensures, c.new-l.ensures) (simp length-append (omega arith))

pub signed_before-requires : goal.signed_before-requires
signed_before-requires c =
    let a = c.args in
    let r = c.requires in
    rw (read a.used c.ranges.used, c.byte_before-2.ensures, c.digits_before.ensures, c.byte_before.ensures, c.new-l.ensures) (room_signed a.used a.share r.1 r.2)

pub byte_before-requires-3 : goal.byte_before-requires-3
byte_before-requires-3 c =
    let a = c.args in
    let s = length_numeral 6 a.share (omega arith) in
    let u = length_signed a.used c.requires.1 in
    rw (c.signed_before.ensures, read a.used c.ranges.used, c.byte_before-2.ensures, c.digits_before.ensures, c.byte_before.ensures, c.new-l.ensures) (simp length-append (omega arith))

pub digits_before-requires-2 : goal.digits_before-requires-2
digits_before-requires-2 c =
    let a = c.args in
    let r = c.requires in
    rw (c.byte_before-3.ensures, c.signed_before.ensures, read a.used c.ranges.used, c.byte_before-2.ensures, c.digits_before.ensures, c.byte_before.ensures, c.new-l.ensures) (room_meter a.m a.used a.share r.0 r.1 r.2)

pub returns : goal.returns
unfolding line
returns c = rw (c.digits_before-2.ensures, c.byte_before-3.ensures, c.signed_before.ensures, read c.args.used c.ranges.used, c.byte_before-2.ensures, c.digits_before.ensures, c.byte_before.ensures, c.new-l.ensures)
