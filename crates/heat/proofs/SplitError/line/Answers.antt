-- `heat::SplitError::line` meets its contract: each refusal's line has its number. Assumes nothing.
use Rattle.heat.proofs.NumeralLaws.{length_numeral}
use Rattle.heat.specs.Answer.{said_by, refused_line, shown_by}
use Rattle.std.proofs.Common.{arith, length-append}
use Rattle.heat.proofs.SplitError.line.Goals as goal

pub digits_before-requires : goal.digits_before-requires
digits_before-requires c =
    let n = length_numeral 3 c.from.result (omega arith) in
    rw (c.byte_before.ensures, c.new-l.ensures) (omega arith)

pub bytes_before-requires : goal.bytes_before-requires
bytes_before-requires c =
    let n = length_numeral 3 c.from.result (omega arith) in
    rw (c.digits_before.ensures, c.byte_before.ensures, c.new-l.ensures) (simp length-append (omega arith))

pub returns : goal.returns
unfolding shown_by said_by refused_line
returns c = rw (c.bytes_before.ensures, c.digits_before.ensures, c.byte_before.ensures, c.new-l.ensures, c.from.ensures, c.number.ensures)
