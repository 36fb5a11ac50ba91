use Rattle.heat.proofs.NumeralLaws.{length_digit, length_more, digit_turn, digit_last}
use Rattle.std.proofs.Common.{arith, ◌∙◌, ap, ◌++◌, ◌/◌, List, ℕ}
use Rattle.heat.specs.Numerals.{numeral}
use Rattle.heat.proofs.numerals.Line.digits_before.Goals as goal

pub byte_before-requires : goal.byte_before-requires
byte_before-requires c = let n = length_more c.loop-left.left c.loop-left-test.true in omega arith

pub loop-left-preserved : goal.loop-left-preserved
loop-left-preserved c =
    let l = c.loop-left in
    let n = length_more l.left c.loop-left-test.true in
    record {
      text = ap (λ (s : List ℕ). numeral (l.left / 10) ++ s) c.byte_before.ensures ∙ digit_turn l.left l.self c.loop-left-test.true ∙ l.invariant.text;
      room = rw c.byte_before.ensures (omega arith);
    }

pub byte_before-requires-2 : goal.byte_before-requires-2
byte_before-requires-2 c = let n = length_digit c.loop-left.left c.loop-left-test.false in omega arith

pub returns : goal.returns
returns c = let l = c.loop-left in c.byte_before-2.ensures ∙ digit_last l.left l.self c.loop-left-test.false ∙ l.invariant.text
