-- `heat::numerals::Line::digits_before` meets its contract. The invariant: what is left of the number, before what is written, is the whole of it before
-- what was written, and there is room for it. The measure is what is left. Assumes nothing.
use Rattle.heat.specs.Numerals.{numeral}
use Rattle.heat.specs.Text.{line_max}
use Rattle.std.proofs.Common.{◌≡◌, ◌++◌, ◌+◌, ◌≤◌, length}
use Rattle.heat.proofs.numerals.Line.digits_before.Given as goal

abbrev pub invariant-loop-left : goal.invariant-loop-left
invariant-loop-left l = record { text : numeral l.left ++ l.self ≡ numeral l.n ++ l.initial.self; room : length (numeral l.left) + length l.self ≤ line_max }

abbrev pub decreases-loop-left : goal.decreases-loop-left
decreases-loop-left l = l.left
