-- `heat::numerals::Line::bytes_before` meets its contract: the bytes are copied before what is written. Assumes nothing.
use Rattle.heat.proofs.NumeralLaws.{put_before}
use Rattle.std.proofs.Common.{List, ℕ, ◌++◌, arith, ap, ◌∙◌, length, length-drop}
use Rattle.heat.proofs.numerals.Line.bytes_before.Goals as goal

pub returns : goal.returns
returns c =
    let s = c.args.s.now in
    let l = c.self in
    let long = length-drop l.inside.from l.inside.bytes in
    put_before l.inside.from _ 24 s l.inside.bytes (omega (arith, ap length l.view_is, long, c.requires)) (omega (arith, l.invariant)) (omega arith) c.copy.ensures
    ∙ ap (λ (t : List ℕ). s ++ t) l.view_is
