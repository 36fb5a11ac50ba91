use Rattle.std.proofs.Common.{sym, ap, length, ◌∙◌, arith, length-drop}
use Rattle.octets.proofs.PartLaws.{mid_rest}
use Rattle.bus.specs.Digits.{reading_of}
use Rattle.bus.specs.Records.{first_reading, data_place}
use Rattle.bus.proofs.SearchLaws.{within_by, search_pass, search_take, search_end}
use Rattle.bus.proofs.first_reading.Goals as goal

pub slice_bounds-rest-count : goal.slice_bounds-rest-count
slice_bounds-rest-count c = (within_by c.args.unit c.loop-n.rest.now c.in-Pass.ensures).1

pub slice_bounds-rest-start : goal.slice_bounds-rest-start
slice_bounds-rest-start c =
    let w = within_by c.args.unit c.loop-n.rest.now c.in-Pass.ensures in
    omega (arith, w.1)

pub loop-n-smaller : goal.loop-n-smaller
loop-n-smaller c =
    let w = within_by c.args.unit c.loop-n.rest.now c.in-Pass.ensures in
    let l = length-drop c.in-Pass.n c.loop-n.rest.now in
    let e = ap length (mid_rest c.in-Pass.n c.loop-n.rest.now) in
    omega (arith, w.0, w.1)

pub loop-n-preserved : goal.loop-n-preserved
loop-n-preserved c =
    let s = c.loop-n.rest.now in
    ap (first_reading c.args.unit) (mid_rest c.in-Pass.n s) ∙ sym (search_pass c.args.unit s (sym c.in-Pass.ensures)) ∙ c.loop-n.invariant

pub slice_bounds-reading_of-count : goal.slice_bounds-reading_of-count
slice_bounds-reading_of-count c = within_by c.args.unit c.loop-n.rest.now c.in-Take.ensures

pub slice_bounds-reading_of-start : goal.slice_bounds-reading_of-start
slice_bounds-reading_of-start c =
    let w = within_by c.args.unit c.loop-n.rest.now c.in-Take.ensures in
    omega (arith, w)

pub returns-in-Take : goal.returns-in-Take
returns-in-Take c =
    let s = c.loop-n.rest.now in
    c.reading_of.ensures ∙ ap reading_of (mid_rest data_place s) ∙ sym (search_take c.args.unit s (sym c.in-Take.ensures)) ∙ c.loop-n.invariant

pub returns-in-End : goal.returns-in-End
returns-in-End c = sym (search_end c.args.unit c.loop-n.rest.now (sym c.in-End.ensures)) ∙ c.loop-n.invariant
