use Rattle.std.proofs.Common.{◌≡◌, sym, ap, ◌∙◌, arith}
use Rattle.octets.specs.Every.{all_below}
use Rattle.octets.proofs.EveryLaws.{all_none, all_more}
use Rattle.table.specs.Table.{lanes}
use Rattle.protocol.specs.Recover.{all_visible}
use Rattle.recovering.proofs.go_on.all_visible.Invariants.{seen}
use Rattle.recovering.proofs.go_on.all_visible.Goals as goal

pub loop-lane-init : goal.loop-lane-init
loop-lane-init c = sym (all_none _)

pub loop-lane-preserved : goal.loop-lane-preserved
loop-lane-preserved c =
    let step = all_more (seen c.args.x) c.loop-lane.lane in
    rw (c.lane_at-v.ensures, c.lane_at-w.ensures, c.loop-lane.invariant) step

pub returns : goal.returns
unfolding all_visible
returns c =
    let all : c.loop-lane.lane ≡ lanes = omega arith in
    c.loop-lane.invariant ∙ ap (all_below (seen c.args.x)) all
