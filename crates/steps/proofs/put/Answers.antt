-- `steps::put` meets its contract: a lane's number is set. Assumes nothing.
use Rattle.steps.proofs.StepLaws.{put_stands, put_goes}
use Rattle.steps.proofs.put.Goals as goal

pub returns-then-lane-ge-LANES : goal.returns-then-lane-ge-LANES
returns-then-lane-ge-LANES c = let a = c.args in put_stands a.which a.x a.lane a.value a.next c.if-lane-ge-LANES.true

pub returns : goal.returns
returns c = let a = c.args in put_goes a.which a.x a.lane a.value a.next c.if-lane-ge-LANES.false c.store-store.ensures c.after-set.ensures
