-- `steps::raise` meets its contract: below the maximum the number goes up by one. Assumes nothing.
use Rattle.steps.proofs.StepLaws.{raise_stands, raise_goes}
use Rattle.steps.proofs.raise.Goals as goal

pub returns-then-old-ge-COUNTER_MAX : goal.returns-then-old-ge-COUNTER_MAX
returns-then-old-ge-COUNTER_MAX c = let a = c.args in raise_stands a.which a.x a.next c.of-old.ensures c.if-old-ge-COUNTER_MAX.true

pub returns : goal.returns
returns c = let a = c.args in raise_goes a.which a.x a.next c.of-old.ensures c.if-old-ge-COUNTER_MAX.false c.store-store.ensures c.after-raised.ensures
