-- `gcm::prepare` meets its contract: its two parts are those that `prepare_in` gives. Assumes nothing.
use mathlib.Core.Path.{refl}
use Rattle.gcm.proofs.KeyLaws.{prepared_parts}
use Rattle.gcm.proofs.prepare.Goals as goal

pub returns : goal.returns
returns c = prepared_parts c.args.key _ _ _ (c.prepare_in-k.ensures.schedule, c.prepare_in-k.ensures.multiples) refl
