-- `recovering::start::read` meets its contract: what is read under the prepared key is read under the key. Assumes nothing.
use Rattle.std.proofs.Common.{◌∙◌}
use Rattle.recovering.proofs.StartLaws.{prepared_from}
use Rattle.recovering.proofs.start.read.Goals as goal

pub returns : goal.returns
returns c = c.read_under.ensures ∙ rw (c.lend.ensures.schedule, c.lend.ensures.multiples, c.prepare-key.ensures, prepared_from)
