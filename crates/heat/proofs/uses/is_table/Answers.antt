-- `heat::uses::is_table` meets its contract: a table is read from no other bytes. Assumes nothing.
use Rattle.heat.proofs.UsesLaws.{read_is}
use Rattle.std.specs.Prelude.{is_some}
use Rattle.std.proofs.Common.{ap, ◌∙◌}
use Rattle.heat.proofs.uses.is_table.Goals as goal

pub returns : goal.returns
returns c = c.is_some.ensures ∙ ap is_some c.table_in.ensures ∙ read_is c.args.s.now
