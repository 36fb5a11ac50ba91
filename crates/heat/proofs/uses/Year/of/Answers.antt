-- `heat::uses::Year::of` meets its contract: both halves are tables, or the bytes are not two tables. Assumes nothing.
use Rattle.heat.proofs.SplitLaws.{other_length, not_first, not_second, both_are}
use Rattle.heat.specs.Answer.{year_of}
use Rattle.table.specs.TableText.{is_table, table_from}
use Rattle.std.specs.Prelude.{Some}
use Rattle.std.proofs.Common.{ℕ, List, ap, ap₂, ◌∙◌}
use Rattle.heat.proofs.uses.Year.of.Goals as goal

pub returns-then-tables-ne-TABLES_LEN : goal.returns-then-tables-ne-TABLES_LEN
unfolding year_of
returns-then-tables-ne-TABLES_LEN c = rw (other_length c.args.tables.now c.if-tables-ne-TABLES_LEN.true)

pub returns-then-not-is_table : goal.returns-then-not-is_table
unfolding year_of
returns-then-not-is_table c = rw (not_first c.args.tables.now (c.is_table.ensures ∙ ap is_table c.split_at.ensures.front) c.if-not-is_table.true)

pub returns-then-not-is_table-2 : goal.returns-then-not-is_table-2
unfolding year_of
returns-then-not-is_table-2 c = rw (not_second c.args.tables.now (c.is_table-2.ensures ∙ ap is_table c.split_at.ensures.back) c.if-not-is_table-2.true)

pub returns : goal.returns
unfolding year_of
returns c =
    let p = c.split_at.ensures in
    rw (both_are c.args.tables.now (c.is_table.ensures ∙ ap is_table p.front) c.if-not-is_table.false (c.is_table-2.ensures ∙ ap is_table p.back) c.if-not-is_table-2.false) (ap₂ (λ (s e : List ℕ). Some (table_from s, table_from e)) p.front p.back)
