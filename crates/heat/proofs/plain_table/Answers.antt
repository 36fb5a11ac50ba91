-- `heat::plain_table` meets its contract: where there is room, the table's text stands over the start of the buffer. Assumes nothing.
use Rattle.heat.specs.Plain.{plain_by, plain_table}
use Rattle.protocol.specs.Said.{turn_down}
use Rattle.table.specs.TableText.{table_len, table_text}
use Rattle.table.proofs.Arrays.{length_of_map}
use Rattle.table.proofs.TextLaws.{length_table}
use Rattle.octets.proofs.CopyLaws.{over_room}
use Rattle.transaction.specs.Transaction.{meters}
use lib.ListN.{length}
use borrow.Author.Rules.{rules}
use borrow.Author.Tests.{lt-ltb, le-ltb}
use native.Mathlib.Omega.{arith}
use mathlib.Core.Path.{◌≡◌, ◌∙◌}
use Rattle.heat.proofs.plain_table.Goals as goal

pub returns-then-out-lt-TABLE_LEN : goal.returns-then-out-lt-TABLE_LEN
unfolding plain_by plain_table turn_down
returns-then-out-lt-TABLE_LEN c =
    let e = lt-ltb (length c.args.out.now) table_len c.if-out-lt-TABLE_LEN.true in
    record { answer = rw e; bytes = rw e }

pub returns : goal.returns
unfolding plain_by plain_table turn_down
returns c =
    let a = c.args in
    let room = c.if-out-lt-TABLE_LEN.false in
    let long : length a.t.entries ≡ meters = search (rules, length_of_map) in
    let text = length_table a.t long in
    let e = le-ltb (length a.out.now) table_len room in
    record { answer = rw e; bytes = rw e (c.put_text.ensures ∙ over_room (table_text a.t) a.out.now (omega arith)) }
