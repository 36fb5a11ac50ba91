-- `test_sealed::sealed_enter` meets its contract: the text is read as a table, the transaction entered, and the text put back. Assumes nothing.
use Rattle.std.proofs.Common.{sym, ap, ◌∙◌}
use Rattle.octets.specs.Lists.{over}
use Rattle.table.specs.declared.Table.{Table}
use Rattle.table.specs.Table.{entered}
use Rattle.table.specs.TableText.{table_text}
use Rattle.table.proofs.ReadLaws.{table_read_some, table_read_none}
use Rattle.test_sealed.specs.Boundary.{enter_number, enter_buffer}
use Rattle.test_sealed.proofs.sealed_enter.Goals as goal

pub returns-in_default : goal.returns-in_default
unfolding enter_number enter_buffer
returns-in_default c =
    let e = table_read_none c.args.text.now (sym c.in_default.is ∙ c.table_in.ensures) in
    record { answer = rw e; buffer = rw e }

pub returns-then-not-legal : goal.returns-then-not-legal
unfolding enter_number enter_buffer
returns-then-not-legal c =
    let t = table_read_some c.args.text.now c.in-Some.t (sym c.in-Some.is ∙ c.table_in.ensures) in
    let l = sym c.legal.ensures ∙ c.if-not-legal.true in
    record { answer = rw (t.0, l); buffer = rw (t.0, l) }

pub returns : goal.returns
unfolding enter_number enter_buffer
returns c =
    let a = c.args in
    let t = table_read_some a.text.now c.in-Some.t (sym c.in-Some.is ∙ c.table_in.ensures) in
    let l = sym c.legal.ensures ∙ c.if-not-legal.false in
    let q = c.enter.ensures ∙ ap (λ (t : Table). entered t a.s.now a.lane a.number) t.1 in
    record { answer = rw (t.0, l); buffer = rw (t.0, l) (c.put_text.ensures ∙ ap (λ (t : Table). over (table_text t) a.text.now) q) }
