-- `test_sealed::sealed_put_file` meets its contract: the text is read as a table, and the table sealed. Assumes nothing.
use Rattle.std.proofs.Common.{ℕ, List, length, sym, ap, ap₂, ◌∙◌}
use Rattle.octets.specs.Lists.{put_over}
use Rattle.table.specs.declared.Table.{Table}
use Rattle.table.proofs.ReadLaws.{table_read_some, table_read_none}
use Rattle.sealed.specs.Checkpoint.{file_answer, file_put, file_bytes}
use Rattle.sealed.specs.Aead.{prepared_by}
use Rattle.test_sealed.specs.Boundary.{file_code, put_file_number, put_file_buffer}
use Rattle.test_sealed.proofs.sealed_put_file.Goals as goal

pub returns-in_default : goal.returns-in_default
unfolding put_file_number put_file_buffer
returns-in_default c =
    let e = table_read_none c.args.text.now (sym c.in_default.is ∙ c.table_in.ensures) in
    record { answer = rw e; buffer = rw e }

pub returns : goal.returns
unfolding put_file_number put_file_buffer
returns c =
    let a = c.args in
    let t = table_read_some a.text.now c.in-Some.t (sym c.in-Some.is ∙ c.table_in.ensures) in
    let f = c.seal_file.ensures in
    let k = c.lent-key.ensures in
    let put : List ℕ → List ℕ → Table → List ℕ =
    λ w m t. put_over (file_put (file_answer (length a.out.now)) (file_bytes (prepared_by w m) a.version a.seal t)) a.out.now in
    record {
      answer = rw t.0 (c.file_code.ensures ∙ ap file_code f.answer);
      buffer = rw t.0 (f.buffer ∙ ap₂ (λ w m. put w m c.in-Some.t) k.schedule k.multiples ∙ ap (put a.w.now a.m.now) t.1);
    }
