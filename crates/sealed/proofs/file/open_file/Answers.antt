-- `sealed::file::open_file` meets its contract: each test that fails shows that nothing opens, and behind the last one stands what opened. Assumes nothing.
use Rattle.std.proofs.Common.{◌∙◌, ℕ, sym, replicate}
use Rattle.std.proofs.lemmas.List.{length-replicate}
use Rattle.table.specs.TableText.{table_len}
use Rattle.table.proofs.ReadLaws.{table_read_some, table_read_none}
use Rattle.sealed.proofs.FileLaws.{read_illegal, read_shut, read_other, read_opens}
use Rattle.sealed.proofs.file.open_file.Goals as goal

pub returns-then-not-legal_file : goal.returns-then-not-legal_file
returns-then-not-legal_file c =
    let a = c.args in
    read_illegal a.k.schedule.now a.k.multiples.now a.s.now (sym c.legal_file.ensures.answer ∙ c.if-not-legal_file.true)

pub returns-then-not-unframe : goal.returns-then-not-unframe
returns-then-not-unframe c =
    let a = c.args in
    let l = sym c.legal_file.ensures.answer ∙ c.if-not-legal_file.false in
    read_shut a.k.schedule.now a.k.multiples.now a.s.now l c.u64_in-seal.ensures.number c.nonce_of.ensures (sym c.unframe.ensures.answer ∙ c.if-not-unframe.true)

pub returns-in_default : goal.returns-in_default
returns-in_default c =
    let a = c.args in
    let l = sym c.legal_file.ensures.answer ∙ c.if-not-legal_file.false in
    read_other a.k.schedule.now a.k.multiples.now a.s.now l c.u64_in-seal.ensures.number c.nonce_of.ensures (sym c.unframe.ensures.answer ∙ c.if-not-unframe.false)
    (replicate {A = ℕ} table_len 0) (length-replicate {A = ℕ} table_len 0) c.unframe.ensures.buffer
    (table_read_none c.unframe.new.out (sym c.in_default.is ∙ c.table_in.ensures))

pub returns : goal.returns
returns c =
    let a = c.args in
    let l = sym c.legal_file.ensures.answer ∙ c.if-not-legal_file.false in
    let t = table_read_some c.unframe.new.out c.in-Some.table (sym c.in-Some.is ∙ c.table_in.ensures) in
    read_opens a.k.schedule.now a.k.multiples.now a.s.now l c.u64_in-seal.ensures.number c.nonce_of.ensures (sym c.unframe.ensures.answer ∙ c.if-not-unframe.false)
    (replicate {A = ℕ} table_len 0) (length-replicate {A = ℕ} table_len 0) c.unframe.ensures.buffer
    t.0 c.u64_in-version.ensures.number t.1
