-- `sealed::file::seal_file` meets its contract: where there is room, the table's text is written behind the place of the head, and its frame is put around it. Assumes nothing.
use mathlib.Core.List.{List}
use lib.ListN.{length, take, drop}
use borrow.Rule.Slice.PartMut.{put_mid}
use Rattle.octets.specs.Lists.{put_over}
use Rattle.transaction.specs.Transaction.{meters}
use Rattle.table.proofs.Arrays.{length_of_map}
use Rattle.table.proofs.TextLaws.{length_table}
use Rattle.table.specs.TableText.{table_len, table_text}
use Rattle.sealed.specs.Aead.{prepared_by}
use Rattle.sealed.specs.Frame.{head_len, framed}
use Rattle.sealed.specs.Checkpoint.{file_bytes, file_head, file_nonce}
use Rattle.sealed.proofs.FrameLaws.{framed_laid, prepared_grows}
use Rattle.sealed.proofs.FileLaws.{length_head, file_short, file_done}
use mathlib.Core.Path.{◌≡◌, refl, ap₂, ◌∙◌}
use Prim.Native.Nat.{ℕ}
use borrow.Author.Rules.{rules}
use Rattle.sealed.proofs.file.seal_file.Goals as goal

pub returns-then-out-lt-FILE_LEN : goal.returns-then-out-lt-FILE_LEN
returns-then-out-lt-FILE_LEN c =
    let all = file_short c.args.out.now _ c.if-out-lt-FILE_LEN.true in
    record { answer = all.0; buffer = all.1 }

pub returns : goal.returns
unfolding file_bytes
returns c =
    let room = c.if-out-lt-FILE_LEN.false in
    let g = c.args in
    let out = g.out.now in
    let nonce = file_nonce g.seal in
    let head = file_head g.version g.seal in
    let a = prepared_by g.k.schedule.now g.k.multiples.now in
    let n : length g.t.entries ≡ meters = search (rules, length_of_map) in
    let b = put_mid head_len table_len out c.put_text.new.s in
    let all = file_done out _ room
    (framed_laid a (prepared_grows g.k.schedule.now g.k.multiples.now) nonce head (table_text g.t) out _ table_len table_len (length_head g.version g.seal) (length_table g.t n) refl room c.put_text.ensures
    (c.put_framed.ensures ∙ ap₂ (λ (n h : List ℕ). put_over (framed a n h (take table_len (drop head_len b))) b) c.nonce_of.ensures c.head_of.ensures)) in
    record { answer = all.0; buffer = all.1 }
