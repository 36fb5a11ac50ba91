-- The numbers that the boundary answers in, those of the display: 0 done; 1 the key is not 16 bytes; 3 the lent output is too short; 4 the
-- text is not a transaction, or not a table; 5 there is no such lane; 9 the bytes do not open. Where something that is put out is refused,
-- the lent buffer is as it came.
-- Assumes nothing.
use Rattle.std.specs.Prelude.{ℕ, zero, suc, ◌*◌, ◌/◌, cond, List, length, take, drop, replicate, Option, Some, None, Result, Ok, Err}
use Rattle.octets.specs.Lists.{over, put_over}
use Rattle.transaction.specs.Transaction.{max_text, legal}
use Rattle.table.specs.declared.Table.{Table}
use Rattle.table.specs.Table.{empty_table, entered}
use Rattle.table.specs.TableText.{table_text, is_table, table_from}
use Rattle.sealed.specs.Aead.{Aead}
use Rattle.sealed.specs.Checkpoint.{file_answer, file_put, file_bytes}
use Rattle.sealed.specs.declared.record.RecordError.{RecordError}
use Rattle.sealed.specs.declared.record.RecordError.TheVariants as E
use Rattle.sealed.specs.declared.record.RecordRead.{RecordRead}
use Rattle.sealed.specs.declared.file.Short.{Short}
use Rattle.sealed.specs.declared.file.FileRead.{FileRead}
use Rattle.test_sealed.specs.declared.RecordReply.{RecordReply}
use Rattle.test_sealed.specs.declared.FileReply.{FileReply}

abbrev pub record_code : Result ℕ RecordError → ℕ
record_code (Ok n) = 0
record_code (Err (E.Short n)) = 3
record_code (Err E.Text) = 4
record_code (Err E.Lane) = 5

abbrev pub file_code : Result ℕ Short → ℕ
file_code (Ok n) = 0
file_code (Err e) = 3

-- what is handed over of a record: its numbers, and the bytes that are put over the start of the lent text; zeros where nothing opened
abbrev pub record_reply : Option RecordRead → RecordReply
record_reply (Some r) = record { code = 0; lane = r.lane; epoch = r.epoch; number = r.number; len = r.len }
record_reply None = record { code = 9; lane = 0; epoch = 0; number = 0; len = 0 }

abbrev pub record_text : Option RecordRead → List ℕ
record_text (Some r) = r.text
record_text None = replicate max_text 0

-- and of a file: its numbers, and the text of its table; the empty table's where nothing opened
abbrev pub file_reply : Option FileRead → FileReply
file_reply (Some f) = record { code = 0; version = f.version; seal = f.seal }
file_reply None = record { code = 9; version = 0; seal = 0 }

abbrev pub file_text : Option FileRead → List ℕ
file_text (Some f) = table_text f.table
file_text None = table_text empty_table

-- sealing the table of a text into out: the answer, and out after it
unfoldable pub put_file_number : List ℕ → List ℕ → ℕ
put_file_number text out = cond (is_table text) (file_code (file_answer (length out))) 4

unfoldable pub put_file_buffer : Aead → ℕ → ℕ → List ℕ → List ℕ → List ℕ
put_file_buffer a version seal text out =
    cond (is_table text) (put_over (file_put (file_answer (length out)) (file_bytes a version seal (table_from text))) out) out

-- entering the transaction s into the table of a text: the answer, and the text after it
unfoldable pub enter_number : List ℕ → List ℕ → ℕ
enter_number text s = cond (is_table text) (cond (legal s) 0 4) 4

unfoldable pub enter_buffer : List ℕ → List ℕ → ℕ → ℕ → List ℕ
enter_buffer text s lane number = cond (is_table text) (cond (legal s) (over (table_text (entered (table_from text) s lane number)) text) text) text

-- the table t after the first k of transactions of the most writes that stand end to end, all of a lane and number
unfoldable pub entered_to : Table → List ℕ → ℕ → ℕ → ℕ → Table
entered_to t s lane number zero = t
entered_to t s lane number (suc k) = entered (entered_to t s lane number k) (take max_text (drop (max_text * k) s)) lane number

unfoldable pub each_number : List ℕ → ℕ
each_number text = cond (is_table text) 0 4

unfoldable pub each_buffer : List ℕ → List ℕ → ℕ → ℕ → List ℕ
each_buffer text s lane number = cond (is_table text) (over (table_text (entered_to (table_from text) s lane number (length s / max_text))) text) text
