-- 01, Layouts: "Checkpoint: kind 2, three zero bytes, version (8), seal number (8); 6,144 bytes of ciphertext; tag; trailer 6,184. ..
-- Nonce: 2, 0, 0, 0, seal number (8)." Its text is a table.
-- "Bytes open only if lengths, kind, lane, n, trailer, zero bytes, tag and text are all right."
-- Assumes nothing.
use Rattle.std.specs.Prelude.{ℕ, ◌+◌, Bool, cond, ◌&&◌, List, [], ◌∷◌, ◌++◌, ltb, eqb, length, drop, Result, Ok, Err}
use Rattle.std.specs.Prelude as Code
use Rattle.std.proofs.Math.Option.{Option, some, none}
use Rattle.octets.specs.Lists.{at}
use Rattle.octets.specs.Bytes.{padded}
use Rattle.octets.specs.Little.{little, little_bytes}
use Rattle.transaction.specs.Edition.{present}
use Rattle.table.specs.declared.Table.{Table}
use Rattle.table.specs.TableText.{table_len, table_text, is_table, table_from}
use Rattle.sealed.specs.Aead.{Aead}
use Rattle.sealed.specs.Nonce.{nonce_of}
use Rattle.sealed.specs.Frame.{frame_len, framed, unframed}
use Rattle.sealed.specs.declared.file.FileRead.{FileRead}
use Rattle.sealed.specs.declared.file.Short.{Short}

abbrev pub file_kind : ℕ
file_kind = present.file_kind

abbrev pub file_len : ℕ
file_len = table_len + frame_len

-- ---- written

unfoldable pub file_head : ℕ → ℕ → List ℕ
file_head version seal = file_kind ∷ 0 ∷ 0 ∷ 0 ∷ (little_bytes 8 version ++ little_bytes 8 seal)

abbrev pub file_nonce : ℕ → List ℕ
file_nonce seal = nonce_of present.file_first 0 seal

unfoldable pub file_bytes : Aead → ℕ → ℕ → Table → List ℕ
file_bytes a version seal t = framed a (file_nonce seal) (file_head version seal) (table_text t)

-- the answer to sealing a file where there is room for r bytes
unfoldable pub file_answer : ℕ → Result ℕ Short
file_answer r = cond (ltb r file_len) (Err (record { needed = file_len })) (Ok file_len)

-- what is put out, where the file's bytes are out
unfoldable pub file_put : Result ℕ Short → List ℕ → List ℕ
file_put (Ok n) out = out
file_put (Err e) out = []

-- ---- read

unfoldable pub version_of : List ℕ → ℕ
version_of s = little (padded 8 (drop 4 s))

unfoldable pub seal_of : List ℕ → ℕ
seal_of s = little (padded 8 (drop 12 s))

-- s has the length of a file, and its kind and three zero bytes
unfoldable pub legal_file : List ℕ → Bool
legal_file s = eqb (length s) file_len && eqb (at s 0) file_kind && eqb (at s 1) 0 && eqb (at s 2) 0 && eqb (at s 3) 0

-- what a file holds
pub record OpenedFile : Type 0 where
  pub version : ℕ
  pub seal : ℕ
  pub table : Table

unfoldable pub opened_table : List ℕ → Option (List ℕ) → Option OpenedFile
opened_table s none = none
opened_table s (some t) = cond (is_table t) (some (record { version = version_of s; seal = seal_of s; table = table_from t })) none

-- all of s opens as a checkpoint file
unfoldable pub open_file : Aead → List ℕ → Option OpenedFile
open_file a s = cond (legal_file s) (opened_table s (unframed a (file_nonce (seal_of s)) s)) none

-- ---- as the code hands it over

unfoldable pub shown_file : Option OpenedFile → Code.Option FileRead
shown_file (some f) = Code.Some (record { version = f.version; seal = f.seal; table = f.table })
shown_file none = Code.None
