-- What the theorem takes from the layers below: the bytes of a record and of a file under the one key, what can be written as such, and that
-- what was sealed opens to what was sealed. The proofs above use these laws and never the layouts or the cipher.
-- Assumes nothing.
use Prim.Native.Nat.{ℕ, ◌+◌, ◌≤◌, ◌<◌}
use mathlib.Core.Path.{◌≡◌, sym, ap, ◌∙◌}
use mathlib.Core.Bool.{true}
use mathlib.Core.List.{List, []}
use mathlib.Core.Option.{Option, some, none}
use mathlib.Core.Logic.{◌⊎◌}
use native.Mathlib.Omega.{arith}
use lib.ListN.{length}
use Rattle.octets.specs.Lists.{at}
use Rattle.transaction.specs.Transaction.{min_text, max_text, legal}
use Rattle.transaction.proofs.TransactionLaws.{length_bounds}
use Rattle.table.specs.Table.{lanes, entered}
use Rattle.table.specs.Written.{written}
use Rattle.table.specs.Canonical.{CanonicalTable}
use Rattle.table.specs.declared.Entry.{Entry}
use Rattle.table.specs.declared.Table.{Table}
use Rattle.sealed.specs.Aead.{aes_gcm}
use Rattle.sealed.specs.Record.{Opened, record_bytes, open_record}
use Rattle.sealed.specs.Checkpoint.{OpenedFile, file_bytes, legal_file, open_file}
use Rattle.sealed.proofs.RecordTrip.{length_record, record_opens}
use Rattle.sealed.proofs.FileLaws as Files
use Rattle.sealed.specs.Frame.{frame_len}
use Rattle.protocol.specs.Vaults.{counter_max}

-- what a record writes to a meter, if it does
abbrev pub write : Opened → ℕ → Option Entry
write r m = written r.text r.lane r.number m

-- the table after the transaction of a record
abbrev pub with_record : Table → Opened → Table
with_record t r = entered t r.text r.lane r.number

-- a record that the log rules pass over: its number is at most R or above V of its lane
abbrev pub Passed : List ℕ → List ℕ → Opened → Type 0
Passed v r y = (y.number ≤ at r y.lane) ⊎ (at v y.lane < y.number)

-- a record that Seal can put out
pub record Writable (r : Opened) : Type 0 where
  pub fine : legal r.text ≡ true
  pub bytes : (i : ℕ) → at r.text i < 256
  pub lane : r.lane < lanes
  pub number : r.number ≤ counter_max
  pub epoch : r.epoch ≤ counter_max
  pub size : r.size ≡ length r.text + frame_len

-- a file that Checkpoint or Recover can put out
pub record FileWritable (f : OpenedFile) : Type 0 where
  pub canonical : CanonicalTable f.table
  pub version : f.version ≤ counter_max
  pub seal : f.seal ≤ counter_max

module _ (key : List ℕ) where
  abbrev pub bytes_of : Opened → List ℕ
  bytes_of r = record_bytes (aes_gcm key) r.lane r.epoch r.number r.text

  -- of a record that was begun, or none
  abbrev pub begun_bytes : Option Opened → List ℕ
  begun_bytes none = []
  begun_bytes (some r) = bytes_of r

  abbrev pub file_of : OpenedFile → List ℕ
  file_of f = file_bytes (aes_gcm key) f.version f.seal f.table

  -- what was sealed opens to what was sealed
  pub opens : (r : Opened) → Writable r → open_record (aes_gcm key) (bytes_of r) ≡ some r
  opens r w =
      record_opens key r.lane r.epoch r.number r.text w.fine w.lane (omega (arith, w.epoch)) (omega (arith, w.number))
      ∙ ap (λ (n : ℕ). some (record { lane = r.lane; epoch = r.epoch; number = r.number; text = r.text; size = n })) (sym w.size)

  pub file_opens : (f : OpenedFile) → FileWritable f → open_file (aes_gcm key) (file_of f) ≡ some f
  file_opens f w = Files.file_opens key f.version f.seal f.table (omega (arith, w.version)) (omega (arith, w.seal)) w.canonical

  -- no bytes are no file
  pub empty_file : (f : OpenedFile) → open_file (aes_gcm key) [] ≡ some f → ⊥
  unfolding open_file legal_file
  empty_file f e = let z : ◌≡◌ {A = ℕ} 0 1 = cc in absurd (omega arith)

  -- as long as the shortest at least, and as the longest at most
  pub size : (r : Opened) → Writable r → (min_text + frame_len ≤ length (bytes_of r)) × (length (bytes_of r) ≤ max_text + frame_len)
  size r w =
      let b = length_bounds r.text w.fine in
      let l = length_record key r.lane r.epoch r.number r.text in
      let b0 = b.0 in
      let b1 = b.1 in
      (omega arith, omega arith)
