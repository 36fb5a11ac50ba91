-- 02, CR 2: "It ships with an update of boxes whose old tables stay valid as they are: an entry already won is compared by the new order from then
-- on, and the recovered table is spoken for from a new vault only." So demand 3 is about a box that had this order from its new vault on, and this is
-- about any other: any cold state, and a checkpoint of version S with any table in its layout, whatever order made it. The proof is in
-- proofs/UpdatedLaws.antt.
-- Assumes nothing.
use Rattle.std.specs.Prelude.{ℕ, ◌^◌, ◌<◌, ◌≤◌, ◌≡◌, true, length}
use mathlib.Core.List.{List, Memᴰ}
use Rattle.std.proofs.Math.Option.{some}
use Rattle.octets.specs.Lists.{at}
use Rattle.transaction.specs.Transaction.{meters}
use Rattle.table.specs.declared.Entry.{Entry}
use Rattle.table.specs.declared.Table.{Table}
use Rattle.table.specs.Table.{entry_for}
use Rattle.table.specs.Canonical.{CanonicalTable}
use Rattle.table.specs.Claim.{Holds, LatestAmong}
use Rattle.sealed.specs.Aead.{aes_gcm}
use Rattle.sealed.specs.Record.{Opened, open_record}
use Rattle.sealed.specs.Checkpoint.{file_bytes}
use Rattle.sealed.specs.Log.{records_in}
use Rattle.protocol.specs.States.{valid}
use Rattle.protocol.specs.Replay.{replay}
use Rattle.protocol.specs.Recover.{read_from, recover}
use Rattle.protocol.specs.Commit.{commit}
use Rattle.protocol.specs.LatestOf.{Writes}
use Rattle.protocol.specs.History.{is_taken}
use Rattle.protocol.specs.declared.Vault.{Vault}
use Rattle.protocol.specs.declared.State.{State}
use Rattle.protocol.specs.declared.Phase.TheVariants as F

-- a checkpoint of version S with the table t, sealed with the state's key
abbrev pub checkpoint_of : State → ℕ → Table → List ℕ
checkpoint_of c seal t = file_bytes (aes_gcm c.key) c.vault.s seal t

-- one of these bytes opens as a record that is not passed over, its number above R and not above V of its lane, and writes e to meter m
pub record EntersFrom (key : List ℕ) (x : Vault) (records : List (List ℕ)) (m : ℕ) (e : Entry) : Type 0 where
  pub bytes : List ℕ
  pub opened : Opened
  pub among : Memᴰ bytes records
  pub opens : open_record (aes_gcm key) bytes ≡ some opened
  pub above_r : at x.r opened.lane < opened.number
  pub not_above_v : opened.number ≤ at x.v opened.lane
  pub writes : Writes opened m e

pub record Updated : Type 0 where
  -- "old tables stay valid as they are": such a checkpoint is not what is turned down, and the log rules begin with its table
  pub old_checkpoint_is_read : (c : State) (seal : ℕ) (t : Table) (log : List ℕ) → valid c ≡ true → 0 < c.vault.s → seal < 2 ^ 64 → CanonicalTable t
      → read_from (aes_gcm c.key) c.vault (checkpoint_of c seal t) log ≡ replay (aes_gcm c.key) c.vault t log
  -- "an entry already won is compared by the new order from then on": where the recovery is accepted, a meter has the latest of the checkpoint's entry
  -- and of all that the records of the log write to it, but for those that are passed over
  pub compared_in_recover : (c : State) (seal : ℕ) (t : Table) (log : List ℕ) (room : ℕ) → c.phase ≡ F.Cold → 0 < c.vault.s → seal < 2 ^ 64 → CanonicalTable t
      → is_taken (recover c (checkpoint_of c seal t) log room).said ≡ true → (m : ℕ) → m < meters
      → LatestAmong (EntersFrom c.key c.vault (records_in log) m) (entry_for t m) (entry_for (recover c (checkpoint_of c seal t) log room).state.table m)
  -- and in service, where a Commit is taken, the later of what it had and of what the record writes to it
  pub compared_in_commit : (c : State) (bytes : List ℕ) → is_taken (commit c bytes).said ≡ true
      → (r : Opened) × (open_record (aes_gcm c.key) bytes ≡ some r)
      × ((m : ℕ) → m < length c.table.entries → Holds r.text r.lane r.number m (entry_for c.table m) (entry_for (commit c bytes).state.table m))
