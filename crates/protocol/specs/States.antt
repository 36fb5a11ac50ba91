-- The state: what stands in it at first, and 01's rule for a handed one.
-- Assumes nothing.
use Rattle.std.specs.Prelude.{ℕ, Bool, true, false, ◌&&◌, List, leb, take, replicate}
use Rattle.transaction.specs.Transaction.{max_text}
use Rattle.table.specs.Table.{lanes}
use Rattle.protocol.specs.Vaults.{vault_ok}
use Rattle.protocol.specs.declared.Vault.{Vault}
use Rattle.protocol.specs.declared.Phase.{Phase}
use Rattle.protocol.specs.declared.Phase.TheVariants as F
use Rattle.protocol.specs.declared.Due.{Due}
use Rattle.protocol.specs.declared.Due.TheVariants as D
use Rattle.protocol.specs.declared.Journal.{Journal}
use Rattle.protocol.specs.declared.Point.{Point}
use Rattle.protocol.specs.declared.Points.{Points}
use Rattle.protocol.specs.declared.Held.{Held}
use Rattle.protocol.specs.declared.State.{State}

-- "At most 128 accepted records may stand at or above the newest point"; "At most 8 points are kept."
abbrev pub listed : ℕ
listed = 128

abbrev pub points_max : ℕ
points_max = 8

-- ---- what is empty

abbrev pub no_journal : Journal
no_journal = record { positions = replicate listed 0; lanes = replicate listed 0; count = 0; used = false; last = 0 }

abbrev pub no_point : Point
no_point = record { position = 0; counts = replicate lanes 0; covered = false }

abbrev pub no_points : Points
no_points = record { items = replicate points_max no_point; count = 0; any = false; newest = 0 }

abbrev pub no_held : Held
no_held = record { text = replicate max_text 0; len = 0; lane = 0; position = 0 }

-- ---- parts replaced

abbrev pub with_vault : State → Vault → Due → State
with_vault c x d = record { vault = x; phase = c.phase; due = d; table = c.table; journal = c.journal; points = c.points; held = c.held; key = c.key }

abbrev pub with_points : State → Points → Due → State
with_points c p d = record { vault = c.vault; phase = c.phase; due = d; table = c.table; journal = c.journal; points = p; held = c.held; key = c.key }

-- ---- the rule for a handed state

-- "A handed state that breaks Load's rule or the maximum, or lists more than 128 records .. or 8 points, is refused with 1": over the parts that it
-- looks at
abbrev pub valid_by : Vault → ℕ → ℕ → Bool
valid_by x records points = vault_ok x && leb records listed && leb points points_max

unfoldable pub valid : State → Bool
valid c = valid_by c.vault c.journal.count c.points.count

abbrev pub serving : Phase → Bool
serving F.Cold = false
serving F.Recovering = false
serving F.Serving = true

abbrev pub is_nothing : Due → Bool
is_nothing D.Nothing = true
is_nothing D.Record = false
is_nothing (D.Checkpoint step) = false
is_nothing (D.Truncate position step) = false
is_nothing (D.Recover step) = false

-- a valid collector in service with no store due
abbrev pub ready_by : Vault → Phase → Due → ℕ → ℕ → Bool
ready_by x phase due records points = valid_by x records points && serving phase && is_nothing due

unfoldable pub ready : State → Bool
ready c = ready_by c.vault c.phase c.due c.journal.count c.points.count

-- the transaction held
abbrev pub held_text : State → List ℕ
held_text c = take c.held.len c.held.text
