-- One store of an operation that takes several: what it needs, what it names, and what is due behind it.
-- 01, Operations, Checkpoint: "stores N + 1, the file of the whole table with version S + 1 and the raised N as seal number, then S + 1"; Recover:
-- "N, checkpoint S + 1, S; the same three again; R = W for lanes 0 to 7; if any W ≠ V, also E + 1 and V = W for lanes 0 to 7"; Truncate: "R of
-- lanes 0 to 7 from the point's counts".
-- A number at the maximum already, or a lane above 7, is turned down with 1: no call left such a state.
-- Assumes nothing.
use Rattle.std.specs.Prelude.{ℕ, suc, Bool, true, false, List, [], ◌∷◌, leb, ltb, Option, Some, None}
use Rattle.table.specs.Table.{lanes}
use Rattle.sealed.specs.Aead.{aes_gcm}
use Rattle.sealed.specs.Checkpoint.{file_len, file_bytes}
use Rattle.protocol.specs.Vaults.{counter_max, set_v, set_r, set_e, set_s, set_n}
use Rattle.protocol.specs.States.{with_vault}
use Rattle.protocol.specs.Said.{Answered, refuse, refusing, taking}
use Rattle.protocol.specs.declared.Vault.{Vault}
use Rattle.protocol.specs.declared.State.{State}
use Rattle.protocol.specs.declared.Due.{Due}
use Rattle.protocol.specs.declared.Step.{Step}
use Rattle.protocol.specs.declared.Store.{Store}
use Rattle.protocol.specs.declared.Store.TheVariants as S

-- ---- a vault number

-- to the numbers y; where the test holds the number cannot be set
unfoldable pub stands_if : Bool → Vault → Due → Store → Option Step
stands_if true y next store = None
stands_if false y next store = Some (record { vault = y; due = next; store = store })

-- S + 1, N + 1, E + 1
unfoldable pub raise_s : Vault → Due → Option Step
raise_s x next = stands_if (leb counter_max x.s) (set_s x (suc x.s)) next (S.S (suc x.s))

unfoldable pub raise_n : Vault → Due → Option Step
raise_n x next = stands_if (leb counter_max x.n) (set_n x (suc x.n)) next (S.N (suc x.n))

unfoldable pub raise_e : Vault → Due → Option Step
raise_e x next = stands_if (leb counter_max x.e) (set_e x (suc x.e)) next (S.E (suc x.e))

-- R and V of a lane; Recover's are W
unfoldable pub put_r : Vault → ℕ → ℕ → Due → Option Step
put_r x lane value next = stands_if (leb lanes lane) (set_r x lane value) next (S.R lane value)

unfoldable pub put_v : Vault → ℕ → ℕ → Due → Option Step
put_v x lane value next = stands_if (leb lanes lane) (set_v x lane value) next (S.V lane value)

-- what a call then answers
unfoldable pub stepped : State → Option Step → Answered
stepped c None = refusing c 1 []
stepped c (Some s) = taking (with_vault c s.vault s.due) s.store []

-- ---- the file

-- the file of the whole table, with version S + 1 and N as its seal number
unfoldable pub table_file : State → List ℕ
table_file c = file_bytes (aes_gcm c.key) (suc c.vault.s) c.vault.n c.table

-- put out where there is room for so many bytes
unfoldable pub file_step : State → ℕ → Due → Answered
file_step c room next =
    refuse (leb counter_max c.vault.s) c 1 []
    (refuse (ltb room file_len) c 3 (file_len ∷ [])
    (taking (with_vault c c.vault next) S.File (table_file c)))
