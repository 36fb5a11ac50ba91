-- 01, Operations: "Load: 27 numbers and a 16-byte key. Each lane needs V ≤ W and R ≤ W, and R > V only where R = W."
-- Assumes nothing.
use Rattle.std.specs.Prelude.{ℕ, suc, not, List, [], ◌∷◌, eqb, length, replicate}
use Rattle.table.specs.Table.{empty_table}
use Rattle.protocol.specs.Vaults.{counter_max, new_vault, vault_ok, set_e}
use Rattle.protocol.specs.States.{no_journal, no_points, no_held}
use Rattle.protocol.specs.Said.{Answered, refuse, taking}
use Rattle.protocol.specs.declared.Vault.{Vault}
use Rattle.protocol.specs.declared.State.{State}
use Rattle.protocol.specs.declared.Phase.TheVariants as F
use Rattle.protocol.specs.declared.Due.TheVariants as D
use Rattle.protocol.specs.declared.Store.TheVariants as S

abbrev pub key_len : ℕ
key_len = 16

-- a cold collector
unfoldable pub loaded : Vault → List ℕ → State
loaded x key = record { vault = x; phase = F.Cold; due = D.Nothing; table = empty_table; journal = no_journal; points = no_points; held = no_held; key = key }

-- what a refused Load hands back: its E is above the maximum, so that every call on it is refused with 1
unfoldable pub blank : State
blank = loaded (set_e new_vault (suc counter_max)) (replicate key_len 0)

unfoldable pub load : Vault → List ℕ → Answered
load x key =
    refuse (not (vault_ok x)) blank 2 []
    (refuse (not (eqb (length key) key_len)) blank 3 (key_len ∷ [])
    (taking (loaded x key) S.Nothing []))
