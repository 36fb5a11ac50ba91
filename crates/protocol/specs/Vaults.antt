-- 01, Vault and stores: "The vault holds 27 unsigned 64-bit numbers, all zero when new: for each lane 0 to 7 a W (numbers handed out), V
-- (numbers visible), R (numbers truncated); one epoch E; one checkpoint version S; one checkpoint seal number N. None exceeds 2^48 − 1."
-- Assumes nothing.
use Rattle.std.specs.Prelude.{ℕ, ◌-◌, ◌^◌, Bool, ◌&&◌, ◌||◌, leb, eqb, set, replicate}
use Rattle.octets.specs.Lists.{at}
use Rattle.octets.specs.Every.{all_below}
use Rattle.table.specs.Table.{lanes}
use Rattle.protocol.specs.declared.Vault.{Vault}

abbrev pub counter_max : ℕ
counter_max = 2 ^ 48 - 1

unfoldable pub new_vault : Vault
new_vault = record { w = replicate lanes 0; v = replicate lanes 0; r = replicate lanes 0; e = 0; s = 0; n = 0 }

-- Load: "Each lane needs V ≤ W and R ≤ W, and R > V only where R = W."
unfoldable pub lane_ok : ℕ → ℕ → ℕ → Bool
lane_ok w v r = leb w counter_max && leb v w && leb r w && (leb r v || eqb r w)

unfoldable pub vault_ok : Vault → Bool
vault_ok x = leb x.e counter_max && leb x.s counter_max && leb x.n counter_max && all_below (λ i. lane_ok (at x.w i) (at x.v i) (at x.r i)) lanes

-- ---- one number set

abbrev pub set_w : Vault → ℕ → ℕ → Vault
set_w x lane k = record { w = set x.w lane k; v = x.v; r = x.r; e = x.e; s = x.s; n = x.n }

abbrev pub set_v : Vault → ℕ → ℕ → Vault
set_v x lane k = record { w = x.w; v = set x.v lane k; r = x.r; e = x.e; s = x.s; n = x.n }

abbrev pub set_r : Vault → ℕ → ℕ → Vault
set_r x lane k = record { w = x.w; v = x.v; r = set x.r lane k; e = x.e; s = x.s; n = x.n }

abbrev pub set_e : Vault → ℕ → Vault
set_e x k = record { w = x.w; v = x.v; r = x.r; e = k; s = x.s; n = x.n }

abbrev pub set_s : Vault → ℕ → Vault
set_s x k = record { w = x.w; v = x.v; r = x.r; e = x.e; s = k; n = x.n }

abbrev pub set_n : Vault → ℕ → Vault
set_n x k = record { w = x.w; v = x.v; r = x.r; e = x.e; s = x.s; n = k }
