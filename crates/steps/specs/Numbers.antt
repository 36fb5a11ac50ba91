-- The step of a vault number (01, Operations), by the number that it sets.
-- Assumes nothing.
use Rattle.std.specs.Prelude.{ℕ, Option}
use Rattle.protocol.specs.Steps.{raise_s, raise_n, raise_e, put_r, put_v}
use Rattle.protocol.specs.declared.Vault.{Vault}
use Rattle.protocol.specs.declared.Due.{Due}
use Rattle.protocol.specs.declared.Step.{Step}
use Rattle.protocol.specs.declared.Store.{Store}
use Rattle.protocol.specs.declared.Store.TheVariants as S
use Rattle.steps.specs.declared.Counter.{Counter}
use Rattle.steps.specs.declared.Counter.TheVariants as C
use Rattle.steps.specs.declared.LaneCounter.{LaneCounter}
use Rattle.steps.specs.declared.LaneCounter.TheVariants as L

-- the number, of the vault's, and the store that sets it
abbrev pub counter_of : Counter → Vault → ℕ
counter_of C.E x = x.e
counter_of C.S x = x.s
counter_of C.N x = x.n

abbrev pub counter_store : Counter → ℕ → Store
counter_store C.E value = S.E value
counter_store C.S value = S.S value
counter_store C.N value = S.N value

abbrev pub lane_store : LaneCounter → ℕ → ℕ → Store
lane_store L.V lane value = S.V lane value
lane_store L.R lane value = S.R lane value

-- E + 1, S + 1, N + 1
abbrev pub raise : Counter → Vault → Due → Option Step
raise C.E x next = raise_e x next
raise C.S x next = raise_s x next
raise C.N x next = raise_n x next

-- V and R of a lane
abbrev pub put : LaneCounter → Vault → ℕ → ℕ → Due → Option Step
put L.V x lane value next = put_v x lane value next
put L.R x lane value next = put_r x lane value next
