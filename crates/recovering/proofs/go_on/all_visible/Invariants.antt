-- `recovering::go_on::all_visible` meets its contract. The invariant: good says whether the lanes so far are visible. Assumes nothing.
use Rattle.octets.specs.Lists.{at}
use Rattle.octets.specs.Every.{all_below}
use Rattle.protocol.specs.declared.Vault.{Vault}
use Rattle.std.proofs.Common.{ℕ, Bool, ◌≡◌}
use lib.Dec.{eqb}
use Rattle.recovering.proofs.go_on.all_visible.Given as goal

abbrev pub seen : Vault → ℕ → Bool
seen x i = eqb (at x.w i) (at x.v i)

abbrev pub invariant-loop-lane : goal.invariant-loop-lane
invariant-loop-lane l = l.good ≡ all_below (seen l.x) l.lane
