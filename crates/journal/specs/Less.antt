-- A lane's number less 1, as a walk back over the listed records takes it.
-- Assumes nothing.
use Rattle.std.specs.Prelude.{ℕ, ◌-◌, List, set}
use Rattle.octets.specs.Lists.{at}

unfoldable pub one_less : List ℕ → ℕ → List ℕ
one_less a lane = set a lane (at a lane - 1)
