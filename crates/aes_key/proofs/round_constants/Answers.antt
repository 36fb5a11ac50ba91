-- `aes_key::round_constants` meets its contract: the table passes the test of the doubling rule. Assumes nothing.
use Rattle.aes_key.proofs.RconLaws.{passes}
use Rattle.aes_key.specs.Schedule.{rcon}
use Rattle.aes_key.specs.Gf.{x_times}
use mathlib.Core.Path.{refl}
use Rattle.aes_key.proofs.round_constants.Goals as goal

pub returns : goal.returns
unfolding rcon x_times
returns c = passes _ tt refl
