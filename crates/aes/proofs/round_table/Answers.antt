-- `aes::round_table` meets its contract: the table passes the test of its rule. Assumes nothing.
use Rattle.aes.proofs.TableLaws.{passes}
use Rattle.aes.specs.Rounds.{spread}
use Rattle.aes_key.specs.Sbox.{sbox, affine, affine_bits, affine_bit, bit}
use Rattle.aes_key.specs.Gf.{◌•◌, times_bits, x_times, squares, inverse}
use mathlib.Core.Path.{refl}
use Rattle.aes.proofs.round_table.Goals as goal

pub returns : goal.returns
unfolding spread sbox affine affine_bits affine_bit bit inverse squares ◌•◌ times_bits x_times
returns c = passes _ tt refl
