-- `aes_key::sbox_table` meets its contract: the table passes the test of the S-box's rule. Assumes nothing.
use Rattle.aes_key.proofs.SboxLaws.{passes}
use Rattle.aes_key.specs.Sbox.{sbox, affine, affine_bits, affine_bit, bit}
use Rattle.aes_key.specs.Gf.{◌•◌, times_bits, x_times, squares, inverse}
use mathlib.Core.Path.{refl}
use Rattle.aes_key.proofs.sbox_table.Goals as goal

pub returns : goal.returns
unfolding sbox affine affine_bits affine_bit bit inverse squares ◌•◌ times_bits x_times
returns c = passes _ tt refl
