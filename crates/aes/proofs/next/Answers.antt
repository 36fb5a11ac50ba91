-- `aes::next` meets its contract: only the last 32 bits count up. Assumes nothing.
use Rattle.std.proofs.Common.{arith, ◌+◌, ◌/◌, ◌%◌, bit_and}
use Rattle.aes.specs.Counter.{inc32}
use Rattle.aes.proofs.ColumnLaws.{low32, two_halves}
use Rattle.aes.proofs.next.Goals as goal

pub returns : goal.returns
unfolding inc32
returns c =
    let l = c.args.b.lo in
    omega (arith, low32 l, two_halves (l / 4294967296) ((bit_and l 4294967295 + 1) % 4294967296) (omega arith) (omega arith))
