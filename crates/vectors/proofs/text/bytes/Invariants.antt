-- `vectors::text::bytes` meets its contract. The invariant: what stands in the vector is what the digits of the pairs so far write, and the iterator has the others left. Assumes nothing.
use Rattle.std.proofs.Common.{◌≡◌, ◌*◌, length, drop}
use Rattle.std.specs.Slice.Iter.{chunks_exact_rest, chunks_exact_size}
use Rattle.arrayvec.specs.ArrayVec.{array_vec_len}
use Rattle.vectors.specs.Hex.{bytes_to}
use Rattle.vectors.proofs.text.bytes.Given as goal

abbrev pub invariant-loop-pair : goal.invariant-loop-pair
invariant-loop-pair l = (array_vec_len l.bytes ≡ length l.yielded) × (l.bytes.items ≡ bytes_to l.field (length l.yielded))
    × (chunks_exact_rest l.pair-iterator ≡ drop (2 * length l.yielded) l.field) × (chunks_exact_size l.pair-iterator ≡ 2)
