-- `ghash::hash` meets its contract. The invariant: the hash of what is left, from y, is the hash of all of s from y0.
-- Assumes nothing.
use Rattle.std.proofs.Common.{◌≡◌}
use Rattle.std.specs.Slice.Iter.{chunks_rest, chunks_size}
use Rattle.octets.specs.Blocks.{num}
use Rattle.ghash.specs.Multiples.{product_by}
use Rattle.ghash.specs.Ghash.{ghash, blocks_of}
use Rattle.ghash.proofs.hash.Given as goal

abbrev pub invariant-loop-block : goal.invariant-loop-block
invariant-loop-block l = record {
  sixteen : chunks_size l.block-iterator ≡ 16;
  left : ghash (product_by l.m) (num l.y) (blocks_of (chunks_rest l.block-iterator)) ≡ ghash (product_by l.m) (num l.initial.y) (blocks_of l.s);
}
