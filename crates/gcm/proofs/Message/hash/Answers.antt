-- `gcm::Message::hash` meets its contract: the data, the ciphertext, and the two lengths in one block. Assumes nothing.
use Rattle.gcm.proofs.SealLaws.{hash_parts}
use Rattle.ghash.specs.Multiples.{product_by}
use Rattle.ghash.specs.Ghash.{blocks_of, ghash}
use lib.ListN.{length}
use lib.Bits.{bit_xor}
use mathlib.Core.Path.{ap, ◌∙◌}
use Prim.Native.Nat.{ℕ, ◌+◌, ◌*◌, ◌^◌}
use Rattle.gcm.proofs.Message.hash.Goals as goal

pub returns : goal.returns
returns c =
    let a = c.args in
    let dot = product_by a.self.key.multiples.now in
    let l = length a.self.aad.now * 8 * 2 ^ 64 + length a.c.now * 8 in
    c.product.ensures
    ∙ ap dot (c.add.ensures ∙ ap (λ (y : ℕ). bit_xor y l) (c.hash-z.ensures ∙ ap (λ (y : ℕ). ghash dot y (blocks_of a.c.now)) c.hash-y.ensures))
    ∙ hash_parts dot a.self.aad.now a.c.now
