-- `gcm::Message::tag` meets its contract: the hash with the cipher of the pre-counter block added. Assumes nothing.
use Rattle.gcm.proofs.SealLaws.{tag_sum}
use Rattle.ghash.specs.Multiples.{product_by}
use Rattle.aes.specs.Cipher.{cipher}
use Rattle.gcm.proofs.Message.tag.Goals as goal

pub returns : goal.returns
returns c =
    let a = c.args in
    tag_sum (cipher a.self.key.schedule.now) (product_by a.self.key.multiples.now) a.self.iv a.self.aad.now a.c.now _ _ _ _ c.hash.ensures c.pre_counter.ensures c.encrypt-mask.ensures c.add.ensures
