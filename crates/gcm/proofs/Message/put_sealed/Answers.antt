-- `gcm::Message::put_sealed` meets its contract: the text is encrypted in its place, its tag computed and put behind it. Assumes nothing.
use Rattle.gcm.proofs.AnswerLaws.{seal_put_law}
use Rattle.ghash.specs.Multiples.{product_by}
use Rattle.gcm.proofs.SealLaws.{cipher_whole}
use Rattle.aes.specs.Cipher.{cipher}
use Rattle.octets.proofs.PartLaws.{mid_rest, put_rest}
use Rattle.octets.specs.Bytes.{bytes_of}
use Rattle.octets.specs.Blocks.{num}
use Rattle.octets.specs.Lists.{over}
use lib.ListN.{drop}
use mathlib.Core.List.{◌++◌}
use borrow.Author.Rules.{rules}
use mathlib.Core.Path.{ap, ◌∙◌}
use Rattle.gcm.proofs.Message.put_sealed.Goals as goal

pub returns : goal.returns
returns c =
    let a = c.args in
    let n = a.self.n in
    let x = c.counter.new.s in
    let b = x ++ drop n a.buf.now in
    let y = c.put_block.new.s in
    let room = c.requires in
    put_rest n b y (search rules)
    ∙ seal_put_law (cipher a.self.key.schedule.now) (cipher_whole a.self.key.schedule.now) a.self.iv (product_by a.self.key.multiples.now) a.self.aad.now a.buf.now x y n _ _ (bytes_of 16 (num c.tag-tag.result))
    room c.pre_counter.ensures c.next.ensures c.counter.ensures c.tag-tag.ensures
    (c.put_block.ensures ∙ ap (over (bytes_of 16 (num c.tag-tag.result))) (mid_rest n b))
