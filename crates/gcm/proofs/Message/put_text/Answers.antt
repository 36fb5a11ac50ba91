-- `gcm::Message::put_text` meets its contract: the ciphertext is copied, and decrypted in its new place. Assumes nothing.
use Rattle.octets.proofs.CopyLaws.{over_room}
use Rattle.gcm.proofs.AnswerLaws.{text_put_law}
use Rattle.gcm.proofs.SealLaws.{cipher_whole}
use Rattle.aes.specs.Cipher.{cipher}
use Rattle.std.proofs.Common.{ℕ, List, ◌≡◌, ◌++◌, ◌∙◌, ap, arith, drop, length, take}
use lib.Seq.{length-take-le}
use Rattle.gcm.proofs.Message.put_text.Goals as goal

pub returns : goal.returns
returns c =
    let a = c.args in
    let n = a.self.n in
    let text = take n a.s.now in
    let long : length text ≡ n = length-take-le n a.s.now c.requires.0 in
    let copied = c.copy.ensures ∙ over_room text a.out.now (omega (arith, long)) ∙ ap (λ (k : ℕ). text ++ drop k a.out.now) long in
    text_put_law (cipher a.self.key.schedule.now) (cipher_whole a.self.key.schedule.now) a.self.iv a.s.now a.out.now c.copy.new.dst c.counter.new.s n _ _
    c.requires.0 copied c.pre_counter.ensures c.next.ensures c.counter.ensures
