-- `test_cipher::cipher_seal` meets its contract: the nonce is 12 bytes or the answer is 1, and the text is sealed under it. Assumes nothing.
use Rattle.test_cipher.specs.Boundary.{seal_code, seal_number, seal_buffer}
use Rattle.gcm.specs.Answers.{sealed_in}
use Rattle.ghash.specs.Multiples.{product_by}
use Rattle.aes.specs.Cipher.{cipher}
use Rattle.std.proofs.Common.{ℕ, List, ap, ◌∙◌}
use borrow.Author.Tests.{eq-eqb, ne_eqb}
use Rattle.test_cipher.proofs.cipher_seal.Goals as goal

pub returns-in_default : goal.returns-in_default
unfolding seal_number seal_buffer
returns-in_default c =
    let e = ne_eqb _ _ c.in_default.ensures.1 in
    record { answer = rw e; buffer = rw e }

pub returns : goal.returns
unfolding seal_number seal_buffer
returns c =
    let a = c.args in
    let e = eq-eqb _ _ c.in-Ok.ensures.1.long in
    let k = c.in-Ok.ensures.1.same in
    let s = c.seal.ensures in
    record { answer = rw e (c.seal_code.ensures ∙ ap seal_code s.answer); buffer = rw e (s.buffer ∙ ap (λ (iv : List ℕ). sealed_in (cipher a.w.now) (product_by a.m.now) iv a.aad.now a.n a.buf.now) k) }
