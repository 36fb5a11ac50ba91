-- `test_cipher::cipher_open` meets its contract: the nonce is 12 bytes or the answer is 1, and the text is opened under it. Assumes nothing.
use Rattle.test_cipher.specs.Boundary.{open_code, open_number, open_buffer}
use Rattle.gcm.specs.Answers.{opening, opened_in}
use Rattle.ghash.specs.Multiples.{product_by}
use Rattle.aes.specs.Cipher.{cipher}
use Rattle.std.proofs.Common.{ℕ, List, length, ap, ◌∙◌}
use borrow.Author.Tests.{eq-eqb, ne_eqb}
use Rattle.test_cipher.proofs.cipher_open.Goals as goal

pub returns-in_default : goal.returns-in_default
unfolding open_number open_buffer
returns-in_default c =
    let e = ne_eqb _ _ c.in_default.ensures.1 in
    record { answer = rw e; buffer = rw e }

pub returns : goal.returns
unfolding open_number open_buffer
returns c =
    let a = c.args in
    let e = eq-eqb _ _ c.in-Ok.ensures.1.long in
    let k = c.in-Ok.ensures.1.same in
    let s = c.open.ensures in
    let f = cipher a.w.now in
    let g = product_by a.m.now in
    record { answer = rw e (c.open_code.ensures ∙ ap open_code (s.answer ∙ ap (λ (iv : List ℕ). opening f g iv a.aad.now a.s.now (length a.out.now)) k)); buffer = rw e (s.buffer ∙ ap (λ (iv : List ℕ). opened_in f g iv a.aad.now a.s.now a.out.now) k) }
