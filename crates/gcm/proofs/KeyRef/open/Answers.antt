-- `gcm::KeyRef::open` meets its contract: each answer from the tests that lead to it. Assumes nothing.
use Rattle.gcm.proofs.AnswerLaws.{open_none, open_long, open_short, open_fails, open_opens}
use Rattle.ghash.specs.Multiples.{product_by}
use Rattle.gcm.proofs.SealLaws.{cipher_whole}
use Rattle.aes.specs.Cipher.{cipher}
use mathlib.Core.Path.{sym, ◌∙◌}
use Rattle.gcm.proofs.KeyRef.open.Goals as goal

pub returns-then-s-lt-TAG_LEN : goal.returns-then-s-lt-TAG_LEN
returns-then-s-lt-TAG_LEN c =
    let a = c.args in
    let all = open_none (cipher a.self.schedule.now) (product_by a.self.multiples.now) a.iv a.aad.now a.s.now a.out.now c.if-s-lt-TAG_LEN.true in
    record { answer = all.0; buffer = all.1 }

pub returns-then-beyond : goal.returns-then-beyond
returns-then-beyond c =
    let a = c.args in
    let all = open_long (cipher a.self.schedule.now) (product_by a.self.multiples.now) a.iv a.aad.now a.s.now a.out.now c.if-s-lt-TAG_LEN.false (sym c.beyond.ensures ∙ c.if-beyond.true) in
    record { answer = all.0; buffer = all.1 }

pub returns-then-out-n : goal.returns-then-out-n
returns-then-out-n c =
    let a = c.args in
    let all = open_short (cipher a.self.schedule.now) (product_by a.self.multiples.now) a.iv a.aad.now a.s.now a.out.now c.if-s-lt-TAG_LEN.false (sym c.beyond.ensures ∙ c.if-beyond.false) c.if-out-n.true in
    record { answer = all.0; buffer = all.1 }

pub returns-then-not-fits : goal.returns-then-not-fits
returns-then-not-fits c =
    let a = c.args in
    let all = open_fails (cipher a.self.schedule.now) (product_by a.self.multiples.now) a.iv a.aad.now a.s.now a.out.now c.if-s-lt-TAG_LEN.false (sym c.beyond.ensures ∙ c.if-beyond.false) c.if-out-n.false
    (sym c.fits.ensures ∙ c.if-not-fits.true) in
    record { answer = all.0; buffer = all.1 }

pub returns : goal.returns
returns c =
    let a = c.args in
    let all = open_opens (cipher a.self.schedule.now) (product_by a.self.multiples.now) a.iv a.aad.now a.s.now a.out.now c.if-s-lt-TAG_LEN.false (sym c.beyond.ensures ∙ c.if-beyond.false) c.if-out-n.false
    (cipher_whole a.self.schedule.now) _ (sym c.fits.ensures ∙ c.if-not-fits.false) c.put_text.ensures in
    record { answer = all.0; buffer = all.1 }
