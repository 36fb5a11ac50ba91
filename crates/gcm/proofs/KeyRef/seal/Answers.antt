-- `gcm::KeyRef::seal` meets its contract: each answer from the tests that lead to it. Assumes nothing.
use Rattle.gcm.proofs.AnswerLaws.{seal_long, seal_short, seal_done}
use Rattle.ghash.specs.Multiples.{product_by}
use Rattle.aes.specs.Cipher.{cipher}
use mathlib.Core.Path.{sym, ◌∙◌}
use Rattle.gcm.proofs.KeyRef.seal.Goals as goal

pub returns-then-beyond : goal.returns-then-beyond
returns-then-beyond c =
    let a = c.args in
    let all = seal_long (cipher a.self.schedule.now) (product_by a.self.multiples.now) a.iv a.aad.now a.n a.buf.now (sym c.beyond.ensures ∙ c.if-beyond.true) in
    record { answer = all.0; buffer = all.1 }

pub returns-then-buf-e : goal.returns-then-buf-e
returns-then-buf-e c =
    let a = c.args in
    let all = seal_short (cipher a.self.schedule.now) (product_by a.self.multiples.now) a.iv a.aad.now a.n a.buf.now (sym c.beyond.ensures ∙ c.if-beyond.false) c.if-buf-e.true in
    record { answer = all.0; buffer = all.1 }

pub returns : goal.returns
returns c =
    let a = c.args in
    let all = seal_done (cipher a.self.schedule.now) (product_by a.self.multiples.now) a.iv a.aad.now a.n a.buf.now _ (sym c.beyond.ensures ∙ c.if-beyond.false) c.if-buf-e.false c.put_sealed.ensures in
    record { answer = all.0; buffer = all.1 }
