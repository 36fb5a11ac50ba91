-- `test_sealed::sealed_prepare` meets its contract: the key is 16 bytes or the answer is 1, and both its parts are prepared in place. Assumes nothing.
use Rattle.gcm.specs.Key.{prepared}
use Rattle.gcm.proofs.KeyLaws.{prepared_parts}
use Rattle.std.proofs.Common.{ap, ◌∙◌}
use borrow.Author.Rules.{rules}
use borrow.Author.Tests.{eq-eqb}
use Rattle.test_sealed.proofs.sealed_prepare.Goals as goal

pub returns : goal.returns
returns c =
    let e = eq-eqb _ _ c.in-Ok.ensures.1.long in
    let p = prepared_parts _ _ _ _ (c.prepare_in.ensures.schedule, c.prepare_in.ensures.multiples) (search rules) ∙ ap prepared c.in-Ok.ensures.1.same in
    record { answer = rw e; schedule = rw e (ap (λ x. x.schedule) p); multiples = rw e (ap (λ x. x.multiples) p) }
