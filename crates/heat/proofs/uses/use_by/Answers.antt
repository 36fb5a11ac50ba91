-- `heat::uses::use_by` meets its contract: its tests are the definition's, and its difference is the exact one. Assumes nothing.
use Rattle.heat.specs.Uses.{heat_in_both, heat_in_one, difference, use_by}
use Rattle.heat.proofs.SignedLaws.{kept}
use Rattle.std.specs.Prelude.{Some, Ok}
use Rattle.std.specs.Int.Signed.{mag}
use Rattle.std.proofs.Common.{◌<◌, ◌^◌, ℤ, arith, ap, eq-eqb, ne_eqb}
use Rattle.heat.proofs.uses.use_by.Goals as goal

pub returns-then-not-a-b-clause-value : goal.returns-then-not-a-b-clause-value
unfolding use_by heat_in_both heat_in_one
returns-then-not-a-b-clause-value c = rw c.if-not-a-b.true

pub returns-in-true-true-clause-value : goal.returns-in-true-true-clause-value
unfolding use_by heat_in_both heat_in_one difference
returns-in-true-true-clause-value c =
    let e = c.args in
    let ha : mag e.a.reading < 2 ^ 31 = omega arith in
    let hb : mag e.b.reading < 2 ^ 31 = omega arith in
    rw (c.if-not-a-b.false, eq-eqb e.a.code 3 c.in-true-true.is-0, eq-eqb e.b.code 3 c.in-true-true.is-1) (ap (λ (z : ℤ). Ok (Some z)) (kept e.a.reading e.b.reading ha hb c.difference.ensures))

pub returns-in-false-false-clause-value : goal.returns-in-false-false-clause-value
unfolding use_by heat_in_both heat_in_one
returns-in-false-false-clause-value c =
    let e = c.args in
    rw (c.if-not-a-b.false, ne_eqb e.a.code 3 c.in-false-false.is-0, ne_eqb e.b.code 3 c.in-false-false.is-1)

pub returns-in_default-clause-value : goal.returns-in_default-clause-value
unfolding use_by heat_in_both heat_in_one
returns-in_default-clause-value c =
    let e = c.args in
    rw (c.if-not-a-b.false, eq-eqb e.a.code 3 c.in_default.is-0, ne_eqb e.b.code 3 c.in_default.is-1)

pub returns-in_default-2-clause-value : goal.returns-in_default-2-clause-value
unfolding use_by heat_in_both heat_in_one
returns-in_default-2-clause-value c =
    let e = c.args in
    rw (c.if-not-a-b.false, ne_eqb e.a.code 3 c.in_default.is-0, eq-eqb e.b.code 3 c.in_default.is-1)
