-- `heat::shares::gain_of` meets its contract: a use that is not negative is its own size. Assumes nothing.
use Rattle.heat.specs.Uses.{gain_of}
use Rattle.heat.proofs.SignedLaws.{read, below_counted, plain_counted, wide, counted_fits}
use Rattle.std.specs.Int.Signed.{lt_z}
use Rattle.std.specs.Prelude.{unsigned_abs}
use Rattle.std.proofs.Common.{ℤ, pos, ap, sym, ◌∙◌}
use Rattle.heat.proofs.shares.gain_of.Goals as goal

pub returns-in_default-clause-value : goal.returns-in_default-clause-value
unfolding gain_of
returns-in_default-clause-value c = rw c.in_default.is

pub returns-then-z-lt0-clause-value : goal.returns-then-z-lt0-clause-value
unfolding gain_of
returns-then-z-lt0-clause-value c =
    let z = c.in-Some.z in
    let e = read z (wide z (c.requires z c.in-Some.is)) in
    rw c.in-Some.is (below_counted z (ap (λ (y : ℤ). lt_z y (pos 0)) (sym e) ∙ c.if-z-lt0.true))

pub returns : goal.returns
unfolding gain_of
returns c =
    let z = c.in-Some.z in
    let e = read z (wide z (c.requires z c.in-Some.is)) in
    let is = c.unsigned_abs.ensures.value ∙ ap unsigned_abs e ∙ plain_counted z (ap (λ (y : ℤ). lt_z y (pos 0)) (sym e) ∙ c.if-z-lt0.false) in
    record { value = rw c.in-Some.is is; small = rw (is) (counted_fits z (c.requires z c.in-Some.is)) }
