-- `heat::numerals::Line::signed_before` meets its contract: a negative number's numeral is its size's, with a minus before it. Assumes nothing.
use Rattle.heat.specs.Numerals.{numeral}
use Rattle.heat.proofs.SignedLaws.{read, below_signed, plain_signed, size_short, size_shorter}
use Rattle.std.specs.Int.Signed.{lt_z}
use Rattle.std.specs.Prelude.{unsigned_abs}
use Rattle.std.proofs.Common.{ℤ, pos, ℕ, arith, ap, sym, ◌∙◌, List, ◌∷◌, ◌++◌}
use Rattle.heat.proofs.numerals.Line.signed_before.Goals as goal

pub digits_before-requires : goal.digits_before-requires
digits_before-requires c =
    let z = c.args.z in
    let n = size_short z in
    rw (c.unsigned_abs.ensures.value, read z c.ranges.z) (omega arith)

pub byte_before-requires : goal.byte_before-requires
byte_before-requires c =
    let z = c.args.z in
    let n = size_shorter z (ap (λ (y : ℤ). lt_z y (pos 0)) (sym (read z c.ranges.z)) ∙ c.if-z-lt0.true) c.args.self.now in
    rw (c.digits_before.ensures, c.unsigned_abs.ensures.value, read z c.ranges.z) (omega arith)

pub returns-then-z-lt0 : goal.returns-then-z-lt0
returns-then-z-lt0 c =
    let z = c.args.z in
    let is = c.unsigned_abs.ensures.value ∙ ap unsigned_abs (read z c.ranges.z) in
    let e = below_signed z (ap (λ (y : ℤ). lt_z y (pos 0)) (sym (read z c.ranges.z)) ∙ c.if-z-lt0.true) in
    c.byte_before.ensures ∙ ap (λ (s : List ℕ). 45 ∷ s) (c.digits_before.ensures ∙ ap (λ (n : ℕ). numeral n ++ c.args.self.now) is) ∙ ap (λ (s : List ℕ). s ++ c.args.self.now) e

pub returns-else-z-lt0 : goal.returns-else-z-lt0
returns-else-z-lt0 c =
    let z = c.args.z in
    let is = c.unsigned_abs.ensures.value ∙ ap unsigned_abs (read z c.ranges.z) in
    let e = plain_signed z (ap (λ (y : ℤ). lt_z y (pos 0)) (sym (read z c.ranges.z)) ∙ c.if-z-lt0.false) in
    c.digits_before.ensures ∙ ap (λ (n : ℕ). numeral n ++ c.args.self.now) is ∙ ap (λ (s : List ℕ). s ++ c.args.self.now) e
