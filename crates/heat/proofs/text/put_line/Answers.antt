-- `heat::text::put_line` meets its contract: a meter without a line puts nothing, and another's is copied. Assumes nothing.
use Rattle.heat.proofs.TextLaws.{length_line}
use Rattle.heat.proofs.SignedLaws.{read, wide}
use Rattle.heat.specs.Text.{line, line_by}
use Rattle.octets.specs.Lists.{at, over}
use Rattle.octets.proofs.CopyLaws.{over_none}
use Rattle.std.specs.Int.Signed.{mag}
use Rattle.std.proofs.Common.{ℤ, ℕ, List, ◌<◌, ◌^◌, arith, refl, sym, ap, subst, ◌∙◌, length}
use Rattle.heat.proofs.text.put_line.Goals as goal

pub returns-in_default : goal.returns-in_default
unfolding line_by
returns-in_default c = rw c.in_default.is (record { len = (refl, omega arith); bytes = sym (over_none c.args.out.now) })

pub line_of-l-requires : goal.line_of-l-requires
line_of-l-requires c =
    let a = c.args in
    let z = c.in-Some.used in
    let h = a.uses.now.small a.m z c.in-Some.is in
    (c.requires, subst (λ (y : ℤ). mag y < 2 ^ 32) (sym (read z (wide z h))) h, a.shares.now.most a.m c.requires)

pub returns : goal.returns
unfolding line_by
returns c =
    let a = c.args in
    let z = c.in-Some.used in
    let share = at a.shares.now.each a.m in
    let h = a.uses.now.small a.m z c.in-Some.is in
    let is = c.as_slice-text.ensures ∙ c.line_of-l.ensures ∙ ap (λ (y : ℤ). line a.m y share) (read z (wide z h)) in
    let n = ap length is in
    let most = length_line a.m z share c.requires h (a.shares.now.most a.m c.requires) in
    rw c.in-Some.is (record { len = (n, omega arith); bytes = c.copy.ensures ∙ ap (λ (l : List ℕ). over l a.out.now) is })
