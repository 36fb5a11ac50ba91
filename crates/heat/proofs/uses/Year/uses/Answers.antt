use Rattle.heat.proofs.UsesLaws.{read_ok, read_err, none_small, small_more, set_more}
use Rattle.heat.proofs.ListedLaws.{any_of}
use Rattle.heat.proofs.SumLaws.{any_more}
use Rattle.heat.specs.Sums.{any_below}
use Rattle.heat.specs.Uses.{code_changed, use_at}
use Rattle.heat.specs.Answer.{any_changed}
use Rattle.table.specs.declared.Table.{Table}
use Rattle.table.specs.TableText.{table_from}
use Rattle.transaction.specs.Transaction.{meters}
use Rattle.std.proofs.lemmas.Result.{err_from_is_err_and}
use Rattle.std.specs.Prelude.{None}
use Rattle.std.proofs.Common.{◌≡◌, ◌||◌, arith, refl, sym, ap, ap₂, ◌∙◌, length-set}
use Rattle.heat.proofs.uses.Year.uses.Goals as goal

pub loop-m-init : goal.loop-m-init
unfolding any_below
loop-m-init c = record { same = refl; uses = λ k h. absurd (omega arith); small = none_small meters; long = refl }

pub returns-in_err-each : goal.returns-in_err-each
unfolding any_changed
returns-in_err-each c =
    let y = c.self in
    let m = c.loop-m.m in
    let p = err_from_is_err_and c.from_residual.result c.from_residual.ensures.1 in
    let r = read_err y.inside.start.now y.inside.end.now m y.invariant.0 y.invariant.1 c.entry_at.ensures c.entry_at-in-loop-m.ensures (sym c.in_err-each.ensures.value) in
    rw (p.1, p.2, ← y.view_is) (any_of (code_changed (table_from y.inside.start.now) (table_from y.inside.end.now)) meters m (omega arith) r.0, r.1)

pub loop-m-preserved : goal.loop-m-preserved
loop-m-preserved c =
    let y = c.self in
    let l = c.loop-m in
    let S = c.args.self.now.0 in
    let E = c.args.self.now.1 in
    let r = read_ok y.inside.start.now y.inside.end.now l.m y.invariant.0 y.invariant.1 c.entry_at.ensures c.entry_at-in-loop-m.ensures (sym c.in_ok-each.ensures.value) in
    let same = ap (λ (p : Table × Table). code_changed p.0 p.1 l.m) (sym y.view_is) ∙ r.0 in
    let used = r.1 ∙ ap (λ (p : Table × Table). use_at p.0 p.1 l.m) y.view_is in
    record {
      same = sym (any_more (code_changed S E) l.m) ∙ ap₂ ◌||◌ l.invariant.same same;
      uses = set_more None (use_at S E) l.each l.m c.in_ok-each.field-0 (omega arith) l.invariant.uses used;
      small = small_more l.each l.m c.in_ok-each.field-0 l.invariant.small c.in_ok-each.ensures.small;
      long = length-set l.each l.m c.in_ok-each.field-0 ∙ l.invariant.long;
    }

pub returns : goal.returns
unfolding any_changed
returns c =
    let l = c.loop-m in
    let all : l.m ≡ meters = omega arith in
    (ap (any_below (code_changed c.args.self.now.0 c.args.self.now.1)) (sym all) ∙ l.invariant.same, λ m h. l.invariant.uses m (omega arith))
