use Rattle.std.proofs.Common.{◌≡◌, ℕ, ◌+◌, ◌*◌, List, ◌++◌, length, take, refl, sym, ap, ◌∙◌, arith, rules}
use borrow.Author.Tests.{eq-eqb, ne_eqb}
use Rattle.std.proofs.Math.Seq.{take_all, paste, take-paste}
use Rattle.octets.specs.Blocks.{num}
use Rattle.ghash.specs.Multiples.{rows_to, multiples_of, multiples_in}
use Rattle.ghash.proofs.TableLaws.{row_more, next_row}
use Rattle.ghash.proofs.ProductLaws.{shifted_by}
use Rattle.ghash.proofs.put_multiples.Goals as goal

pub returns-then-m-ne-TABLE_LEN : goal.returns-then-m-ne-TABLE_LEN
unfolding multiples_in
returns-then-m-ne-TABLE_LEN c = rw (ne_eqb _ _ c.if-m-ne-TABLE_LEN.true)

pub loop-j-init : goal.loop-j-init
unfolding shifted_by rows_to
loop-j-init c = record { long = c.if-m-ne-TABLE_LEN.false; step = refl; rows = refl }

pub loop-j-preserved : goal.loop-j-preserved
loop-j-preserved c =
    let l = c.loop-j in
    let i = l.invariant in
    let h = num c.args.h in
    let v = num l.v in
    let size : 32 * (l.j + 1) ≡ 32 * l.j + 32 = omega arith in
    let long : length c.row.result ≡ 32 = search rules in
    record {
      long = search rules;
      step = next_row h l.j v (num c.shift4-v.result) i.step c.shift4-v.ensures;
      rows = row_more h l.j v l.m c.row.result _ (omega arith) i.step c.row.ensures i.rows
          (ap (take (32 * (l.j + 1))) c.put_row.ensures ∙ ap (λ (n : ℕ). take n (paste l.m (32 * l.j) c.row.result 32)) size
          ∙ take-paste l.m (32 * l.j) c.row.result 32 (omega arith) (omega arith) ∙ ap (λ (r : List ℕ). take (32 * l.j) l.m ++ r) (take_all 32 c.row.result (omega (arith, long))));
    }

pub returns : goal.returns
unfolding multiples_of multiples_in
returns c =
    let l = c.loop-j in
    let all : l.j ≡ 32 = omega arith in
    rw (eq-eqb _ _ c.if-m-ne-TABLE_LEN.false)
    (sym (take_all 1024 l.m (omega arith))
    ∙ ap (λ (n : ℕ). take (32 * n) l.m) (sym all)
    ∙ l.invariant.rows
    ∙ ap (λ (n : ℕ). rows_to n (num c.args.h)) all)
