use Rattle.std.proofs.Common.{◌≡◌, ℕ, ◌+◌, List, length, set, get_or, sym, ap, ◌∙◌, add-one, arith, rules}
use Rattle.std.proofs.Math.Seq.{paste, paste-suc}
use Rattle.ghash.proofs.put_row.Goals as goal

pub loop-i-preserved : goal.loop-i-preserved
loop-i-preserved c =
    let l = c.loop-i in
    let a = c.args in
    let long : length a.r ≡ 32 = search rules in
    let more = paste-suc a.m.now a.at a.r l.i 0 (omega arith) (omega arith) in
    ap (λ (d : List ℕ). set d (a.at + l.i) (get_or a.r l.i 0)) l.invariant ∙ more ∙ ap (paste a.m.now a.at a.r) (sym (add-one l.i))
