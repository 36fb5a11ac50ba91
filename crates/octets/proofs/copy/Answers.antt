use Rattle.std.proofs.Common.{ℕ, List, ◌≡◌, refl, ap, ◌∙◌, length, get_or, set, arith}
use Rattle.octets.proofs.CopyLaws.{copied_to, copy_more, copied_shorter}
use Rattle.octets.proofs.copy.Goals as goal

pub loop-i-init : goal.loop-i-init
unfolding copied_to
loop-i-init c = refl

pub loop-i-preserved : goal.loop-i-preserved
loop-i-preserved c =
    let l = c.loop-i in
    let a = c.args in
    ap (λ (d : List ℕ). set d l.i (get_or a.src.now l.i 0)) l.invariant ∙ copy_more l.i a.src.now a.dst.now (omega arith) (omega arith)

pub returns : goal.returns
returns c =
    let l = c.loop-i in
    let a = c.args in
    let all : l.i ≡ c.min-n.result = omega arith in
    l.invariant ∙ ap (λ (k : ℕ). copied_to k a.src.now a.dst.now) all ∙ copied_shorter a.src.now a.dst.now c.min-n.result c.min-n.ensures
