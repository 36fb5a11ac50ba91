-- `heat::split_of` meets its contract: its tests are the definition's, and the text is copied where there is room for it. Assumes nothing.
use Rattle.heat.proofs.SplitLaws.{total_found, shares_found, text_there, answer_changed, answer_nothing, answer_short, answer_written}
use Rattle.heat.proofs.TextLaws.{text_is}
use Rattle.heat.specs.Text.{split_text}
use Rattle.protocol.proofs.SaidLaws.{told_so}
use Rattle.octets.specs.Lists.{over}
use Rattle.octets.proofs.CopyLaws.{over_room}
use Rattle.std.proofs.lemmas.Result.{err_from_is_err_and}
use Rattle.std.proofs.Common.{ℕ, List, arith, sym, ap, ◌∙◌, length}
use Rattle.heat.proofs.split_of.Goals as goal

pub returns-in_err-uses : goal.returns-in_err-uses
returns-in_err-uses c =
    let a = c.args in
    let y = a.year.now in
    let p = err_from_is_err_and c.from_residual.result c.from_residual.ensures.1 in
    let e = c.in_err-uses.ensures in
    let all = told_so a.out.now (answer_changed y.0 y.1 (length a.out.now) e.0) in
    record { answer = rw (p.1, p.2, e.1) all.0; bytes = all.1 }

pub returns-in_default : goal.returns-in_default
returns-in_default c =
    let a = c.args in
    let y = a.year.now in
    let e = c.in_ok-uses.ensures in
    let all = told_so a.out.now (answer_nothing y.0 y.1 (length a.out.now) e.0 (sym (total_found y.0 y.1 c.in_ok-uses.uses.each e.1) ∙ c.in_default.ensures)) in
    record { answer = all.0; bytes = all.1 }

pub returns-then-out-n : goal.returns-then-out-n
returns-then-out-n c =
    let a = c.args in
    let y = a.year.now in
    let e = c.in_ok-uses.ensures in
    let s = c.in-Some.ensures in
    let is = text_is y.0 y.1 c.in_ok-uses.uses.each c.in-Some.shares.each e.1 (shares_found y.0 y.1 c.in_ok-uses.uses.each e.1 c.in-Some.shares.each s.1) in
    let all = told_so a.out.now (answer_short y.0 y.1 (length a.out.now) e.0 (λ z. s.0 (total_found y.0 y.1 c.in_ok-uses.uses.each e.1 ∙ z)) (c.put_split-n.ensures.len.0 ∙ ap length is) c.if-out-n.true) in
    record { answer = all.0; bytes = all.1 }

pub returns : goal.returns
returns c =
    let a = c.args in
    let y = a.year.now in
    let e = c.in_ok-uses.ensures in
    let s = c.in-Some.ensures in
    let put = c.put_split-n.ensures in
    let is = text_is y.0 y.1 c.in_ok-uses.uses.each c.in-Some.shares.each e.1 (shares_found y.0 y.1 c.in_ok-uses.uses.each e.1 c.in-Some.shares.each s.1) in
    let n = put.len.0 ∙ ap length is in
    let most = put.len.1 in
    let room = c.if-out-n.false in
    let told = told_so a.out.now (answer_written y.0 y.1 (length a.out.now) e.0 (λ z. s.0 (total_found y.0 y.1 c.in_ok-uses.uses.each e.1 ∙ z)) n room) in
    let t = split_text y.0 y.1 in
    record {
      answer = told.0;
      bytes = c.copy.ensures ∙ ap (λ (x : List ℕ). over x a.out.now) (text_there _ put.bytes is put.len.0 most) ∙ over_room t a.out.now (omega arith) ∙ told.1;
    }
