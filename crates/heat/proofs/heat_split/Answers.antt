-- `heat::heat_split` meets its contract: the bytes are two tables, or not. Assumes nothing.
use Rattle.heat.proofs.SplitLaws.{answer_no_year, answer_year}
use Rattle.protocol.specs.Said.{Told}
use Rattle.protocol.proofs.SaidLaws.{told_so}
use Rattle.octets.specs.Lists.{put_over}
use Rattle.std.proofs.Common.{ap, ◌∙◌, length}
use Rattle.heat.proofs.heat_split.Goals as goal

pub returns-in_default : goal.returns-in_default
returns-in_default c =
    let a = c.args in
    let all = told_so a.out.now (answer_no_year a.tables.now (length a.out.now) c.in_default.ensures) in
    record { answer = all.0; bytes = all.1 }

pub returns : goal.returns
returns c =
    let a = c.args in
    let is = answer_year a.tables.now (length a.out.now) c.in-Some.year c.in-Some.ensures in
    record {
      answer = c.split_of.ensures.answer ∙ ap (λ (t : Told). t.said) is;
      bytes = c.split_of.ensures.bytes ∙ ap (λ (t : Told). put_over t.put a.out.now) is;
    }
