-- `heat::print` meets its contract: a text is printed as it was put, and a refusal as its line. Assumes nothing.
use Rattle.heat.proofs.PrintLaws.{printed_text, printed_refused, as_printed, line_fits}
use Rattle.heat.specs.Text.{text_max}
use Rattle.heat.specs.Answer.{said_by}
use lib.ListN.{replicate}
use mathlib.Core.Path.{refl, sym, ◌∙◌}
use Rattle.heat.proofs.print.Goals as goal

pub returns-in-Ok : goal.returns-in-Ok
unfolding said_by
returns-in-Ok c =
    let i = c.args.input.now in
    let p = printed_text i refl (c.in-Ok.ensures).answer in
    let all = as_printed i (replicate text_max 0) p.0 (c.in-Ok.ensures).bytes p.1 in
    record { bytes = all.0; len = all.1 }

pub printed_line-requires : goal.printed_line-requires
printed_line-requires c = rw (c.as_slice.ensures, c.line.ensures) (line_fits c.in-Err.e)

pub returns-in-Err : goal.returns-in-Err
returns-in-Err c =
    let i = c.args.input.now in
    let said = printed_refused i c.in-Err.e c.in-Err.ensures.answer ∙ sym c.line.ensures ∙ sym c.as_slice.ensures in
    let all = as_printed i (replicate text_max 0) said c.printed_line.ensures.bytes c.printed_line.ensures.len in
    record { bytes = all.0; len = all.1 }
