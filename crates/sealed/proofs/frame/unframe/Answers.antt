-- `sealed::frame::unframe` meets its contract: the trailer is compared, and the rest is opened under the head. Assumes nothing.
use Rattle.octets.specs.Lists.{put_over}
use Rattle.sealed.proofs.FrameLaws.{unframe_not, unframe_opens}
use Rattle.sealed.specs.Frame.{trailer_len, trailer_of, is_some}
use Rattle.gcm.specs.Answers.{text_put}
use Rattle.octets.proofs.PartLaws.{mid_rest}
use Rattle.octets.specs.Little.{little}
use Rattle.octets.specs.Bytes.{padded}
use lib.Seq.{length-take-le}
use lib.ListN.{length}
use mathlib.Core.Option.{Option}
use mathlib.Core.List.{List}
use native.Mathlib.Omega.{arith}
use mathlib.Core.Path.{sym, ap, ◌∙◌}
use Prim.Native.Nat.{ℕ, ◌-◌}
use Rattle.sealed.proofs.frame.unframe.Goals as goal

pub returns-then-trailer-s : goal.returns-then-trailer-s
unfolding trailer_of text_put
returns-then-trailer-s c =
    let a = c.args in
    let s = a.s.now in
    let t = c.u32_in-trailer.ensures.number ∙ ap (λ (l : List ℕ). little (padded trailer_len l)) (mid_rest (length s - trailer_len) s) in
    let e = unframe_not a.k.schedule.now a.k.multiples.now a.nonce s c.requires.0 _ t c.if-trailer-s.true in
    record { answer = sym (ap is_some e); buffer = sym (ap (λ (p : Option (List ℕ)). put_over (text_put p) a.out.now) e) }

pub slice_bounds-open-end : goal.slice_bounds-open-end
slice_bounds-open-end c = sym (length-take-le _ c.args.s.now (omega arith))

pub returns : goal.returns
unfolding trailer_of
returns c =
    let a = c.args in
    let s = a.s.now in
    let t = c.u32_in-trailer.ensures.number ∙ ap (λ (l : List ℕ). little (padded trailer_len l)) (mid_rest (length s - trailer_len) s) in
    let all = unframe_opens a.k.schedule.now a.k.multiples.now a.nonce s c.requires.0 _ a.out.now _ _ _ t c.if-trailer-s.false c.requires.1 c.requires.2
    c.open.ensures.answer c.is_ok.ensures.value c.open.ensures.buffer in
    record { answer = all.0; buffer = all.1 }
