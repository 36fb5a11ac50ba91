-- `bus::from_bus` meets its contract: each answer from the tests that lead to it. Assumes nothing.
use Rattle.std.proofs.Common.{◌≡◌, Err, sym, ap, ap₂, ◌∙◌, rules, arith}
use Rattle.transaction.specs.Transaction.{min_text}
use Rattle.bus.specs.Medium.{unit_of}
use Rattle.bus.specs.Records.{first_reading}
use Rattle.bus.specs.Answer.{code_in}
use Rattle.bus.specs.declared.BusError.TheVariants as E
use Rattle.bus.proofs.FrameLaws.{unbroken_least, records_part}
use Rattle.bus.proofs.MediumLaws.{unlisted, listed_is}
use Rattle.bus.proofs.AnswerLaws.{turned_so, answer_short, answer_meter, answer_broken, code_is, answer_medium, answer_none, answer_taken, taken_so}
use mir.Syntax.{w32}
use mir.Val.{to_z, of_z}
use Rattle.bus.proofs.from_bus.Goals as goal

pub returns-then-out-lt-MIN_TEXT : goal.returns-then-out-lt-MIN_TEXT
returns-then-out-lt-MIN_TEXT c =
    let all = turned_so (Err (E.Short min_text)) c.args.out.now (answer_short c.args.frame.now c.args.meter c.args.stamp _ c.if-out-lt-MIN_TEXT.true) in
    record { answer = all.0; bytes = all.1 }

pub returns-then-meter-ge-METERS : goal.returns-then-meter-ge-METERS
returns-then-meter-ge-METERS c =
    let all = turned_so (Err E.Meter) c.args.out.now (answer_meter c.args.frame.now c.args.meter c.args.stamp _ c.if-out-lt-MIN_TEXT.false c.if-meter-ge-METERS.true) in
    record { answer = all.0; bytes = all.1 }

pub returns-then-not-unbroken : goal.returns-then-not-unbroken
returns-then-not-unbroken c =
    let all = turned_so (Err E.Broken) c.args.out.now (answer_broken c.args.frame.now c.args.meter c.args.stamp _ c.if-out-lt-MIN_TEXT.false c.if-meter-ge-METERS.false (sym c.unbroken.ensures ∙ c.if-not-unbroken.true)) in
    record { answer = all.0; bytes = all.1 }

pub bounds-frame-14 : goal.bounds-frame-14
bounds-frame-14 c =
    let l = unbroken_least c.args.frame.now (sym c.unbroken.ensures ∙ c.if-not-unbroken.false) in
    omega (arith, l.0, l.1)

pub returns-in_default : goal.returns-in_default
returns-in_default c =
    let f = c.args.frame.now in
    let whole = sym c.unbroken.ensures ∙ c.if-not-unbroken.false in
    let none = sym (code_is f whole) ∙ unlisted _ c.in_default.ensures in
    let all = turned_so (Err E.Unusable) c.args.out.now (answer_medium f c.args.meter c.args.stamp _ c.if-out-lt-MIN_TEXT.false c.if-meter-ge-METERS.false whole none) in
    record { answer = all.0; bytes = all.1 }

pub overflow_sub-end : goal.overflow_sub-end
overflow_sub-end c =
    let l = unbroken_least c.args.frame.now (sym c.unbroken.ensures ∙ c.if-not-unbroken.false) in
    omega (arith, l.0, l.1)

pub slice_bounds-first_reading-count : goal.slice_bounds-first_reading-count
slice_bounds-first_reading-count c =
    let l = unbroken_least c.args.frame.now (sym c.unbroken.ensures ∙ c.if-not-unbroken.false) in
    omega (arith, l.0, l.1)

pub slice_bounds-first_reading-start : goal.slice_bounds-first_reading-start
slice_bounds-first_reading-start c =
    let l = unbroken_least c.args.frame.now (sym c.unbroken.ensures ∙ c.if-not-unbroken.false) in
    omega (arith, l.0, l.1)

pub returns-in_default-first_reading : goal.returns-in_default-first_reading
returns-in_default-first_reading c =
    let f = c.args.frame.now in
    let whole = sym c.unbroken.ensures ∙ c.if-not-unbroken.false in
    let code = listed_is _ c.in-Some.ensures in
    let l = unbroken_least f whole in
    let sought =
    ap₂ first_reading (ap unit_of (sym (code.0 ∙ code_is f whole)) ∙ sym c.unit_of.ensures) (sym (records_part f l.0 l.1))
    ∙ sym c.in_default-first_reading.ensures in
    let listed : code_in f ≡ 0 → ⊥ = λ e. code.1 (code_is f whole ∙ e) in
    let all = turned_so (Err E.Unusable) c.args.out.now (answer_none f c.args.meter c.args.stamp _ c.if-out-lt-MIN_TEXT.false c.if-meter-ge-METERS.false whole listed sought) in
    record { answer = all.0; bytes = all.1 }

pub returns : goal.returns
returns c =
    let f = c.args.frame.now in
    let whole = sym c.unbroken.ensures ∙ c.if-not-unbroken.false in
    let code = listed_is _ c.in-Some.ensures in
    let l = unbroken_least f whole in
    let sought =
    ap₂ first_reading (ap unit_of (sym (code.0 ∙ code_is f whole)) ∙ sym c.unit_of.ensures) (sym (records_part f l.0 l.1))
    ∙ sym c.in-Some-first_reading.ensures in
    let listed : code_in f ≡ 0 → ⊥ = λ e. code.1 (code_is f whole ∙ e) in
    let e = answer_taken f c.args.meter c.args.stamp _ c.if-out-lt-MIN_TEXT.false c.if-meter-ge-METERS.false whole listed sought in
    let z = c.in-Some-first_reading.reading in
    let q : to_z w32 (of_z w32 z) ≡ z = search rules in
    let all = taken_so c.args.meter c.args.stamp (code_in f) z c.args.out.now c.copy.new.dst c.if-out-lt-MIN_TEXT.false e c.one_write-t.ensures (code.0 ∙ code_is f whole) q c.copy.ensures in
    record { answer = all.0; bytes = all.1 }
