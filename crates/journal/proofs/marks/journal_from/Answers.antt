use Rattle.std.proofs.lemmas.Slice.Zip.{zip_turn, zip_end}
use Rattle.std.proofs.lemmas.List.{length-take}
use Rattle.std.specs.Slice.Iter.{iter_rest}
use Rattle.std.specs.Iterator.Adapters.{zip_first, zip_second}
use Rattle.journal.proofs.LaidLaws.{laid_none, laid_in, laid_out_law, laid_all}
use Rattle.octets.specs.Lists.{at}
use Rattle.protocol.specs.Point.{marks_of}
use Rattle.protocol.specs.States.{listed}
use lib.ListN.{length, length-set, length-append, take}
use lib.Seq.{get_or-take}
use borrow.Author.Rules.{rules}
use native.Mathlib.Omega.{arith}
use mathlib.Core.List.{[], ◌∷◌, ◌++◌}
use mathlib.Core.Path.{◌≡◌, refl, ◌∙◌}
use Prim.Native.Nat.{◌+◌, ◌<◌}
use Rattle.journal.proofs.marks.journal_from.Goals as goal

pub loop-p-init : goal.loop-p-init
loop-p-init c = rw c.no_journal-kept.ensures (record { few = omega arith; long = refl; wide = refl; laid = laid_none c.args.position c.args.j })

pub loop-p-preserved-then-position-p : goal.loop-p-preserved-then-position-p
loop-p-preserved-then-position-p c =
    let l = c.loop-p in
    let j = c.args.j in
    let n = c.listed_in-n.result in
    let i = length l.yielded in
    let ps = take n j.positions in
    let ls = take n j.lanes in
    let s = c.into_iter-p-iterator.result in
    let first : iter_rest (zip_first s) ≡ ps = (cc) in
    let second : iter_rest (zip_second s) ≡ ls = (cc) in
    let turn = zip_turn ps ls l.yielded s l.p-iterator c.next.new.self c.next.result first second l.yielded_by (c.in-Some.p, c.in-Some.lane) c.in-Some.is c.next.ensures.steps in
    let more : length (l.yielded ++ ((c.in-Some.p, c.in-Some.lane) ∷ [])) ≡ i + 1 = length-append l.yielded ((c.in-Some.p, c.in-Some.lane) ∷ []) in
    let h : i < n = omega (arith, turn.0, length-take n j.positions) in
    let m : i < length (marks_of j) = omega (arith, c.listed_in-n.ensures.count) in
    let p_is : c.in-Some.p.now ≡ at j.positions i = turn.2 0 ∙ get_or-take n j.positions i 0 h in
    let lane_is : c.in-Some.lane.now ≡ at j.lanes i = turn.3 0 ∙ get_or-take n j.lanes i 0 h in
    rw more (record {
      few = omega arith;
      long = simp length-set l.invariant.long;
      wide = simp length-set l.invariant.wide;
      laid = rw (p_is, lane_is) (laid_in c.args.position j m l.invariant.laid (omega arith) (omega (arith, c.listed_in-n.ensures.room)) (omega (arith, p_is, c.if-position-p.true)));
    })

pub loop-p-preserved : goal.loop-p-preserved
loop-p-preserved c =
    let l = c.loop-p in
    let j = c.args.j in
    let n = c.listed_in-n.result in
    let i = length l.yielded in
    let ps = take n j.positions in
    let ls = take n j.lanes in
    let s = c.into_iter-p-iterator.result in
    let first : iter_rest (zip_first s) ≡ ps = (cc) in
    let second : iter_rest (zip_second s) ≡ ls = (cc) in
    let turn = zip_turn ps ls l.yielded s l.p-iterator c.next.new.self c.next.result first second l.yielded_by (c.in-Some.p, c.in-Some.lane) c.in-Some.is c.next.ensures.steps in
    let more : length (l.yielded ++ ((c.in-Some.p, c.in-Some.lane) ∷ [])) ≡ i + 1 = length-append l.yielded ((c.in-Some.p, c.in-Some.lane) ∷ []) in
    let h : i < n = omega (arith, turn.0, length-take n j.positions) in
    let m : i < length (marks_of j) = omega (arith, c.listed_in-n.ensures.count) in
    let p_is : c.in-Some.p.now ≡ at j.positions i = turn.2 0 ∙ get_or-take n j.positions i 0 h in
    rw more (record {
      few = omega arith;
      long = l.invariant.long;
      wide = l.invariant.wide;
      laid = laid_out_law c.args.position j m l.invariant.laid (omega (arith, p_is, c.if-position-p.false));
    })

pub returns : goal.returns
returns c =
    let l = c.loop-p in
    let j = c.args.j in
    let n = c.listed_in-n.result in
    let i = length l.yielded in
    let ps = take n j.positions in
    let ls = take n j.lanes in
    let s = c.into_iter-p-iterator.result in
    let first : iter_rest (zip_first s) ≡ ps = (cc) in
    let second : iter_rest (zip_second s) ≡ ls = (cc) in
    let end = zip_end ps ls l.yielded s l.p-iterator c.next.new.self c.next.result first second l.yielded_by c.in-None.is c.next.ensures.steps in
    let a : length j.positions ≡ listed = search rules in
    let b : length j.lanes ≡ listed = search rules in
    laid_all c.args.position j {i = i} (omega (arith, end, length-take n j.positions, length-take n j.lanes, c.listed_in-n.ensures.count, c.listed_in-n.ensures.room)) l.invariant.laid
