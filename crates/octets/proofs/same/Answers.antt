-- `octets::same` meets its contract: the loop goes through all bytes of both. `whole` is for a loop over slices of them that leave
-- out no byte: the edit `byte_left_out` is one that leaves out the first. Assumes nothing.
use Rattle.std.proofs.Common.{◌≡◌, sym, ◌∙◌, length, length-append, arith, rules}
use Rattle.std.specs.Slice.Iter.{iter_rest}
use Rattle.std.specs.Iterator.Adapters.{zip_first, zip_second}
use Rattle.std.proofs.lemmas.Slice.Zip.{zip_turn, zip_end}
use Rattle.octets.proofs.SameLaws.{same_turn, same_end, same_length, whole}
use Rattle.octets.proofs.same.Goals as goal

pub returns-then-a-b : goal.returns-then-a-b
returns-then-a-b c = sym (same_length c.args.a.now c.args.b.now (λ e. c.if-a-b.true e))

pub loop-x-preserved : goal.loop-x-preserved
loop-x-preserved c =
    let l = c.loop-x in
    let a = c.args.a.now in
    let b = c.args.b.now in
    let z = c.into_iter-x-iterator.result in
    let first : iter_rest (zip_first z) ≡ a = search (rules, whole) in
    let second : iter_rest (zip_second z) ≡ b = search (rules, whole) in
    let t = zip_turn a b l.yielded z l.x-iterator c.next.new.self c.next.result first second l.yielded_by (c.in-Some.x, c.in-Some.y) c.in-Some.is c.next.ensures.steps in
    rw (length-append, t.2 0, t.3 0) (same_turn l.diff (length l.yielded) a b t.0 (omega arith) ∙ l.invariant)

pub returns : goal.returns
returns c =
    let l = c.loop-x in
    let a = c.args.a.now in
    let b = c.args.b.now in
    let z = c.into_iter-x-iterator.result in
    let first : iter_rest (zip_first z) ≡ a = search (rules, whole) in
    let second : iter_rest (zip_second z) ≡ b = search (rules, whole) in
    let e = zip_end a b l.yielded z l.x-iterator c.next.new.self c.next.result first second l.yielded_by c.in-None.is c.next.ensures.steps in
    sym (same_end l.diff (length l.yielded) a b (omega arith) (omega arith)) ∙ l.invariant
