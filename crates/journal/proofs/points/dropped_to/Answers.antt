use Rattle.journal.proofs.PointLaws.{kept_none, kept_in, kept_out, kept_all, kept_first}
use Rattle.std.proofs.lemmas.List.{length-take}
use lib.ListN.{length, take, length-set}
use native.Mathlib.Omega.{arith}
use mathlib.Core.Path.{refl, ap, ◌∙◌}
use Rattle.journal.proofs.points.dropped_to.Goals as goal
use Rattle.journal.proofs.points.dropped_to.Goals.{then-position-q, else-position-q}

pub loop-q-init : goal.loop-q-init
loop-q-init c =
    let p = c.args.p in
    let n = c.kept_in.result in
    record { few = omega arith; room = omega (arith, length-take n p.items, c.kept_in.ensures.room); long = refl; put = kept_none c.args.position (take n p.items) c.no_point-items.ensures }

pub loop-q-preserved : goal.loop-q-preserved
loop-q-preserved c =
    let pos = c.args.position in
    let l = c.loop-q in
    let ks = take c.kept_in.result c.args.p.items in
    let h = c.loop-q-test.true in
    elim c.if-position-q.branch [
      | then-position-q w ↦ record {
        few = omega arith;
        room = l.invariant.room;
        long = ap length w.items-is ∙ simp length-set l.invariant.long;
        put = rw (w.items-is, w.count-is) (kept_in pos ks l.q-index _ h l.invariant.put (omega arith) w.if-position-q.true);
      }
      | else-position-q w ↦ record {
        few = omega arith;
        room = l.invariant.room;
        long = ap length w.items-is ∙ l.invariant.long;
        put = rw (w.items-is, w.count-is) (kept_out pos ks l.q-index _ h l.invariant.put w.if-position-q.false);
      }
    ]

pub returns : goal.returns
returns c =
    let a = c.args in
    let l = c.loop-q in
    kept_all a.p a.position (kept_first a.p c.kept_in.ensures.count) (omega arith) l.invariant.put
