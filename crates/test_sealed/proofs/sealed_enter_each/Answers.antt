use Rattle.std.proofs.Common.{◌≡◌, ◌*◌, ◌+◌, ◌/◌, ◌++◌, [], ◌∷◌, ℕ, List, length, take, drop, sym, ap, refl, ◌∙◌, arith, add-one, length-append, length-drop}
use lib.Seq.{take_at, drop_at, drop-drop}
use Rattle.std.specs.Slice.Iter.{chunks_exact_rest, chunks_exact_size}
use Rattle.octets.specs.Lists.{over}
use Rattle.transaction.specs.Transaction.{max_text}
use Rattle.table.specs.declared.Table.{Table}
use Rattle.table.specs.Table.{entered}
use Rattle.table.specs.TableText.{table_text}
use Rattle.table.proofs.ReadLaws.{table_read_some, table_read_none}
use Rattle.test_sealed.specs.Boundary.{entered_to, each_number, each_buffer}
use Rattle.test_sealed.proofs.sealed_enter_each.Goals as goal

pub returns-in_default : goal.returns-in_default
unfolding each_number each_buffer
returns-in_default c =
    let e = table_read_none c.args.text.now (sym c.in_default.is ∙ c.table_in.ensures) in
    record { answer = rw e; buffer = rw e }

pub loop-bytes-init : goal.loop-bytes-init
unfolding entered_to
loop-bytes-init c =
    let made = c.into_iter-bytes-iterator.ensures.into_iter_gives in
    let items = c.chunks_exact-bytes-items.ensures in
    record { size = ap chunks_exact_size made ∙ items.size; fits = omega arith; rest = ap chunks_exact_rest made ∙ items.rest; table = refl }

pub loop-bytes-preserved : goal.loop-bytes-preserved
unfolding entered_to
loop-bytes-preserved c =
    let a = c.args in
    let s = a.s.now in
    let l = c.loop-bytes in
    let n = length l.yielded in
    let x = c.in-Some-bytes.bytes.now in
    let y = chunks_exact_rest c.next.new.self in
    let step = c.in-Some-bytes.ensures.steps in
    let parts : drop (max_text * n) s ≡ x ++ y = sym l.invariant.rest ∙ step.1.0 in
    let long : length x ≡ max_text = step.1.1 ∙ l.invariant.size in
    let more : length (l.yielded ++ c.in-Some-bytes.bytes ∷ []) ≡ n + 1 = length-append l.yielded (c.in-Some-bytes.bytes ∷ []) in
    let next : max_text * n + max_text ≡ max_text * (n + 1) = omega arith in
    let first : take max_text (drop (max_text * n) s) ≡ x = ap (take max_text) parts ∙ take_at x y max_text long in
    let behind : y ≡ drop (max_text * (n + 1)) s =
    sym (drop_at x y max_text long) ∙ ap (drop max_text) (sym parts) ∙ drop-drop max_text (max_text * n) s ∙ ap (λ (k : ℕ). drop k s) next in
    let whole = ap length parts ∙ length-append x y in
    let left = length-drop (max_text * n) s in
    let at = l.invariant.fits in
    rw more (record {
      size = step.0 ∙ l.invariant.size;
      fits = omega arith;
      rest = behind;
      table =
          c.enter-t.ensures
          ∙ ap (λ (t : Table). entered t x a.lane a.number) l.invariant.table
          ∙ ap (λ (b : List ℕ). entered (entered_to c.in-Some.t s a.lane a.number n) b a.lane a.number) (sym first)
          ∙ ap (entered_to c.in-Some.t s a.lane a.number) (sym (add-one n));
    })

pub returns : goal.returns
unfolding each_number each_buffer
returns c =
    let a = c.args in
    let s = a.s.now in
    let l = c.loop-bytes in
    let t = table_read_some a.text.now c.in-Some.t (sym c.in-Some.is ∙ c.table_in.ensures) in
    let few = c.in-None.ensures.steps.1.0 in
    let left = ap length l.invariant.rest ∙ length-drop (max_text * length l.yielded) s in
    let size = l.invariant.size in
    let at = l.invariant.fits in
    let n : length l.yielded ≡ length s / max_text = omega arith in
    let q = l.invariant.table ∙ ap (entered_to c.in-Some.t s a.lane a.number) n ∙ ap (λ (t : Table). entered_to t s a.lane a.number (length s / max_text)) t.1 in
    record { answer = rw t.0; buffer = rw t.0 (c.put_text.ensures ∙ ap (λ (t : Table). over (table_text t) a.text.now) q) }
