use Rattle.aes.proofs.CounterLaws.{gctr_turn, gctr_none, put_sum, cipher_length}
use Rattle.aes.specs.Counter.{gctr}
use Rattle.aes.specs.Cipher.{cipher}
use Rattle.octets.proofs.PartLaws.{mid_rest, put_rest}
use Rattle.octets.specs.Bytes.{bytes_of, padded, xor_bytes}
use Rattle.octets.specs.Blocks.{num}
use Rattle.octets.specs.Lists.{over}
use borrow.Rule.Slice.PartMut.{put_mid}
use lib.Seq.{take_all}
use lib.ListN.{length, take, drop, length-drop}
use native.Mathlib.Nat.{le_of_eq}
use mathlib.Core.List.{List, ◌++◌, append-nil}
use mathlib.Core.Path.{ap₂}
use native.Mathlib.Omega.{arith}
use mathlib.Core.Path.{◌≡◌, sym, ap, ◌∙◌}
use Prim.Native.Nat.{ℕ, ◌+◌, ◌-◌, ◌*◌, ◌<◌}
use Rattle.aes.proofs.counter.Goals as goal

pub loop-i-preserved : goal.loop-i-preserved
loop-i-preserved c =
    let l = c.loop-i in
    let s = l.s in
    let at : ℕ = 16 * l.i in
    let cb = num l.cb in
    let f = cipher c.args.w.now in
    let x = c.put_block in
    let b = c.first_block-text in
    let m = c.encrypt-mask in
    let h : at < length s = omega arith in
    let p = put_mid at (length s - at) s x.new.s in
    let text : bytes_of 16 (num b.result) ≡ padded 16 (drop at s) = b.ensures.bytes ∙ ap (padded 16) (mid_rest at s) in
    let e : p ≡ take at s ++ (xor_bytes (take 16 (drop at s)) (f (bytes_of 16 cb)) ++ drop 16 (drop at s)) =
    put_rest at s x.new.s (omega arith)
    ∙ ap (λ (t : List ℕ). take at s ++ t)
    (x.ensures ∙ ap (over (bytes_of 16 (num c.add.result))) (mid_rest at s)
    ∙ put_sum (drop at s) (num b.result) (num m.result) (num c.add.result) text c.add.ensures
    ∙ ap (λ (k : List ℕ). xor_bytes (take 16 (drop at s)) k ++ drop 16 (drop at s)) m.ensures)
    in
    let more : 16 * (l.i + 1) ≡ at + 16 = omega arith in
    ap₂ (λ (a n : ℕ). take a p ++ gctr f n (drop a p)) more c.next-cb.ensures
    ∙ gctr_turn f cb at s p (le_of_eq (sym (cipher_length c.args.w.now (bytes_of 16 cb)))) h e
    ∙ l.invariant

pub returns : goal.returns
returns c =
    let l = c.loop-i in
    let at : ℕ = 16 * l.i in
    let f = cipher c.args.w.now in
    let none : length (drop at l.s) ≡ 0 = simp length-drop (omega arith) in
    sym (ap₂ (λ (x y : List ℕ). x ++ y) (take_all at l.s (omega arith)) (gctr_none f (num l.cb) (drop at l.s) none) ∙ append-nil l.s)
    ∙ l.invariant
