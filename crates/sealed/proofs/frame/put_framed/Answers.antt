-- `sealed::frame::put_framed` meets its contract: the head is put before the text, the cipher seals the part behind the head in its place, and the trailer is put behind that. Assumes nothing.
use Rattle.sealed.proofs.FrameLaws.{put_around}
use Rattle.sealed.specs.Frame.{head_len}
use Rattle.gcm.specs.Gcm.{tag_len}
use Rattle.gcm.specs.Answers.{sealed_in}
use Rattle.ghash.specs.Multiples.{product_by}
use Rattle.aes.specs.Cipher.{cipher}
use Rattle.octets.proofs.PartLaws.{mid_rest, put_rest}
use Rattle.octets.specs.Lists.{over}
use borrow.Rule.Slice.PartMut.{mid_of, put_mid, same_len_mid}
use lib.ListN.{length, take}
use mathlib.Core.List.{◌++◌}
use borrow.Author.Rules.{rules}
use native.Mathlib.Omega.{arith}
use mathlib.Core.Path.{◌≡◌, ap, ◌∙◌}
use Prim.Native.Nat.{◌+◌, ◌-◌}
use Rattle.sealed.proofs.frame.put_framed.Goals as goal

pub slice_bounds-copy-end : goal.slice_bounds-copy-end
slice_bounds-copy-end c = search rules

pub returns : goal.returns
returns c =
    let a = c.args in
    let n = a.n in
    let h = a.head in
    let o = a.out.now in
    let o1 = c.copy.new.dst in
    let y = c.seal.new.buf in
    let o2 = put_mid head_len (length o1 - head_len) o1 y in
    let t = c.bytes4-trailer.result in
    let z = c.copy-2.new.dst in
    let f = head_len + n + tag_len in
    let lh : length h ≡ head_len = search rules in
    let l1 : length o1 ≡ length o = c.copy.auto.dst in
    let ly : length y ≡ length (mid_of head_len (length o1 - head_len) o1) = c.seal.auto.buf in
    let l2 : length o2 ≡ length o1 = same_len_mid head_len (length o1 - head_len) o1 y ly in
    let e2 : o2 ≡ take head_len o1 ++ y = put_rest head_len o1 y (omega arith) in
    put_rest f o2 z (omega arith)
    ∙ put_around a.k.schedule.now a.k.multiples.now a.nonce o h n lh c.requires.0 c.requires.1 o1 o2 y t z f (omega arith) c.copy.ensures
    (c.seal.ensures.buffer ∙ ap (sealed_in (cipher a.k.schedule.now) (product_by a.k.multiples.now) a.nonce h n) (mid_rest head_len o1)) e2 c.bytes4-trailer.ensures
    (c.copy-2.ensures ∙ ap (over t) (mid_rest f o2))
