-- Each turn takes two digits more. Assumes nothing.
use Rattle.std.proofs.Common.{rules, ◌≡◌, ◌+◌, ◌*◌, ◌∷◌, [], ◌++◌, ◌∙◌, sym, get_or, length, drop, length-append}
use Rattle.std.specs.Slice.Iter.{chunks_exact_rest}
use Rattle.vectors.specs.Hex.{value_or_zero, bytes_to}
use Rattle.vectors.proofs.HexLaws.{left_more, byte_more}
use Rattle.vectors.proofs.text.bytes.Goals as goal

pub loop-pair-preserved : goal.loop-pair-preserved
loop-pair-preserved c =
    let s = c.args.field.now in
    let pair = c.in-Some.pair.now in
    let rest = chunks_exact_rest c.next.new.self in
    let i = length c.loop-pair.yielded in
    let b = c.in_ok-b.b in
    let left : drop (2 * i) s ≡ pair ++ rest = sym c.loop-pair.invariant.2 ∙ c.in-Some.ensures.steps.1.0 in
    let two : length pair ≡ 2 = c.in-Some.ensures.steps.1.1 ∙ c.loop-pair.invariant.3 in
    let more : length (c.loop-pair.yielded ++ (c.in-Some.pair ∷ [])) ≡ i + 1 = simp length-append in
    let value : b ≡ value_or_zero (get_or pair 0 0) * 16 + value_or_zero (get_or pair 1 0) = search rules in
    let byte : c.loop-pair.bytes.items ++ (b ∷ []) ≡ bytes_to s (i + 1) = byte_more s pair rest _ i b left two value c.loop-pair.invariant.1 in
    rw more (search rules, search rules, left_more s pair rest i left two, search rules)
