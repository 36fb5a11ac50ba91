-- `bus::field_len` meets its contract: the last byte is the first one below 80. Assumes nothing.
use Rattle.std.proofs.Common.{◌≡◌, ◌+◌, ◌∙◌, ap, ltb, length, rules, tests}
use Rattle.std.specs.List.{position}
use Rattle.std.specs.Option.{unwrap_or}
use Rattle.std.proofs.lemmas.Iterator.{YieldsList-from_slice}
use Rattle.std.proofs.lemmas.Iterator.Search.{position_from_yields_List}
use Rattle.bus.proofs.FieldLaws.{field_place}
use Rattle.bus.proofs.field_len.Goals as goal

pub returns : goal.returns
returns c =
    let s = c.args.s.now in
    let e : c.position-last.result ≡ position (λ x. ltb x 0x80) s =
    position_from_yields_List (λ x. ltb x 0x80) _ _ _ c.position-last.ensures.ran (YieldsList-from_slice s cc) (λ x b q k. search (rules, tests)) in
    ap (λ n. n + 1) (c.unwrap_or.ensures ∙ ap (λ p. unwrap_or p (length s)) e) ∙ field_place s
