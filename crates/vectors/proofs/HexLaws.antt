-- Laws of bytes in hexadecimal.
-- Assumes nothing.
use Rattle.std.proofs.Common.{◌≡◌, ℕ, suc, ◌+◌, ◌*◌, List, [], ◌∷◌, ◌++◌, length, get_or, drop, arith, refl, sym, ap, ◌∙◌, add-one}
use Rattle.std.proofs.lemmas.List.{drop-drop, drop_at}
use Rattle.std.proofs.lemmas.Grind.{common_steps}
use Rattle.vectors.specs.Hex.{value_or_zero, byte_of, bytes_to}

-- one turn of the loop: what is left behind a pair of digits
pub left_more : (s pair rest : List ℕ) (i : ℕ) → drop (2 * i) s ≡ pair ++ rest → length pair ≡ 2 → rest ≡ drop (2 * (i + 1)) s
left_more s pair rest i e h =
    let m : 2 * (i + 1) ≡ 2 * i + 2 = omega arith in
    rw m (sym (drop_at pair rest 2 h) ∙ (ap (drop 2) (sym e) ∙ drop-drop 2 (2 * i) s))

-- and the byte that a pair of digits writes
pub byte_more : (s pair rest out : List ℕ) (i b : ℕ) → drop (2 * i) s ≡ pair ++ rest → length pair ≡ 2
    → b ≡ value_or_zero (get_or pair 0 0) * 16 + value_or_zero (get_or pair 1 0) → out ≡ bytes_to s i → out ++ (b ∷ []) ≡ bytes_to s (i + 1)
unfolding bytes_to
byte_more s pair rest out i b e h v known =
    let a0 : get_or s (2 * i) 0 ≡ get_or pair 0 0 = grind (arith, common_steps) in
    let a1 : get_or s (2 * i + 1) 0 ≡ get_or pair 1 0 = grind (arith, common_steps) in
    let e2 : i + 1 ≡ suc i = add-one i in
    let e3 : bytes_to s (suc i) ≡ bytes_to s i ++ (byte_of s i ∷ []) = refl in
    let e4 : b ≡ byte_of s i = rw (a0, a1) v in
    cc
