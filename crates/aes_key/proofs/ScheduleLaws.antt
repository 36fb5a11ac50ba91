-- Laws of the key expansion.
-- Assumes nothing.
use mathlib.Core.Path.{◌≡◌, refl, ap, ◌∙◌}
use mathlib.Core.List.{List, [], ◌∷◌, ◌++◌}
use Prim.Native.Nat.{ℕ, zero, suc, ◌+◌, ◌-◌, ◌*◌, ◌/◌, ◌%◌, ◌<◌, ◌≤◌}
use native.Mathlib.Numerals.{add-one}
use native.Mathlib.Omega.{arith}
use lib.Pow.{shr-shr, shr_mod}
use Rattle.std.specs.Int.Bits.{bit_or}
use Rattle.std.proofs.lemmas.Nat.{or_shifted}
use lib.ListN.{length, take, set}
use borrow.Author.Tests.{eq-eqb, ne_eqb}
use lib.Seq.{get_or-take, take-suc-set, take_all}
use Rattle.octets.specs.Lists.{at}
use Rattle.aes_key.specs.Gf.{◌⊕◌}
use Rattle.aes_key.specs.Words.{word}
use Rattle.aes_key.specs.Schedule.{rcon, rcon_word, rot_word, sub_word, temp, next_word, key_words, expand, key_expansion}

-- the code turns the word: its first byte goes to the end
pub rot_is : (w : ℕ) → w < 4294967296 → bit_or (w * 256 % 4294967296) (w / 16777216) ≡ rot_word w
unfolding rot_word
rot_is w h =
    let e1 : w / 256 / 256 ≡ w / 65536 = shr-shr w 8 8 in
    let e2 : w / 65536 / 256 ≡ w / 16777216 = shr-shr w 16 8 in
    let e3 : w / 16777216 % 256 ≡ w / 16777216 = shr_mod 8 24 h in
    let e4 : w * 256 % 4294967296 ≡ w % 16777216 * 256 = omega arith in
    rw (e4, or_shifted (w % 16777216) 8 (w / 16777216) (omega arith)) (omega arith)

-- the code's word i, of words i - 1 and i - 4
module _ (w : List ℕ) (i : ℕ) where
  pub turned_word : (k c v u : ℕ) → i % 4 ≡ 0 → k ≡ rcon (i / 4 - 1) → c ≡ word k 0 0 0 → v ≡ rot_word (at w (i - 1)) → u ≡ sub_word v
      → at w (i - 4) ⊕ (u ⊕ c) ≡ next_word w i
  unfolding next_word temp rcon_word
  turned_word k c v u z ek ec ev eu = simp (eq-eqb _ _ z) (cc)

  pub plain_word : (i % 4 ≡ 0 → ⊥) → at w (i - 4) ⊕ at w (i - 1) ≡ next_word w i
  unfolding next_word temp
  plain_word z = simp (ne_eqb _ _ z)

-- word i reads only what stands below it
next_take : (w : List ℕ) (i : ℕ) → 4 ≤ i → next_word (take i w) i ≡ next_word w i
unfolding next_word temp
next_take w i h = cc (get_or-take i w (i - 1) 0 (omega arith), get_or-take i w (i - 4) 0 (omega arith))

-- one turn of the loop
pub turn : (key w : List ℕ) (v i : ℕ) → 4 ≤ i → i < length w → take i w ≡ expand (i - 4) key → v ≡ next_word w i
    → take (i + 1) (set w i v) ≡ expand (i + 1 - 4) key
unfolding expand
turn key w v i h l known word =
    let e0 : i + 1 - 4 ≡ suc (i - 4) = omega arith in
    let e1 : 4 + (i - 4) ≡ i = omega arith in
    let e2 : take (suc i) (set w i v) ≡ take i w ++ (v ∷ []) = take-suc-set w i v l in
    let e3 : next_word (take i w) i ≡ next_word w i = next_take w i h in
    let e4 : i + 1 ≡ suc i = add-one i in
    let e5 : expand (suc (i - 4)) key ≡ expand (i - 4) key ++ (next_word (expand (i - 4) key) (4 + (i - 4)) ∷ []) = refl in
    cc

pub schedule_whole : (w key : List ℕ) (i : ℕ) → i ≤ 44 → 44 ≤ i → length w ≡ 44 → take i w ≡ expand (i - 4) key → w ≡ key_expansion key
unfolding key_expansion
schedule_whole w key i h k len e =
    let e0 : i ≡ 44 = omega arith in
    let e1 : i - 4 ≡ 40 = omega arith in
    let e2 : take 44 w ≡ w = take_all 44 w (omega arith) in
    cc

length_snoc : (l : List ℕ) (x : ℕ) → length (l ++ (x ∷ [])) ≡ suc (length l)
length_snoc [] x = refl
length_snoc (y ∷ l) x = ap suc (length_snoc l x)

pub length_expand : (n : ℕ) (key : List ℕ) → length (expand n key) ≡ 4 + n
unfolding expand key_words
length_expand zero key = refl
length_expand (suc n) key = length_snoc (expand n key) (next_word (expand n key) (4 + n)) ∙ ap suc (length_expand n key) ∙ omega arith
