-- A column by the round table.
-- Assumes nothing.
use mathlib.Core.Path.{◌≡◌, ap, ◌∙◌}
use mathlib.Core.List.{List, [], ◌∷◌}
use Prim.Native.Nat.{ℕ, ◌+◌, ◌*◌, ◌/◌, ◌%◌, ◌^◌, ◌<◌}
use native.Mathlib.Omega.{arith}
use lib.Bits.{bit_and}
use lib.Pow.{high, low}
use lib.ListN.{get_or}
use Rattle.aes_key.specs.Gf.{◌⊕◌, ◌•◌}
use Rattle.aes_key.specs.Sbox.{sbox}
use Rattle.aes_key.specs.Words.{word}
use Rattle.aes_key.proofs.GfLaws.{xor8, two_lt, three_lt}
use Rattle.aes_key.proofs.SboxLaws.{sbox_lt}
use Rattle.aes.specs.Cipher.{column, mix_column}
use Rattle.aes.specs.Rounds.{spread, IsRound}
use Rattle.aes.proofs.ColumnLaws.{column_word, word_xor, low32}

-- a word written twice, read from its byte 0, 3, 2 or 1 on
turn0 : (a b c d : ℕ) → a < 256 → b < 256 → c < 256 → d < 256 → (word a b c d * 4294967296 + word a b c d) % 4294967296 ≡ word a b c d
turn0 a b c d ha hb hc hd = omega arith

turned : (k p m q : ℕ) → m < 2 ^ 32 → q < 2 ^ k → ((p * 4294967296 + m) * 2 ^ k + q) / 2 ^ k % 4294967296 ≡ m
turned k p m q hm hq = ap (λ (n : ℕ). n % 4294967296) (high (p * 4294967296 + m) k hq) ∙ low p 32 hm

turn1 : (a b c d : ℕ) → a < 256 → b < 256 → c < 256 → d < 256 → (word a b c d * 4294967296 + word a b c d) / 256 % 4294967296 ≡ word d a b c
turn1 a b c d ha hb hc hd =
    let e : word a b c d * 4294967296 + word a b c d ≡ (((a * 256 + b) * 256 + c) * 4294967296 + word d a b c) * 2 ^ 8 + d = omega arith in
    ap (λ (n : ℕ). n / 256 % 4294967296) e ∙ turned 8 ((a * 256 + b) * 256 + c) (word d a b c) d (omega arith) hd

turn2 : (a b c d : ℕ) → a < 256 → b < 256 → c < 256 → d < 256 → (word a b c d * 4294967296 + word a b c d) / 65536 % 4294967296 ≡ word c d a b
turn2 a b c d ha hb hc hd =
    let e : word a b c d * 4294967296 + word a b c d ≡ ((a * 256 + b) * 4294967296 + word c d a b) * 2 ^ 16 + (c * 256 + d) = omega arith in
    ap (λ (n : ℕ). n / 65536 % 4294967296) e ∙ turned 16 (a * 256 + b) (word c d a b) (c * 256 + d) (omega arith) (omega arith)

turn3 : (a b c d : ℕ) → a < 256 → b < 256 → c < 256 → d < 256 → (word a b c d * 4294967296 + word a b c d) / 16777216 % 4294967296 ≡ word b c d a
turn3 a b c d ha hb hc hd =
    let e : word a b c d * 4294967296 + word a b c d ≡ (a * 4294967296 + word b c d a) * 2 ^ 24 + ((b * 256 + c) * 256 + d) = omega arith in
    ap (λ (n : ℕ). n / 16777216 % 4294967296) e ∙ turned 24 a (word b c d a) ((b * 256 + c) * 256 + d) (omega arith) (omega arith)

-- its byte 2
middle : (a b c d : ℕ) → a < 256 → b < 256 → c < 256 → d < 256 → (word a b c d * 4294967296 + word a b c d) / 256 % 256 ≡ c
middle a b c d ha hb hc hd =
    let x = word a b c d * 65536 + (a * 256 + b) in
    let e : word a b c d * 4294967296 + word a b c d ≡ (x * 256 + c) * 2 ^ 8 + d = omega arith in
    ap (λ (n : ℕ). n / 256 % 256) e ∙ ap (λ (n : ℕ). n % 256) (high (x * 256 + c) 8 hd) ∙ low x 8 hc

module _ (t : List ℕ) (rule : IsRound t) (k : ℕ) (h : k < 256) where
  s_lt : sbox k < 256
  s_lt = sbox_lt k

  row0 : bit_and (get_or t k 0) 4294967295 ≡ word (2 • sbox k) (sbox k) (sbox k) (3 • sbox k)
  unfolding spread
  row0 = low32 (get_or t k 0) ∙ ap (λ (n : ℕ). n % 4294967296) (rule.entry k h) ∙ turn0 _ _ _ _ (two_lt _ s_lt) s_lt s_lt (three_lt _ s_lt)

  row1 : bit_and (get_or t k 0 / 256) 4294967295 ≡ word (3 • sbox k) (2 • sbox k) (sbox k) (sbox k)
  unfolding spread
  row1 = low32 (get_or t k 0 / 256) ∙ ap (λ (n : ℕ). n / 256 % 4294967296) (rule.entry k h) ∙ turn1 _ _ _ _ (two_lt _ s_lt) s_lt s_lt (three_lt _ s_lt)

  row2 : bit_and (get_or t k 0 / 65536) 4294967295 ≡ word (sbox k) (3 • sbox k) (2 • sbox k) (sbox k)
  unfolding spread
  row2 = low32 (get_or t k 0 / 65536) ∙ ap (λ (n : ℕ). n / 65536 % 4294967296) (rule.entry k h) ∙ turn2 _ _ _ _ (two_lt _ s_lt) s_lt s_lt (three_lt _ s_lt)

  row3 : bit_and (get_or t k 0 / 16777216) 4294967295 ≡ word (sbox k) (sbox k) (3 • sbox k) (2 • sbox k)
  unfolding spread
  row3 = low32 (get_or t k 0 / 16777216) ∙ ap (λ (n : ℕ). n / 16777216 % 4294967296) (rule.entry k h) ∙ turn3 _ _ _ _ (two_lt _ s_lt) s_lt s_lt (three_lt _ s_lt)

  plain : get_or t k 0 / 256 % 256 ≡ sbox k
  unfolding spread
  plain = ap (λ (n : ℕ). n / 256 % 256) (rule.entry k h) ∙ middle _ _ _ _ (two_lt _ s_lt) s_lt s_lt (three_lt _ s_lt)

module _ (t : List ℕ) (rule : IsRound t) (a b c d : ℕ) (ha : a < 256) (hb : b < 256) (hc : c < 256) (hd : d < 256) where
  pub mixed_is : column (bit_and (get_or t a 0) 4294967295 ⊕ bit_and (get_or t b 0 / 256) 4294967295 ⊕ bit_and (get_or t c 0 / 65536) 4294967295 ⊕ bit_and (get_or t d 0 / 16777216) 4294967295) ≡ mix_column (sbox a) (sbox b) (sbox c) (sbox d)
  unfolding mix_column
  mixed_is =
      let sa = sbox_lt a in
      let sb = sbox_lt b in
      let sc = sbox_lt c in
      let sd = sbox_lt d in
      let m0 = xor8 (xor8 (two_lt _ sa) (three_lt _ sb)) sc in
      let m1 = xor8 (xor8 sa (two_lt _ sb)) (three_lt _ sc) in
      let m2 = xor8 (xor8 sa sb) (two_lt _ sc) in
      let m3 = xor8 (xor8 (three_lt _ sa) sb) sc in
      ap column
      (rw (row0 t rule a ha, row1 t rule b hb, row2 t rule c hc, row3 t rule d hd)
      (ap (λ (n : ℕ). n ⊕ word (sbox c) (3 • sbox c) (2 • sbox c) (sbox c) ⊕ word (sbox d) (sbox d) (3 • sbox d) (2 • sbox d)) (word_xor _ _ _ _ _ _ _ _ sa sa (three_lt _ sa) (two_lt _ sb) sb sb)
      ∙ ap (λ (n : ℕ). n ⊕ word (sbox d) (sbox d) (3 • sbox d) (2 • sbox d)) (word_xor _ _ _ _ _ _ _ _ (xor8 sa (two_lt _ sb)) (xor8 sa sb) (xor8 (three_lt _ sa) sb) (three_lt _ sc) (two_lt _ sc) sc)
      ∙ word_xor _ _ _ _ _ _ _ _ m1 m2 m3 sd (three_lt _ sd) (two_lt _ sd)))
      ∙ column_word _ _ _ _ (xor8 m0 sd) (xor8 m1 sd) (xor8 m2 (three_lt _ sd)) (xor8 m3 (two_lt _ sd))

  pub subbed_is : column (((get_or t a 0 / 256 % 256 * 256 + get_or t b 0 / 256 % 256) * 256 + get_or t c 0 / 256 % 256) * 256 + get_or t d 0 / 256 % 256) ≡ sbox a ∷ sbox b ∷ sbox c ∷ sbox d ∷ []
  subbed_is =
      rw (plain t rule a ha, plain t rule b hb, plain t rule c hc, plain t rule d hd)
      (column_word (sbox a) (sbox b) (sbox c) (sbox d) (sbox_lt a) (sbox_lt b) (sbox_lt c) (sbox_lt d))
