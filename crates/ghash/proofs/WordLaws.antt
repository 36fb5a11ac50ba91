-- A block's two words: shifts, and the rows of the table.
-- Assumes nothing.
use mathlib.Core.Path.{◌≡◌, sym, ap, ◌∙◌}
use mathlib.Core.List.{List, [], ◌∷◌}
use Prim.Native.Nat.{ℕ, zero, suc, ◌+◌, ◌*◌, ◌/◌, ◌%◌, ◌^◌, ◌<◌}
use native.Mathlib.Nat.{mul-one, mul-zero, add-zero, mod-lt, not-suc-le-zero, le_of_suc-le-suc}
use native.Mathlib.Omega.{arith}
use lib.Bits.{bit_xor, xor_block, xor_shr, xor_mod, xor_zero_r}
use lib.Pow.{high, low}
use lib.Dec.{lit<}
use Rattle.ghash.specs.Field.{add_if, shifted, products}
use Rattle.ghash.specs.Multiples.{words_to}

-- a block with R's left word r added where the bit is 1
add_if_word : (t a b r : ℕ) → t < 2 → b < 2 ^ 64 → bit_xor a (r * t) * 2 ^ 64 + b ≡ add_if t (a * 2 ^ 64 + b) (r * 2 ^ 64)
unfolding add_if
add_if_word zero a b r h hb = simp (mul-zero, xor_zero_r)
add_if_word (suc zero) a b r h hb =
    rw (mul-one r)
    (ap (λ (n : ℕ). bit_xor a r * 2 ^ 64 + n) (sym (xor_zero_r b)) ∙ sym (xor_block 64 a r b 0 hb (lit< tt)) ∙ ap (bit_xor (a * 2 ^ 64 + b)) (add-zero (r * 2 ^ 64)))
add_if_word (suc (suc t)) a b r h hb = absurd (not-suc-le-zero (le_of_suc-le-suc (le_of_suc-le-suc h)))

pub half_word : (h l : ℕ) → l < 2 ^ 64 → l / 2 + 2 ^ 63 * (h % 2) < 2 ^ 64
half_word h l hl = omega arith

halves : (h l : ℕ) → l < 2 ^ 64 → (h * 2 ^ 64 + l) / 2 ≡ h / 2 * 2 ^ 64 + (l / 2 + 2 ^ 63 * (h % 2))
halves h l hl = omega arith

odd : (h l : ℕ) → (h * 2 ^ 64 + l) % 2 ≡ l % 2
odd h l = omega arith

pub shift_words : (h l : ℕ) → l < 2 ^ 64
    → bit_xor (h / 2) (0xe1 * 2 ^ 56 * (l % 2)) * 2 ^ 64 + (l / 2 + 2 ^ 63 * (h % 2)) ≡ shifted (h * 2 ^ 64 + l)
unfolding shifted
shift_words h l hl =
    rw (odd h l, halves h l hl) (add_if_word (l % 2) (h / 2) (l / 2 + 2 ^ 63 * (h % 2)) (0xe1 * 2 ^ 56) (mod-lt l (lit< tt)) (half_word h l hl))

-- a row, as the code writes it from the words of v, w, x and y
abbrev row_of : ℕ → ℕ → ℕ → ℕ → ℕ → ℕ → ℕ → ℕ → List ℕ
row_of vh vl wh wl xh xl yh yl =
    0 ∷ 0 ∷ yh ∷ yl ∷ xh ∷ xl ∷ bit_xor xh yh ∷ bit_xor xl yl
    ∷ wh ∷ wl ∷ bit_xor wh yh ∷ bit_xor wl yl ∷ bit_xor wh xh ∷ bit_xor wl xl ∷ bit_xor (bit_xor wh xh) yh ∷ bit_xor (bit_xor wl xl) yl
    ∷ vh ∷ vl ∷ bit_xor vh yh ∷ bit_xor vl yl ∷ bit_xor vh xh ∷ bit_xor vl xl ∷ bit_xor (bit_xor vh xh) yh ∷ bit_xor (bit_xor vl xl) yl
    ∷ bit_xor vh wh ∷ bit_xor vl wl ∷ bit_xor (bit_xor vh wh) yh ∷ bit_xor (bit_xor vl wl) yl
    ∷ bit_xor (bit_xor vh wh) xh ∷ bit_xor (bit_xor vl wl) xl ∷ bit_xor (bit_xor (bit_xor vh wh) xh) yh ∷ bit_xor (bit_xor (bit_xor vl wl) xl) yl ∷ []

-- the words of the 16 sums of v, w, x and y are the sums of their words
row_sums : (v w x y : ℕ) → w ≡ shifted v → x ≡ shifted w → y ≡ shifted x
    → {vh vl wh wl xh xl yh yl : ℕ} → vh ≡ v / 2 ^ 64 → vl ≡ v % 2 ^ 64 → wh ≡ w / 2 ^ 64 → wl ≡ w % 2 ^ 64 → xh ≡ x / 2 ^ 64 → xl ≡ x % 2 ^ 64
    → yh ≡ y / 2 ^ 64 → yl ≡ y % 2 ^ 64 → row_of vh vl wh wl xh xl yh yl ≡ words_to 16 (λ (n : ℕ). products 4 n 0 v)
unfolding words_to products add_if
row_sums v w x y ew ex ey evh evl ewh ewl exh exl eyh eyl =
    simp (evh, evl, ewh, ewl, exh, exl, eyh, eyl, ey, ex, ew, xor_shr, xor_mod)

pub row_words : (vh vl wh wl xh xl yh yl : ℕ) → vl < 2 ^ 64 → wl < 2 ^ 64 → xl < 2 ^ 64 → yl < 2 ^ 64
    → wh * 2 ^ 64 + wl ≡ shifted (vh * 2 ^ 64 + vl) → xh * 2 ^ 64 + xl ≡ shifted (wh * 2 ^ 64 + wl) → yh * 2 ^ 64 + yl ≡ shifted (xh * 2 ^ 64 + xl)
    → row_of vh vl wh wl xh xl yh yl ≡ words_to 16 (λ (n : ℕ). products 4 n 0 (vh * 2 ^ 64 + vl))
row_words vh vl wh wl xh xl yh yl hv hw hx hy ew ex ey =
    row_sums (vh * 2 ^ 64 + vl) (wh * 2 ^ 64 + wl) (xh * 2 ^ 64 + xl) (yh * 2 ^ 64 + yl) ew ex ey
    (sym (high vh 64 hv)) (sym (low vh 64 hv)) (sym (high wh 64 hw)) (sym (low wh 64 hw))
    (sym (high xh 64 hx)) (sym (low xh 64 hx)) (sym (high yh 64 hy)) (sym (low yh 64 hy))
