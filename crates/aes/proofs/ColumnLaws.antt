-- Words as columns of four bytes, and blocks as four columns.
-- Assumes nothing.
use mathlib.Core.Path.{◌≡◌, sym, ap, ap₂, ◌∙◌}
use mathlib.Core.List.{List, [], ◌∷◌, ◌++◌}
use Prim.Native.Nat.{ℕ, ◌+◌, ◌*◌, ◌/◌, ◌%◌, ◌^◌, ◌<◌}
use native.Mathlib.Nat.{div-one}
use native.Mathlib.Omega.{arith}
use lib.Bits.{bit_and, bit_or, and_mask, or_shifted, xor_shr, xor_mod, xor_block}
use lib.Pow.{high, low}
use Rattle.octets.specs.Bytes.{bytes_of}
use Rattle.octets.proofs.ByteLaws.{bytes_split, bytes_mod, bytes_words}
use Rattle.aes_key.specs.Gf.{◌⊕◌}
use Rattle.aes_key.specs.Words.{word, byte0, byte1, byte2, byte3}
use Rattle.aes.specs.Cipher.{column}

-- ---- sums

-- the byte of a sum, at k bits from the right
byte_xor : (k x y : ℕ) → (x ⊕ y) / 2 ^ k % 256 ≡ (x / 2 ^ k % 256) ⊕ (y / 2 ^ k % 256)
byte_xor k x y = ap (λ (n : ℕ). n % 256) (xor_shr x y k) ∙ xor_mod (x / 2 ^ k) (y / 2 ^ k) 8

four : {a b c d e f g h : ℕ} → a ≡ e → b ≡ f → c ≡ g → d ≡ h → a ∷ b ∷ c ∷ d ∷ [] ≡ e ∷ f ∷ g ∷ h ∷ []
four p q r s = cc

pub column_xor : (x y : ℕ) → column (x ⊕ y) ≡ (byte0 x ⊕ byte0 y) ∷ (byte1 x ⊕ byte1 y) ∷ (byte2 x ⊕ byte2 y) ∷ (byte3 x ⊕ byte3 y) ∷ []
column_xor x y = four (byte_xor 24 x y) (byte_xor 16 x y) (byte_xor 8 x y) (xor_mod x y 8)

-- a column with a word of the key added
pub keyed : (x k a b c d : ℕ) → column x ≡ a ∷ b ∷ c ∷ d ∷ [] → column (x ⊕ k) ≡ (a ⊕ byte0 k) ∷ (b ⊕ byte1 k) ∷ (c ⊕ byte2 k) ∷ (d ⊕ byte3 k) ∷ []
keyed x k a b c d e = column_xor x k ∙ cc

-- ---- four bytes as a word

pub column_word : (a b c d : ℕ) → a < 256 → b < 256 → c < 256 → d < 256 → column (word a b c d) ≡ a ∷ b ∷ c ∷ d ∷ []
column_word a b c d ha hb hc hd =
    let q1 : word a b c d / 16777216 ≡ a = omega arith in
    let q2 : word a b c d / 65536 ≡ a * 256 + b = omega arith in
    let q3 : word a b c d / 256 ≡ (a * 256 + b) * 256 + c = omega arith in
    let r1 : a % 256 ≡ a = omega arith in
    let r2 : (a * 256 + b) % 256 ≡ b = omega arith in
    let r3 : ((a * 256 + b) * 256 + c) % 256 ≡ c = omega arith in
    let r4 : word a b c d % 256 ≡ d = omega arith in
    four (ap (λ (n : ℕ). n % 256) q1 ∙ r1) (ap (λ (n : ℕ). n % 256) q2 ∙ r2) (ap (λ (n : ℕ). n % 256) q3 ∙ r3) r4

pub word_xor : (a b c d e f g h : ℕ) → b < 256 → c < 256 → d < 256 → f < 256 → g < 256 → h < 256
    → word a b c d ⊕ word e f g h ≡ word (a ⊕ e) (b ⊕ f) (c ⊕ g) (d ⊕ h)
word_xor a b c d e f g h hb hc hd hf hg hh =
    xor_block 8 ((a * 256 + b) * 256 + c) ((e * 256 + f) * 256 + g) d h hd hh
    ∙ ap (λ (x : ℕ). x * 256 + (d ⊕ h)) (xor_block 8 (a * 256 + b) (e * 256 + f) c g hc hg)
    ∙ ap (λ (x : ℕ). (x * 256 + (c ⊕ g)) * 256 + (d ⊕ h)) (xor_block 8 a e b f hb hf)

-- ---- halves of a word

pub low32 : (n : ℕ) → bit_and n 4294967295 ≡ n % 4294967296
low32 n = and_mask n 32

pub two_halves : (a b : ℕ) → a < 2 ^ 32 → b < 2 ^ 32 → bit_or (a * 4294967296 % 18446744073709551616) b ≡ a * 4294967296 + b
two_halves a b ha hb =
    let e : a * 4294967296 % 18446744073709551616 ≡ a * 2 ^ 32 = omega arith in
    ap (λ (n : ℕ). bit_or n b) e ∙ or_shifted a 32 b hb

-- ---- blocks

bytes_column : (w : ℕ) → bytes_of 4 w ≡ column w
unfolding bytes_of
bytes_column w = rw (div-one w)

halves : (n : ℕ) → bytes_of 8 n ≡ column (n / 2 ^ 32) ++ column (n % 2 ^ 32)
halves n =
    bytes_split 4 4 n ∙ ap (λ (t : List ℕ). bytes_of 4 (n / 2 ^ 32) ++ t) (sym (bytes_mod 0 4 n))
    ∙ ap₂ (λ (s t : List ℕ). s ++ t) (bytes_column (n / 2 ^ 32)) (bytes_column (n % 2 ^ 32))

-- the columns of a block
pub block_columns : (h l : ℕ) → l < 2 ^ 64
    → bytes_of 16 (h * 2 ^ 64 + l) ≡ column (h / 2 ^ 32) ++ column (h % 2 ^ 32) ++ column (l / 2 ^ 32) ++ column (l % 2 ^ 32)
block_columns h l hl = sym (bytes_words h l hl) ∙ ap₂ (λ (s t : List ℕ). s ++ t) (halves h) (halves l)

joined : (a b : ℕ) → b < 2 ^ 32 → bytes_of 8 (a * 2 ^ 32 + b) ≡ column a ++ column b
joined a b hb = halves (a * 2 ^ 32 + b) ∙ ap₂ (λ (x y : ℕ). column x ++ column y) (high a 32 hb) (low a 32 hb)

-- the block of four columns
pub block_joined : (a b c d : ℕ) → b < 2 ^ 32 → d < 2 ^ 32 → c * 2 ^ 32 + d < 2 ^ 64
    → bytes_of 16 ((a * 2 ^ 32 + b) * 2 ^ 64 + (c * 2 ^ 32 + d)) ≡ column a ++ column b ++ column c ++ column d
block_joined a b c d hb hd hl = sym (bytes_words (a * 2 ^ 32 + b) (c * 2 ^ 32 + d) hl) ∙ ap₂ (λ (s t : List ℕ). s ++ t) (joined a b hb) (joined c d hd)
