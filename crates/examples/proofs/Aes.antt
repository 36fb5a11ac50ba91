-- Worked examples of FIPS 197, computed from the definitions.
-- Assumes nothing.
use mathlib.Core.Path.{◌≡◌, refl, ap, ◌∙◌}
use mathlib.Core.List.{List, [], ◌∷◌}
use Prim.Native.Nat.{ℕ}
use Rattle.octets.specs.Lists.{at}
use Rattle.aes_key.specs.Gf.{◌⊕◌, ◌•◌, times_bits, x_times, squares, inverse}
use Rattle.aes_key.specs.Sbox.{sbox, affine, affine_bits, affine_bit, bit}
use Rattle.aes_key.specs.Schedule.{rcon, rcon_word, rot_word, sub_word, temp, next_word, key_words, expand, key_expansion}
use Rattle.aes.specs.Cipher.{shift_rows, mix_column, mix_columns, round_key, add_round_key, cipher}
use Rattle.examples.proofs.QuickLaws.{table, quick_sbox, quick_bytes, quick_rounds, quick_cipher, quick_cipher_law}

-- 4.1: {57} + {83} = {d4}
sum_57_83 : 0x57 ⊕ 0x83 ≡ 0xd4
sum_57_83 = refl

-- 4.2: {57} multiplied by x, x^2, x^3 and x^4
xtimes_57 : x_times 0x57 ≡ 0xae
unfolding x_times
xtimes_57 = refl

xtimes_ae : x_times 0xae ≡ 0x47
unfolding x_times
xtimes_ae = refl

xtimes_47 : x_times 0x47 ≡ 0x8e
unfolding x_times
xtimes_47 = refl

xtimes_8e : x_times 0x8e ≡ 0x07
unfolding x_times
xtimes_8e = refl

-- 4.2: {57} • {13} = {fe}
product_57_13 : 0x57 • 0x13 ≡ 0xfe
unfolding ◌•◌ times_bits x_times
product_57_13 = refl

-- 4.2: {57} • {83} = {c1}
product_57_83 : 0x57 • 0x83 ≡ 0xc1
unfolding ◌•◌ times_bits x_times
product_57_83 = refl

-- 5.1.1: the S-box takes {53} to {ed}, and {00} to {63}
sbox_53 : sbox 0x53 ≡ 0xed
unfolding sbox affine affine_bits affine_bit bit inverse squares ◌•◌ times_bits x_times
sbox_53 = refl

sbox_00 : sbox 0x00 ≡ 0x63
unfolding sbox affine affine_bits affine_bit bit inverse squares ◌•◌ times_bits x_times
sbox_00 = refl

-- appendices A.1 and B: the key
abbrev key : List ℕ
key = 0x2b ∷ 0x7e ∷ 0x15 ∷ 0x16 ∷ 0x28 ∷ 0xae ∷ 0xd2 ∷ 0xa6 ∷ 0xab ∷ 0xf7 ∷ 0x15 ∷ 0x88 ∷ 0x09 ∷ 0xcf ∷ 0x4f ∷ 0x3c ∷ []

-- the key schedule
abbrev words : List ℕ
words =
    0x2b7e1516 ∷ 0x28aed2a6 ∷ 0xabf71588 ∷ 0x09cf4f3c ∷ 0xa0fafe17 ∷ 0x88542cb1 ∷ 0x23a33939 ∷ 0x2a6c7605
    ∷ 0xf2c295f2 ∷ 0x7a96b943 ∷ 0x5935807a ∷ 0x7359f67f ∷ 0x3d80477d ∷ 0x4716fe3e ∷ 0x1e237e44 ∷ 0x6d7a883b
    ∷ 0xef44a541 ∷ 0xa8525b7f ∷ 0xb671253b ∷ 0xdb0bad00 ∷ 0xd4d1c6f8 ∷ 0x7c839d87 ∷ 0xcaf2b8bc ∷ 0x11f915bc
    ∷ 0x6d88a37a ∷ 0x110b3efd ∷ 0xdbf98641 ∷ 0xca0093fd ∷ 0x4e54f70e ∷ 0x5f5fc9f3 ∷ 0x84a64fb2 ∷ 0x4ea6dc4f
    ∷ 0xead27321 ∷ 0xb58dbad2 ∷ 0x312bf560 ∷ 0x7f8d292f ∷ 0xac7766f3 ∷ 0x19fadc21 ∷ 0x28d12941 ∷ 0x575c006e
    ∷ 0xd014f9a8 ∷ 0xc9ee2589 ∷ 0xe13f0cc8 ∷ 0xb6630ca6
    ∷ []

-- appendix A.1: the expansion of the key, all 44 words
expansion : key_expansion key ≡ words
unfolding key_expansion expand next_word temp sub_word rot_word rcon_word rcon key_words sbox affine affine_bits affine_bit bit inverse squares ◌•◌ times_bits x_times
expansion = refl

-- appendix A.1: w4, the first word after the key's, and w43, the last
word_4 : at (key_expansion key) 4 ≡ 0xa0fafe17
word_4 = ap (λ (w : List ℕ). at w 4) expansion

word_43 : at (key_expansion key) 43 ≡ 0xb6630ca6
word_43 = ap (λ (w : List ℕ). at w 43) expansion

-- appendix B: the plaintext and the ciphertext
abbrev plain : List ℕ
plain = 0x32 ∷ 0x43 ∷ 0xf6 ∷ 0xa8 ∷ 0x88 ∷ 0x5a ∷ 0x30 ∷ 0x8d ∷ 0x31 ∷ 0x31 ∷ 0x98 ∷ 0xa2 ∷ 0xe0 ∷ 0x37 ∷ 0x07 ∷ 0x34 ∷ []

abbrev sealed : List ℕ
sealed = 0x39 ∷ 0x25 ∷ 0x84 ∷ 0x1d ∷ 0x02 ∷ 0xdc ∷ 0x09 ∷ 0xfb ∷ 0xdc ∷ 0x11 ∷ 0x85 ∷ 0x97 ∷ 0x19 ∷ 0x6a ∷ 0x0b ∷ 0x32 ∷ []

quick : quick_cipher words plain ≡ sealed
unfolding table quick_sbox quick_bytes quick_rounds quick_cipher shift_rows mix_column mix_columns round_key add_round_key ◌•◌ times_bits x_times
quick = refl

-- appendix B: the cipher's example
cipher_example : cipher (key_expansion key) plain ≡ sealed
cipher_example = ap (λ (w : List ℕ). cipher w plain) expansion ∙ quick_cipher_law words plain ∙ quick
