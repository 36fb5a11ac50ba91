-- The cipher: FIPS 197, section 5.1, for Nr = 10. A state is a list of 16 bytes; byte r + 4c stands in row r and column c.
-- A key schedule is a list of 44 words.
-- Assumes nothing.
use Rattle.std.specs.Prelude.{ℕ, zero, suc, ◌+◌, ◌*◌, ◌/◌, ◌%◌, List, [], ◌∷◌, ◌++◌}
use Rattle.octets.specs.Lists.{at, tab}
use Rattle.aes_key.specs.Gf.{◌⊕◌, ◌•◌}
use Rattle.aes_key.specs.Sbox.{sbox}
use Rattle.aes_key.specs.Words.{byte0, byte1, byte2, byte3}

-- 5.1.1
unfoldable pub sub_bytes : List ℕ → List ℕ
sub_bytes s = tab 16 (λ i. sbox (at s i))

-- 5.1.2: row r moves left by r columns
unfoldable pub shift_rows : List ℕ → List ℕ
shift_rows s = tab 16 (λ i. at s (i % 4 + 4 * ((i / 4 + i % 4) % 4)))

-- 5.1.3: one column
unfoldable pub mix_column : ℕ → ℕ → ℕ → ℕ → List ℕ
mix_column a b c d =
    (2 • a ⊕ 3 • b ⊕ c ⊕ d)
    ∷ (a ⊕ 2 • b ⊕ 3 • c ⊕ d)
    ∷ (a ⊕ b ⊕ 2 • c ⊕ 3 • d)
    ∷ (3 • a ⊕ b ⊕ c ⊕ 2 • d)
    ∷ []

unfoldable pub mix_columns : List ℕ → List ℕ
mix_columns s =
    mix_column (at s 0) (at s 1) (at s 2) (at s 3)
    ++ mix_column (at s 4) (at s 5) (at s 6) (at s 7)
    ++ mix_column (at s 8) (at s 9) (at s 10) (at s 11)
    ++ mix_column (at s 12) (at s 13) (at s 14) (at s 15)

-- the four bytes of a word
abbrev pub column : ℕ → List ℕ
column w = byte0 w ∷ byte1 w ∷ byte2 w ∷ byte3 w ∷ []

-- words 4 r to 4 r + 3 of a key schedule, column by column
unfoldable pub round_key : List ℕ → ℕ → List ℕ
round_key w r = column (at w (4 * r)) ++ column (at w (4 * r + 1)) ++ column (at w (4 * r + 2)) ++ column (at w (4 * r + 3))

-- 5.1.4: a state and a round key
unfoldable pub add_round_key : List ℕ → List ℕ → List ℕ
add_round_key s k = tab 16 (λ i. at s i ⊕ at k i)

-- 5.1: the state after n rounds, of a key schedule w
unfoldable pub rounds : List ℕ → List ℕ → ℕ → List ℕ
rounds w s zero = add_round_key s (round_key w 0)
rounds w s (suc n) = add_round_key (mix_columns (shift_rows (sub_bytes (rounds w s n)))) (round_key w (suc n))

-- 5.1: Cipher, the ciphertext of a block s; the last round has no MixColumns
unfoldable pub cipher : List ℕ → List ℕ → List ℕ
cipher w s = add_round_key (shift_rows (sub_bytes (rounds w s 9))) (round_key w 10)
