-- The key expansion: FIPS 197, section 5.2, for Nk = 4 and Nr = 10. A key is a list of 16 bytes, a key schedule a list of 44 words.
-- Assumes nothing.
use Rattle.std.specs.Prelude.{ℕ, zero, suc, ◌+◌, ◌-◌, ◌/◌, ◌%◌, ◌<◌, ◌≡◌, cond, List, [], ◌∷◌, ◌++◌, eqb}
use Rattle.octets.specs.Lists.{at}
use Rattle.aes_key.specs.Gf.{◌⊕◌, x_times}
use Rattle.aes_key.specs.Sbox.{sbox}
use Rattle.aes_key.specs.Words.{word, byte0, byte1, byte2, byte3}

-- the round constants, rcon 0 to rcon 9: x^0 in GF(2^8), and each twice the one before
unfoldable pub rcon : ℕ → ℕ
rcon zero = 1
rcon (suc n) = x_times (rcon n)

-- t has the round constants as a table: the first is 1, and each is twice the one before
pub record IsRcon (t : List ℕ) : Type 0 where
  pub first : at t 0 ≡ 1
  pub doubled : (k : ℕ) → k < 9 → at t (suc k) ≡ x_times (at t k)

-- Rcon[j], counted from 1: a word with one byte that is not 0
unfoldable pub rcon_word : ℕ → ℕ
rcon_word j = word (rcon (j - 1)) 0 0 0

unfoldable pub rot_word : ℕ → ℕ
rot_word w = word (byte1 w) (byte2 w) (byte3 w) (byte0 w)

unfoldable pub sub_word : ℕ → ℕ
sub_word w = word (sbox (byte0 w)) (sbox (byte1 w)) (sbox (byte2 w)) (sbox (byte3 w))

-- temp, what is added to word i - 4 to make word i
unfoldable pub temp : List ℕ → ℕ → ℕ
temp w i = cond (eqb (i % 4) 0) (sub_word (rot_word (at w (i - 1))) ⊕ rcon_word (i / 4)) (at w (i - 1))

-- word i, of a schedule w that has the words below i
unfoldable pub next_word : List ℕ → ℕ → ℕ
next_word w i = at w (i - 4) ⊕ temp w i

-- words 0 to 3, the key's
unfoldable pub key_words : List ℕ → List ℕ
key_words key =
    word (at key 0) (at key 1) (at key 2) (at key 3)
    ∷ word (at key 4) (at key 5) (at key 6) (at key 7)
    ∷ word (at key 8) (at key 9) (at key 10) (at key 11)
    ∷ word (at key 12) (at key 13) (at key 14) (at key 15)
    ∷ []

-- the key's words and the n after them
unfoldable pub expand : ℕ → List ℕ → List ℕ
expand zero key = key_words key
expand (suc n) key = let w = expand n key in w ++ (next_word w (4 + n) ∷ [])

unfoldable pub key_expansion : List ℕ → List ℕ
key_expansion key = expand 40 key
