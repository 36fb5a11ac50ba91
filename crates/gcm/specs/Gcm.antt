-- The Galois/counter mode: NIST SP 800-38D, section 7, over bytes, for a 96-bit IV and a 128-bit tag.
-- Assumes nothing.
use Rattle.std.specs.Prelude.{ℕ, ◌+◌, ◌-◌, ◌*◌, ◌^◌, Bool, true, false, List, [], ◌∷◌, ◌++◌, length}
use Rattle.std.proofs.Math.Option.{Option, some, none}
use Rattle.octets.specs.Bytes.{number, bytes_of, same_bytes}
use Rattle.aes_key.specs.Schedule.{key_expansion}
use Rattle.aes.specs.Cipher.{cipher}
use Rattle.aes.specs.Counter.{inc32, gctr}
use Rattle.ghash.specs.Field.{◌•◌}
use Rattle.ghash.specs.Ghash.{blocks_of, ghash}

-- 5.2.1.1: the most bytes of a plaintext or a ciphertext, 2^39 - 256 bits, and of additional authenticated data, 2^64 - 1 bits
abbrev pub max_plain : ℕ
max_plain = 2 ^ 36 - 32

abbrev pub max_data : ℕ
max_data = 2 ^ 61 - 1

abbrev pub tag_len : ℕ
tag_len = 16

-- 7.1, step 2: the pre-counter block J0 = IV || 0^31 || 1
unfoldable pub pre_counter : List ℕ → ℕ
pre_counter iv = number iv * 2 ^ 32 + 1

-- the string where the test holds, and FAIL where not
unfoldable pub only_if : Bool → List ℕ → Option (List ℕ)
only_if true p = some p
only_if false p = none

-- 7.1, step 5: S = GHASH (A || 0^v || C || 0^u || [len (A)]64 || [len (C)]64), lengths in bits; dot is X ↦ X • H, the product by the hash subkey
unfoldable pub hash_of : (ℕ → ℕ) → List ℕ → List ℕ → ℕ
hash_of dot a c = ghash dot 0 (blocks_of a ++ (blocks_of c ++ (((length a * 8) * 2 ^ 64 + length c * 8) ∷ [])))

-- 7.1, step 3: C = GCTR (inc32 (J0), P); ciph is CIPH, the forward cipher function under the key. It undoes itself (7.2, step 4)
unfoldable pub cipher_text : (List ℕ → List ℕ) → List ℕ → List ℕ → List ℕ
cipher_text ciph iv p = gctr ciph (inc32 (pre_counter iv)) p

module _ (ciph : List ℕ → List ℕ) (dot : ℕ → ℕ) where
  -- 7.1, step 6: T = GCTR (J0, S)
  unfoldable pub tag_of : List ℕ → List ℕ → List ℕ → List ℕ
  tag_of iv a c = gctr ciph (pre_counter iv) (bytes_of 16 (hash_of dot a c))

  -- 7.1, Algorithm 4: authenticated encryption, C and behind it T
  unfoldable pub sealed : List ℕ → List ℕ → List ℕ → List ℕ
  sealed iv a p = cipher_text ciph iv p ++ tag_of iv a (cipher_text ciph iv p)

  -- 7.2, Algorithm 5: authenticated decryption of C and T, the plaintext or FAIL
  unfoldable pub opened : List ℕ → List ℕ → List ℕ → List ℕ → Option (List ℕ)
  opened iv a c t = only_if (same_bytes t (tag_of iv a c)) (cipher_text ciph iv c)

-- 7.1, step 1: the hash subkey H = CIPH (0^128)
unfoldable pub subkey : (List ℕ → List ℕ) → ℕ
subkey ciph = number (ciph (bytes_of 16 0))

-- AES-128 under a key, and the product by its hash subkey
abbrev pub aes_under : List ℕ → List ℕ → List ℕ
aes_under key = cipher (key_expansion key)

abbrev pub dot_under : List ℕ → ℕ → ℕ
dot_under key x = x • subkey (aes_under key)

-- AES-128-GCM
unfoldable pub encrypted : List ℕ → List ℕ → List ℕ → List ℕ → List ℕ
encrypted key iv a p = sealed (aes_under key) (dot_under key) iv a p

unfoldable pub decrypted : List ℕ → List ℕ → List ℕ → List ℕ → List ℕ → Option (List ℕ)
decrypted key iv a c t = opened (aes_under key) (dot_under key) iv a c t
