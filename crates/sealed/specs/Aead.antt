-- Authenticated encryption, as the layouts use it: what seals, and what opens.
-- Assumes nothing.
use Rattle.std.specs.Prelude.{ℕ, List}
use Rattle.std.proofs.Math.Option.{Option}
use Rattle.aes.specs.Cipher.{cipher}
use Rattle.ghash.specs.Multiples.{product_by}
use Rattle.gcm.specs.Gcm.{sealed, opened, encrypted, decrypted}

pub record Aead : Type 0 where
  -- nonce, authenticated data, text: the ciphertext and behind it the tag
  pub enc : List ℕ → List ℕ → List ℕ → List ℕ
  -- nonce, authenticated data, ciphertext, tag: the text, or none
  pub dec : List ℕ → List ℕ → List ℕ → List ℕ → Option (List ℕ)

-- AES-128-GCM under a key
unfoldable pub aes_gcm : List ℕ → Aead
aes_gcm key = record { enc = encrypted key; dec = decrypted key }

-- GCM over a prepared key, whatever it is
unfoldable pub gcm_by : (List ℕ → List ℕ) → (ℕ → ℕ) → Aead
gcm_by ciph dot = record { enc = sealed ciph dot; dec = opened ciph dot }

-- under the two parts of a prepared key, its schedule and its multiples, whatever they are
abbrev pub prepared_by : List ℕ → List ℕ → Aead
prepared_by w m = gcm_by (cipher w) (product_by m)
