-- Preparing a key makes its functions the standard's.
-- Assumes nothing.
use mathlib.Core.Path.{◌≡◌, ap, ap₂, ◌∙◌}
use mathlib.Core.List.{List, ◌++◌}
use mathlib.Core.Option.{some}
use Prim.Native.Nat.{ℕ, ◌+◌}
use lib.Dec.{eqb}
use lib.ListN.{length, take, drop}
use Rattle.octets.specs.Bytes.{bytes_of, same_bytes}
use Rattle.aes_key.specs.Schedule.{key_expansion}
use Rattle.aes.specs.Cipher.{cipher}
use Rattle.aes.specs.Counter.{gctr}
use Rattle.ghash.specs.Multiples.{product_by, multiples_of, multiples_in}
use Rattle.ghash.proofs.HashLaws.{ghash_same}
use Rattle.ghash.proofs.TableLaws.{product_is}
use Rattle.gcm.specs.Gcm.{pre_counter, only_if, hash_of, tag_of, cipher_text, sealed, opened, subkey, aes_under, dot_under, encrypted, decrypted}
use Rattle.gcm.specs.Key.{prepared}
use Rattle.gcm.specs.declared.Key.{Key}
use Rattle.gcm.proofs.SealLaws.{cipher_whole, length_sealed, opens_sealed}

-- two products that agree everywhere give one tag
module _ (f g : ℕ → ℕ) (agree : (x : ℕ) → f x ≡ g x) where
  same_hash : (a c : List ℕ) → hash_of f a c ≡ hash_of g a c
  unfolding hash_of
  same_hash a c = ghash_same f g agree 0 _

  pub same_tag : (ciph : List ℕ → List ℕ) (iv a c : List ℕ) → tag_of ciph f iv a c ≡ tag_of ciph g iv a c
  unfolding tag_of
  same_tag ciph iv a c = ap (λ (n : ℕ). gctr ciph (pre_counter iv) (bytes_of 16 n)) (same_hash a c)

  pub same_sealed : (ciph : List ℕ → List ℕ) (iv a p : List ℕ) → sealed ciph f iv a p ≡ sealed ciph g iv a p
  unfolding sealed
  same_sealed ciph iv a p = ap (λ (t : List ℕ). cipher_text ciph iv p ++ t) (same_tag ciph iv a (cipher_text ciph iv p))

  pub same_opened : (ciph : List ℕ → List ℕ) (iv a c t : List ℕ) → opened ciph f iv a c t ≡ opened ciph g iv a c t
  unfolding opened
  same_opened ciph iv a c t = ap (λ (w : List ℕ). only_if (same_bytes t w) (cipher_text ciph iv c)) (same_tag ciph iv a c)

-- a key of two parts
abbrev pub key_of : List ℕ → List ℕ → Key
key_of w m = record { schedule = w; multiples = m }

-- the schedule, and 1024 words filled with the multiples, are the prepared key
pub prepared_parts : (key w m old : List ℕ) → (w ≡ (prepared key).schedule) × (m ≡ multiples_in (subkey (aes_under key)) old) → length old ≡ 1024 → key_of w m ≡ prepared key
unfolding multiples_in prepared
prepared_parts key w m old p long =
    let filled : multiples_in (subkey (aes_under key)) old ≡ multiples_of (subkey (aes_under key)) = rw (ap (λ (n : ℕ). eqb n 1024) long) in
    ap₂ key_of p.0 (p.1 ∙ filled)

-- a prepared key's functions are AES-128-GCM under the key
pub prepared_encrypts : (key iv a p : List ℕ)
    → sealed (cipher (prepared key).schedule) (product_by (prepared key).multiples) iv a p ≡ encrypted key iv a p
unfolding prepared encrypted
prepared_encrypts key iv a p =
    same_sealed (product_by (multiples_of (subkey (aes_under key)))) (dot_under key) (λ x. product_is (subkey (aes_under key)) x) (aes_under key) iv a p

pub prepared_decrypts : (key iv a c t : List ℕ)
    → opened (cipher (prepared key).schedule) (product_by (prepared key).multiples) iv a c t ≡ decrypted key iv a c t
unfolding prepared decrypted
prepared_decrypts key iv a c t =
    same_opened (product_by (multiples_of (subkey (aes_under key)))) (dot_under key) (λ x. product_is (subkey (aes_under key)) x) (aes_under key) iv a c t

-- AES-128-GCM: lengths, and decryption of what was encrypted
pub length_encrypted : (key iv a p : List ℕ) → length (encrypted key iv a p) ≡ length p + 16
unfolding encrypted
length_encrypted key iv a p = length_sealed (aes_under key) (cipher_whole (key_expansion key)) (dot_under key) iv a p

pub decrypts : (key iv a p : List ℕ) (n : ℕ) → n ≡ length p → decrypted key iv a (take n (encrypted key iv a p)) (drop n (encrypted key iv a p)) ≡ some p
unfolding encrypted decrypted
decrypts key iv a p n e = opens_sealed (aes_under key) (cipher_whole (key_expansion key)) (dot_under key) iv a p n e
