-- The hash in parts, the pre-counter block, the tag, and that what was sealed opens.
-- Assumes nothing.
use mathlib.Core.Path.{◌≡◌, refl, sym, ap, ap₂, ◌∙◌}
use mathlib.Core.List.{List, [], ◌∷◌, ◌++◌, append-nil}
use mathlib.Core.Option.{some}
use Prim.Native.Nat.{ℕ, ◌+◌, ◌*◌, ◌^◌, ◌≤◌}
use native.Mathlib.Nat.{le_of_eq}
use native.Mathlib.Omega.{arith}
use lib.Bits.{bit_xor}
use Rattle.std.proofs.lemmas.List.{set-append_right}
use lib.Dec.{lit≤}
use lib.ListN.{length, take, drop, set, length-append, drop_of_length-le}
use lib.Seq.{take_all, take_at, drop_at}
use Rattle.octets.specs.Bytes.{number_from, number, bytes_of, padded, xor_bytes}
use Rattle.octets.proofs.ByteLaws.{padded_whole, number_split, length_bytes, bytes_xor}
use Rattle.octets.proofs.SameLaws.{same_refl}
use Rattle.aes.specs.Cipher.{cipher}
use Rattle.aes.specs.Counter.{inc32, gctr}
use Rattle.aes.proofs.CounterLaws.{cipher_length, gctr_more, gctr_none, gctr_length, gctr_undoes}
use Rattle.ghash.specs.Ghash.{blocks_of, ghash}
use Rattle.ghash.proofs.HashLaws.{ghash_append}
use Rattle.gcm.specs.Gcm.{pre_counter, only_if, hash_of, tag_of, cipher_text, sealed, opened}

-- ---- the hash

-- data, ciphertext and lengths, one after the other
pub hash_parts : (dot : ℕ → ℕ) (a c : List ℕ)
    → dot (bit_xor (ghash dot (ghash dot 0 (blocks_of a)) (blocks_of c)) ((length a * 8) * 2 ^ 64 + length c * 8)) ≡ hash_of dot a c
unfolding hash_of ghash
hash_parts dot a c =
    let l = ((length a * 8) * 2 ^ 64 + length c * 8) ∷ [] in
    sym (ghash_append dot 0 (blocks_of a) (blocks_of c ++ l) ∙ ghash_append dot (ghash dot 0 (blocks_of a)) (blocks_of c) l)

-- ---- the pre-counter block

abbrev zeros : List ℕ
zeros = 0 ∷ 0 ∷ 0 ∷ 0 ∷ []

abbrev one : List ℕ
one = 0 ∷ 0 ∷ 0 ∷ 1 ∷ []

-- the IV's twelve bytes over zeros, and a 1 at the end
pub pre_bytes : (iv x : List ℕ) → length iv ≡ 12 → x ≡ iv → number (padded 16 (set (x ++ zeros) 15 1)) ≡ pre_counter iv
unfolding pre_counter number number_from
pre_bytes iv x e ex =
    let placed : set (x ++ zeros) 15 1 ≡ iv ++ one = ap (λ (s : List ℕ). set (s ++ zeros) 15 1) ex ∙ set-append_right iv zeros 12 15 1 e (lit≤ tt) in
    let whole : length (iv ++ one) ≡ 16 = length-append iv one ∙ ap (λ (n : ℕ). n + 4) e in
    ap (λ (s : List ℕ). number (padded 16 s)) placed ∙ ap number (padded_whole 16 (iv ++ one) whole) ∙ number_split iv one 4 refl

-- ---- the tag

module _ (ciph : List ℕ → List ℕ) where
  -- counter mode over one block
  gctr_one : (cb : ℕ) (s : List ℕ) → length s ≡ 16 → gctr ciph cb s ≡ xor_bytes s (ciph (bytes_of 16 cb))
  gctr_one cb s e =
      let rest : drop 16 s ≡ [] = drop_of_length-le s (le_of_eq e) in
      gctr_more ciph cb s (omega arith)
      ∙ ap₂ (λ (x y : List ℕ). xor_bytes x (ciph (bytes_of 16 cb)) ++ y) (take_all 16 s (le_of_eq e)) (ap (gctr ciph (inc32 cb)) rest ∙ gctr_none ciph (inc32 cb) [] refl)
      ∙ append-nil (xor_bytes s (ciph (bytes_of 16 cb)))

  -- the tag is the hash with the cipher of J0 added
  pub tag_sum : (dot : ℕ → ℕ) (iv a c : List ℕ) (s m j t : ℕ) → s ≡ hash_of dot a c → j ≡ pre_counter iv → bytes_of 16 m ≡ ciph (bytes_of 16 j) → t ≡ bit_xor s m
      → bytes_of 16 t ≡ tag_of ciph dot iv a c
  unfolding tag_of
  tag_sum dot iv a c s m j t es ej em et =
      ap (bytes_of 16) et ∙ bytes_xor 16 s m
      ∙ ap₂ (λ (x y : List ℕ). xor_bytes x y) (ap (bytes_of 16) es) (em ∙ ap (λ (n : ℕ). ciph (bytes_of 16 n)) ej)
      ∙ sym (gctr_one (pre_counter iv) (bytes_of 16 (hash_of dot a c)) (length_bytes 16 (hash_of dot a c)))

-- ---- lengths, and that what was sealed opens

-- the cipher under a schedule gives whole blocks
pub cipher_whole : (w b : List ℕ) → 16 ≤ length (cipher w b)
cipher_whole w b = le_of_eq (sym (cipher_length w b))

module _ (ciph : List ℕ → List ℕ) (whole : (b : List ℕ) → 16 ≤ length (ciph b)) (dot : ℕ → ℕ) where
  pub length_cipher_text : (iv p : List ℕ) → length (cipher_text ciph iv p) ≡ length p
  unfolding cipher_text
  length_cipher_text iv p = gctr_length ciph whole (inc32 (pre_counter iv)) p

  pub length_tag : (iv a c : List ℕ) → length (tag_of ciph dot iv a c) ≡ 16
  unfolding tag_of
  length_tag iv a c = gctr_length ciph whole (pre_counter iv) (bytes_of 16 (hash_of dot a c)) ∙ length_bytes 16 (hash_of dot a c)

  pub length_sealed : (iv a p : List ℕ) → length (sealed ciph dot iv a p) ≡ length p + 16
  unfolding sealed
  length_sealed iv a p =
      length-append (cipher_text ciph iv p) (tag_of ciph dot iv a (cipher_text ciph iv p))
      ∙ ap₂ (λ (x y : ℕ). x + y) (length_cipher_text iv p) (length_tag iv a (cipher_text ciph iv p))

  -- decryption of what was encrypted gives the text back
  pub opens : (iv a p : List ℕ) → opened ciph dot iv a (cipher_text ciph iv p) (tag_of ciph dot iv a (cipher_text ciph iv p)) ≡ some p
  unfolding opened only_if cipher_text
  opens iv a p =
      rw (same_refl (tag_of ciph dot iv a (gctr ciph (inc32 (pre_counter iv)) p)), gctr_undoes ciph whole (inc32 (pre_counter iv)) p)

  -- the same of the sealed string, taken apart where the text ends
  pub opens_sealed : (iv a p : List ℕ) (n : ℕ) → n ≡ length p
      → opened ciph dot iv a (take n (sealed ciph dot iv a p)) (drop n (sealed ciph dot iv a p)) ≡ some p
  unfolding sealed
  opens_sealed iv a p n e =
      let c = cipher_text ciph iv p in
      let t = tag_of ciph dot iv a c in
      let l = length_cipher_text iv p ∙ sym e in
      ap₂ (λ (x y : List ℕ). opened ciph dot iv a x y) (take_at c t n l) (drop_at c t n l) ∙ opens iv a p
