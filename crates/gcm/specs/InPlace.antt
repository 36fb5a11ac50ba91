-- 02, CR 3: "The cipher, lent that part alone, promises ciphertext and tag at its start and every byte behind them as it was." The part is all that
-- the cipher is lent, so what stands before it in a buffer is out of its reach.
-- Assumes nothing.
use Rattle.std.specs.Prelude.{ℕ, ◌+◌, ◌≤◌, ◌≡◌, List, length, take, drop, Ok}
use Rattle.aes.specs.Cipher.{cipher}
use Rattle.ghash.specs.Multiples.{product_by}
use Rattle.gcm.specs.Gcm.{max_plain, max_data, tag_len, cipher_text, tag_of}
use Rattle.gcm.specs.Answers.{sealing, sealed_in}

-- under a schedule w and multiples m, whatever they are
module _ (w m iv a : List ℕ) (n : ℕ) (s : List ℕ) where
  -- the part s, with n bytes of text at its start, as `KeyRef::seal` leaves it
  abbrev pub after : List ℕ
  after = sealed_in (cipher w) (product_by m) iv a n s

  pub record InPlace : Type 0 where
    -- "ciphertext"
    pub text : take n after ≡ cipher_text (cipher w) iv (take n s)
    -- "and tag at its start"
    pub tag : take tag_len (drop n after) ≡ tag_of (cipher w) (product_by m) iv a (cipher_text (cipher w) iv (take n s))
    -- "and every byte behind them as it was"
    pub behind : drop (n + tag_len) after ≡ drop (n + tag_len) s
    pub long : length after ≡ length s

pub record SealsInPlace : Type 0 where
  -- a text and data within the standard's limits, and room for the tag
  pub seals_in_place : (w m iv a : List ℕ) (n : ℕ) (s : List ℕ) → n ≤ max_plain → length a ≤ max_data → n + tag_len ≤ length s → InPlace w m iv a n s
  -- where it refuses, every byte is as it was
  pub refused_leaves : (w m iv a : List ℕ) (n : ℕ) (s : List ℕ) → (sealing (length a) n (length s) ≡ Ok tt → ⊥) → after w m iv a n s ≡ s
