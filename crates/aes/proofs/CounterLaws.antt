-- Counter mode: a block more, its length, and that it undoes itself.
-- Assumes nothing.
use mathlib.Core.Path.{◌≡◌, refl, sym, ap, ap₂, ◌∙◌}
use mathlib.Core.List.{List, [], ◌∷◌, ◌++◌, append_assoc}
use Prim.Native.Nat.{ℕ, zero, suc, ◌+◌, ◌-◌, ◌*◌, ◌/◌, ◌<◌, ◌≤◌, zero-le, suc-le-suc}
use native.Mathlib.Nat.{not-suc-le-zero, le_of_suc-le-suc, le_trans, suc-mul}
use native.Mathlib.Omega.{arith}
use lib.Bits.{bit_xor}
use lib.ListN.{length, take, drop, length-append, length-take, length-drop, take-append-drop, drop_of_length-le}
use lib.Seq.{take-append-add, drop-append-add, length-take-le}
use Rattle.octets.specs.Lists.{over}
use Rattle.octets.specs.Blocks.{block_count}
use Rattle.octets.specs.Bytes.{bytes_of, padded, xor_bytes}
use Rattle.octets.proofs.ByteLaws.{bytes_xor, length_bytes}
use Rattle.octets.proofs.CopyLaws.{over_xor}
use Rattle.aes.specs.Cipher.{cipher, add_round_key}
use Rattle.octets.proofs.XorLaws.{xor_cancel}
use Rattle.aes.specs.Counter.{inc32, gctr_blocks, gctr}

-- ---- sums of strings

pub xor_undoes : (s k : List ℕ) → length s ≤ length k → xor_bytes (xor_bytes s k) k ≡ s
unfolding xor_bytes
xor_undoes [] k h = refl
xor_undoes (x ∷ s) [] h = absurd (not-suc-le-zero h)
xor_undoes (x ∷ s) (y ∷ k) h = ap₂ (λ (a : ℕ) (t : List ℕ). a ∷ t) (xor_cancel x y) (xor_undoes s k (le_of_suc-le-suc h))

pub length_xor : (s k : List ℕ) → length s ≤ length k → length (xor_bytes s k) ≡ length s
unfolding xor_bytes
length_xor [] k h = refl
length_xor (x ∷ s) [] h = absurd (not-suc-le-zero h)
length_xor (x ∷ s) (y ∷ k) h = ap suc (length_xor s k (le_of_suc-le-suc h))

-- the first n bytes of s added to k, and after them t: these are the first n, unless s ends there and t is nothing
take_block : (n : ℕ) (s k t : List ℕ) → n ≤ length k → (length s ≤ n → t ≡ []) → take n (xor_bytes (take n s) k ++ t) ≡ xor_bytes (take n s) k
unfolding xor_bytes
take_block zero s k t h e = refl
take_block (suc n) [] k t h e = rw (e zero-le)
take_block (suc n) (x ∷ s) [] t h e = absurd (not-suc-le-zero h)
take_block (suc n) (x ∷ s) (y ∷ k) t h e = ap (λ (l : List ℕ). bit_xor x y ∷ l) (take_block n s k t (le_of_suc-le-suc h) (λ m. e (suc-le-suc m)))

drop_block : (n : ℕ) (s k t : List ℕ) → n ≤ length k → (length s ≤ n → t ≡ []) → drop n (xor_bytes (take n s) k ++ t) ≡ t
unfolding xor_bytes
drop_block zero s k t h e = refl
drop_block (suc n) [] k t h e = rw (e zero-le)
drop_block (suc n) (x ∷ s) [] t h e = absurd (not-suc-le-zero h)
drop_block (suc n) (x ∷ s) (y ∷ k) t h e = drop_block n s k t (le_of_suc-le-suc h) (λ m. e (suc-le-suc m))

-- ---- counter mode

count_more : (n : ℕ) → 0 < n → (n + 15) / 16 ≡ suc ((n - 16 + 15) / 16)
count_more n h = omega arith

module _ (ciph : List ℕ → List ℕ) where
  pub gctr_more : (cb : ℕ) (l : List ℕ) → 0 < length l → gctr ciph cb l ≡ xor_bytes (take 16 l) (ciph (bytes_of 16 cb)) ++ gctr ciph (inc32 cb) (drop 16 l)
  unfolding gctr gctr_blocks block_count
  gctr_more cb l h = rw (count_more (length l) h, length-drop 16 l)

  pub gctr_none : (cb : ℕ) (l : List ℕ) → length l ≡ 0 → gctr ciph cb l ≡ []
  unfolding gctr gctr_blocks block_count
  gctr_none cb l e = rw e

  of_none : (n cb : ℕ) → gctr_blocks ciph n cb [] ≡ []
  unfolding gctr_blocks xor_bytes
  of_none zero cb = refl
  of_none (suc n) cb = of_none n (inc32 cb)

  module _ (whole : (b : List ℕ) → 16 ≤ length (ciph b)) where
    past : (n cb : ℕ) (s : List ℕ) → length s ≤ 16 → gctr_blocks ciph n cb (drop 16 s) ≡ []
    past n cb s h = rw (drop_of_length-le s h) (of_none n cb)

    short : (s : List ℕ) (cb : ℕ) → length (take 16 s) ≤ length (ciph (bytes_of 16 cb))
    short s cb = le_trans (simp length-take (omega arith)) (whole (bytes_of 16 cb))

    less : (n : ℕ) (s : List ℕ) → length s ≤ suc n * 16 → length (drop 16 s) ≤ n * 16
    less n s h = simp length-drop (omega (arith, suc-mul n 16))

    blocks_length : (n cb : ℕ) (s : List ℕ) → length s ≤ n * 16 → length (gctr_blocks ciph n cb s) ≡ length s
    unfolding gctr_blocks
    blocks_length zero cb [] h = refl
    blocks_length zero cb (x ∷ s) h = absurd (not-suc-le-zero h)
    blocks_length (suc n) cb s h =
        length-append (xor_bytes (take 16 s) (ciph (bytes_of 16 cb))) (gctr_blocks ciph n (inc32 cb) (drop 16 s))
        ∙ ap₂ (λ (a b : ℕ). a + b) (length_xor (take 16 s) (ciph (bytes_of 16 cb)) (short s cb)) (blocks_length n (inc32 cb) (drop 16 s) (less n s h))
        ∙ sym (length-append (take 16 s) (drop 16 s)) ∙ ap length (take-append-drop 16 s)

    blocks_undo : (n cb : ℕ) (s : List ℕ) → length s ≤ n * 16 → gctr_blocks ciph n cb (gctr_blocks ciph n cb s) ≡ s
    unfolding gctr_blocks
    blocks_undo zero cb [] h = refl
    blocks_undo zero cb (x ∷ s) h = absurd (not-suc-le-zero h)
    blocks_undo (suc n) cb s h =
        let k = ciph (bytes_of 16 cb) in
        let t = gctr_blocks ciph n (inc32 cb) (drop 16 s) in
        ap₂ (λ (a b : List ℕ). xor_bytes a k ++ gctr_blocks ciph n (inc32 cb) b)
        (take_block 16 s k t (whole (bytes_of 16 cb)) (past n (inc32 cb) s))
        (drop_block 16 s k t (whole (bytes_of 16 cb)) (past n (inc32 cb) s))
        ∙ ap₂ (λ (a b : List ℕ). a ++ b) (xor_undoes (take 16 s) k (short s cb)) (blocks_undo n (inc32 cb) (drop 16 s) (less n s h))
        ∙ take-append-drop 16 s

    enough : (n : ℕ) → n ≤ (n + 15) / 16 * 16
    enough n = omega arith

    pub gctr_length : (cb : ℕ) (s : List ℕ) → length (gctr ciph cb s) ≡ length s
    unfolding gctr block_count
    gctr_length cb s = blocks_length ((length s + 15) / 16) cb s (enough (length s))

    -- counter mode undoes itself
    pub gctr_undoes : (cb : ℕ) (s : List ℕ) → gctr ciph cb (gctr ciph cb s) ≡ s
    unfolding gctr block_count
    gctr_undoes cb s =
        ap (λ (n : ℕ). gctr_blocks ciph ((n + 15) / 16) cb (gctr_blocks ciph ((length s + 15) / 16) cb s)) (blocks_length ((length s + 15) / 16) cb s (enough (length s)))
        ∙ blocks_undo ((length s + 15) / 16) cb s (enough (length s))

  -- a turn of the loop: the block at `at` is added to the key stream, and what is left goes on with the next counter
  pub gctr_turn : (cb : ℕ) (at : ℕ) (s p : List ℕ) → 16 ≤ length (ciph (bytes_of 16 cb)) → at < length s
      → p ≡ take at s ++ (xor_bytes (take 16 (drop at s)) (ciph (bytes_of 16 cb)) ++ drop 16 (drop at s))
      → take (at + 16) p ++ gctr ciph (inc32 cb) (drop (at + 16) p) ≡ take at s ++ gctr ciph cb (drop at s)
  gctr_turn cb at s p whole h e =
      let k = ciph (bytes_of 16 cb) in
      let d = drop at s in
      let x = xor_bytes (take 16 d) k in
      let la : length (take at s) ≡ at = length-take-le at s (omega arith) in
      let m : 0 < length d = simp length-drop (omega arith) in
      let tk : take (at + 16) p ≡ take at s ++ x = ap (take (at + 16)) e ∙ ap (λ (n : ℕ). take (n + 16) (take at s ++ (x ++ drop 16 d))) (sym la) ∙ take-append-add (take at s) (x ++ drop 16 d) 16 ∙ ap (λ (l : List ℕ). take at s ++ l) (take_block 16 d k (drop 16 d) whole (λ q. drop_of_length-le d q)) in
      let dr : drop (at + 16) p ≡ drop 16 d = ap (drop (at + 16)) e ∙ ap (λ (n : ℕ). drop (n + 16) (take at s ++ (x ++ drop 16 d))) (sym la) ∙ drop-append-add (take at s) (x ++ drop 16 d) 16 ∙ drop_block 16 d k (drop 16 d) whole (λ q. drop_of_length-le d q) in
      ap₂ (λ (a b : List ℕ). a ++ gctr ciph (inc32 cb) b) tk dr ∙ append_assoc (take at s) x (gctr ciph (inc32 cb) (drop 16 d)) ∙ ap (λ (l : List ℕ). take at s ++ l) (sym (gctr_more cb d m))

-- a block of text, added to a block of the key stream and put in its place
pub put_sum : (d : List ℕ) (x m n : ℕ) → bytes_of 16 x ≡ padded 16 d → n ≡ bit_xor x m
    → over (bytes_of 16 n) d ≡ xor_bytes (take 16 d) (bytes_of 16 m) ++ drop 16 d
put_sum d x m n ex en =
    ap (λ (t : List ℕ). over t d) (ap (bytes_of 16) en ∙ bytes_xor 16 x m ∙ ap (λ (t : List ℕ). xor_bytes t (bytes_of 16 m)) ex)
    ∙ over_xor 16 d (bytes_of 16 m) (length_bytes 16 m)

-- every ciphertext has 16 bytes
pub cipher_length : (w s : List ℕ) → length (cipher w s) ≡ 16
unfolding cipher add_round_key
cipher_length w s = refl
