-- GHASH over the blocks of a string.
-- Assumes nothing.
use mathlib.Core.Path.{◌≡◌, refl, sym, ap, ap₂, ◌∙◌}
use mathlib.Core.List.{List, [], ◌∷◌, ◌++◌}
use Prim.Native.Nat.{ℕ, zero, suc, min, ◌+◌, ◌-◌, ◌/◌, ◌<◌}
use native.Mathlib.Omega.{arith}
use lib.ListN.{length, take, drop, length-drop}
use Rattle.std.proofs.Math.Seq.{take-append_seam, drop-append_seam}
use Rattle.std.proofs.lemmas.List.{take_min, drop_min}
use lib.Bits.{bit_xor}
use Rattle.octets.specs.Bytes.{number, padded}
use Rattle.ghash.specs.Ghash.{blocks_in, blocks_of, ghash}
use Rattle.octets.specs.Blocks.{block_count}

-- two names of one product
pub ghash_same : (f g : ℕ → ℕ) → ((x : ℕ) → f x ≡ g x) → (y : ℕ) (xs : List ℕ) → ghash f y xs ≡ ghash g y xs
unfolding ghash
ghash_same f g e y [] = refl
ghash_same f g e y (x ∷ xs) = ap (λ (n : ℕ). ghash f n xs) (e (bit_xor y x)) ∙ ghash_same f g e (g (bit_xor y x)) xs

-- some blocks, and then others
pub ghash_append : (f : ℕ → ℕ) (y : ℕ) (xs ys : List ℕ) → ghash f y (xs ++ ys) ≡ ghash f (ghash f y xs) ys
unfolding ghash
ghash_append f y [] ys = refl
ghash_append f y (x ∷ xs) ys = ghash_append f (f (bit_xor y x)) xs ys

-- ---- the blocks of a string

count_more : (n : ℕ) → 0 < n → (n + 15) / 16 ≡ suc ((n - 16 + 15) / 16)
count_more n h = omega arith

pub blocks_more : (l : List ℕ) → 0 < length l → blocks_of l ≡ number (padded 16 l) ∷ blocks_of (drop 16 l)
unfolding blocks_of blocks_in block_count
blocks_more l h = rw (count_more (length l) h, length-drop 16 l)

pub blocks_none : (l : List ℕ) → length l ≡ 0 → blocks_of l ≡ []
unfolding blocks_of blocks_in block_count
blocks_none l e = rw e

-- padding looks at no more than the first n bytes
padded_front : (n : ℕ) (l : List ℕ) → padded n (take n l) ≡ padded n l
unfolding padded
padded_front zero l = refl
padded_front (suc n) [] = refl
padded_front (suc n) (x ∷ l) = ap (λ (t : List ℕ). x ∷ t) (padded_front n l)

-- one block more of a hash: b is the next 16 bytes of what is left, or all of it where fewer are
pub hash_more : (f : ℕ → ℕ) (y x y' : ℕ) (s b rest : List ℕ) → s ≡ b ++ rest → length b ≡ min 16 (length s) → 0 < length s → x ≡ number (padded 16 b) → y' ≡ f (bit_xor y x)
    → ghash f y' (blocks_of rest) ≡ ghash f y (blocks_of s)
unfolding ghash
hash_more f y x y' s b rest e l more ex ey =
    let eb : b ≡ take 16 s = sym (take-append_seam b rest) ∙ ap₂ (λ (n : ℕ) (t : List ℕ). take n t) l (sym e) ∙ take_min 16 s in
    let er : rest ≡ drop 16 s = sym (drop-append_seam b rest) ∙ ap₂ (λ (n : ℕ) (t : List ℕ). drop n t) l (sym e) ∙ drop_min 16 s in
    let first : x ≡ number (padded 16 s) = ex ∙ ap (λ (t : List ℕ). number (padded 16 t)) eb ∙ ap number (padded_front 16 s) in
    rw (blocks_more s more, er, ey, first)
