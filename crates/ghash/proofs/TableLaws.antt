-- The table of a block's multiples: how it is made, and that the product by it is the standard's.
-- Assumes nothing.
use mathlib.Core.Path.{◌≡◌, refl, sym, ap, ap₂, ◌∙◌}
use mathlib.Core.List.{List, [], ◌∷◌, ◌++◌}
use mathlib.Core.Logic.{⊎_elim}
use Prim.Native.Nat.{ℕ, zero, suc, ◌+◌, ◌-◌, ◌*◌, ◌/◌, ◌%◌, ◌^◌, ◌<◌, ◌≤◌}
use native.Mathlib.Nat.{not-suc-le-zero, le_of_suc-le-suc, eq-or-lt_of_le, div-one, mod-lt, add_assoc}
use native.Mathlib.Numerals.{add-one}
use native.Mathlib.Omega.{arith}
use lib.Dec.{lit<, lit≤}
use lib.ListN.{length, get_or, take, length-append, get_or-append}
use lib.Seq.{get_or-append-add}
use lib.Pow.{split, high, low, shr-shr}
use lib.Bits.{bit_xor}
use Rattle.octets.specs.Lists.{at}
use Rattle.ghash.specs.Field.{products, shifted, ◌•◌}
use Rattle.ghash.specs.Multiples.{multiple, words_to, rows_to, multiples_of, entry_at, sum_to, product_by}
use Rattle.ghash.proofs.ProductLaws.{shifted_by, shifted_by_add, product_split, product_mod, product_words, products_from, product_middle}

-- ---- the rows

length_words : (n : ℕ) (f : ℕ → ℕ) → length (words_to n f) ≡ 2 * n
unfolding words_to
length_words zero f = refl
length_words (suc n) f = length-append (words_to n f) (f n / 2 ^ 64 ∷ f n % 2 ^ 64 ∷ []) ∙ omega (arith, length_words n f)

length_rows : (j h : ℕ) → length (rows_to j h) ≡ 32 * j
unfolding rows_to
length_rows zero h = refl
length_rows (suc j) h = length-append (rows_to j h) (words_to 16 (multiple h j)) ∙ omega (arith, length_rows j h, length_words 16 (multiple h j))

-- the words of the same blocks
words_same : (n : ℕ) (f g : ℕ → ℕ) → ((i : ℕ) → i < n → f i ≡ g i) → words_to n f ≡ words_to n g
unfolding words_to
words_same zero f g e = refl
words_same (suc n) f g e =
    ap₂ (λ (l : List ℕ) (x : ℕ). l ++ (x / 2 ^ 64 ∷ x % 2 ^ 64 ∷ [])) (words_same n f g (λ i h. e i (omega arith))) (e n (omega arith))

-- entry n of row j is what the four bits n come to where V is H after 4j steps
pub multiple_is : (h j n : ℕ) → j < 32 → n < 16 → multiple h j n ≡ products 4 n 0 (shifted_by (4 * j) h)
unfolding multiple ◌•◌
multiple_is h j n hj hn =
    let e : 128 ≡ 4 * j + (4 + (124 - 4 * j)) = omega arith in
    ap (λ (k : ℕ). products k (n * 2 ^ (124 - 4 * j)) 0 h) e ∙ product_middle (4 * j) 4 (124 - 4 * j) n h hn

-- a row more
pub row_more : (h j v : ℕ) (m r m' : List ℕ) → j < 32 → v ≡ shifted_by (4 * j) h → r ≡ words_to 16 (λ (n : ℕ). products 4 n 0 v)
    → take (32 * j) m ≡ rows_to j h → take (32 * (j + 1)) m' ≡ take (32 * j) m ++ r → take (32 * (j + 1)) m' ≡ rows_to (j + 1) h
unfolding rows_to
row_more h j v m r m' hj ev er em em' =
    let entry : (i : ℕ) → i < 16 → products 4 i 0 v ≡ multiple h j i = λ i hi. ap (products 4 i 0) ev ∙ sym (multiple_is h j i hj hi) in
    let row : r ≡ words_to 16 (multiple h j) = er ∙ words_same 16 (λ (n : ℕ). products 4 n 0 v) (multiple h j) entry in
    em' ∙ ap₂ (λ (a b : List ℕ). a ++ b) em row ∙ sym (ap (λ (n : ℕ). rows_to n h) (add-one j))

-- V for the next row
pub next_row : (h j v v' : ℕ) → v ≡ shifted_by (4 * j) h → v' ≡ shifted (shifted (shifted (shifted v))) → v' ≡ shifted_by (4 * (j + 1)) h
unfolding shifted_by
next_row h j v v' e e' =
    let size : 4 * (j + 1) ≡ 4 * j + 4 = omega arith in
    e' ∙ ap (shifted_by 4) e ∙ sym (ap (λ (n : ℕ). shifted_by n h) size ∙ shifted_by_add (4 * j) 4 h)

-- ---- the entries

words_at : (n : ℕ) (f : ℕ → ℕ) (i : ℕ) → i < n → at (words_to n f) (2 * i) * 2 ^ 64 + at (words_to n f) (2 * i + 1) ≡ f i
unfolding words_to
words_at zero f i h = absurd (not-suc-le-zero h)
words_at (suc n) f i h =
    let p = f n / 2 ^ 64 ∷ f n % 2 ^ 64 ∷ [] in
    let len = length_words n f in
    ⊎_elim
    (λ e.
    let e0 : 2 * i ≡ length (words_to n f) + 0 = omega (arith, e) in
    let e1 : 2 * i + 1 ≡ length (words_to n f) + 1 = omega (arith, e) in
    ap₂ (λ (x y : ℕ). x * 2 ^ 64 + y)
    (ap (λ (k : ℕ). get_or (words_to n f ++ p) k 0) e0 ∙ get_or-append-add (words_to n f) p 0 0)
    (ap (λ (k : ℕ). get_or (words_to n f ++ p) k 0) e1 ∙ get_or-append-add (words_to n f) p 1 0)
    ∙ split (f n) 64 ∙ ap f (sym e))
    (λ l.
    ap₂ (λ (x y : ℕ). x * 2 ^ 64 + y)
    (get_or-append (words_to n f) p 0 (2 * i) (omega arith))
    (get_or-append (words_to n f) p 0 (2 * i + 1) (omega arith))
    ∙ words_at n f i l)
    (eq-or-lt_of_le (le_of_suc-le-suc h))

rows_at : (k h j i : ℕ) → j < k → i < 32 → at (rows_to k h) (32 * j + i) ≡ at (words_to 16 (multiple h j)) i
unfolding rows_to
rows_at zero h j i hj hi = absurd (not-suc-le-zero hj)
rows_at (suc k) h j i hj hi =
    let len = length_rows k h in
    ⊎_elim
    (λ e.
    let ei : 32 * j + i ≡ length (rows_to k h) + i = omega (arith, e) in
    ap (λ (n : ℕ). get_or (rows_to k h ++ words_to 16 (multiple h k)) n 0) ei
    ∙ get_or-append-add (rows_to k h) (words_to 16 (multiple h k)) i 0
    ∙ ap (λ (n : ℕ). get_or (words_to 16 (multiple h n)) i 0) (sym e))
    (λ l. get_or-append (rows_to k h) (words_to 16 (multiple h k)) 0 (32 * j + i) (omega arith) ∙ rows_at k h j i l hi)
    (eq-or-lt_of_le (le_of_suc-le-suc hj))

pub entry_is : (h j n : ℕ) → j < 32 → n < 16 → entry_at (multiples_of h) j n ≡ multiple h j n
unfolding multiples_of
entry_is h j n hj hn =
    ap₂ (λ (x y : ℕ). x * 2 ^ 64 + y)
    (rows_at 32 h j (2 * n) hj (omega arith))
    (ap (λ (k : ℕ). get_or (rows_to 32 h) k 0) (add_assoc (32 * j) (2 * n) 1) ∙ rows_at 32 h j (2 * n + 1) hj (omega arith))
    ∙ words_at 16 (multiple h j) n hn

-- ---- the product

-- four bits more of a sum
pub sum_more : (m : List ℕ) (b x z k : ℕ) → sum_to m b x z (k + 1) ≡ bit_xor (sum_to m b x z k) (entry_at m (b + k) (x / 2 ^ (60 - 4 * k) % 16))
unfolding sum_to
sum_more m b x z k = rw (add-one k)

-- the two words of x, the left one first
pub sum_words : (m : List ℕ) (h l z r : ℕ) → l < 2 ^ 64 → z ≡ sum_to m 0 h 0 16 → r ≡ sum_to m 16 l z 16 → r ≡ product_by m (h * 2 ^ 64 + l)
unfolding product_by
sum_words m h l z r hl ez er = rw (high h 64 hl, low h 64 hl, ← ez) er

-- a sum by H's table is step 3 of Algorithm 1 at the bits that have picked
sum_is : (h b x z k : ℕ) → b ≤ 16 → k ≤ 16 → sum_to (multiples_of h) b x z k ≡ products (4 * k) (x / 2 ^ (64 - 4 * k)) z (shifted_by (4 * b) h)
unfolding sum_to products
sum_is h b x z zero hb hk = refl
sum_is h b x z (suc k) hb hk =
    let q = x / 2 ^ (60 - 4 * k) in
    let v = shifted_by (4 * b) h in
    let rest : 64 - 4 * suc k ≡ 60 - 4 * k = omega arith in
    let four : (60 - 4 * k) + 4 ≡ 64 - 4 * k = omega arith in
    let size : 4 * suc k ≡ 4 * k + 4 = omega arith in
    let steps : 4 * (b + k) ≡ 4 * b + 4 * k = omega arith in
    ap₂ bit_xor
    (sum_is h b x z k hb (omega arith) ∙ ap (λ (n : ℕ). products (4 * k) n z v) (sym (shr-shr x (60 - 4 * k) 4 ∙ ap (λ (n : ℕ). x / 2 ^ n) four)))
    (entry_is h (b + k) (q % 16) (omega arith) (mod-lt q (lit< tt))
    ∙ multiple_is h (b + k) (q % 16) (omega arith) (mod-lt q (lit< tt))
    ∙ product_mod 4 q 0 (shifted_by (4 * (b + k)) h)
    ∙ ap (products 4 q 0) (ap (λ (n : ℕ). shifted_by n h) steps ∙ shifted_by_add (4 * b) (4 * k) h))
    ∙ sym (products_from 4 q (products (4 * k) (q / 2 ^ 4) z v) (shifted_by (4 * k) v))
    ∙ sym (product_split (4 * k) 4 q z v)
    ∙ ap₂ (λ (i n : ℕ). products i (x / 2 ^ n) z v) (sym size) (sym rest)

no_step : (v : ℕ) → shifted_by 0 v ≡ v
unfolding shifted_by
no_step v = refl

-- by H's table, a product is the product by H
pub product_is : (h x : ℕ) → product_by (multiples_of h) x ≡ x • h
unfolding product_by
product_is h x =
    sum_is h 16 (x % 2 ^ 64) (sum_to (multiples_of h) 0 (x / 2 ^ 64) 0 16) 16 (lit≤ tt) (lit≤ tt)
    ∙ ap₂ (λ (l z : ℕ). products 64 l z (shifted_by 64 h)) (div-one (x % 2 ^ 64))
    (sum_is h 0 (x / 2 ^ 64) 0 16 (lit≤ tt) (lit≤ tt) ∙ ap₂ (λ (l v : ℕ). products 64 l 0 v) (div-one (x / 2 ^ 64)) (no_step h))
    ∙ product_words x h
