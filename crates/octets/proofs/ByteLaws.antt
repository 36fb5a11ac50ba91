-- Bytes and the numbers that they write: padding, splitting, sums.
-- Assumes nothing.
use mathlib.Core.Path.{◌≡◌, refl, sym, ap, ap₂, ◌∙◌}
use mathlib.Core.List.{List, [], ◌∷◌, ◌++◌}
use Prim.Native.Nat.{ℕ, zero, suc, ◌+◌, ◌*◌, ◌/◌, ◌%◌, ◌^◌, ◌<◌, ◌≤◌}
use native.Mathlib.Nat.{zero-add, suc-add, add-suc, add-zero, add_comm, mul-one, mul-add, mul-suc, pow-suc, not-suc-le-zero, le_of_suc-le-suc, lt_of_lt_of_le, mod-one, mod-eq_of_lt, mul_comm, mul-le-mul_right, suc-mul}
use native.Mathlib.Omega.{arith}
use lib.Dec.{lit<}
use lib.Pow.{pow-add, mod-pow-add, shr-shr, field, mod-mod-pow, high, low}
use lib.Bits.{bit_xor, xor_shr, xor_mod}
use lib.ListN.{length, get_or, take, drop}
use lib.Seq.{get_or-drop, drop-drop, drop-nil}
use Rattle.octets.specs.Bytes.{number_from, number, bytes_of, padded, xor_bytes}

-- ---- padding

padded_cons : (k : ℕ) (l : List ℕ) → padded (suc k) l ≡ get_or l 0 0 ∷ padded k (drop 1 l)
unfolding padded
padded_cons k [] = refl
padded_cons k (x ∷ l) = refl

pub padded_from : (k n : ℕ) (l : List ℕ) → padded (suc k) (drop n l) ≡ get_or l n 0 ∷ padded k (drop (n + 1) l)
padded_from k n l =
    padded_cons k (drop n l) ∙ ap₂ (λ (x : ℕ) (t : List ℕ). x ∷ padded k t) (get_or-drop n l 0 0 ∙ ap (λ (i : ℕ). get_or l i 0) (add-zero n)) (drop-drop 1 n l)

pub padded_split : (j k : ℕ) (l : List ℕ) → padded (j + k) l ≡ padded j l ++ padded k (drop j l)
unfolding padded
padded_split zero k l = rw (zero-add k)
padded_split (suc j) k [] = rw (suc-add j k) (ap (λ (t : List ℕ). 0 ∷ t) (padded_split j k [] ∙ ap (λ (t : List ℕ). padded j [] ++ padded k t) (drop-nil j)))
padded_split (suc j) k (x ∷ l) = rw (suc-add j k) (ap (λ (t : List ℕ). x ∷ t) (padded_split j k l))

pub length_padded : (k : ℕ) (l : List ℕ) → length (padded k l) ≡ k
unfolding padded
length_padded zero l = refl
length_padded (suc k) [] = ap suc (length_padded k [])
length_padded (suc k) (x ∷ l) = ap suc (length_padded k l)

-- a string that is as long or longer
pub padded_take : (k : ℕ) (l : List ℕ) → k ≤ length l → padded k l ≡ take k l
unfolding padded
padded_take zero l h = refl
padded_take (suc k) [] h = absurd (not-suc-le-zero h)
padded_take (suc k) (x ∷ l) h = ap (λ (t : List ℕ). x ∷ t) (padded_take k l (le_of_suc-le-suc h))

-- a string that is as long already
pub padded_whole : (k : ℕ) (l : List ℕ) → length l ≡ k → padded k l ≡ l
unfolding padded
padded_whole zero [] e = refl
padded_whole zero (x ∷ l) e = let z : 0 < zero = omega (arith, e) in absurd (not-suc-le-zero z)
padded_whole (suc k) [] e = let z : 0 < zero = omega (arith, e) in absurd (not-suc-le-zero z)
padded_whole (suc k) (x ∷ l) e = ap (λ (t : List ℕ). x ∷ t) (padded_whole k l (omega (arith, e)))

-- ---- the number that bytes write

pub number_append : (a : ℕ) (s t : List ℕ) → number_from a (s ++ t) ≡ number_from (number_from a s) t
unfolding number_from
number_append a [] t = refl
number_append a (x ∷ s) t = number_append (a * 256 + x) s t

number_step : (a x p q : ℕ) → (a * 256 + x) * p + q ≡ a * (p * 256) + ((0 * 256 + x) * p + q)
number_step a x p q = omega arith

pub number_from_law : (a : ℕ) (t : List ℕ) → number_from a t ≡ a * 256 ^ length t + number_from 0 t
unfolding number_from
number_from_law a [] = sym (add-zero (a * 1) ∙ mul-one a)
number_from_law a (x ∷ t) =
    number_from_law (a * 256 + x) t ∙ number_step a x (256 ^ length t) (number_from 0 t)
    ∙ ap₂ (λ (p q : ℕ). a * p + q) (sym (pow-suc 256 (length t))) (sym (number_from_law (0 * 256 + x) t))

-- a string that ends with k bytes
pub number_split : (s t : List ℕ) (k : ℕ) → length t ≡ k → number (s ++ t) ≡ number s * 256 ^ k + number t
unfolding number
number_split s t k e = number_append 0 s t ∙ number_from_law (number_from 0 s) t ∙ ap (λ (n : ℕ). number_from 0 s * 256 ^ n + number_from 0 t) e

-- ---- the bytes of a number

pub length_bytes : (k n : ℕ) → length (bytes_of k n) ≡ k
unfolding bytes_of
length_bytes zero n = refl
length_bytes (suc k) n = ap suc (length_bytes k n)

pub bytes_split : (j k n : ℕ) → bytes_of (j + k) n ≡ bytes_of j (n / 2 ^ (8 * k)) ++ bytes_of k n
unfolding bytes_of
bytes_split zero k n = rw (zero-add k)
bytes_split (suc j) k n =
    rw (suc-add j k, mul-add 8 j k, add_comm (8 * j) (8 * k), ← (shr-shr n (8 * k) (8 * j))) (ap (λ (t : List ℕ). n / 2 ^ (8 * k) / 2 ^ (8 * j) % 256 ∷ t) (bytes_split j k n))

byte_mod : (n j k : ℕ) → n % 2 ^ (8 * (suc j + k)) / 2 ^ (8 * k) % 256 ≡ n / 2 ^ (8 * k) % 256
byte_mod n j k =
    rw (mul-add 8 (suc j) k, field n (8 * suc j) (8 * k), mul-suc 8 j) (mod-mod-pow (n / 2 ^ (8 * k)) (8 * j) 8)

pub bytes_mod : (j k n : ℕ) → bytes_of k (n % 2 ^ (8 * (j + k))) ≡ bytes_of k n
unfolding bytes_of
bytes_mod j zero n = refl
bytes_mod j (suc k) n = rw (add-suc j k, ← (suc-add j k), byte_mod n j k) (ap (λ (t : List ℕ). n / 2 ^ (8 * k) % 256 ∷ t) (bytes_mod (suc j) k n))

pub bytes_words : (h l : ℕ) → l < 2 ^ 64 → bytes_of 8 h ++ bytes_of 8 l ≡ bytes_of 16 (h * 2 ^ 64 + l)
bytes_words h l hl =
    ap₂ (λ (a b : ℕ). bytes_of 8 a ++ bytes_of 8 b) (sym (high h 64 hl)) (sym (low h 64 hl))
    ∙ ap (λ (t : List ℕ). bytes_of 8 ((h * 2 ^ 64 + l) / 2 ^ 64) ++ t) (bytes_mod 0 8 (h * 2 ^ 64 + l))
    ∙ sym (bytes_split 8 8 (h * 2 ^ 64 + l))

-- a sum's bytes are the sums of the bytes
pub bytes_xor : (k a b : ℕ) → bytes_of k (bit_xor a b) ≡ xor_bytes (bytes_of k a) (bytes_of k b)
unfolding bytes_of xor_bytes
bytes_xor zero a b = refl
bytes_xor (suc k) a b =
    ap₂ (λ (x : ℕ) (t : List ℕ). x ∷ t)
    (ap (λ (n : ℕ). n % 256) (xor_shr a b (8 * k)) ∙ xor_mod (a / 2 ^ (8 * k)) (b / 2 ^ (8 * k)) 8)
    (bytes_xor k a b)

-- ---- bytes that are bytes

pub power : (k : ℕ) → 256 ^ k ≡ 2 ^ (8 * k)
power zero = refl
power (suc k) = pow-suc 256 k ∙ ap (λ (n : ℕ). n * 256) (power k) ∙ sym (ap (λ (n : ℕ). 2 ^ n) (mul-suc 8 k) ∙ pow-add 2 (8 * k) 8)

pub number_cons : (x : ℕ) (s : List ℕ) → number (x ∷ s) ≡ x * 2 ^ (8 * length s) + number s
unfolding number number_from
number_cons x s = number_from_law (0 * 256 + x) s ∙ ap₂ (λ (a p : ℕ). a * p + number_from 0 s) (zero-add x) (power (length s))

less_cons : (x m p q : ℕ) → x < q → m < p → x * p + m < q * p
less_cons x m p q hx hm =
    let one : x * p + m < suc x * p = omega (arith, suc-mul x p) in
    let all : suc x * p ≤ q * p = mul-le-mul_right p hx in
    lt_of_lt_of_le one all

number_lt : (s : List ℕ) → ((i : ℕ) → get_or s i 0 < 256) → number s < 2 ^ (8 * length s)
unfolding number number_from
number_lt [] h = lit< tt
number_lt (x ∷ s) h =
    rw (number_cons x s, mul-suc 8 (length s), pow-add 2 (8 * length s) 8, mul_comm (2 ^ (8 * length s)) 256)
    (less_cons x (number s) (2 ^ (8 * length s)) 256 (h 0) (number_lt s (λ i. h (suc i))))

-- the bytes that a number is written with are its bytes
pub bytes_number : (s : List ℕ) → ((i : ℕ) → get_or s i 0 < 256) → bytes_of (length s) (number s) ≡ s
unfolding bytes_of
bytes_number [] h = refl
bytes_number (x ∷ s) h =
    let k = length s in
    let p = 2 ^ (8 * k) in
    let lt = number_lt s (λ i. h (suc i)) in
    ap (λ (n : ℕ). n / p % 256 ∷ bytes_of k n) (number_cons x s)
    ∙ ap₂ (λ (a : ℕ) (t : List ℕ). a ∷ t)
    (ap (λ (n : ℕ). n % 256) (high x (8 * k) lt) ∙ mod-eq_of_lt (h 0))
    (sym (rw (zero-add k) at (bytes_mod 0 k (x * p + number s))) ∙ ap (bytes_of k) (low x (8 * k) lt) ∙ bytes_number s (λ i. h (suc i)))

pub padded_lt : (k : ℕ) (s : List ℕ) → ((i : ℕ) → get_or s i 0 < 256) → (i : ℕ) → get_or (padded k s) i 0 < 256
unfolding padded
padded_lt zero s h i = lit< tt
padded_lt (suc k) [] h zero = h 0
padded_lt (suc k) [] h (suc i) = padded_lt k [] h i
padded_lt (suc k) (x ∷ s) h zero = h 0
padded_lt (suc k) (x ∷ s) h (suc i) = padded_lt k s (λ j. h (suc j)) i

pub bytes_padded : (k : ℕ) (s : List ℕ) → ((i : ℕ) → get_or s i 0 < 256) → bytes_of k (number (padded k s)) ≡ padded k s
bytes_padded k s h = ap (λ (n : ℕ). bytes_of n (number (padded k s))) (sym (length_padded k s)) ∙ bytes_number (padded k s) (padded_lt k s h)

-- ---- the number that a number's bytes write

pub number_bytes : (k n : ℕ) → number (bytes_of k n) ≡ n % 2 ^ (8 * k)
unfolding bytes_of number number_from
number_bytes zero n = sym (mod-one n)
number_bytes (suc k) n =
    number_cons (n / 2 ^ (8 * k) % 256) (bytes_of k n)
    ∙ ap₂ (λ (p q : ℕ). n / 2 ^ (8 * k) % 256 * 2 ^ (8 * p) + q) (length_bytes k n) (number_bytes k n)
    ∙ sym (ap (λ (j : ℕ). n % 2 ^ j) (mul-suc 8 k ∙ add_comm (8 * k) 8) ∙ mod-pow-add n 8 (8 * k))

-- a block is below 2 ^ 128, so its bytes write it
pub block_number : (h l : ℕ) → h < 2 ^ 64 → l < 2 ^ 64 → number (bytes_of 16 (h * 2 ^ 64 + l)) ≡ h * 2 ^ 64 + l
block_number h l hh hl = number_bytes 16 (h * 2 ^ 64 + l) ∙ mod-eq_of_lt (less_cons h l (2 ^ 64) (2 ^ 64) hh hl)
