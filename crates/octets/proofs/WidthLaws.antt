-- The library's bytes of a number, at every width: the strings of this crate.
-- Assumes nothing.
use Rattle.std.proofs.Common.{◌≡◌, ℕ, zero, suc, ◌+◌, ◌-◌, ◌*◌, ◌/◌, ◌%◌, ◌^◌, ◌<◌, List, [], ◌∷◌, length, get_or, refl, sym, ap, ◌∙◌, add_assoc, arith}
use mathlib.Core.Path.{ap₂}
use native.Mathlib.Nat.{div-one, pow-suc, mul-suc, not-suc-le-zero}
use lib.Pow.{shr-shr}
use Rattle.std.specs.Int.{byte_at, byte_worth, bytes_low_first, bytes_high_first, sum_through}
use Rattle.octets.specs.Bytes.{number_from, number, bytes_of, padded}
use Rattle.octets.specs.Little.{little, little_bytes}
use Rattle.octets.proofs.ByteLaws.{number_cons, power, length_padded}
use Rattle.octets.proofs.LittleLaws.{bytes_little_padded}

-- ---- sums

sum_first : (f : ℕ → ℕ) (k : ℕ) → sum_through f (suc k) ≡ f 0 + sum_through (λ i. f (suc i)) k
sum_first f zero = refl
sum_first f (suc k) = ap (λ (n : ℕ). n + f (suc (suc k))) (sum_first f k) ∙ add_assoc (f 0) (sum_through (λ i. f (suc i)) k) (f (suc (suc k)))

sum_same : (f g : ℕ → ℕ) (k : ℕ) → ((i : ℕ) → f i ≡ g i) → sum_through f k ≡ sum_through g k
sum_same f g zero e = e 0
sum_same f g (suc k) e = ap₂ ◌+◌ (sum_same f g k e) (e (suc k))

sum_times : (f : ℕ → ℕ) (k : ℕ) → sum_through (λ i. 256 * f i) k ≡ 256 * sum_through f k
sum_times f zero = refl
sum_times f (suc k) = omega (arith, sum_times f k)

-- ---- the number that bytes write

worth_more : (i b : ℕ) → byte_worth (suc i) b ≡ 256 * byte_worth i b
worth_more zero b = omega arith
worth_more (suc i) b = rw (pow-suc 256 (suc i)) (omega arith)

-- the last first
pub le_number : (k : ℕ) (s : List ℕ) → length s ≡ suc k → sum_through (λ i. byte_worth i (get_or s i 0)) k ≡ little s
unfolding little
le_number k [] e = let z : 0 < zero = omega (arith, e) in absurd (not-suc-le-zero z)
le_number zero (x ∷ []) e = omega arith
le_number zero (x ∷ y ∷ s) e = let z : 0 < zero = omega (arith, e) in absurd (not-suc-le-zero z)
le_number (suc k) (x ∷ s) e =
    sum_first (λ i. byte_worth i (get_or (x ∷ s) i 0)) k
    ∙ ap (λ (n : ℕ). x + n)
    (sum_same (λ i. byte_worth (suc i) (get_or s i 0)) (λ i. 256 * byte_worth i (get_or s i 0)) k (λ i. worth_more i (get_or s i 0))
    ∙ sum_times (λ i. byte_worth i (get_or s i 0)) k
    ∙ ap (λ (n : ℕ). 256 * n) (le_number k s (omega (arith, e))))

number_one : (x : ℕ) → x ≡ number (x ∷ [])
unfolding number number_from
number_one x = omega arith

-- the first first
pub be_number : (k : ℕ) (s : List ℕ) → length s ≡ suc k → sum_through (λ i. byte_worth (k - i) (get_or s i 0)) k ≡ number s
be_number k [] e = let z : 0 < zero = omega (arith, e) in absurd (not-suc-le-zero z)
be_number zero (x ∷ []) e = number_one x
be_number zero (x ∷ y ∷ s) e = let z : 0 < zero = omega (arith, e) in absurd (not-suc-le-zero z)
be_number (suc k) (x ∷ s) e =
    let long : length s ≡ suc k = omega (arith, e) in
    let top : suc k - 0 ≡ suc k = omega arith in
    sum_first (λ i. byte_worth (suc k - i) (get_or (x ∷ s) i 0)) k
    ∙ ap₂ ◌+◌
    (ap (λ (j : ℕ). byte_worth j x) top ∙ ap (λ (p : ℕ). x * p) (power (suc k) ∙ ap (λ (j : ℕ). 2 ^ (8 * j)) (sym long)))
    (sum_same (λ i. byte_worth (suc k - suc i) (get_or s i 0)) (λ i. byte_worth (k - i) (get_or s i 0)) k (λ i. let less : suc k - suc i ≡ k - i = omega arith in ap (λ (j : ℕ). byte_worth j (get_or s i 0)) less)
    ∙ be_number k s long)
    ∙ sym (number_cons x s)

-- ---- the bytes of a number

byte_is : (i n : ℕ) → byte_at i n ≡ n / 256 ^ i % 256
byte_is zero n = rw div-one
byte_is (suc i) n = refl

shift_more : (i n : ℕ) → n / 256 ^ suc i ≡ n / 256 ^ i / 256
shift_more i n = rw (power (suc i), power i) (ap (λ (j : ℕ). n / 2 ^ j) (mul-suc 8 i) ∙ sym (shr-shr n (8 * i) 8))

bytes_from : (k i n : ℕ) → bytes_low_first i k n ≡ little_bytes k (n / 256 ^ i)
unfolding little_bytes
bytes_from zero i n = refl
bytes_from (suc k) i n = ap₂ (λ (x : ℕ) (t : List ℕ). x ∷ t) (byte_is i n) (bytes_from k (suc i) n ∙ ap (little_bytes k) (shift_more i n))

-- the last first
pub le_bytes : (k n : ℕ) → bytes_low_first 0 k n ≡ little_bytes k n
le_bytes k n = bytes_from k 0 n ∙ ap (little_bytes k) (div-one n)

-- the first first
pub be_bytes : (k n : ℕ) → bytes_high_first k n ≡ bytes_of k n
unfolding bytes_of
be_bytes zero n = refl
be_bytes (suc k) n = ap₂ (λ (x : ℕ) (t : List ℕ). x ∷ t) (byte_is k n ∙ ap (λ (p : ℕ). n / p % 256) (power k)) (be_bytes k n)

-- ---- a number as it is read from the start of a string

pub read_little : (k : ℕ) (s : List ℕ) {r : ℕ} {t : List ℕ} → ((i : ℕ) → get_or s i 0 < 256)
    → r ≡ sum_through (λ i. byte_worth i (get_or t i 0)) k → t ≡ padded (suc k) s
    → (r ≡ little (padded (suc k) s)) × (little_bytes (suc k) r ≡ padded (suc k) s)
read_little k s {r} {t} h e f =
    let p = e ∙ ap (λ (l : List ℕ). sum_through (λ i. byte_worth i (get_or l i 0)) k) f ∙ le_number k (padded (suc k) s) (length_padded (suc k) s) in
    (p, ap (little_bytes (suc k)) p ∙ bytes_little_padded (suc k) s h)

pub read_big : (k : ℕ) (s : List ℕ) {r : ℕ} {t : List ℕ} → r ≡ sum_through (λ i. byte_worth (k - i) (get_or t i 0)) k → t ≡ padded (suc k) s → r ≡ number (padded (suc k) s)
read_big k s {r} {t} e f =
    e ∙ ap (λ (l : List ℕ). sum_through (λ i. byte_worth (k - i) (get_or l i 0)) k) f ∙ be_number k (padded (suc k) s) (length_padded (suc k) s)
