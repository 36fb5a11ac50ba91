-- Numbers with the least significant byte first: what their bytes write, and the bytes of what bytes write.
-- Assumes nothing.
use mathlib.Core.Path.{◌≡◌, refl, sym, ap, ◌∙◌}
use mathlib.Core.List.{List, [], ◌∷◌}
use Prim.Native.Nat.{ℕ, zero, suc, ◌+◌, ◌*◌, ◌/◌, ◌%◌, ◌^◌, ◌<◌, ◌≤◌}
use native.Mathlib.Nat.{pow-suc, zero-add, suc-add, not-suc-le-zero, le_of_suc-le-suc}
use native.Mathlib.Omega.{arith}
use lib.Dec.{lit<}
use lib.Pow.{pow-add, mod-pow-add}
use lib.ListN.{length, get_or, drop}
use lib.Seq.{drop-nil}
use native.Mathlib.Numerals.{add-one}
use Rattle.octets.specs.Lists.{at, from}
use Rattle.octets.specs.Bytes.{padded}
use Rattle.octets.specs.Little.{little, little_bytes}
use Rattle.octets.proofs.ByteLaws.{length_padded, padded_lt, padded_from, power}

pub length_little : (k n : ℕ) → length (little_bytes k n) ≡ k
unfolding little_bytes
length_little zero n = refl
length_little (suc k) n = ap suc (length_little k (n / 256))

-- k bytes write what they hold of a number
pub little_fits : (k n : ℕ) → n < 256 ^ k → little (little_bytes k n) ≡ n
unfolding little little_bytes
little_fits zero n h = omega arith
little_fits (suc k) n h =
    let e = pow-suc 256 k in
    let ih = little_fits k (n / 256) (omega arith) in
    omega arith

-- and of any number its rest
pub little_rest : (k n : ℕ) → little (little_bytes k n) ≡ n % 256 ^ k
unfolding little little_bytes
little_rest zero n = omega arith
little_rest (suc k) n =
    let p = power k in
    let ih : little (little_bytes k (n / 256)) ≡ n / 256 % 2 ^ (8 * k) = little_rest k (n / 256) ∙ ap (λ (m : ℕ). n / 256 % m) p in
    let e : n % 2 ^ (8 * k + 8) ≡ n / 256 % 2 ^ (8 * k) * 256 + n % 256 = mod-pow-add n (8 * k) 8 in
    let q : 256 ^ suc k ≡ 2 ^ (8 * k + 8) = pow-suc 256 k ∙ ap (λ (m : ℕ). m * 256) p ∙ sym (pow-add 2 (8 * k) 8) in
    rw q (omega arith)

-- a string of bytes writes less than 256 ^ its length
pub little_lt : (s : List ℕ) → ((i : ℕ) → get_or s i 0 < 256) → little s < 256 ^ length s
unfolding little
little_lt [] h = lit< tt
little_lt (x ∷ s) h =
    let e = pow-suc 256 (length s) in
    let ih = little_lt s (λ i. h (suc i)) in
    let hx = h 0 in
    omega arith

-- the bytes of what they write
pub bytes_little : (s : List ℕ) → ((i : ℕ) → get_or s i 0 < 256) → little_bytes (length s) (little s) ≡ s
unfolding little little_bytes
bytes_little [] h = refl
bytes_little (x ∷ s) h =
    let hx : x < 256 = h 0 in
    let lo : (x + 256 * little s) % 256 ≡ x = omega arith in
    let hi : (x + 256 * little s) / 256 ≡ little s = omega arith in
    rw (lo, hi) (ap (λ (t : List ℕ). x ∷ t) (bytes_little s (λ i. h (suc i))))

pub bytes_little_padded : (k : ℕ) (s : List ℕ) → ((i : ℕ) → get_or s i 0 < 256) → little_bytes k (little (padded k s)) ≡ padded k s
bytes_little_padded k s h =
    ap (λ (n : ℕ). little_bytes n (little (padded k s))) (sym (length_padded k s)) ∙ bytes_little (padded k s) (padded_lt k s h)

-- ---- a number as it is read, byte after byte

pub from_padded : (k i : ℕ) (s : List ℕ) → from i k (at s) ≡ padded k (drop i s)
unfolding padded
from_padded zero i s = refl
from_padded (suc k) i s = ap (λ (t : List ℕ). get_or s i 0 ∷ t) (from_padded k (suc i) s ∙ ap (λ (n : ℕ). padded k (drop n s)) (sym (add-one i))) ∙ sym (padded_from k i s)

-- ---- parts of a padded string

pub padded_padded : (j k : ℕ) (s : List ℕ) → j ≤ k → padded j (padded k s) ≡ padded j s
unfolding padded
padded_padded zero k s h = refl
padded_padded (suc j) zero s h = absurd (not-suc-le-zero h)
padded_padded (suc j) (suc k) [] h = ap (λ (t : List ℕ). 0 ∷ t) (padded_padded j k [] (le_of_suc-le-suc h))
padded_padded (suc j) (suc k) (x ∷ s) h = ap (λ (t : List ℕ). x ∷ t) (padded_padded j k s (le_of_suc-le-suc h))

pub get_d_padded : (k : ℕ) (s : List ℕ) (i : ℕ) → i < k → get_or (padded k s) i 0 ≡ get_or s i 0
unfolding padded
get_d_padded zero s i h = absurd (not-suc-le-zero h)
get_d_padded (suc k) [] zero h = refl
get_d_padded (suc k) [] (suc i) h = get_d_padded k [] i (le_of_suc-le-suc h)
get_d_padded (suc k) (x ∷ s) zero h = refl
get_d_padded (suc k) (x ∷ s) (suc i) h = get_d_padded k s i (le_of_suc-le-suc h)

pub drop_padded : (j k : ℕ) (s : List ℕ) → drop j (padded (j + k) s) ≡ padded k (drop j s)
unfolding padded
drop_padded zero k s = ap (λ (n : ℕ). padded n s) (zero-add k)
drop_padded (suc j) k [] = rw (suc-add j k) (drop_padded j k [] ∙ ap (padded k) (drop-nil j))
drop_padded (suc j) k (x ∷ s) = rw (suc-add j k) (drop_padded j k s)
