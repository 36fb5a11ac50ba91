-- Numbers in decimal: a digit more, how long they are, and what they are read back as; and how the code writes them, and bytes before them, from the last digit on.
-- Assumes nothing.
use Prim.Native.Nat.{ℕ, zero, suc, ◌+◌, ◌-◌, ◌/◌, ◌%◌, ◌^◌, ◌<◌, ◌≤◌}
use mathlib.Core.Path.{◌≡◌, refl, sym, ap, ◌∙◌}
use mathlib.Core.Bool.{Bool, true, false}
use mathlib.Core.List.{List, [], ◌∷◌, ◌++◌, append_assoc}
use native.Mathlib.Nat.{not-suc-le-zero}
use native.Mathlib.Omega.{arith}
use lib.Dec.{ltb}
use lib.ListN.{length, take, drop, length-append, length-drop}
use lib.Seq.{drop_at, drop-drop, length-take-le}
use borrow.Rule.Slice.PartMut.{mid_of, put_mid}
use borrow.Author.Tests.{ltb-true, ltb-false, lt-ltb, le-ltb}
use Rattle.octets.specs.Lists.{over}
use Rattle.octets.proofs.CopyLaws.{over_room}
use Rattle.octets.proofs.PartLaws.{mid_rest, put_rest}
use Rattle.heat.specs.Numerals.{zero_byte, numeral_within, numeral}

-- ---- a digit more

within_digit : (k n : ℕ) → n < 10 → numeral_within (suc k) n ≡ (zero_byte + n) ∷ []
unfolding numeral_within
within_digit k n h = rw (lt-ltb n 10 h)

within_more : (k n : ℕ) → 10 ≤ n → numeral_within (suc k) n ≡ numeral_within k (n / 10) ++ ((zero_byte + n % 10) ∷ [])
unfolding numeral_within
within_more k n h = rw (le-ltb n 10 h)

within_same : (j k n : ℕ) → n < j → n < k → numeral_within j n ≡ numeral_within k n
within_same zero k n h g = absurd (not-suc-le-zero h)
within_same (suc j) zero n h g = absurd (not-suc-le-zero g)
within_same (suc j) (suc k) n h g = go (ltb n 10) refl (λ (l : 10 ≤ n). within_same j k (n / 10) (omega arith) (omega arith))
  where
    go : (b : Bool) → ltb n 10 ≡ b → (10 ≤ n → numeral_within j (n / 10) ≡ numeral_within k (n / 10)) → numeral_within (suc j) n ≡ numeral_within (suc k) n
    go true e same = let l = ltb-true n 10 e in within_digit j n l ∙ sym (within_digit k n l)
    go false e same = let l = ltb-false n 10 e in within_more j n l ∙ ap (λ (s : List ℕ). s ++ ((zero_byte + n % 10) ∷ [])) (same l) ∙ sym (within_more k n l)

pub numeral_digit : (n : ℕ) → n < 10 → numeral n ≡ (zero_byte + n) ∷ []
unfolding numeral
numeral_digit n h = within_digit n n h

pub numeral_more : (n : ℕ) → 10 ≤ n → numeral n ≡ numeral (n / 10) ++ ((zero_byte + n % 10) ∷ [])
unfolding numeral
numeral_more n h = within_more n n h ∙ ap (λ (s : List ℕ). s ++ ((zero_byte + n % 10) ∷ [])) (within_same n (suc (n / 10)) (n / 10) (omega arith) (omega arith))

-- ---- how long

pub length_digit : (n : ℕ) → n < 10 → length (numeral n) ≡ 1
length_digit n h = ap length (numeral_digit n h)

pub length_more : (n : ℕ) → 10 ≤ n → length (numeral n) ≡ length (numeral (n / 10)) + 1
length_more n h = ap length (numeral_more n h) ∙ length-append (numeral (n / 10)) ((zero_byte + n % 10) ∷ [])

-- a number below 10 ^ k has k digits at the most
pub length_numeral : (k n : ℕ) → n < 10 ^ suc k → length (numeral n) ≤ suc k
length_numeral zero n h = let a = length_digit n (omega arith) in omega arith
length_numeral (suc k) n h = go (ltb n 10) refl (length_numeral k (n / 10) (omega arith))
  where
    go : (b : Bool) → ltb n 10 ≡ b → length (numeral (n / 10)) ≤ suc k → length (numeral n) ≤ suc (suc k)
    go true e l = let a = length_digit n (ltb-true n 10 e) in omega arith
    go false e l = let a = length_more n (ltb-false n 10 e) in omega arith

-- ---- a digit before other bytes

-- the last digit of a number that has others, and the only one
pub digit_turn : (left : ℕ) (s : List ℕ) → 10 ≤ left → numeral (left / 10) ++ ((zero_byte + left % 10) ∷ s) ≡ numeral left ++ s
digit_turn left s h = sym (append_assoc (numeral (left / 10)) ((zero_byte + left % 10) ∷ []) s) ∙ ap (λ (t : List ℕ). t ++ s) (sym (numeral_more left h))

pub digit_last : (left : ℕ) (s : List ℕ) → left < 10 → (zero_byte + left) ∷ s ≡ numeral left ++ s
digit_last left s h = ap (λ (t : List ℕ). t ++ s) (sym (numeral_digit left h))

-- ---- other bytes before those from a place on

pub put_before : (from at' n : ℕ) (s bytes : List ℕ) {part : List ℕ} → at' + length s ≡ from → from ≤ n → length bytes ≡ n → part ≡ over s (mid_of at' (n - at') bytes)
    → drop at' (put_mid at' (n - at') bytes part) ≡ s ++ drop from bytes
put_before from at' n s bytes {part} e h long is =
    let rest = length-drop at' bytes in
    ap (λ (k : ℕ). drop at' (put_mid at' (k - at') bytes part)) (sym long)
    ∙ ap (drop at') (put_rest at' bytes part (omega arith))
    ∙ drop_at (take at' bytes) part at' (length-take-le at' bytes (omega arith))
    ∙ is
    ∙ ap (λ (k : ℕ). over s (mid_of at' (k - at') bytes)) (sym long)
    ∙ ap (over s) (mid_rest at' bytes)
    ∙ over_room s (drop at' bytes) (omega arith)
    ∙ ap (λ (t : List ℕ). s ++ t) (drop-drop (length s) at' bytes ∙ ap (λ (k : ℕ). drop k bytes) e)
