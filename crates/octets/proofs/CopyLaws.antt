-- Copies over the start of a string.
-- Assumes nothing.
use mathlib.Core.Path.{◌≡◌, refl, sym, ap, ◌∙◌}
use mathlib.Core.List.{List, [], ◌∷◌, ◌++◌, append-nil}
use Prim.Native.Nat.{ℕ, zero, suc, ◌+◌, ◌<◌, ◌≤◌, min}
use native.Mathlib.Nat.{not-suc-le-zero, le_of_suc-le-suc}
use native.Mathlib.Numerals.{add-one}
use native.Mathlib.Omega.{arith}
use lib.Bits.{bit_xor}
use lib.ListN.{length, get_or, take, drop, set, replicate, length-append, length-take, length-drop, drop_of_length-le}
use Rattle.std.proofs.Common.{inl, inr}
use Rattle.std.proofs.lemmas.Bool.{cases_lt}
use lib.Seq.{length-take-le, take_all, take-nil}
use Rattle.octets.specs.Lists.{put_over, over}
use Rattle.octets.specs.Bytes.{padded, xor_bytes}

-- d after a loop that has copied i bytes of s
unfoldable pub copied_to : ℕ → List ℕ → List ℕ → List ℕ
copied_to zero s d = d
copied_to (suc i) [] d = d
copied_to (suc i) (x ∷ s) [] = []
copied_to (suc i) (x ∷ s) (y ∷ d) = x ∷ copied_to i s d

pub copy_more : (i : ℕ) (s d : List ℕ) → i < length s → i < length d → set (copied_to i s d) i (get_or s i 0) ≡ copied_to (i + 1) s d
unfolding copied_to
copy_more i [] d h g = absurd (not-suc-le-zero h)
copy_more i (x ∷ s) [] h g = absurd (not-suc-le-zero g)
copy_more zero (x ∷ s) (y ∷ d) h g = refl
copy_more (suc i) (x ∷ s) (y ∷ d) h g =
    rw (add-one (suc i)) (ap (λ (l : List ℕ). x ∷ l) (copy_more i s d (le_of_suc-le-suc h) (le_of_suc-le-suc g) ∙ ap (λ (k : ℕ). copied_to k s d) (add-one i)))

pub length_copied : (i : ℕ) (s d : List ℕ) → length (copied_to i s d) ≡ length d
unfolding copied_to
length_copied zero s d = refl
length_copied (suc i) [] d = refl
length_copied (suc i) (x ∷ s) [] = refl
length_copied (suc i) (x ∷ s) (y ∷ d) = ap suc (length_copied i s d)

pub over_none : (d : List ℕ) → over [] d ≡ d
unfolding over
over_none d = ap (λ (l : List ℕ). put_over l d) (take-nil (length d))

-- all of it, or all there is room for
pub copied_all : (i : ℕ) (s d : List ℕ) → length s ≤ i → copied_to i s d ≡ over s d
unfolding copied_to over
copied_all zero [] d h = sym (over_none d)
copied_all zero (x ∷ s) d h = absurd (not-suc-le-zero h)
copied_all (suc i) [] d h = sym (over_none d)
copied_all (suc i) (x ∷ s) [] h = refl
copied_all (suc i) (x ∷ s) (y ∷ d) h = ap (λ (l : List ℕ). x ∷ l) (copied_all i s d (le_of_suc-le-suc h))

pub copied_full : (i : ℕ) (s d : List ℕ) → length d ≤ i → copied_to i s d ≡ over s d
unfolding copied_to over
copied_full zero s [] h = refl
copied_full zero s (y ∷ d) h = absurd (not-suc-le-zero h)
copied_full (suc i) [] d h = sym (over_none d)
copied_full (suc i) (x ∷ s) [] h = refl
copied_full (suc i) (x ∷ s) (y ∷ d) h = ap (λ (l : List ℕ). x ∷ l) (copied_full i s d (le_of_suc-le-suc h))

-- as many bytes as the shorter of both has
pub copied_shorter : (s d : List ℕ) (n : ℕ) → n ≡ min (length s) (length d) → copied_to n s d ≡ over s d
copied_shorter s d n e =
    elim (cases_lt (length s) (length d)) [
      | inl h ↦ copied_all n s d (omega arith)
      | inr h ↦ copied_full n s d (omega arith)
    ]

pub length_over : (s d : List ℕ) → length (over s d) ≡ length d
unfolding over
length_over s d = length-append (take (length d) s) (drop (length (take (length d) s)) d) ∙ simp (length-take, length-drop) (omega arith)

-- where there is room for all of it
pub over_room : (s d : List ℕ) → length s ≤ length d → over s d ≡ put_over s d
unfolding over
over_room s d h = ap (λ (l : List ℕ). put_over l d) (take_all (length d) s h)

-- where there is room for just that
pub over_whole : (s d : List ℕ) → length s ≡ length d → over s d ≡ s
over_whole s d e =
    over_room s d (omega arith) ∙ ap (λ (l : List ℕ). s ++ l) (drop_of_length-le d {i = length s} (omega arith)) ∙ append-nil s

-- the sum of a string, padded to the length of k, and k, copied over the string
pub over_xor : (n : ℕ) (s k : List ℕ) → length k ≡ n → over (xor_bytes (padded n s) k) s ≡ xor_bytes (take n s) k ++ drop n s
unfolding over xor_bytes padded
over_xor zero s [] e = over_none s
over_xor zero s (y ∷ k) e = let z : 0 < zero = omega (arith, e) in absurd (not-suc-le-zero z)
over_xor (suc n) s [] e = let z : 0 < zero = omega (arith, e) in absurd (not-suc-le-zero z)
over_xor (suc n) [] (y ∷ k) e = refl
over_xor (suc n) (x ∷ s) (y ∷ k) e = ap (λ (l : List ℕ). bit_xor x y ∷ l) (over_xor n s k (omega (arith, e)))

-- zeros behind a short string are its padding
pub over_zeros : (n : ℕ) (s : List ℕ) → padded n (over s (replicate n 0)) ≡ padded n s
unfolding over padded
over_zeros zero s = refl
over_zeros (suc n) [] = ap (λ (l : List ℕ). 0 ∷ l) (ap (padded n) (sym (over_none (replicate n 0))) ∙ over_zeros n [])
over_zeros (suc n) (x ∷ s) = ap (λ (l : List ℕ). x ∷ l) (over_zeros n s)

-- the shorter length of both, copied
pub over_shorter : (s d : List ℕ) (n : ℕ) → n ≡ min (length s) (length d) → take n s ++ drop n d ≡ over s d
unfolding over
over_shorter s d n e =
    elim (cases_lt (length s) (length d)) [
      | inl h ↦
          let en : n ≡ length s = omega arith in
          ap (λ (k : ℕ). take k s ++ drop k d) en
          ∙ ap (λ (l : List ℕ). l ++ drop (length s) d) (take_all (length s) s (omega arith))
          ∙ sym (over_room s d (omega arith))
      | inr h ↦
          let en : n ≡ length d = omega arith in
          ap (λ (k : ℕ). take k s ++ drop k d) en ∙ ap (λ (k : ℕ). take (length d) s ++ drop k d) (sym (length-take-le (length d) s h))
    ]
