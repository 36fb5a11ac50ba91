-- The listed records by their places: those from a place on, those before it, and those of them at or above a position.
-- Assumes nothing.
use Prim.Native.Nat.{ℕ, zero, suc, ◌≤◌, ◌<◌, min}
use mathlib.Core.Path.{◌≡◌, refl, sym, ap, ◌∙◌}
use mathlib.Core.Bool.{Bool, true, false, cond}
use mathlib.Core.List.{List, [], ◌∷◌, ◌++◌, map, reverse, reverse-cons}
use native.Mathlib.Nat.{not-suc-le-zero, le_of_suc-le-suc}
use native.Mathlib.Omega.{arith}
use borrow.Author.Tests.{le-leb, lt-leb}
use lib.Dec.{leb}
use lib.ListN.{length, get_or, take}
use lib.Seq.{take-suc}
use Rattle.std.specs.List.{zip}
use Rattle.std.proofs.lemmas.List.{take_min}
use Rattle.octets.specs.Lists.{at}
use Rattle.protocol.specs.Point.{Mark, marks_to, marks_of, marks_from}
use Rattle.protocol.specs.declared.Journal.{Journal}
use Rattle.protocol.proofs.Listed.{map_snoc}

-- the record at a place
abbrev pub mark_at : Journal → ℕ → Mark
mark_at j i = record { position = at j.positions i; lane = at j.lanes i }

-- as many as the count says, and no more than there are places
pub length_marks : (n : ℕ) (ps ls : List ℕ) → length ls ≡ length ps → length (marks_to n ps ls) ≡ min n (length ps)
unfolding marks_to
length_marks zero ps ls e = omega arith
length_marks (suc n) [] ls e = omega arith
length_marks (suc n) (p ∷ ps) [] e = absurd (let z : 0 < zero = omega (arith, e) in not-suc-le-zero z)
length_marks (suc n) (p ∷ ps) (l ∷ ls) e = let k = length_marks n ps ls (omega (arith, e)) in omega (arith, k)

-- ---- the pairs of a position and a lane, which the chains go over

abbrev pub pair : Mark → ℕ × ℕ
pair m = (m.position, m.lane)

pairs_to : (n : ℕ) (ps ls : List ℕ) → length ls ≡ length ps → (map (λ m. m.position) (marks_to n ps ls) ≡ take n ps) × (map (λ m. m.lane) (marks_to n ps ls) ≡ take n ls)
unfolding marks_to
pairs_to zero ps ls e = (refl, refl)
pairs_to (suc n) [] [] e = (refl, refl)
pairs_to (suc n) [] (l ∷ ls) e = absurd (let z : 0 < zero = omega (arith, e) in not-suc-le-zero z)
pairs_to (suc n) (p ∷ ps) [] e = absurd (let z : 0 < zero = omega (arith, e) in not-suc-le-zero z)
pairs_to (suc n) (p ∷ ps) (l ∷ ls) e =
    let k = pairs_to n ps ls (omega (arith, e)) in
    (ap (λ (r : List ℕ). p ∷ r) k.0, ap (λ (r : List ℕ). l ∷ r) k.1)

zip_maps : (ms : List Mark) → zip (map (λ m. m.position) ms) (map (λ m. m.lane) ms) ≡ map pair ms
zip_maps [] = refl
zip_maps (m ∷ ms) = ap (λ (r : List (ℕ × ℕ)). pair m ∷ r) (zip_maps ms)

map_reverse : (f : Mark → ℕ) (ms : List Mark) → map f (reverse ms) ≡ reverse (map f ms)
map_reverse f [] = refl
map_reverse f (m ∷ ms) =
    ap (map f) (reverse-cons m ms) ∙ map_snoc f (reverse ms) m ∙ ap (λ (r : List ℕ). r ++ (f m ∷ [])) (map_reverse f ms) ∙ sym (reverse-cons (f m) (map f ms))

module _ (j : Journal) (same : length j.lanes ≡ length j.positions) {n : ℕ} (is : n ≡ length (marks_of j)) where
  firsts : take n j.positions ≡ map (λ m. m.position) (marks_of j)
  unfolding marks_of
  firsts = rw (is, length_marks j.count j.positions j.lanes same) (take_min j.count j.positions) ∙ sym (pairs_to j.count j.positions j.lanes same).0

  seconds : take n j.lanes ≡ map (λ m. m.lane) (marks_of j)
  unfolding marks_of
  seconds = rw (is, length_marks j.count j.positions j.lanes same, sym same) (take_min j.count j.lanes) ∙ sym (pairs_to j.count j.positions j.lanes same).1

  pub pairs_are : zip (take n j.positions) (take n j.lanes) ≡ map pair (marks_of j)
  pairs_are = rw (firsts, seconds) (zip_maps (marks_of j))

  pub pairs_back : zip (reverse (take n j.positions)) (reverse (take n j.lanes)) ≡ map pair (reverse (marks_of j))
  pairs_back = rw (firsts, seconds, sym (map_reverse (λ m. m.position) (marks_of j)), sym (map_reverse (λ m. m.lane) (marks_of j))) (zip_maps (reverse (marks_of j)))

at_marks : (n : ℕ) (ps ls : List ℕ) (i : ℕ) (d : Mark) → i < length (marks_to n ps ls) → get_or (marks_to n ps ls) i d ≡ record { position = at ps i; lane = at ls i }
unfolding marks_to
at_marks zero ps ls i d h = absurd (not-suc-le-zero h)
at_marks (suc n) [] ls i d h = absurd (not-suc-le-zero h)
at_marks (suc n) (p ∷ ps) [] i d h = absurd (not-suc-le-zero h)
at_marks (suc n) (p ∷ ps) (l ∷ ls) zero d h = refl
at_marks (suc n) (p ∷ ps) (l ∷ ls) (suc i) d h = at_marks n ps ls i d (le_of_suc-le-suc h)

module _ (j : Journal) where
  mark_is : (i : ℕ) → i < length (marks_of j) → get_or (marks_of j) i (mark_at j i) ≡ mark_at j i
  unfolding marks_of
  mark_is i h = at_marks j.count j.positions j.lanes i (mark_at j i) h

  -- a place further to the end
  pub before_more : (i : ℕ) → i < length (marks_of j) → take (suc i) (marks_of j) ≡ take i (marks_of j) ++ (mark_at j i ∷ [])
  before_more i l = take-suc (marks_of j) i (mark_at j i) l ∙ ap (λ (m : Mark). take i (marks_of j) ++ (m ∷ [])) (mark_is i l)

-- those at or above a position
pub from_in : (p : ℕ) (m : Mark) (ms : List Mark) → p ≤ m.position → marks_from p (m ∷ ms) ≡ m ∷ marks_from p ms
unfolding marks_from
from_in p m ms h = ap (λ (t : Bool). cond t (m ∷ marks_from p ms) (marks_from p ms)) (le-leb p m.position h)

pub from_out : (p : ℕ) (m : Mark) (ms : List Mark) → m.position < p → marks_from p (m ∷ ms) ≡ marks_from p ms
unfolding marks_from
from_out p m ms h = ap (λ (t : Bool). cond t (m ∷ marks_from p ms) (marks_from p ms)) (lt-leb p m.position h)

pub from_append : (p : ℕ) (xs ys : List Mark) → marks_from p (xs ++ ys) ≡ marks_from p xs ++ marks_from p ys
unfolding marks_from
from_append p [] ys = refl
from_append p (x ∷ xs) ys = go (leb p x.position) (from_append p xs ys)
  where
    go : (b : Bool) → marks_from p (xs ++ ys) ≡ marks_from p xs ++ marks_from p ys → cond b (x ∷ marks_from p (xs ++ ys)) (marks_from p (xs ++ ys)) ≡ cond b (x ∷ marks_from p xs) (marks_from p xs) ++ marks_from p ys
    go true e = ap (λ (r : List Mark). x ∷ r) e
    go false e = e
