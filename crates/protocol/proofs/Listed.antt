-- The state's arrays as lists: the listed records, and the points.
-- Assumes nothing.
use Prim.Native.Nat.{ℕ, zero, suc, ◌+◌, ◌-◌, ◌≤◌, ◌<◌}
use mathlib.Core.Path.{◌≡◌, refl, ap, ◌∙◌}
use mathlib.Core.Bool.{Bool, true, false, cond, ◌&&◌}
use mathlib.Core.List.{List, [], ◌∷◌, ◌++◌, map}
use native.Mathlib.Omega.{arith}
use lib.Dec.{leb}
use lib.ListN.{set, length, take, length-append, length-replicate, length-map, replicate}
use lib.Seq.{take-append_seam}
use borrow.Author.Tests.{leb-false}
use Rattle.octets.specs.Lists.{at, from, tab}
use Rattle.protocol.specs.States.{listed, points_max, no_point}
use Rattle.protocol.specs.Point.{Mark, marks_to, marks_of, journal_of}
use Rattle.protocol.specs.Checkpoint.{covered_point, covered_points}
use Rattle.protocol.specs.Truncate.{points_of, points_above, dropped_to}
use Rattle.protocol.specs.declared.Point.{Point}
use Rattle.protocol.specs.declared.Points.{Points}

pub upto_length : (n : ℕ) (ps ls : List ℕ) → n ≤ length ps → n ≤ length ls → length (marks_to n ps ls) ≡ n
unfolding marks_to
upto_length zero ps ls h k = refl
upto_length (suc n) [] ls h k = absurd (omega arith)
upto_length (suc n) (p ∷ ps) [] h k = absurd (omega arith)
upto_length (suc n) (p ∷ ps) (l ∷ ls) h k = ap suc (upto_length n ps ls (omega arith) (omega arith))

-- one more listed record
pub upto_set : (n : ℕ) (ps ls : List ℕ) (p l : ℕ) → n < length ps → n < length ls → marks_to (suc n) (set ps n p) (set ls n l) ≡ marks_to n ps ls ++ (record { position = p; lane = l } ∷ [])
unfolding marks_to
upto_set n [] ls p l h k = absurd (omega arith)
upto_set n (q ∷ ps) [] p l h k = absurd (omega arith)
upto_set zero (q ∷ ps) (i ∷ ls) p l h k = refl
upto_set (suc n) (q ∷ ps) (i ∷ ls) p l h k = ap (λ (r : List Mark). record { position = q; lane = i } ∷ r) (upto_set n ps ls p l (omega arith) (omega arith))

upto_map : (ms : List Mark) (a b : List ℕ) → marks_to (length ms) (map (λ m. m.position) ms ++ a) (map (λ m. m.lane) ms ++ b) ≡ ms
unfolding marks_to
upto_map [] a b = refl
upto_map (m ∷ ms) a b = ap (λ (r : List Mark). m ∷ r) (upto_map ms a b)

pub marks_journal : (ms : List Mark) (u : Bool) (k : ℕ) → marks_of (journal_of ms u k) ≡ ms
unfolding journal_of marks_of
marks_journal ms u k = upto_map ms _ _

pub journal_lengths : (ms : List Mark) (u : Bool) (k : ℕ) → length ms ≤ listed → (length (journal_of ms u k).positions ≡ listed) × (length (journal_of ms u k).lanes ≡ listed) × ((journal_of ms u k).count ≡ length ms)
unfolding journal_of
journal_lengths ms u k h = (size (λ m. m.position), size (λ m. m.lane), refl)
  where
    size : (f : Mark → ℕ) → length (map f ms ++ replicate (listed - length ms) 0) ≡ listed
    size f = let a = length-append (map f ms) (replicate (listed - length ms) 0) in let b = length-map ms f in let c = length-replicate {A = ℕ} (listed - length ms) 0 in omega arith

-- the points above a position, as they are held
pub dropped_points : (p : Points) (position : ℕ) → points_of (dropped_to p position) ≡ points_above position (points_of p)
unfolding points_of dropped_to
dropped_points p position = take-append_seam (points_above position (take p.count p.items)) _

pub dropped_length : (p : Points) (position : ℕ) → length (points_above position (points_of p)) ≤ points_max → length (dropped_to p position).items ≡ points_max
unfolding dropped_to
dropped_length p position h =
    let ps = points_above position (points_of p) in
    let a = length-append ps (replicate (points_max - length ps) no_point) in
    let c = length-replicate {A = Point} (points_max - length ps) no_point in
    omega arith

-- the points after a checkpoint
pub take_map : {A B : Type 0} (f : A → B) (n : ℕ) (xs : List A) → take n (map f xs) ≡ map f (take n xs)
take_map f zero xs = refl
take_map f (suc n) [] = refl
take_map {B = B} f (suc n) (x ∷ xs) = ap {B = List B} (λ r. f x ∷ r) (take_map f n xs)

pub covered_points_law : (p : Points) → points_of (covered_points p) ≡ map covered_point (points_of p)
unfolding points_of covered_points
covered_points_law p = take_map covered_point p.count p.items

-- a list by an index function
pub length_from_tab : (i n : ℕ) (f : ℕ → ℕ) → length (from i n f) ≡ n
length_from_tab i zero f = refl
length_from_tab i (suc n) f = ap suc (length_from_tab (suc i) n f)

pub length_tab : (n : ℕ) (f : ℕ → ℕ) → length (tab n f) ≡ n
length_tab n f = length_from_tab 0 n f

at_from : (i n : ℕ) (f : ℕ → ℕ) (l : ℕ) → l < n → at (from i n f) l ≡ f (i + l)
at_from i zero f l h = absurd (omega arith)
at_from i (suc n) f zero h = ap f (let z : i ≡ i + 0 = omega arith in z)
at_from i (suc n) f (suc l) h = at_from (suc i) n f l (omega arith) ∙ ap f (let z : suc i + l ≡ i + suc l = omega arith in z)

pub at_tab : (n : ℕ) (f : ℕ → ℕ) (l : ℕ) → l < n → at (tab n f) l ≡ f l
at_tab n f l h = at_from 0 n f l h ∙ ap f (let z : 0 + l ≡ l = omega arith in z)

-- one more at the end
pub map_snoc : {A B : Type 0} (f : A → B) (xs : List A) (x : A) → map f (xs ++ (x ∷ [])) ≡ map f xs ++ (f x ∷ [])
map_snoc f [] x = refl
map_snoc {B = B} f (y ∷ ys) x = ap {B = List B} (λ r. f y ∷ r) (map_snoc f ys x)

-- an optional greatest position, as one more or 0
pub flag_false : (b : Bool) (pos k : ℕ) → (b && leb pos k) ≡ false → cond b (suc k) 0 ≤ pos
flag_false true pos k e = leb-false pos k e
flag_false false pos k e = omega arith
