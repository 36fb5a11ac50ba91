-- The listed records at or above a position, put one by one into arrays of zeros.
-- Assumes nothing.
use Prim.Native.Nat.{ℕ, suc, ◌+◌, ◌-◌, ◌≤◌, ◌<◌}
use mathlib.Core.Path.{◌≡◌, refl, sym, ap, subst, ◌∙◌}
use mathlib.Core.List.{List, [], ◌∷◌, ◌++◌, map, append_assoc, append-nil}
use native.Mathlib.Numerals.{add-one}
use native.Mathlib.Omega.{arith}
use lib.ListN.{length, take, set, replicate, length-map, length-append}
use lib.Seq.{set_at, take-length}
use Rattle.octets.specs.Lists.{at}
use Rattle.protocol.specs.States.{listed}
use Rattle.protocol.specs.Point.{Mark, marks_of, marks_from, journal_of}
use Rattle.protocol.specs.declared.Journal.{Journal}
use Rattle.protocol.proofs.Listed.{map_snoc}
use Rattle.journal.proofs.MarkLaws.{mark_at, before_more, from_in, from_out, from_append}

-- an array of them, with zeros behind
abbrev pub laid : (Mark → ℕ) → List Mark → List ℕ
laid f ms = map f ms ++ replicate (listed - length ms) 0

-- in an array with empty places behind, one more
pub fill_more : {A : Type 0} (m n : ℕ) (xs : List A) (x d : A) → length xs ≡ n → n < m → set (xs ++ replicate (m - n) d) n x ≡ (xs ++ (x ∷ [])) ++ replicate (m - suc n) d
fill_more {A} m n xs x d e h =
    let k : m - n ≡ suc (m - suc n) = omega arith in
    ap (λ (q : ℕ). set (xs ++ replicate q d) n x) k ∙ set_at xs d (replicate (m - suc n) d) x n e ∙ sym (append_assoc xs (x ∷ []) (replicate (m - suc n) d))

laid_more : (f : Mark → ℕ) (ms : List Mark) (m : Mark) → length ms < listed → set (laid f ms) (length ms) (f m) ≡ laid f (ms ++ (m ∷ []))
laid_more f ms m h =
    let n : length (ms ++ (m ∷ [])) ≡ suc (length ms) = length-append ms (m ∷ []) ∙ add-one (length ms) in
    fill_more listed (length ms) (map f ms) (f m) 0 (length-map ms f) h ∙ rw (map_snoc f ms m, n)

-- the arrays and the count hold these records
pub record Laid (ms : List Mark) (positions lanes : List ℕ) (count : ℕ) : Type 0 where
  pub positions_are : positions ≡ laid (λ m. m.position) ms
  pub lanes_are : lanes ≡ laid (λ m. m.lane) ms
  pub count_is : count ≡ length ms

-- a record more
laid_snoc : (ms : List Mark) (m : Mark) {positions lanes : List ℕ} {count : ℕ} → count < listed → Laid ms positions lanes count
    → Laid (ms ++ (m ∷ [])) (set positions count m.position) (set lanes count m.lane) (count + 1)
laid_snoc ms m {count = count} r l =
    let room : length ms < listed = let e = l.count_is in omega arith in
    record {
      positions_are = rw (l.positions_are, l.count_is) (laid_more (λ x. x.position) ms m room);
      lanes_are = rw (l.lanes_are, l.count_is) (laid_more (λ x. x.lane) ms m room);
      count_is = ap (λ (k : ℕ). k + 1) l.count_is ∙ sym (length-append ms (m ∷ []));
    }

module _ (p : ℕ) (j : Journal) {i : ℕ} {positions lanes : List ℕ} {count : ℕ} (h : i < length (marks_of j))
    (l : Laid (marks_from p (take i (marks_of j))) positions lanes count) where
  -- the next record
  next : marks_from p (take (i + 1) (marks_of j)) ≡ marks_from p (take i (marks_of j)) ++ marks_from p (mark_at j i ∷ [])
  next = ap (λ (k : ℕ). marks_from p (take k (marks_of j))) (add-one i) ∙ ap (marks_from p) (before_more j i h) ∙ from_append p (take i (marks_of j)) (mark_at j i ∷ [])

  pub laid_in : {place : ℕ} → place ≡ count → count < listed → p ≤ at j.positions i
      → Laid (marks_from p (take (i + 1) (marks_of j))) (set positions place (at j.positions i)) (set lanes count (at j.lanes i)) (count + 1)
  unfolding marks_from
  laid_in {place} k r q =
      let e = next ∙ ap (λ (ms : List Mark). marks_from p (take i (marks_of j)) ++ ms) (from_in p (mark_at j i) [] q) in
      rw k (subst (λ (ms : List Mark). Laid ms (set positions count (at j.positions i)) (set lanes count (at j.lanes i)) (count + 1)) (sym e) (laid_snoc (marks_from p (take i (marks_of j))) (mark_at j i) r l))

  pub laid_out_law : at j.positions i < p → Laid (marks_from p (take (i + 1) (marks_of j))) positions lanes count
  unfolding marks_from
  laid_out_law q =
      let e = next ∙ ap (λ (ms : List Mark). marks_from p (take i (marks_of j)) ++ ms) (from_out p (mark_at j i) [] q) ∙ append-nil (marks_from p (take i (marks_of j))) in
      subst (λ (ms : List Mark). Laid ms positions lanes count) (sym e) l

pub laid_none : (p : ℕ) (j : Journal) → Laid (marks_from p (take 0 (marks_of j))) (replicate listed 0) (replicate listed 0) 0
unfolding marks_from
laid_none p j = record { positions_are = refl; lanes_are = refl; count_is = refl }

pub laid_all : (p : ℕ) (j : Journal) {i : ℕ} {positions lanes : List ℕ} {count : ℕ} → i ≡ length (marks_of j) → Laid (marks_from p (take i (marks_of j))) positions lanes count
    → record { positions = positions; lanes = lanes; count = count; used = j.used; last = j.last } ≡ journal_of (marks_from p (marks_of j)) j.used j.last
unfolding journal_of
laid_all p j {i} e l =
    let t : take i (marks_of j) ≡ marks_of j = ap (λ (k : ℕ). take k (marks_of j)) e ∙ take-length (marks_of j) in
    rw (l.positions_are, l.lanes_are, l.count_is, t)
