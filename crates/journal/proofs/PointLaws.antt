-- The points kept: one found, all of them covered, those above a position.
-- Assumes nothing.
use Prim.Native.Nat.{ℕ, zero, suc, ◌+◌, ◌-◌, ◌≤◌, ◌<◌}
use mathlib.Core.Path.{◌≡◌, refl, sym, ap, subst, ◌∙◌}
use mathlib.Core.Bool.{Bool, true, false, cond}
use mathlib.Core.List.{List, [], ◌∷◌, ◌++◌, map, append-nil}
use Rattle.std.specs.Prelude.{Option, Some, eqb}
use Rattle.std.specs.List.{find}
use Rattle.std.proofs.Math.ListN.{get_or-map}
use native.Mathlib.Numerals.{add-one}
use native.Mathlib.Omega.{arith}
use borrow.Author.Tests.{lt-ltb, le-ltb}
use lib.Dec.{ltb}
use lib.ListN.{length, get_or, set, take, replicate, length-append, length-map}
use lib.Seq.{ext_get_or, take-suc, take-length}
use Rattle.protocol.specs.States.{points_max, no_point}
use Rattle.protocol.specs.Truncate.{points_of, find_point, points_above, dropped_to}
use Rattle.protocol.specs.declared.Point.{Point}
use Rattle.protocol.specs.declared.Points.{Points}
use Rattle.journal.proofs.LaidLaws.{fill_more}

-- ---- the points kept

module _ {A : Type 0} where
  take_of : (k : ℕ) (l : List A) → take (length (take k l)) l ≡ take k l
  take_of zero l = refl
  take_of (suc k) [] = refl
  take_of (suc k) (x ∷ l) = ap (λ (r : List A). x ∷ r) (take_of k l)

pub kept_first : (p : Points) {n : ℕ} → n ≡ length (points_of p) → take n p.items ≡ points_of p
unfolding points_of
kept_first p e = ap (λ (k : ℕ). take k p.items) e ∙ take_of p.count p.items

pub found_is : (position : ℕ) (ps : List Point) → find (λ q. eqb q.position position) ps ≡ find_point position ps
unfolding find_point
found_is position [] = refl
found_is position (p ∷ ps) = ap (λ (o : Option Point). cond (eqb p.position position) (Some p) o) (found_is position ps)

-- an array of what f makes of each
pub mapped : {A : Type 0} (f : A → A) (xs ys : List A) (d : A) → length ys ≡ length xs → ((i : ℕ) → i < length xs → get_or ys i (f d) ≡ f (get_or xs i d)) → ys ≡ map f xs
mapped f xs ys d n e = ext_get_or (f d) ys (map f xs) (n ∙ sym (length-map xs f)) (λ i h. e i (omega (arith, n)) ∙ sym (get_or-map f xs i d))

-- ---- those above a position

-- the array and the count hold these points
pub record Kept (ps : List Point) (items : List Point) (count : ℕ) : Type 0 where
  pub items_are : items ≡ ps ++ replicate (points_max - length ps) no_point
  pub count_is : count ≡ length ps

above_append : (p : ℕ) (xs ys : List Point) → points_above p (xs ++ ys) ≡ points_above p xs ++ points_above p ys
unfolding points_above
above_append p [] ys = refl
above_append p (x ∷ xs) ys = go (ltb p x.position) (above_append p xs ys)
  where
    go : (b : Bool) → points_above p (xs ++ ys) ≡ points_above p xs ++ points_above p ys → cond b (x ∷ points_above p (xs ++ ys)) (points_above p (xs ++ ys)) ≡ cond b (x ∷ points_above p xs) (points_above p xs) ++ points_above p ys
    go true e = ap (λ (r : List Point). x ∷ r) e
    go false e = e

kept_snoc : (ps : List Point) (q : Point) {items : List Point} {count : ℕ} → count < points_max → Kept ps items count → Kept (ps ++ (q ∷ [])) (set items count q) (count + 1)
kept_snoc ps q {count = count} r k =
    let room : length ps < points_max = let e = k.count_is in omega arith in
    let n : length (ps ++ (q ∷ [])) ≡ suc (length ps) = length-append ps (q ∷ []) ∙ add-one (length ps) in
    record {
      items_are = rw (k.items_are, k.count_is, n) (fill_more points_max (length ps) ps q no_point refl room);
      count_is = ap (λ (m : ℕ). m + 1) k.count_is ∙ sym (length-append ps (q ∷ []));
    }

pub kept_none : (p : ℕ) (l : List Point) {none : Point} → none ≡ no_point → Kept (points_above p (take 0 l)) (replicate points_max none) 0
unfolding points_above
kept_none p l e = record { items_are = ap (replicate points_max) e; count_is = refl }

module _ (p : ℕ) (l : List Point) (i : ℕ) (d : Point) {items : List Point} {count : ℕ} (h : i < length l) (k : Kept (points_above p (take i l)) items count) where
  next : points_above p (take (i + 1) l) ≡ points_above p (take i l) ++ points_above p (get_or l i d ∷ [])
  next = ap (λ (j : ℕ). points_above p (take j l)) (add-one i) ∙ ap (points_above p) (take-suc l i d h) ∙ above_append p (take i l) (get_or l i d ∷ [])

  pub kept_in : count < points_max → p < (get_or l i d).position → Kept (points_above p (take (i + 1) l)) (set items count (get_or l i d)) (count + 1)
  unfolding points_above
  kept_in room q =
      let e = next ∙ ap (λ (t : Bool). points_above p (take i l) ++ cond t (get_or l i d ∷ []) []) (lt-ltb p (get_or l i d).position q) in
      subst (λ (ps : List Point). Kept ps (set items count (get_or l i d)) (count + 1)) (sym e) (kept_snoc (points_above p (take i l)) (get_or l i d) room k)

  pub kept_out : (get_or l i d).position ≤ p → Kept (points_above p (take (i + 1) l)) items count
  unfolding points_above
  kept_out q =
      let e = next ∙ ap (λ (t : Bool). points_above p (take i l) ++ cond t (get_or l i d ∷ []) []) (le-ltb p (get_or l i d).position q) ∙ append-nil (points_above p (take i l)) in
      subst (λ (ps : List Point). Kept ps items count) (sym e) k

pub kept_all : (p : Points) (position : ℕ) {l : List Point} {i : ℕ} {items : List Point} {count : ℕ} → l ≡ points_of p → i ≡ length l → Kept (points_above position (take i l)) items count
    → record { items = items; count = count; any = p.any; newest = p.newest } ≡ dropped_to p position
unfolding dropped_to
kept_all p position {l} {i} e f k =
    let t : take i l ≡ points_of p = ap (λ (j : ℕ). take j l) f ∙ take-length l ∙ e in
    rw (k.items_are, k.count_is, t)
