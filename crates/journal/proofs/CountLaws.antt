-- The numbers of the lanes less the records of a list, and a record of it below a position that is not visible, from the end of the list to its front.
-- Assumes nothing.
use Prim.Native.Nat.{ℕ, suc, ◌-◌, ◌≤◌, ◌<◌}
use mathlib.Core.Path.{◌≡◌, refl, sym, ap, ap₂, ◌∙◌}
use mathlib.Core.Bool.{Bool, true, false, cond, ◌&&◌, ◌||◌}
use mathlib.Core.List.{List, [], ◌∷◌, map, reverse, reverse-cons}
use native.Mathlib.Decide.{dec_lt, ℕ_discrete}
use native.Mathlib.Omega.{arith}
use borrow.Author.Tests.{eq-eqb, ne_eqb}
use lib.Dec.{leb, ltb}
use Rattle.std.specs.List.{fold, filter}
use Rattle.std.proofs.lemmas.List.Sums.{fold-append}
use lib.ListN.{length, set, length-set, get_or-eq_default}
use lib.Seq.{ext_get_or, get_or-set_same, get_or-set_other}
use Rattle.octets.specs.Lists.{at}
use Rattle.table.specs.Table.{lanes}
use Rattle.protocol.specs.Point.{Mark, marks_from, lane_count, unseen_below, counts_at}
use Rattle.protocol.proofs.Listed.{length_tab, at_tab, map_snoc}
use Rattle.journal.proofs.MarkLaws.{pair}
use Rattle.journal.specs.Less.{one_less}

pub length_counts : (w : List ℕ) (ms : List Mark) → length (counts_at w ms) ≡ lanes
unfolding counts_at
length_counts w ms = length_tab lanes (λ lane. at w lane - lane_count lane ms)

at_counts : (w : List ℕ) (ms : List Mark) (l : ℕ) → l < lanes → at (counts_at w ms) l ≡ at w l - lane_count l ms
unfolding counts_at
at_counts w ms l h = at_tab lanes (λ lane. at w lane - lane_count lane ms) l h

-- at any lane
pub counts_lane : (w : List ℕ) (ms : List Mark) (l : ℕ) → length w ≡ lanes → at (counts_at w ms) l ≡ at w l - lane_count l ms
counts_lane w ms l e = go (dec_lt l lanes)
  where
    go : Dec (l < lanes) → at (counts_at w ms) l ≡ at w l - lane_count l ms
    go (yes h) = at_counts w ms l h
    go (no n) =
        let c = length_counts w ms in
        let h : lanes ≤ l = omega arith in
        let a = get_or-eq_default (counts_at w ms) 0 {n = l} (omega arith) in
        let b = get_or-eq_default w 0 {n = l} (omega arith) in
        omega arith

-- of no records
pub counts_none : (w : List ℕ) → length w ≡ lanes → w ≡ counts_at w []
unfolding lane_count
counts_none w e = ext_get_or 0 w (counts_at w []) (e ∙ sym (length_counts w [])) (λ i h. let z = counts_lane w [] i e in omega arith)

count_same : (l : ℕ) (m : Mark) (ms : List Mark) → m.lane ≡ l → lane_count l (m ∷ ms) ≡ suc (lane_count l ms)
unfolding lane_count
count_same l m ms e = ap (λ (t : Bool). cond t (suc (lane_count l ms)) (lane_count l ms)) (eq-eqb m.lane l e)

count_other : (l : ℕ) (m : Mark) (ms : List Mark) → (m.lane ≡ l → ⊥) → lane_count l (m ∷ ms) ≡ lane_count l ms
unfolding lane_count
count_other l m ms n = ap (λ (t : Bool). cond t (suc (lane_count l ms)) (lane_count l ms)) (ne_eqb m.lane l n)

-- of one record more at the front
pub counts_more : (w : List ℕ) (m : Mark) (ms : List Mark) → one_less (counts_at w ms) m.lane ≡ counts_at w (m ∷ ms)
unfolding one_less
counts_more w m ms = ext_get_or 0 _ _ (size ∙ sym (length_counts w (m ∷ ms))) (λ i h. each i (omega (arith, size)) (ℕ_discrete i m.lane))
  where
    down : ℕ
    down = at (counts_at w ms) m.lane - 1

    size : length (set (counts_at w ms) m.lane down) ≡ lanes
    size = length-set (counts_at w ms) m.lane down ∙ length_counts w ms

    each : (i : ℕ) → i < lanes → Dec (i ≡ m.lane) → at (set (counts_at w ms) m.lane down) i ≡ at (counts_at w (m ∷ ms)) i
    each i h (yes e) =
        let l : m.lane < lanes = omega arith in
        let a = get_or-set_same (counts_at w ms) m.lane down 0 (omega (arith, length_counts w ms)) in
        let b = at_counts w ms m.lane l in
        let d = at_counts w (m ∷ ms) m.lane l in
        let f = count_same m.lane m ms refl in
        rw e (a ∙ (let z : down ≡ at (counts_at w (m ∷ ms)) m.lane = omega arith in z))
    each i h (no n) =
        let a = get_or-set_other (counts_at w ms) m.lane i down 0 n in
        let b = at_counts w ms i h in
        let d = at_counts w (m ∷ ms) i h in
        let f = count_other i m ms (λ e. n (sym e)) in
        a ∙ b ∙ sym (d ∙ ap (λ (k : ℕ). at w i - k) f)

-- a record more at the front
pub unseen_more : (p : ℕ) (w v : List ℕ) (m : Mark) (ms : List Mark) → length w ≡ lanes
    → ((ltb m.position p && ltb (at v m.lane) (at (counts_at w ms) m.lane)) || unseen_below p w v ms) ≡ unseen_below p w v (m ∷ ms)
unfolding unseen_below
unseen_more p w v m ms e = ap (λ (k : ℕ). (ltb m.position p && ltb (at v m.lane) k) || unseen_below p w v ms) (counts_lane w ms m.lane e)

-- ---- the chains

-- of one record more, with that record taken off first
counts_front : (w : List ℕ) (m : Mark) (ms : List Mark) → length w ≡ lanes → counts_at (one_less w m.lane) ms ≡ counts_at w (m ∷ ms)
unfolding one_less
counts_front w m ms long = ext_get_or 0 _ _ (length_counts _ ms ∙ sym (length_counts w (m ∷ ms))) (λ i h. each i (omega (arith, length_counts (set w m.lane (at w m.lane - 1)) ms)) (ℕ_discrete i m.lane))
  where
    each : (i : ℕ) → i < lanes → Dec (i ≡ m.lane) → at (counts_at (set w m.lane (at w m.lane - 1)) ms) i ≡ at (counts_at w (m ∷ ms)) i
    each i h (yes e) =
        let l : m.lane < lanes = omega arith in
        let a = at_counts (set w m.lane (at w m.lane - 1)) ms m.lane l in
        let b = get_or-set_same w m.lane (at w m.lane - 1) 0 (omega arith) in
        let d = at_counts w (m ∷ ms) m.lane l in
        let f = count_same m.lane m ms refl in
        rw e (let z : at (counts_at (set w m.lane (at w m.lane - 1)) ms) m.lane ≡ at (counts_at w (m ∷ ms)) m.lane = omega arith in z)
    each i h (no n) =
        let a = at_counts (set w m.lane (at w m.lane - 1)) ms i h in
        let b = get_or-set_other w m.lane i (at w m.lane - 1) 0 n in
        let d = at_counts w (m ∷ ms) i h in
        let f = count_other i m ms (λ e. n (sym e)) in
        omega arith

-- the records at or above a position
pub from_filter : (p : ℕ) (ms : List Mark) → filter (λ m. leb p m.0) (map pair ms) ≡ map pair (marks_from p ms)
unfolding marks_from
from_filter p [] = refl
from_filter p (m ∷ ms) = go (leb p m.position) (from_filter p ms)
  where
    go : (b : Bool) → filter (λ k. leb p k.0) (map pair ms) ≡ map pair (marks_from p ms)
        → cond b (pair m ∷ filter (λ k. leb p k.0) (map pair ms)) (filter (λ k. leb p k.0) (map pair ms)) ≡ map pair (cond b (m ∷ marks_from p ms) (marks_from p ms))
    go true e = ap (λ (r : List (ℕ × ℕ)). pair m ∷ r) e
    go false e = e

-- each record is taken off
pub counts_fold : (left : List ℕ) (ms : List Mark) → length left ≡ lanes → fold one_less left (map (λ m. m.1) (map pair ms)) ≡ counts_at left ms
unfolding one_less
counts_fold left [] long = counts_none left long
counts_fold left (m ∷ ms) long = counts_fold (one_less left m.lane) ms (length-set left m.lane (at left m.lane - 1) ∙ long) ∙ counts_front left m ms long

-- what is left of the lanes' numbers, and whether a record so far is below p and not visible
abbrev pub looked_at : ℕ → List ℕ → List ℕ × Bool → ℕ × ℕ → List ℕ × Bool
looked_at p v s m = (one_less s.0 m.1, (ltb m.0 p && ltb (at v m.1) (at s.0 m.1)) || s.1)

pub unseen_fold : (p : ℕ) (w v : List ℕ) (ms : List Mark) → length w ≡ lanes → fold (looked_at p v) (w, false) (map pair (reverse ms)) ≡ (counts_at w ms, unseen_below p w v ms)
unfolding unseen_below
unseen_fold p w v [] long = ap (λ (l : List ℕ). (l, false)) (counts_none w long)
unseen_fold p w v (m ∷ ms) long =
    ap (λ (r : List (ℕ × ℕ)). fold (looked_at p v) (w, false) r) (ap (map pair) (reverse-cons m ms) ∙ map_snoc pair (reverse ms) m)
    ∙ fold-append (looked_at p v) (w, false) (map pair (reverse ms)) (pair m ∷ [])
    ∙ ap (λ (s : List ℕ × Bool). looked_at p v s (pair m)) (unseen_fold p w v ms long)
    ∙ ap₂ (λ (l : List ℕ) (b : Bool). (l, b)) (counts_more w m ms) (unseen_more p w v m ms long)
