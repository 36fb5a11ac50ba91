-- The card's records: in order of position, and in each lane with numbers that go up by one to a top. A lane is counted from the end: the number
-- of a record and the count of the records of its lane behind it come to the lane's top. So what is known of a lane, after a record more at the
-- end or without those below a position, is arithmetic. The card's bytes are those of such a list, each record sealed.
-- Assumes nothing.
use Prim.Native.Nat.{ℕ, suc, ◌+◌, ◌≤◌, ◌<◌}
use mathlib.Core.Path.{◌≡◌, refl, sym, ap, subst, ◌∙◌}
use mathlib.Core.Bool.{Bool, true, false, cond}
use mathlib.Core.Logic.{◌⊎◌, inl, inr, ◌≢◌}
use mathlib.Core.List.Memᴰ
use mathlib.Core.List.{List, [], ◌∷◌, ◌++◌, map, Memᴰ}
use native.Mathlib.Omega.{arith}
use native.Mathlib.Decide.{ℕ_discrete}
use lib.Dec.{leb, eqb}
use lib.ListN.{length}
use borrow.Author.Tests.{leb-true, leb-false, eq-eqb, ne_eqb, le-leb}
use Rattle.sealed.specs.Record.{Opened}
use Rattle.protocol.specs.History.{Placed, placed_from, insert_placed, in_order, end_to_end}
use Rattle.protocol.proofs.Basis.{bytes_of}
use Rattle.protocol.proofs.LaidLaws.{laid_out}

-- a record at its position on the card
pub record Spot : Type 0 where
  pub position : ℕ
  pub rec : Opened

-- the records at or above a position
unfoldable pub spots_from : ℕ → List Spot → List Spot
spots_from p [] = []
spots_from p (x ∷ xs) = cond (leb p x.position) (x ∷ spots_from p xs) (spots_from p xs)

-- ---- counting a lane

-- how many records of a lane
unfoldable pub cnt : ℕ → List Spot → ℕ
cnt l [] = 0
cnt l (x ∷ xs) = cond (eqb x.rec.lane l) (suc (cnt l xs)) (cnt l xs)

pub cnt_same : (l : ℕ) (x : Spot) (xs : List Spot) → x.rec.lane ≡ l → cnt l (x ∷ xs) ≡ suc (cnt l xs)
unfolding cnt
cnt_same l x xs e = rw (eq-eqb x.rec.lane l e)

pub cnt_other : (l : ℕ) (x : Spot) (xs : List Spot) → x.rec.lane ≢ l → cnt l (x ∷ xs) ≡ cnt l xs
unfolding cnt
cnt_other l x xs e = rw (ne_eqb x.rec.lane l e)

-- a top for each lane: the last record of lane l bears number c l, the one before c l - 1, and so on
abbrev pub Consec : (ℕ → ℕ) → List Spot → Type 0
Consec c [] = Unit {0}
Consec c (x ∷ xs) = (x.rec.number + cnt x.rec.lane xs ≡ c x.rec.lane) × Consec c xs

-- each position is above those before it
abbrev pub Rising : List Spot → Type 0
Rising [] = Unit {0}
Rising (x ∷ xs) = ((y : Spot) → Memᴰ y xs → x.position < y.position) × Rising xs

-- ---- a record more at the end

cnt_snoc_go : (l : ℕ) (xs : List Spot) (x : Spot) → cnt l (xs ++ (x ∷ [])) ≡ cnt l xs + cnt l (x ∷ [])
unfolding cnt
cnt_snoc_go l [] x = omega arith
cnt_snoc_go l (y ∷ ys) x = let ih = cnt_snoc_go l ys x in go (eqb y.rec.lane l) ih
  where
    go : (b : Bool) → cnt l (ys ++ (x ∷ [])) ≡ cnt l ys + cnt l (x ∷ []) → cond b (suc (cnt l (ys ++ (x ∷ [])))) (cnt l (ys ++ (x ∷ []))) ≡ cond b (suc (cnt l ys)) (cnt l ys) + cnt l (x ∷ [])
    go true ih = let z : suc (cnt l (ys ++ (x ∷ []))) ≡ suc (cnt l ys) + cnt l (x ∷ []) = omega arith in z
    go false ih = ih

pub cnt_snoc_same : (xs : List Spot) (x : Spot) → cnt x.rec.lane (xs ++ (x ∷ [])) ≡ suc (cnt x.rec.lane xs)
unfolding cnt
cnt_snoc_same xs x = let z = cnt_snoc_go x.rec.lane xs x in let y = cnt_same x.rec.lane x [] refl in omega arith

pub cnt_snoc_other : (l : ℕ) (xs : List Spot) (x : Spot) → x.rec.lane ≢ l → cnt l (xs ++ (x ∷ [])) ≡ cnt l xs
unfolding cnt
cnt_snoc_other l xs x h = let z = cnt_snoc_go l xs x in let y = cnt_other l x [] h in omega arith

-- a record more takes its lane's top up by one
pub consec_snoc : (c d : ℕ → ℕ) (xs : List Spot) (x : Spot) → d x.rec.lane ≡ suc (c x.rec.lane) → ((l : ℕ) → l ≢ x.rec.lane → d l ≡ c l) → x.rec.number ≡ d x.rec.lane
    → Consec c xs → Consec d (xs ++ (x ∷ []))
unfolding cnt
consec_snoc c d [] x e o n k = (let z : x.rec.number + 0 ≡ d x.rec.lane = omega arith in z, tt)
consec_snoc c d (y ∷ ys) x e o n k = (go (ℕ_discrete y.rec.lane x.rec.lane) k.0, consec_snoc c d ys x e o n k.1)
  where
    go : Dec (y.rec.lane ≡ x.rec.lane) → y.rec.number + cnt y.rec.lane ys ≡ c y.rec.lane → y.rec.number + cnt y.rec.lane (ys ++ (x ∷ [])) ≡ d y.rec.lane
    go (yes p) q = let z : cnt y.rec.lane (ys ++ (x ∷ [])) ≡ suc (cnt y.rec.lane ys) = subst (λ (l : ℕ). cnt l (ys ++ (x ∷ [])) ≡ suc (cnt l ys)) (sym p) (cnt_snoc_same ys x) in
        let u : d y.rec.lane ≡ suc (c y.rec.lane) = subst (λ (l : ℕ). d l ≡ suc (c l)) (sym p) e in omega arith
    go (no p) q = let z = cnt_snoc_other y.rec.lane ys x (λ r. p (sym r)) in let u = o y.rec.lane p in omega arith

-- tops that are equal lane by lane
pub consec_ext : (c d : ℕ → ℕ) (xs : List Spot) → ((l : ℕ) → c l ≡ d l) → Consec c xs → Consec d xs
consec_ext c d [] e k = tt
consec_ext c d (x ∷ xs) e k = (k.0 ∙ e x.rec.lane, consec_ext c d xs e k.1)

pub rising_snoc : (xs : List Spot) (x : Spot) → ((y : Spot) → Memᴰ y xs → y.position < x.position) → Rising xs → Rising (xs ++ (x ∷ []))
rising_snoc [] x h r = (λ y m. absurd (Memᴰ.not-nil m), tt)
rising_snoc (y ∷ ys) x h r = (λ z m. go z (Memᴰ.append_cases ys m), rising_snoc ys x (λ z m. h z (Memᴰ.tail m)) r.1)
  where
    go : (z : Spot) → Memᴰ z ys ⊎ Memᴰ z (x ∷ []) → y.position < z.position
    go z (inl m) = r.0 z m
    go z (inr m) = let e = ap (λ (q : Spot). q.position) (Memᴰ.eq_of_singleton m) in let p = h y (Memᴰ.head refl) in omega arith

-- ---- at or above a position

-- the first record is kept or left
pub data Cut (p : ℕ) (x : Spot) (xs : List Spot) : Type 0 where
  kept : spots_from p (x ∷ xs) ≡ x ∷ spots_from p xs → p ≤ x.position → Cut p x xs
  left : spots_from p (x ∷ xs) ≡ spots_from p xs → x.position < p → Cut p x xs

pub cut_at : (p : ℕ) (x : Spot) (xs : List Spot) → Cut p x xs
unfolding spots_from
cut_at p x xs = go (leb p x.position) refl
  where
    go : (b : Bool) → leb p x.position ≡ b → Cut p x xs
    go true e = kept (rw e) (leb-true p x.position e)
    go false e = left (rw e) (leb-false p x.position e)

pub from_nil : (p : ℕ) → spots_from p [] ≡ []
unfolding spots_from
from_nil p = refl

-- where all records are, nothing changes
pub from_all : (p : ℕ) (xs : List Spot) → ((y : Spot) → Memᴰ y xs → p ≤ y.position) → spots_from p xs ≡ xs
from_all p [] h = from_nil p
from_all p (x ∷ xs) h = go (cut_at p x xs) (from_all p xs (λ y m. h y (Memᴰ.tail m)))
  where
    go : Cut p x xs → spots_from p xs ≡ xs → spots_from p (x ∷ xs) ≡ x ∷ xs
    go (kept e l) ih = e ∙ ap (λ (r : List Spot). x ∷ r) ih
    go (left e l) ih = let z = h x (Memᴰ.head refl) in absurd (omega arith)

-- the higher of two positions counts
pub from_from : (p q : ℕ) (xs : List Spot) → p ≤ q → spots_from q (spots_from p xs) ≡ spots_from q xs
from_from p q [] h = rw (from_nil p)
from_from p q (x ∷ xs) h = go (cut_at p x xs) (cut_at q x xs) (cut_at q x (spots_from p xs)) (from_from p q xs h)
  where
    go : Cut p x xs → Cut q x xs → Cut q x (spots_from p xs) → spots_from q (spots_from p xs) ≡ spots_from q xs → spots_from q (spots_from p (x ∷ xs)) ≡ spots_from q (x ∷ xs)
    go (kept e a) (kept f b) (kept g c) ih = rw (e, g, f, ih)
    go (kept e a) (left f b) (left g c) ih = rw (e, g, f, ih)
    go (kept e a) (kept f b) (left g c) ih = absurd (omega arith)
    go (kept e a) (left f b) (kept g c) ih = absurd (omega arith)
    go (left e a) (kept f b) w ih = absurd (omega arith)
    go (left e a) (left f b) w ih = rw (e, f, ih)

pub cnt_from : (l p : ℕ) (xs : List Spot) → cnt l (spots_from p xs) ≤ cnt l xs
cnt_from l p [] = rw (from_nil p) (omega arith)
cnt_from l p (x ∷ xs) = go (cut_at p x xs) (ℕ_discrete x.rec.lane l) (cnt_from l p xs)
  where
    go : Cut p x xs → Dec (x.rec.lane ≡ l) → cnt l (spots_from p xs) ≤ cnt l xs → cnt l (spots_from p (x ∷ xs)) ≤ cnt l (x ∷ xs)
    go (kept e a) (yes d) ih = rw (e, cnt_same l x xs d, cnt_same l x (spots_from p xs) d) (omega arith)
    go (kept e a) (no d) ih = rw (e, cnt_other l x xs d, cnt_other l x (spots_from p xs) d) ih
    go (left e a) (yes d) ih = rw (e, cnt_same l x xs d) (omega arith)
    go (left e a) (no d) ih = rw (e, cnt_other l x xs d) ih

pub length_from : (p : ℕ) (xs : List Spot) → length (spots_from p xs) ≤ length xs
length_from p [] = rw (from_nil p) (omega arith)
length_from p (x ∷ xs) = go (cut_at p x xs) (length_from p xs)
  where
    go : Cut p x xs → length (spots_from p xs) ≤ length xs → length (spots_from p (x ∷ xs)) ≤ suc (length xs)
    go (kept e a) ih = rw e (omega arith)
    go (left e a) ih = rw e (omega arith)

-- what is kept was there, and is not below
pub mem_from : (p : ℕ) (xs : List Spot) (y : Spot) → Memᴰ y (spots_from p xs) → Memᴰ y xs × (p ≤ y.position)
mem_from p [] y m = absurd (Memᴰ.not-nil (rw from_nil at m))
mem_from p (x ∷ xs) y m = go (cut_at p x xs) (λ k. mem_from p xs y k)
  where
    first : p ≤ x.position → (Memᴰ y (spots_from p xs) → Memᴰ y xs × (p ≤ y.position)) → (y ≡ x) ⊎ Memᴰ y (spots_from p xs) → Memᴰ y (x ∷ xs) × (p ≤ y.position)
    first a ih (inl e) = (Memᴰ.head e, let z = ap (λ (q : Spot). q.position) e in omega arith)
    first a ih (inr k) = (Memᴰ.tail (ih k).0, (ih k).1)

    go : Cut p x xs → (Memᴰ y (spots_from p xs) → Memᴰ y xs × (p ≤ y.position)) → Memᴰ y (x ∷ xs) × (p ≤ y.position)
    go (kept e a) ih = first a ih (Memᴰ.cases_cons (rw e at m))
    go (left e a) ih = let k = ih (rw e at m) in (Memᴰ.tail k.0, k.1)

pub rising_from : (p : ℕ) (xs : List Spot) → Rising xs → Rising (spots_from p xs)
rising_from p [] r = rw (from_nil p) tt
rising_from p (x ∷ xs) r = go (cut_at p x xs) (rising_from p xs r.1)
  where
    go : Cut p x xs → Rising (spots_from p xs) → Rising (spots_from p (x ∷ xs))
    go (kept e a) ih = rw e (λ y m. r.0 y (mem_from p xs y m).0, ih)
    go (left e a) ih = rw e ih

-- from the first record at or above a position on, all are
pub rest_from : (p : ℕ) (x : Spot) (xs : List Spot) → Rising (x ∷ xs) → p ≤ x.position → spots_from p xs ≡ xs
rest_from p x xs r h = from_all p xs (λ y m. let z = r.0 y m in omega arith)

pub consec_from : (c : ℕ → ℕ) (p : ℕ) (xs : List Spot) → Rising xs → Consec c xs → Consec c (spots_from p xs)
consec_from c p [] r k = rw (from_nil p) tt
consec_from c p (x ∷ xs) r k = go (cut_at p x xs) (consec_from c p xs r.1 k.1)
  where
    go : Cut p x xs → Consec c (spots_from p xs) → Consec c (spots_from p (x ∷ xs))
    go (kept e a) ih = rw (e, rest_from p x xs r a) k
    go (left e a) ih = rw e ih

-- a record more, at or above the position
pub from_snoc : (p : ℕ) (xs : List Spot) (x : Spot) → p ≤ x.position → spots_from p (xs ++ (x ∷ [])) ≡ spots_from p xs ++ (x ∷ [])
from_snoc p [] x h = from_all p (x ∷ []) (λ y m. let e = ap (λ (q : Spot). q.position) (Memᴰ.eq_of_singleton m) in omega arith) ∙ rw (from_nil p)
from_snoc p (y ∷ ys) x h = go (cut_at p y ys) (cut_at p y (ys ++ (x ∷ []))) (from_snoc p ys x h)
  where
    go : Cut p y ys → Cut p y (ys ++ (x ∷ [])) → spots_from p (ys ++ (x ∷ [])) ≡ spots_from p ys ++ (x ∷ []) → spots_from p (y ∷ ys ++ (x ∷ [])) ≡ spots_from p (y ∷ ys) ++ (x ∷ [])
    go (kept e a) (kept f b) ih = rw (e, f, ih)
    go (left e a) (left f b) ih = rw (e, f, ih)
    go (kept e a) (left f b) ih = absurd (omega arith)
    go (left e a) (kept f b) ih = absurd (omega arith)

-- where all below the position is visible, what a point counts is visible
pub base_from : (w : ℕ → ℕ) (v : ℕ → ℕ) (p : ℕ) (xs : List Spot) (l : ℕ) → Rising xs → Consec w xs → ((y : Spot) → Memᴰ y xs → y.position < p → y.rec.number ≤ v y.rec.lane)
    → w l ≤ v l + cnt l xs → w l ≤ v l + cnt l (spots_from p xs)
base_from w v p [] l r k s h = rw (from_nil p) h
base_from w v p (x ∷ xs) l r k s h = go (cut_at p x xs) (ℕ_discrete x.rec.lane l) (base_from w v p xs l r.1 k.1 (λ y m. s y (Memᴰ.tail m)))
  where
    go : Cut p x xs → Dec (x.rec.lane ≡ l) → (w l ≤ v l + cnt l xs → w l ≤ v l + cnt l (spots_from p xs)) → w l ≤ v l + cnt l (spots_from p (x ∷ xs))
    go (kept e a) d ih = rw (e, rest_from p x xs r a) h
    go (left e a) (no d) ih = let z = cnt_other l x xs d in rw e (ih (omega arith))
    go (left e a) (yes d) ih = let n = s x (Memᴰ.head refl) a in let q = k.0 in
        let z : x.rec.number + cnt l xs ≡ w l = subst (λ (i : ℕ). x.rec.number + cnt i xs ≡ w i) d q in
        let u : x.rec.number ≤ v l = subst (λ (i : ℕ). x.rec.number ≤ v i) d n in rw e (ih (omega arith))

-- ---- the card's bytes

-- the records without their positions
abbrev pub recs_of : List Spot → List Opened
recs_of xs = map (λ (s : Spot). s.rec) xs

-- each of them stands somewhere on the card
pub mem_recs : (xs : List Spot) (r : Opened) → Memᴰ r (recs_of xs) → (s : Spot) × Memᴰ s xs × (r ≡ s.rec)
mem_recs [] r m = absurd (Memᴰ.not-nil m)
mem_recs (x ∷ xs) r m = go (Memᴰ.cases_cons m) (λ k. mem_recs xs r k)
  where
    go : (r ≡ x.rec) ⊎ Memᴰ r (recs_of xs) → (Memᴰ r (recs_of xs) → (s : Spot) × Memᴰ s xs × (r ≡ s.rec)) → (s : Spot) × Memᴰ s (x ∷ xs) × (r ≡ s.rec)
    go (inl e) ih = (x, Memᴰ.head refl, e)
    go (inr k) ih = let z = ih k in (z.0, Memᴰ.tail z.1, z.2)

module _ (key : List ℕ) where
  -- as the card holds it: the position, and the sealed bytes
  abbrev pub placed_of : Spot → Placed
  placed_of s = record { position = s.position; bytes = bytes_of key s.rec }

  -- the card's records at or above a position are those of the list
  pub placed_from_law : (p : ℕ) (xs : List Spot) → placed_from p (map placed_of xs) ≡ map placed_of (spots_from p xs)
  unfolding placed_from spots_from
  placed_from_law p [] = refl
  placed_from_law p (x ∷ xs) = go (leb p x.position) (placed_from_law p xs)
    where
      go : (b : Bool) → placed_from p (map placed_of xs) ≡ map placed_of (spots_from p xs)
          → cond b (placed_of x ∷ placed_from p (map placed_of xs)) (placed_from p (map placed_of xs)) ≡ map placed_of (cond b (x ∷ spots_from p xs) (spots_from p xs))
      go true ih = ap (λ (r : List Placed). placed_of x ∷ r) ih
      go false ih = ih

  -- records that rise are in order
  insert_first : (x : Spot) (xs : List Spot) → ((y : Spot) → Memᴰ y xs → x.position < y.position) → insert_placed (placed_of x) (map placed_of xs) ≡ placed_of x ∷ map placed_of xs
  unfolding insert_placed
  insert_first x [] h = refl
  insert_first x (y ∷ ys) h =
      let p = h y (Memᴰ.head refl) in
      let q : leb x.position y.position ≡ true = le-leb x.position y.position (omega arith) in
      rw q

  pub in_order_law : (xs : List Spot) → Rising xs → in_order (map placed_of xs) ≡ map placed_of xs
  unfolding in_order
  in_order_law [] h = refl
  in_order_law (x ∷ xs) h = rw (in_order_law xs h.1) (insert_first x xs h.0)

  -- end to end, they are the records laid out
  pub end_to_end_law : (xs : List Spot) → end_to_end (map placed_of xs) ≡ laid_out key (recs_of xs)
  unfolding end_to_end laid_out
  end_to_end_law [] = refl
  end_to_end_law (x ∷ xs) = ap (λ (r : List ℕ). bytes_of key x.rec ++ r) (end_to_end_law xs)
