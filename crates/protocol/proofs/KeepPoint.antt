-- Point keeps the invariant: its counts are what lies below it, and all of that is visible.
-- Assumes nothing.
use Prim.Native.Nat.{ℕ, suc, ◌+◌, ◌-◌, ◌*◌, ◌≤◌, ◌<◌, pred}
use mathlib.Core.Path.{◌≡◌, refl, sym, ap, subst, subst₃, ◌∙◌}
use mathlib.Core.Bool.{Bool, true, false, cond, ◌&&◌}
use mathlib.Core.Option.{none}
use mathlib.Core.Logic.{◌⊎◌, inl, inr}
use mathlib.Core.List.Memᴰ
use mathlib.Core.List.{List, [], ◌∷◌, ◌++◌, map, Memᴰ}
use native.Mathlib.Omega.{arith}
use native.Mathlib.Decide.{dec_lt}
use lib.Dec.{leb, ltb}
use lib.ListN.{length, length-set, length-append, length-map, get_or-eq_default}
use lib.Seq.{take-suc-set, length-take-le}
use borrow.Author.Tests.{ltb-false, leb-false, lt-ltb}
use Rattle.octets.specs.Lists.{at, tab}
use Rattle.octets.proofs.BoolLaws.{or_left, or_right}
use Rattle.table.specs.Table.{lanes}
use Rattle.table.proofs.OrderLaws.{clash}
use Rattle.protocol.specs.States.{listed, points_max}
use Rattle.protocol.specs.Point.{Mark, marks_of, marks_from, lane_count, unseen_below, journal_of, counts_at, point_at, points_more, pointed, point}
use Rattle.protocol.specs.Truncate.{points_of}
use Rattle.protocol.specs.declared.Point.{Point}
use Rattle.protocol.specs.declared.State.{State}
use Rattle.protocol.specs.declared.Phase.TheVariants as F
use Rattle.protocol.specs.declared.Due.TheVariants as D
use Rattle.protocol.specs.declared.Store.TheVariants as S
use Rattle.protocol.proofs.Card.{Spot, spots_from, Consec, cnt, cnt_from, length_from, from_from, rising_from, consec_from, base_from}
use Rattle.protocol.proofs.Listed.{journal_lengths, marks_journal, at_tab, length_tab, flag_false}
use Rattle.protocol.proofs.Invariant.{Durable, quiet, Durably, Service, Serving, PointOk, Crowd, Ascending, LinkedAt, Good, GoodAnswer, At, mark_of, floor_of, next_of}
use Rattle.protocol.proofs.KeepRecover.{good_refuse}
use Rattle.protocol.proofs.Phases.{link_quiet, when_ready}

marks_from_law : (p : ℕ) (xs : List Spot) → marks_from p (map mark_of xs) ≡ map mark_of (spots_from p xs)
unfolding marks_from spots_from
marks_from_law p [] = refl
marks_from_law p (x ∷ xs) = go (leb p x.position) (marks_from_law p xs)
  where
    go : (b : Bool) → marks_from p (map mark_of xs) ≡ map mark_of (spots_from p xs) → cond b (mark_of x ∷ marks_from p (map mark_of xs)) (marks_from p (map mark_of xs)) ≡ map mark_of (cond b (x ∷ spots_from p xs) (spots_from p xs))
    go true ih = ap (λ (r : List Mark). mark_of x ∷ r) ih
    go false ih = ih

pub count_map : (l : ℕ) (xs : List Spot) → lane_count l (map mark_of xs) ≡ cnt l xs
unfolding lane_count cnt
count_map l [] = refl
count_map l (x ∷ xs) = rw (count_map l xs)

all_seen : (p : ℕ) (w v : List ℕ) (xs : List Spot) → Consec (at w) xs → unseen_below p w v (map mark_of xs) ≡ false → (y : Spot) → Memᴰ y xs → y.position < p → y.rec.number ≤ at v y.rec.lane
unfolding unseen_below
all_seen p w v [] k e y m h = absurd (Memᴰ.not-nil m)
all_seen p w v (x ∷ xs) k e y m h =
    let t : Bool = ltb x.position p && ltb (at v x.rec.lane) (at w x.rec.lane - lane_count x.rec.lane (map mark_of xs)) in
    go (Memᴰ.cases_cons m) (or_left t (unseen_below p w v (map mark_of xs)) e) (λ n. all_seen p w v xs k.1 (or_right t (unseen_below p w v (map mark_of xs)) e) y n h)
  where
    both : (a b : Bool) → a ≡ true → (a && b) ≡ false → b ≡ false
    both true b e f = f
    both false b e f = clash (sym e)

    first : x.position < p → (ltb x.position p && ltb (at v x.rec.lane) (at w x.rec.lane - lane_count x.rec.lane (map mark_of xs))) ≡ false → x.rec.number ≤ at v x.rec.lane
    first h e = let q = ltb-false (at v x.rec.lane) (at w x.rec.lane - lane_count x.rec.lane (map mark_of xs)) (both (ltb x.position p) _ (lt-ltb x.position p h) e) in
        let z = count_map x.rec.lane xs in let n = k.0 in omega arith

    go : (y ≡ x) ⊎ Memᴰ y xs → (ltb x.position p && ltb (at v x.rec.lane) (at w x.rec.lane - lane_count x.rec.lane (map mark_of xs))) ≡ false → (Memᴰ y xs → y.rec.number ≤ at v y.rec.lane) → y.rec.number ≤ at v y.rec.lane
    go (inl q) e ih = rw q (first (rw q at h) e)
    go (inr n) e ih = ih n

ascend_snoc : (ps : List Point) (p : Point) → ((q : Point) → Memᴰ q ps → q.position < p.position) → Ascending ps → Ascending (ps ++ (p ∷ []))
ascend_snoc [] p h a = (λ q m. absurd (Memᴰ.not-nil m), tt)
ascend_snoc (o ∷ ps) p h a = (λ q m. go q (Memᴰ.append_cases ps m), ascend_snoc ps p (λ q m. h q (Memᴰ.tail m)) a.1)
  where
    go : (q : Point) → Memᴰ q ps ⊎ Memᴰ q (p ∷ []) → o.position < q.position
    go q (inl m) = a.0 q m
    go q (inr m) = let e = ap (λ (x : Point). x.position) (Memᴰ.eq_of_singleton m) in let z = h o (Memᴰ.head refl) in omega arith

-- a new point: 128 more at most between it and the one before
crowd_snoc : (cs : List Spot) (m m' : ℕ) (ps : List Point) (p : Point) → m ≤ listed → length (spots_from p.position cs) ≤ m' → Crowd cs m ps → Crowd cs m' (ps ++ (p ∷ []))
crowd_snoc cs m m' [] p h l k = (let z : length (spots_from p.position cs) ≤ listed * 0 + m' = omega arith in z, tt)
crowd_snoc cs m m' (q ∷ ps) p h l k = (let a = k.0 in let b = length-append ps (p ∷ []) in omega arith, crowd_snoc cs m m' ps p h l k.1)

next_journal : (ms : List Mark) (u : Bool) (k : ℕ) → next_of (journal_of ms u k) ≡ cond u (suc k) 0
unfolding journal_of
next_journal ms u k = refl

-- a point counts the numbers handed out less those of the records at or above it
counts_in : (c : State) (pos l : ℕ) → l < lanes → at (point_at c pos).counts l ≡ at c.vault.w l - lane_count l (marks_from pos (marks_of c.journal))
unfolding point_at counts_at
counts_in c pos l h = at_tab lanes (λ k. at c.vault.w k - lane_count k (marks_from pos (marks_of c.journal))) l h

counts_out : (c : State) (pos l : ℕ) → lanes ≤ l → at (point_at c pos).counts l ≡ 0
unfolding point_at counts_at
counts_out c pos l h =
    let f : ℕ → ℕ = λ k. at c.vault.w k - lane_count k (marks_from pos (marks_of c.journal)) in
    let k = length_tab lanes f in
    get_or-eq_default (tab lanes f) 0 (let z : length (tab lanes f) ≤ l = omega arith in z)

module _ (key : List ℕ) where
  point_good : (c : State) (d : Durable) (pos : ℕ) → Durably (At c d) → c.phase ≡ F.Serving → c.due ≡ D.Nothing → Service key c (At c d) D.Nothing → floor_of c.points ≤ pos → c.points.count < points_max
      → unseen_below pos c.vault.w c.vault.v (marks_of c.journal) ≡ false → Good key (pointed c pos) S.Nothing [] none (At c d) quiet
  unfolding pointed points_more point_at points_of
  point_good c d pos i e du s fl ei un =
      let sv = s.common in
      let cs = d.spots in
      let w = c.vault.w in
      let lo : List Spot = spots_from (pred (floor_of c.points)) cs in
      let pp : pred (suc pos) ≡ pos = omega arith in
      let ff : spots_from pos lo ≡ spots_from pos cs = from_from (pred (floor_of c.points)) pos cs (omega arith) in
      let ms : marks_from pos (marks_of c.journal) ≡ map mark_of (spots_from pos cs) = ap (marks_from pos) sv.marked ∙ marks_from_law pos lo ∙ ap (map mark_of) ff in
      let lm : length (marks_from pos (marks_of c.journal)) ≡ length (spots_from pos cs) = ap length ms ∙ length-map (spots_from pos cs) mark_of in
      let l0 : length (marks_of c.journal) ≡ length lo = ap length sv.marked ∙ length-map lo mark_of in
      let le : length (spots_from pos lo) ≤ length lo = length_from pos lo in
      let le2 : length (spots_from pos lo) ≡ length (spots_from pos cs) = ap length ff in
      let lc = consec_from (at w) (pred (floor_of c.points)) cs sv.rising sv.consec in
      let sn = all_seen pos w c.vault.v lo lc (subst (λ (m : List Mark). unseen_below pos w c.vault.v m ≡ false) sv.marked un) in
      let ba : (l : ℕ) → at w l ≤ at c.vault.v l + cnt l (spots_from pos cs) = λ l. subst (λ (x : List Spot). at w l ≤ at c.vault.v l + cnt l x) ff
      (base_from (at w) (at c.vault.v) pos lo l (rising_from (pred (floor_of c.points)) cs sv.rising) lc sn (sv.base l)) in
      let ex : (l : ℕ) → at (point_at c pos).counts l + cnt l (spots_from pos cs) ≡ at w l = λ l. count l (dec_lt l lanes) (ap (lane_count l) ms ∙ count_map l (spots_from pos cs)) in
      let p : Point = point_at c pos in
      let pe : spots_from (pred (suc pos)) cs ≡ spots_from pos cs = ap (λ (k : ℕ). spots_from k cs) pp in
      let ar = s.arrays in
      let ps = points_of c.points in
      let few' : length (marks_from pos (marks_of c.journal)) ≤ listed = let a = sv.few in omega arith in
      let lg = journal_lengths (marks_from pos (marks_of c.journal)) c.journal.used c.journal.last few' in
      let mk : marks_of (pointed c pos).journal ≡ marks_from pos (marks_of c.journal) = marks_journal (marks_from pos (marks_of c.journal)) c.journal.used c.journal.last in
      let pk : points_of (pointed c pos).points ≡ ps ++ (p ∷ []) = take-suc-set c.points.items c.points.count p (omega (arith, ar.ilen)) in
      let nx : next_of (pointed c pos).journal ≡ next_of c.journal = next_journal (marks_from pos (marks_of c.journal)) c.journal.used c.journal.last in
      let pl : length ps ≡ c.points.count = length-take-le c.points.count c.points.items (omega (arith, ar.ilen)) in
      record {
        puts = tt;
        rises = tt;
        met = tt;
        now = i;
        then = i;
        link = link_quiet key c (pointed c pos) _ e du refl refl refl (record {
          key_is = s.key_is;
          arrays = record { plen = lg.0; llen = lg.1; ilen = length-set c.points.items c.points.count p ∙ ar.ilen; fewer = let z = lg.2 in omega arith; eighth = ei };
          table = s.table;
          clean = s.clean;
          common = subst₃ (λ (m : List Mark) (q : List Point) (n : ℕ). Serving w c.vault.v c.vault.r c.vault.s m q (suc pos) n d.book d.files cs) (sym mk) (sym pk) (sym nx) (record {
            order = sv.order;
            some_s = sv.some_s;
            consec = sv.consec;
            rising = sv.rising;
            under = sv.under;
            marked = ms ∙ ap (map mark_of) (sym pe);
            few = few';
            base = λ l. subst (λ (x : List Spot). at w l ≤ at c.vault.v l + cnt l x) (sym pe) (ba l);
            pointed = λ q m. which q (record { exact = ex; visible = λ l. let a = ex l in let b = ba l in omega arith; covers = λ h. clash (sym h); under = omega arith }) (Memᴰ.append_cases ps m);
            ascending = ascend_snoc ps p (λ q m. let a = (sv.pointed q m).under in omega arith) sv.ascending;
            crowd = crowd_snoc cs (length (marks_of c.journal)) (length (marks_from pos (marks_of c.journal))) ps p sv.few (omega arith) sv.crowd;
            total = let a = sv.total in let b = sv.few in let k = length-append ps (p ∷ []) in omega arith;
            eight = let k = length-append ps (p ∷ []) in omega arith;
          });
          stored = s.stored;
        });
      }
    where
      count : (l : ℕ) → Dec (l < lanes) → lane_count l (marks_from pos (marks_of c.journal)) ≡ cnt l (spots_from pos d.spots) → at (point_at c pos).counts l + cnt l (spots_from pos d.spots) ≡ at c.vault.w l
      count l (yes h) q =
          let b = counts_in c pos l h in
          let x = s.stored.1 l in
          let y = cnt_from l pos d.spots in omega arith
      count l (no h) q =
          let a = counts_out c pos l (omega arith) in
          let b : at c.vault.w l ≡ 0 = get_or-eq_default c.vault.w 0 (let z : length c.vault.w ≤ l = omega (arith, i.lanes.wlen) in z) in
          let x = s.stored.1 l in
          let y = cnt_from l pos d.spots in omega arith

      which : (q : Point) → PointOk c.vault.w c.vault.v c.vault.s (suc pos) d.book d.files d.spots (point_at c pos)
          → Memᴰ q (points_of c.points) ⊎ Memᴰ q (point_at c pos ∷ []) → PointOk c.vault.w c.vault.v c.vault.s (suc pos) d.book d.files d.spots q
      which q new (inl m) = let o = s.common.pointed q m in record { exact = o.exact; visible = o.visible; covers = o.covers; under = let a = o.under in omega arith }
      which q new (inr m) = rw (Memᴰ.eq_of_singleton m) new

  pub keep_point : (c : State) (d : Durable) (pos : ℕ) → Durably (At c d) → LinkedAt key c (At c d) c.phase c.due → GoodAnswer key (At c d) none (point c pos)
  unfolding point
  keep_point c d pos i k =
      good_refuse key _ none _ c 1 [] _ (λ r. let s = when_ready key c (At c d) k r in
      good_refuse key _ none (c.points.any && leb pos c.points.newest) c 6 [] _ (λ f.
      good_refuse key _ none (leb points_max c.points.count) c 7 [] _ (λ n.
      good_refuse key _ none (unseen_below pos c.vault.w c.vault.v (marks_of c.journal)) c 15 [] _ (λ u.
      (quiet, point_good c d pos i s.0 s.1 s.2 (flag_false c.points.any pos c.points.newest f) (leb-false points_max c.points.count n) u)))))
