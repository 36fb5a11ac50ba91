-- Truncate keeps the invariant: a covered point's counts are in every file of version S, so that R may rise to them.
-- Assumes nothing.
use Prim.Native.Nat.{ℕ, suc, ◌+◌, ◌*◌, ◌≤◌, ◌<◌, pred}
use mathlib.Core.Path.{◌≡◌, refl, sym, ap, subst, ◌∙◌}
use mathlib.Core.Bool.{Bool, true, false, cond, not}
use mathlib.Core.Option.{none}
use Rattle.std.specs.Prelude.{Option, Some, None}
use mathlib.Core.Logic.{◌⊎◌, inl, inr}
use mathlib.Core.List.Memᴰ
use mathlib.Core.List.{List, [], ◌∷◌, ◌++◌, map, Memᴰ}
use native.Mathlib.Omega.{arith}
use native.Mathlib.Decide.{dec_lt}
use lib.Dec.{leb, ltb, eqb}
use lib.ListN.{set, length, get_or-eq_default}
use borrow.Author.Tests.{ltb-true, eqb-true, ltb-false, leb-false, not-false}
use Rattle.octets.specs.Lists.{at}
use Rattle.table.specs.Table.{lanes}
use Rattle.protocol.specs.Vaults.{set_r}
use Rattle.protocol.specs.States.{listed, with_vault, with_points}
use Rattle.protocol.specs.Steps.{put_r}
use Rattle.protocol.specs.Point.{marks_of}
use Rattle.protocol.specs.Truncate.{points_of, find_point, points_above, dropped_to, after_truncate_r, truncate_lane, uncovered, truncate_first, truncate_next, truncate_delete, truncate_step, truncate_due, truncate}
use Rattle.protocol.specs.declared.Point.{Point}
use Rattle.protocol.specs.declared.State.{State}
use Rattle.protocol.specs.declared.Phase.TheVariants as F
use Rattle.protocol.specs.declared.Due.{Due}
use Rattle.protocol.specs.declared.Due.TheVariants as D
use Rattle.protocol.specs.declared.TruncateStep.{TruncateStep}
use Rattle.protocol.specs.declared.TruncateStep.TheVariants as L
use Rattle.protocol.specs.declared.Store.TheVariants as S
use Rattle.protocol.proofs.Lanes.{Put, same, other, put}
use Rattle.protocol.proofs.Latest.{Full, upto_set}
use Rattle.protocol.proofs.Card.{Spot, spots_from, cnt, cnt_from, from_from, rising_from, consec_from, mem_from}
use Rattle.protocol.proofs.Listed.{dropped_points, dropped_length}
use Rattle.protocol.proofs.Invariant.{Durable, quiet, Durably, Arrays, Service, Serving, ServingAt, Crowd, Ascending, Cutting, LinkedAt, Good, GoodAnswer, At, mark_of, floor_of, next_of}
use Rattle.protocol.proofs.StoreLaws.{Up, up_set, lanes_r, book_r, files_r, card_r}
use Rattle.protocol.proofs.KeepRecover.{good_refuse, good_step}
use Rattle.protocol.proofs.Phases.{card_of, link_serving, when_serving}

-- what find_point found
pub found_in : (pos : ℕ) (ps : List Point) (p : Point) → find_point pos ps ≡ Some p → Memᴰ p ps × (p.position ≡ pos)
unfolding find_point
found_in pos [] p e = let z : ◌≡◌ {A = ℕ} 0 1 = cc in absurd (omega arith)
found_in pos (q ∷ ps) p e = go (eqb q.position pos) refl e (λ k. found_in pos ps p k)
  where
    go : (b : Bool) → eqb q.position pos ≡ b → cond b (Some q) (find_point pos ps) ≡ Some p → (find_point pos ps ≡ Some p → Memᴰ p ps × (p.position ≡ pos)) → Memᴰ p (q ∷ ps) × (p.position ≡ pos)
    go true t e ih = let z : p ≡ q = cc in (Memᴰ.head z, ap (λ (x : Point). x.position) z ∙ eqb-true q.position pos t)
    go false t e ih = let a = ih e in (Memᴰ.tail a.0, a.1)

data Above (pos : ℕ) (p : Point) (ps : List Point) : Type 0 where
  kept : points_above pos (p ∷ ps) ≡ p ∷ points_above pos ps → pos < p.position → Above pos p ps
  gone : points_above pos (p ∷ ps) ≡ points_above pos ps → p.position ≤ pos → Above pos p ps

above : (pos : ℕ) (p : Point) (ps : List Point) → Above pos p ps
unfolding points_above
above pos p ps = go (ltb pos p.position) refl
  where
    go : (b : Bool) → ltb pos p.position ≡ b → Above pos p ps
    go true e = kept (rw e) (ltb-true pos p.position e)
    go false e = gone (rw e) (ltb-false pos p.position e)

above_nil : (pos : ℕ) → points_above pos [] ≡ []
unfolding points_above
above_nil position = refl

above_all : (pos : ℕ) (ps : List Point) → ((q : Point) → Memᴰ q ps → pos < q.position) → points_above pos ps ≡ ps
above_all pos [] h = above_nil pos
above_all pos (p ∷ ps) h = go (above pos p ps) (above_all pos ps (λ q m. h q (Memᴰ.tail m)))
  where
    go : Above pos p ps → points_above pos ps ≡ ps → points_above pos (p ∷ ps) ≡ p ∷ ps
    go (kept e l) ih = e ∙ ap (λ (r : List Point). p ∷ r) ih
    go (gone e l) ih = let z = h p (Memᴰ.head refl) in absurd (omega arith)

pub above_mem : (pos : ℕ) (ps : List Point) (q : Point) → Memᴰ q (points_above pos ps) → Memᴰ q ps × (pos < q.position)
above_mem pos [] q m = absurd (Memᴰ.not-nil (rw above_nil at m))
above_mem pos (p ∷ ps) q m = go (above pos p ps) (λ k. above_mem pos ps q k)
  where
    first : pos < p.position → (Memᴰ q (points_above pos ps) → Memᴰ q ps × (pos < q.position)) → (q ≡ p) ⊎ Memᴰ q (points_above pos ps) → Memᴰ q (p ∷ ps) × (pos < q.position)
    first l ih (inl e) = (Memᴰ.head e, let z = ap (λ (x : Point). x.position) e in omega arith)
    first l ih (inr k) = (Memᴰ.tail (ih k).0, (ih k).1)

    go : Above pos p ps → (Memᴰ q (points_above pos ps) → Memᴰ q ps × (pos < q.position)) → Memᴰ q (p ∷ ps) × (pos < q.position)
    go (kept e l) ih = first l ih (Memᴰ.cases_cons (rw e at m))
    go (gone e l) ih = let a = ih (rw e at m) in (Memᴰ.tail a.0, a.1)

-- of points in order of position, those above one are the last
pub above_last : (pos : ℕ) (ps : List Point) → Ascending ps → (older : List Point) × (ps ≡ older ++ points_above pos ps) × ((q : Point) → Memᴰ q older → q.position ≤ pos)
above_last pos [] a = ([], sym (above_nil pos), λ q m. absurd (Memᴰ.not-nil m))
above_last pos (p ∷ ps) a = go (above pos p ps) (above_last pos ps a.1)
  where
    go : Above pos p ps → (older : List Point) × (ps ≡ older ++ points_above pos ps) × ((q : Point) → Memᴰ q older → q.position ≤ pos)
        → (older : List Point) × (p ∷ ps ≡ older ++ points_above pos (p ∷ ps)) × ((q : Point) → Memᴰ q older → q.position ≤ pos)
    go (kept e h) ih = ([], sym (e ∙ ap (λ (r : List Point). p ∷ r) (above_all pos ps (λ q m. let l = a.0 q m in omega arith))), λ q m. absurd (Memᴰ.not-nil m))
    go (gone e h) ih = (p ∷ ih.0, ap (λ (r : List Point). p ∷ r) ih.1 ∙ ap (λ (r : List Point). p ∷ (ih.0 ++ r)) (sym e), λ q m. both q (Memᴰ.cases_cons m))
      where
        both : (q : Point) → (q ≡ p) ⊎ Memᴰ q ih.0 → q.position ≤ pos
        both q (inl z) = rw z h
        both q (inr m) = ih.2 q m

above_length : (pos : ℕ) (ps : List Point) → length (points_above pos ps) ≤ length ps
above_length pos [] = rw (above_nil pos) (omega arith)
above_length pos (p ∷ ps) = go (above pos p ps) (above_length pos ps)
  where
    go : Above pos p ps → length (points_above pos ps) ≤ length ps → length (points_above pos (p ∷ ps)) ≤ suc (length ps)
    go (kept e l) ih = rw e (omega arith)
    go (gone e l) ih = rw e (omega arith)

above_ascend : (pos : ℕ) (ps : List Point) → Ascending ps → Ascending (points_above pos ps)
above_ascend pos [] a = rw (above_nil pos) tt
above_ascend pos (p ∷ ps) a = go (above pos p ps) (above_ascend pos ps a.1)
  where
    go : Above pos p ps → Ascending (points_above pos ps) → Ascending (points_above pos (p ∷ ps))
    go (kept e l) ih = rw e (λ q m. a.0 q (above_mem pos ps q m).0, ih)
    go (gone e l) ih = rw e ih

above_crowd : (cs : List Spot) (m pos : ℕ) (ps : List Point) → Ascending ps → Crowd cs m ps → Crowd (spots_from pos cs) m (points_above pos ps)
above_crowd cs m pos [] a k = rw (above_nil pos) tt
above_crowd cs m pos (p ∷ ps) a k = go (above pos p ps) (above_crowd cs m pos ps a.1 k.1)
  where
    go : Above pos p ps → Crowd (spots_from pos cs) m (points_above pos ps) → Crowd (spots_from pos cs) m (points_above pos (p ∷ ps))
    go (gone e l) ih = rw e ih
    go (kept e l) ih =
        let z = ap length (from_from pos p.position cs (omega arith)) in
        let y = ap length (above_all pos ps (λ q n. let x = a.0 q n in omega arith)) in
        let x = k.0 in
        rw e (let g : length (spots_from p.position (spots_from pos cs)) ≤ listed * length (points_above pos ps) + m = omega arith in g, ih)

-- what stands from a point on
above_total : (cs : List Spot) (m pos : ℕ) (ps : List Point) (p : Point) → Ascending ps → Crowd cs m ps → Memᴰ p ps → p.position ≡ pos → length (spots_from pos cs) ≤ listed * length (points_above pos ps) + m
above_total cs m pos [] p a k n e = absurd (Memᴰ.not-nil n)
above_total cs m pos (q ∷ ps) p a k n e = go (Memᴰ.cases_cons n) (above pos q ps) (λ i. above_total cs m pos ps p a.1 k.1 i e)
  where
    go : (p ≡ q) ⊎ Memᴰ p ps → Above pos q ps → (Memᴰ p ps → length (spots_from pos cs) ≤ listed * length (points_above pos ps) + m) → length (spots_from pos cs) ≤ listed * length (points_above pos (q ∷ ps)) + m
    go (inl f) (kept g l) ih = let z = ap (λ (x : Point). x.position) f in absurd (omega arith)
    go (inl f) (gone g l) ih =
        let z : q.position ≡ pos = sym (ap (λ (x : Point). x.position) f) ∙ e in
        let y = ap length (above_all pos ps (λ o n. let x = a.0 o n in omega arith)) in
        let x = k.0 in
        let v = ap (λ (i : ℕ). length (spots_from i cs)) z in
        let u = ap length g in omega arith
    go (inr i) (kept g l) ih = let z = a.0 p i in absurd (omega arith)
    go (inr i) (gone g l) ih = let u = ap length g in let t = ih i in omega arith

-- a point that is not turned down is covered
is_covered : (p : Point) → uncovered p ≡ false → p.covered ≡ true
unfolding uncovered
is_covered p e = not-false p.covered e

module _ (key : List ℕ) where
  -- behind R of lane j: the next lane, or the deletion
  cut_due : (c : State) (d : Durable) (j pos : ℕ) (b : Bool) → ltb (suc j) lanes ≡ b → j < lanes → c.key ≡ key → Arrays c.journal c.points → Full d.book c.table → d.begun ≡ none → ServingAt c d d.spots → Cutting c d (suc j) pos
      → Service key c d (D.Truncate pos (cond b (L.R (suc j)) L.Delete))
  cut_due c d j pos true e h ky ar t cl sv k = record { key_is = ky; arrays = ar; table = t; clean = cl; common = sv; stored = k }
  cut_due c d j pos false e h ky ar t cl sv k = let z = ltb-false (suc j) lanes e in let y : suc j ≡ lanes = omega arith in
      record { key_is = ky; arrays = ar; table = t; clean = cl; common = sv; stored = subst (λ (x : ℕ). Cutting c d x pos) y k }

  lane_good : (c : State) (d : Durable) (pos j : ℕ) (p : Point) → Durably (At c d) → c.phase ≡ F.Serving → ServingAt c d d.spots
      → (c.key ≡ key) → Arrays c.journal c.points → Full d.book c.table → d.begun ≡ none → Cutting c (At c d) j pos → find_point pos (points_of c.points) ≡ Some p → j < lanes
      → Good key (with_vault c (set_r c.vault j (at p.counts j)) (after_truncate_r j pos)) (S.R j (at p.counts j)) [] none (At c d) quiet
  unfolding after_truncate_r
  lane_good c d pos j p i e sv ky ar t cl k fp h =
      let fo = found_in pos (points_of c.points) p fp in
      let po = sv.pointed p fo.0 in
      let pe : k.at_point ≡ p = let q = k.found in cc in
      let cv : p.covered ≡ true = rw pe at k.covered in
      let r = c.vault.r in
      let ln = i.lanes.lane j in
      let vi = po.visible j in
      let lr : j < length r = omega (arith, i.lanes.rlen) in
      let r' : List ℕ = set r j (at p.counts j) in
      let ex = po.exact j in
      let le = k.left j (omega arith) in
      let cf = cnt_from j p.position d.spots in
      let up : Up r r' = up_set r j (at p.counts j) lr (omega arith) in
      let dl = lanes_r j (at p.counts j) h (omega arith) (inl vi) i.lanes in
      record {
        puts = tt;
        rises = omega arith;
        met = tt;
        now = i;
        then = record { lanes = dl; nums = i.nums; sealed = i.sealed; book = book_r up i.book; files = files_r r' sv.some_s (λ f m v. upto_set j lr (i.files.held f m v) (po.covers cv f m v)) i.files; card = card_r up i.card; kept = i.kept };
        link = link_serving key c (with_vault c (set_r c.vault j (at p.counts j)) (after_truncate_r j pos)) _ e refl refl
            (cut_due (with_vault c (set_r c.vault j (at p.counts j)) (after_truncate_r j pos)) _ j pos (ltb (suc j) lanes) refl h ky ar t cl
            (record { order = λ l. ord l (sv.order l) vi (put r j (at p.counts j) lr l); some_s = sv.some_s; consec = sv.consec; rising = sv.rising; under = sv.under; marked = sv.marked; few = sv.few; base = sv.base; pointed = sv.pointed; ascending = sv.ascending; crowd = sv.crowd; total = sv.total; eight = sv.eight })
            (record {
              stale = k.stale;
              at_point = p;
              found = fp;
              covered = cv;
              did = λ l lt. did_it l lt (subst (λ (y : Point). (x : ℕ) → x < j → at c.vault.r x ≡ at y.counts x) pe k.did) (put r j (at p.counts j) lr l);
              left = λ l ge. left_it l ge (put r j (at p.counts j) lr l);
            }));
      }
    where
      ord : (l : ℕ) → at c.vault.r l ≤ at c.vault.v l → at p.counts j ≤ at c.vault.v j → Put c.vault.r j (at p.counts j) l → at (set c.vault.r j (at p.counts j)) l ≤ at c.vault.v l
      ord l o v (other n q) = omega arith
      ord l o v (same a q) = let z : at c.vault.v l ≡ at c.vault.v j = ap (at c.vault.v) a in omega arith

      did_it : (l : ℕ) → l < suc j → ((x : ℕ) → x < j → at c.vault.r x ≡ at p.counts x) → Put c.vault.r j (at p.counts j) l → at (set c.vault.r j (at p.counts j)) l ≡ at p.counts l
      did_it l lt f (same a q) = q ∙ ap (at p.counts) (sym a)
      did_it l lt f (other n q) = q ∙ f l (omega arith)

      left_it : (l : ℕ) → suc j ≤ l → Put c.vault.r j (at p.counts j) l → at (set c.vault.r j (at p.counts j)) l + cnt l d.spots ≡ at c.vault.w l
      left_it l ge (same a q) = absurd (omega arith)
      left_it l ge (other n q) = let z = k.left l (omega arith) in omega arith

  delete_good : (c : State) (d : Durable) (pos : ℕ) → Durably (At c d) → c.phase ≡ F.Serving → ServingAt c d d.spots
      → (c.key ≡ key) → Arrays c.journal c.points → Full d.book c.table → d.begun ≡ none → Cutting c (At c d) lanes pos → Good key (with_points c (dropped_to c.points pos) D.Nothing) (S.Delete pos) [] none (At c d) quiet
  unfolding dropped_to
  delete_good c d pos i e sv ky ar t cl k =
      let p = k.at_point in
      let fo = found_in pos (points_of c.points) p k.found in
      let po = sv.pointed p fo.0 in
      let pp = fo.1 in
      let cs = d.spots in
      let un = po.under in
      let ff : spots_from (pred (floor_of c.points)) (spots_from pos cs) ≡ spots_from (pred (floor_of c.points)) cs = from_from pos (pred (floor_of c.points)) cs (omega arith) in
      let ex : (l : ℕ) → at c.vault.r l + cnt l (spots_from pos cs) ≡ at c.vault.w l = λ l. exact l (subst (λ (x : ℕ). at p.counts l + cnt l (spots_from x cs) ≡ at c.vault.w l) pp (po.exact l)) (dec_lt l lanes) in
      let sv' : Serving c.vault.w c.vault.v c.vault.r c.vault.s (marks_of c.journal) (points_above pos (points_of c.points)) (floor_of c.points) (next_of c.journal) d.book d.files (spots_from pos cs) = record {
        order = sv.order;
        some_s = sv.some_s;
        consec = consec_from (at c.vault.w) pos cs sv.rising sv.consec;
        rising = rising_from pos cs sv.rising;
        under = λ y m. sv.under y (mem_from pos cs y m).0;
        marked = sv.marked ∙ ap (map mark_of) (sym ff);
        few = sv.few;
        base = λ l. rw ff (sv.base l);
        pointed = λ q m. let a = above_mem pos (points_of c.points) q m in let o = sv.pointed q a.0 in let lt = a.1 in
            record { exact = λ l. let z = ap (cnt l) (from_from pos q.position cs (omega arith)) in let y = o.exact l in omega arith; visible = o.visible; covers = o.covers; under = o.under };
        ascending = above_ascend pos (points_of c.points) sv.ascending;
        crowd = above_crowd cs (length (marks_of c.journal)) pos (points_of c.points) sv.ascending sv.crowd;
        total = above_total cs (length (marks_of c.journal)) pos (points_of c.points) p sv.ascending sv.crowd fo.0 pp;
        eight = let a = above_length pos (points_of c.points) in let b = sv.eight in omega arith;
      } in
      record {
        puts = tt;
        rises = tt;
        met = cl;
        now = i;
        then = record { lanes = i.lanes; nums = i.nums; sealed = i.sealed; book = i.book; files = i.files; card = card_of d.sealed i.lanes sv' ex (λ y m. i.card.known y (mem_from pos cs y m).0) cl; kept = i.kept };
        link = link_serving key c (with_points c (dropped_to c.points pos) D.Nothing) _ e refl refl (record {
          key_is = ky;
          arrays = record { plen = ar.plen; llen = ar.llen; ilen = dropped_length c.points pos sv'.eight; fewer = ar.fewer; eighth = sv'.eight };
          table = t;
          clean = cl;
          common = subst (λ (q : List Point). Serving c.vault.w c.vault.v c.vault.r c.vault.s (marks_of c.journal) q (floor_of c.points) (next_of c.journal) d.book d.files (spots_from pos cs)) (sym (dropped_points c.points pos)) sv';
          stored = (k.stale, ex);
        });
      }
    where
      exact : (l : ℕ) → at k.at_point.counts l + cnt l (spots_from pos d.spots) ≡ at c.vault.w l → Dec (l < lanes) → at c.vault.r l + cnt l (spots_from pos d.spots) ≡ at c.vault.w l
      exact l x (yes h) = let z = k.did l h in omega arith
      exact l x (no h) = let z = k.left l (omega arith) in let y = cnt_from l pos d.spots in
          let b : at c.vault.w l ≡ 0 = get_or-eq_default c.vault.w 0 (let z : length c.vault.w ≤ l = omega (arith, i.lanes.wlen) in z) in omega arith

  keep_lane : (c : State) (d : Durable) (pos j : ℕ) (p : Point) → Durably (At c d) → c.phase ≡ F.Serving → ServingAt c d d.spots → c.key ≡ key → Arrays c.journal c.points → Full d.book c.table → d.begun ≡ none
      → find_point pos (points_of c.points) ≡ Some p → Cutting c (At c d) j pos → GoodAnswer key (At c d) none (truncate_lane c pos j p)
  unfolding truncate_lane put_r
  keep_lane c d pos j p i e sv ky ar t cl f k = good_step key _ none c (leb lanes j) _ _ _ (λ r. (quiet, lane_good c d pos j p i e sv ky ar t cl k f (leb-false lanes j r)))

  keep_first : (c : State) (d : Durable) (pos : ℕ) (o : Option Point) → Durably (At c d) → c.phase ≡ F.Serving → Service key c (At c d) D.Nothing → find_point pos (points_of c.points) ≡ o → GoodAnswer key (At c d) none (truncate_first c pos o)
  unfolding truncate_first
  keep_first c d pos None i e s f = tt
  keep_first c d pos (Some p) i e s f = good_refuse key _ none _ c 14 [] _ (λ r. let cv = is_covered p r in
      keep_lane c d pos 0 p i e s.common s.key_is s.arrays s.table s.clean f
      (record { stale = s.stored.0; at_point = p; found = f; covered = cv; did = λ l lt. absurd (omega arith); left = λ l ge. s.stored.1 l }))

  keep_next : (c : State) (d : Durable) (pos lane : ℕ) (o : Option Point) → Durably (At c d) → c.phase ≡ F.Serving → Service key c (At c d) (D.Truncate pos (L.R lane)) → find_point pos (points_of c.points) ≡ o → GoodAnswer key (At c d) none (truncate_next c pos lane o)
  unfolding truncate_next
  keep_next c d pos lane None i e s f = tt
  keep_next c d pos lane (Some p) i e s f = keep_lane c d pos lane p i e s.common s.key_is s.arrays s.table s.clean f s.stored

  keep_step : (c : State) (d : Durable) (pos : ℕ) (step : TruncateStep) → Durably (At c d) → c.phase ≡ F.Serving → Service key c (At c d) (D.Truncate pos step) → GoodAnswer key (At c d) none (truncate_step c pos step)
  unfolding truncate_step truncate_delete
  keep_step c d pos (L.R lane) i e s = keep_next c d pos lane (find_point pos (points_of c.points)) i e s refl
  keep_step c d pos L.Delete i e s = (quiet, delete_good c d pos i e s.common s.key_is s.arrays s.table s.clean s.stored)

  keep_due : (c : State) (d : Durable) (pos : ℕ) (du : Due) → Durably (At c d) → c.phase ≡ F.Serving → Service key c (At c d) du → GoodAnswer key (At c d) none (truncate_due c pos du)
  unfolding truncate_due
  keep_due c d pos D.Nothing i e s = keep_first c d pos (find_point pos (points_of c.points)) i e s refl
  keep_due c d pos (D.Truncate p step) i e s = good_refuse key _ none (not (eqb p pos)) c 1 [] _ (λ r.
      keep_step c d pos step i e (subst (λ (y : ℕ). Service key c (At c d) (D.Truncate y step)) (eqb-true p pos (not-false _ r)) s))
  keep_due c d pos D.Record i e s = tt
  keep_due c d pos (D.Checkpoint step) i e s = tt
  keep_due c d pos (D.Recover step) i e s = tt

  pub keep_truncate : (c : State) (d : Durable) (pos : ℕ) → Durably (At c d) → LinkedAt key c (At c d) c.phase c.due → GoodAnswer key (At c d) none (truncate c pos)
  unfolding truncate
  keep_truncate c d pos i k = good_refuse key _ none _ c 1 [] _ (λ r. let s = when_serving key c (At c d) k r in keep_due c d pos c.due i s.0 s.1)
