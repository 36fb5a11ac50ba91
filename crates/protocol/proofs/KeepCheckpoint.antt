-- Checkpoint keeps the invariant: its file has the whole book, so that once S is stored every point set before is in every file of version S.
-- Assumes nothing.
use Prim.Native.Nat.{ℕ, suc, ◌<◌}
use mathlib.Core.Path.{◌≡◌, refl, sym, ap, subst, ◌∙◌}
use mathlib.Core.Bool.{◌||◌}
use mathlib.Core.Option.{none}
use mathlib.Core.Logic.{◌⊎◌, inl, inr}
use mathlib.Core.List.Memᴰ
use mathlib.Core.List.{List, [], ◌∷◌, map, Memᴰ}
use native.Mathlib.Omega.{arith}
use lib.Dec.{leb}
use lib.ListN.{length, length-map}
use borrow.Author.Tests.{leb-false}
use Rattle.octets.proofs.BoolLaws.{or_left, or_right}
use Rattle.sealed.specs.Checkpoint.{OpenedFile}
use Rattle.protocol.specs.Vaults.{counter_max, set_n}
use Rattle.protocol.specs.States.{with_vault}
use Rattle.protocol.specs.Point.{marks_of}
use Rattle.protocol.specs.Steps.{raise_n, table_file, file_step}
use Rattle.protocol.specs.Checkpoint.{covered_point, covered_points, checkpointed, checkpoint_first, checkpoint_last, checkpoint_step, checkpoint_due, checkpoint}
use Rattle.protocol.specs.Truncate.{points_of}
use Rattle.protocol.specs.declared.Point.{Point}
use Rattle.protocol.specs.declared.State.{State}
use Rattle.protocol.specs.declared.Phase.TheVariants as F
use Rattle.protocol.specs.declared.Due.{Due}
use Rattle.protocol.specs.declared.Due.TheVariants as D
use Rattle.protocol.specs.declared.CheckpointStep.{CheckpointStep}
use Rattle.protocol.specs.declared.CheckpointStep.TheVariants as K
use Rattle.protocol.specs.declared.Store.TheVariants as S
use Rattle.protocol.proofs.Latest.{Upto, full_upto}
use Rattle.protocol.proofs.Card.{Spot}
use Rattle.protocol.proofs.Listed.{covered_points_law}
use Rattle.protocol.proofs.Invariant.{Durable, quiet, out_file, FileIn, Durably, Service, Serving, PointOk, Crowd, Ascending, LinkedAt, Good, GoodAnswer, At, floor_of, next_of}
use Rattle.protocol.proofs.StoreLaws.{files_s, kept_s}
use Rattle.protocol.proofs.KeepRecover.{good_refuse, good_step, next_file, file_is, file_now, file_then, has_next}
use Rattle.protocol.proofs.Phases.{link_serving, when_serving}

-- the points after a checkpoint
covered_of : (ps : List Point) (q : Point) → Memᴰ q (map covered_point ps) → (p : Point) × Memᴰ p ps × (q.position ≡ p.position) × (q.counts ≡ p.counts)
unfolding covered_point
covered_of [] q m = absurd (Memᴰ.not-nil m)
covered_of (p ∷ ps) q m = go (Memᴰ.cases_cons m) (λ k. covered_of ps q k)
  where
    go : (q ≡ covered_point p) ⊎ Memᴰ q (map covered_point ps) → (Memᴰ q (map covered_point ps) → (x : Point) × Memᴰ x ps × (q.position ≡ x.position) × (q.counts ≡ x.counts)) → (x : Point) × Memᴰ x (p ∷ ps) × (q.position ≡ x.position) × (q.counts ≡ x.counts)
    go (inl e) ih = (p, Memᴰ.head refl, ap (λ (x : Point). x.position) e, ap (λ (x : Point). x.counts) e)
    go (inr k) ih = let a = ih k in (a.0, Memᴰ.tail a.1, a.2, a.3)

pub cover_ascend : (ps : List Point) → Ascending ps → Ascending (map covered_point ps)
unfolding covered_point
cover_ascend [] a = tt
cover_ascend (p ∷ ps) a = (λ q m. let x = covered_of ps q m in let y = a.0 x.0 x.1 in let z = x.2 in omega arith, cover_ascend ps a.1)

cover_crowd : (cs : List Spot) (m : ℕ) (ps : List Point) → Crowd cs m ps → Crowd cs m (map covered_point ps)
unfolding covered_point
cover_crowd cs m [] k = tt
cover_crowd cs m (p ∷ ps) k = (let a = k.0 in let b = length-map ps covered_point in omega arith, cover_crowd cs m ps k.1)

module _ (key : List ℕ) where
  check_n : (c : State) (d : Durable) → Durably (At c d) → c.phase ≡ F.Serving → Service key c (At c d) D.Nothing → c.vault.s < counter_max → c.vault.n < counter_max
      → Good key (with_vault c (set_n c.vault (suc c.vault.n)) (D.Checkpoint K.File)) (S.N (suc c.vault.n)) [] none (At c d) quiet
  check_n c d i e s ts tn = record {
    puts = tt;
    rises = omega arith;
    met = tt;
    now = i;
    then = record { lanes = i.lanes; nums = record { e≤ = i.nums.e≤; s≤ = i.nums.s≤; n≤ = tn }; sealed = i.sealed; book = i.book; files = i.files; card = i.card; kept = i.kept };
    link = link_serving key c (with_vault c (set_n c.vault (suc c.vault.n)) (D.Checkpoint K.File)) _ e refl refl (record { key_is = s.key_is; arrays = s.arrays; table = s.table; clean = s.clean; common = s.common; stored = (s.stored.0, s.stored.1, omega arith) });
  }

  check_file : (c : State) (d : Durable) → Durably (At c d) → c.phase ≡ F.Serving → Service key c (At c d) (D.Checkpoint K.File) → Good key (with_vault c c.vault (D.Checkpoint K.Version)) S.File (table_file c) none (At c d) (out_file (next_file key c))
  check_file c d i e s = let sv = s.common in record {
    puts = (refl, file_is key c s.key_is);
    rises = tt;
    met = tt;
    now = file_now key c d i s.table s.stored.2;
    then = file_then key c d i s.table s.stored.2;
    link = link_serving key c (with_vault c c.vault (D.Checkpoint K.Version)) _ e refl refl (record {
      key_is = s.key_is;
      arrays = s.arrays;
      table = s.table;
      clean = s.clean;
      common = record {
        order = sv.order;
        some_s = sv.some_s;
        consec = sv.consec;
        rising = sv.rising;
        under = sv.under;
        marked = sv.marked;
        few = sv.few;
        base = sv.base;
        pointed = λ p m. let o = sv.pointed p m in record { exact = o.exact; visible = o.visible; covers = λ q f mf vf. old p (o.covers q) f vf (Memᴰ.cases_cons mf); under = o.under };
        ascending = sv.ascending;
        crowd = sv.crowd;
        total = sv.total;
        eight = sv.eight;
      };
      stored = (s.stored.1, s.stored.2, has_next key c d);
    });
  }
    where
      old : (p : Point) → ((f : OpenedFile) → FileIn d.files f → f.version ≡ c.vault.s → Upto d.book p.counts f.table) → (f : OpenedFile) → f.version ≡ c.vault.s → (f ≡ next_file key c) ⊎ FileIn d.files f → Upto d.book p.counts f.table
      old p h f v (inl q) = let z = ap (λ (x : OpenedFile). x.version) q in absurd (omega arith)
      old p h f v (inr m) = h f m v

  check_s : (c : State) (d : Durable) → Durably (At c d) → c.phase ≡ F.Serving → Service key c (At c d) (D.Checkpoint K.Version) → Good key (checkpointed c) (S.S (suc c.vault.s)) [] none (At c d) quiet
  unfolding checkpointed covered_points
  check_s c d i e s = let sv = s.common in let ar = s.arrays in let ps = points_of c.points in let pk : points_of (checkpointed c).points ≡ map covered_point ps = covered_points_law c.points in record {
    puts = tt;
    rises = omega arith;
    met = tt;
    now = i;
    then = record { lanes = i.lanes; nums = record { e≤ = i.nums.e≤; s≤ = let z = s.stored.1 in omega arith; n≤ = i.nums.n≤ }; sealed = i.sealed; book = i.book; files = files_s i.files; card = i.card; kept = kept_s s.stored.2 i.kept };
    link = link_serving key c (checkpointed c) _ e refl refl (record {
      key_is = s.key_is;
      arrays = record { plen = ar.plen; llen = ar.llen; ilen = length-map c.points.items covered_point ∙ ar.ilen; fewer = ar.fewer; eighth = ar.eighth };
      table = s.table;
      clean = s.clean;
      common = subst (λ (q : List Point). Serving c.vault.w c.vault.v c.vault.r (suc c.vault.s) (marks_of c.journal) q (floor_of c.points) (next_of c.journal) d.book d.files d.spots) (sym pk) (record {
        order = sv.order;
        some_s = omega arith;
        consec = sv.consec;
        rising = sv.rising;
        under = sv.under;
        marked = sv.marked;
        few = sv.few;
        base = sv.base;
        pointed = λ q m. let x = covered_of ps q m in point_of q x.0 x.1 x.2 x.3;
        ascending = cover_ascend ps sv.ascending;
        crowd = cover_crowd d.spots (length (marks_of c.journal)) ps sv.crowd;
        total = let a = sv.total in let b = length-map ps covered_point in omega arith;
        eight = let a = sv.eight in let b = length-map ps covered_point in omega arith;
      });
      stored = (i.files.next, s.stored.0);
    });
  }
    where
      point_of : (q p : Point) → Memᴰ p (points_of c.points) → q.position ≡ p.position → q.counts ≡ p.counts → PointOk c.vault.w c.vault.v (suc c.vault.s) (floor_of c.points) d.book d.files d.spots q
      point_of q p m ep ec = let o = s.common.pointed p m in record {
        exact = λ l. rw (ep, ec) (o.exact l);
        visible = λ l. rw ec (o.visible l);
        covers = λ h f mf vf. full_upto q.counts (i.files.full f mf vf);
        under = let a = o.under in omega arith;
      }

  keep_step : (c : State) (d : Durable) (room : ℕ) (step : CheckpointStep) → Durably (At c d) → c.phase ≡ F.Serving → Service key c (At c d) (D.Checkpoint step) → GoodAnswer key (At c d) none (checkpoint_step c room step)
  unfolding checkpoint_step checkpoint_last file_step
  keep_step c d room K.File i e s = good_refuse key _ none _ c 1 [] _ (λ _. good_refuse key _ none _ c 3 _ _ (λ _. (out_file (next_file key c), check_file c d i e s)))
  keep_step c d room K.Version i e s = good_refuse key _ none _ c 1 [] _ (λ _. (quiet, check_s c d i e s))

  keep_check : (c : State) (d : Durable) (room : ℕ) (du : Due) → Durably (At c d) → c.phase ≡ F.Serving → Service key c (At c d) du → GoodAnswer key (At c d) none (checkpoint_due c room du)
  unfolding checkpoint_due checkpoint_first raise_n
  keep_check c d room D.Nothing i e s = good_refuse key _ none (leb counter_max c.vault.s || leb counter_max c.vault.n) c 8 [] _ (λ r. good_step key _ none c _ _ _ _ (λ _.
      (quiet, check_n c d i e s (leb-false counter_max c.vault.s (or_left (leb counter_max c.vault.s) (leb counter_max c.vault.n) r)) (leb-false counter_max c.vault.n (or_right (leb counter_max c.vault.s) (leb counter_max c.vault.n) r)))))
  keep_check c d room (D.Checkpoint step) i e s = keep_step c d room step i e s
  keep_check c d room D.Record i e s = tt
  keep_check c d room (D.Truncate position step) i e s = tt
  keep_check c d room (D.Recover step) i e s = tt

  pub keep_checkpoint : (c : State) (d : Durable) (room : ℕ) → Durably (At c d) → LinkedAt key c (At c d) c.phase c.due → GoodAnswer key (At c d) none (checkpoint c room)
  unfolding checkpoint
  keep_checkpoint c d room i k = good_refuse key _ none _ c 1 [] _ (λ r. let s = when_serving key c (At c d) k r in keep_check c d room c.due i s.0 s.1)
