-- What 01 says of a collector in service with no store due, after any list (specs/Beside.antt). By the invariants (Known) the state is one that
-- may be handed, its points stand in order of position and count no number that is not visible, its listed records are the card's from the newest
-- point on, and journal and points are what the list has used and set since service began.
-- Assumes nothing.
use Prim.Native.Nat.{ℕ, suc, ◌+◌, ◌-◌, ◌≤◌, ◌<◌, pred}
use mathlib.Core.Path.{◌≡◌, refl, sym, ap, ap₂, subst, subst₂, ◌∙◌}
use mathlib.Core.Bool.{Bool, true, false, cond, ◌||◌}
use mathlib.Core.Option.{Option, some}
use Rattle.std.specs.Prelude.{Some}
use mathlib.Core.List.{List, [], ◌∷◌, ◌++◌, map, Memᴰ}
use native.Mathlib.Omega.{arith}
use lib.Dec.{leb, ltb, eqb}
use lib.ListN.{length, set}
use lib.Seq.{take-append_seam, take-suc-set, length-take-le, get_or-set_same}
use borrow.Author.Tests.{le-leb, le-ltb, lt-ltb, eq-eqb}
use Rattle.octets.specs.Lists.{at}
use Rattle.octets.proofs.BoolLaws.{and_false}
use Rattle.transaction.specs.Transaction.{max_text, legal}
use Rattle.transaction.proofs.TransactionLaws.{length_bounds}
use Rattle.table.specs.Table.{lanes}
use Rattle.table.proofs.OrderLaws.{clash}
use Rattle.sealed.specs.Aead.{aes_gcm}
use Rattle.sealed.specs.Frame.{frame_len}
use Rattle.sealed.specs.Record.{Opened, lane_of, number_of, record_bytes, open_record}
use Rattle.sealed.specs.Checkpoint.{file_bytes}
use Rattle.sealed.proofs.RecordTrip.{length_record}
use Rattle.sealed.proofs.LogTrip.{opened_from}
use Rattle.protocol.specs.Vaults.{counter_max, vault_ok, set_n}
use Rattle.protocol.specs.States.{listed, points_max, valid, ready, held_text, with_vault}
use Rattle.protocol.specs.Said.{taken, refuse}
use Rattle.protocol.specs.Accept.{too_low, listed_more, holding, accepted, accept, held_record, holds, seal}
use Rattle.protocol.specs.Commit.{committed, out_of_turn, commit_opened, commit}
use Rattle.protocol.specs.Point.{marks_of, lane_count, unseen_below, point_at, points_more, pointed, point}
use Rattle.protocol.specs.Checkpoint.{covered_point, covered_points, checkpointed}
use Rattle.protocol.specs.Truncate.{points_of, find_point, points_above, dropped_to}
use Rattle.protocol.specs.Tally.{truncate_stores, Dropped, Covered, Truncates}
use Rattle.protocol.specs.History.{Event, Placed, placed_from, settled, is_taken}
use Rattle.protocol.specs.Claim.{after}
use Rattle.protocol.specs.Beside.{unseen_on, lane_on, Idle, since, AcceptSays, SealsTheAccepted, CommitTakes, PointSays, PointIsKept, PointsCount, TruncatesNine, CheckpointsThree}
use Rattle.protocol.specs.declared.Vault.{Vault}
use Rattle.protocol.specs.declared.Point.{Point}
use Rattle.protocol.specs.declared.Points.{Points}
use Rattle.protocol.specs.declared.State.{State}
use Rattle.protocol.specs.declared.Phase.TheVariants as F
use Rattle.protocol.specs.declared.Due.TheVariants as D
use Rattle.protocol.specs.declared.CheckpointStep.TheVariants as K
use Rattle.protocol.specs.declared.Store.TheVariants as S
use Rattle.protocol.proofs.VaultLaws.{StateFine, vault_fine, fine_vault, fine_state, fine_n, fine_s}
use Rattle.protocol.proofs.Walks.{walk_accept, walk_point, past_refuse, at_refuse}
use Rattle.protocol.proofs.Basis.{Writable, bytes_of, opens}
use Rattle.protocol.proofs.Card.{Spot, spots_from, cnt, Consec, Rising, Cut, kept, left, cut_at, from_nil, rest_from, cnt_from, mem_from, placed_of, placed_from_law}
use Rattle.protocol.proofs.Listed.{dropped_points, covered_points_law}
use Rattle.protocol.proofs.Invariant.{Durable, Durably, Apart, Lanes, Ascending, Service, LinkedAt, Linked, LinkedIf, mark_of, floor_of}
use Rattle.protocol.proofs.StoreLaws.{lanes_w}
use Rattle.protocol.proofs.KeepPoint.{count_map}
use Rattle.protocol.proofs.KeepTruncate.{found_in, above_mem, above_last}
use Rattle.protocol.proofs.KeepCheckpoint.{cover_ascend}
use Rattle.protocol.proofs.TallyLaws.{names_to, Cut as Truncated, truncate_tally, checkpoint_three, checkpoint_tally}
use Rattle.protocol.proofs.SinceLaws.{Fits, listed_count, fits_list}
use Rattle.protocol.proofs.Runs.{listed_invariant}

-- Load's rule
pub vault_ok_law : (d : Durable) → Durably d → vault_ok d.vault ≡ true
vault_ok_law d i = fine_vault d.vault (record { e = i.nums.e≤; s = i.nums.s≤; n = i.nums.n≤; lane = λ l h. i.lanes.lane l })

-- ---- Truncate

-- of points in order of position, those that the deletion leaves are the last
dropped : (c : State) (position : ℕ) (d : State) → Ascending (points_of c.points) → Truncated c position d → Dropped c position d
unfolding dropped_to
dropped c position d a k =
    let ps = points_of c.points in
    let e : points_of d.points ≡ points_above position ps = ap points_of k.points ∙ dropped_points c.points position in
    let l = above_last position ps a in
    record {
      due = k.due;
      older = l.0;
      parted = l.1 ∙ ap (λ (r : List Point). l.0 ++ r) (sym e);
      gone = l.2;
      stays = λ p m. (above_mem position ps p (rw e at m)).1;
      places = ap (λ (x : Points). x.count) k.points ∙ ap (λ (r : List Point). length r) (sym e);
      vault = k.vault;
      rest = k.rest;
    }

-- ---- Checkpoint

-- the point that was found is found again
found_covered : (position : ℕ) (ps : List Point) (p : Point) → find_point position ps ≡ Some p → find_point position (map covered_point ps) ≡ Some (covered_point p)
unfolding find_point covered_point
found_covered position [] p e = let z : ◌≡◌ {A = ℕ} 0 1 = cc in absurd (omega arith)
found_covered position (q ∷ ps) p e = by (eqb q.position position) (found_covered position ps p) e
  where
    by : (b : Bool) → (find_point position ps ≡ Some p → find_point position (map covered_point ps) ≡ Some (covered_point p)) → cond b (Some q) (find_point position ps) ≡ Some p
        → cond b (Some (covered_point q)) (find_point position (map covered_point ps)) ≡ Some (covered_point p)
    by true later e = let z : q ≡ p = cc in ap (λ (x : Point). Some (covered_point x)) z
    by false later e = later e

-- the state behind the three stores
abbrev behind : State → State
behind c = checkpointed (with_vault c (set_n c.vault (suc c.vault.n)) (D.Checkpoint K.Version))

covered : (c : State) → Covered c (behind c)
unfolding checkpointed covered_points covered_point
covered c = record {
  due = refl;
  vault = refl;
  points = covered_points_law c.points;
  places = refl;
  rest = record { phase = refl; table = refl; journal = refl; any = refl; newest = refl; held = refl; key = refl };
}

-- a truncation at a point that was kept, from there
then_truncates : (c : State) → StateFine c → c.phase ≡ F.Serving → Ascending (points_of c.points) → ((p : Point) → Memᴰ p (points_of c.points) → (l : ℕ) → at p.counts l ≤ at c.vault.v l)
    → c.vault.s < counter_max → c.vault.n < counter_max → Truncates c (behind c)
unfolding checkpointed covered_points covered_point truncate_stores
then_truncates c fine serves a seen hs hn position p f =
    let ps = points_of c.points in
    let d = behind c in
    let e : points_of d.points ≡ map covered_point ps = covered_points_law c.points in
    let fn = fine_n c.vault fine.vault hn in
    let ok : valid d ≡ true = fine_state d (record { vault = fine_s (set_n c.vault (suc c.vault.n)) fn hs; listed = fine.listed; pointed = fine.pointed }) in
    names_to (λ x k. dropped d position x (subst Ascending (sym e) (cover_ascend ps a)) k)
    (truncate_tally d position (covered_point p) ok serves refl (ap (find_point position) e ∙ found_covered position ps p f) refl (λ l lt. seen p (found_in position ps p f).0 l))

-- ---- Point

-- records whose lane and number stand in their heads
module _ (key : List ℕ) where
  lane_of_law : (r : Opened) → Writable r → lane_of (bytes_of key r) ≡ r.lane
  lane_of_law r w = sym (opened_from (aes_gcm key) (bytes_of key r) r (opens key r w)).lane

  number_of_law : (r : Opened) → Writable r → number_of (bytes_of key r) ≡ r.number
  number_of_law r w = sym (opened_from (aes_gcm key) (bytes_of key r) r (opens key r w)).number

  -- how many of a lane, on the card and taken apart
  lane_on_law : (l : ℕ) (xs : List Spot) → ((y : Spot) → Memᴰ y xs → Writable y.rec) → lane_on l (map (placed_of key) xs) ≡ cnt l xs
  unfolding lane_on cnt
  lane_on_law l [] w = refl
  lane_on_law l (x ∷ xs) w = rw (lane_of_law x.rec (w x (Memᴰ.head refl)), lane_on_law l xs (λ y m. w y (Memᴰ.tail m)))

  module _ (p : ℕ) (w v : List ℕ) where
    -- of listed records the number is W less those of the lane behind
    unseen_listed : (xs : List Spot) → ((y : Spot) → Memᴰ y xs → Writable y.rec) → Consec (at w) xs → unseen_on p v (map (placed_of key) xs) ≡ unseen_below p w v (map mark_of xs)
    unfolding unseen_on unseen_below
    unseen_listed [] h k = refl
    unseen_listed (x ∷ xs) h k =
        let r = x.rec in
        let n : at w r.lane - lane_count r.lane (map mark_of xs) ≡ r.number = let a = count_map r.lane xs in let b = k.0 in omega arith in
        rw (lane_of_law r (h x (Memᴰ.head refl)), number_of_law r (h x (Memᴰ.head refl)), unseen_listed xs (λ y m. h y (Memᴰ.tail m)) k.1, n)

    -- those below the newest point are visible
    unseen_on_law : (f : ℕ) (xs : List Spot) → ((y : Spot) → Memᴰ y xs → Writable y.rec) → Rising xs → Consec (at w) xs → ((l : ℕ) → at w l ≤ at v l + cnt l (spots_from f xs))
        → unseen_on p v (map (placed_of key) xs) ≡ unseen_below p w v (map mark_of (spots_from f xs))
    unfolding unseen_on unseen_below
    unseen_on_law f [] h up k base = rw (from_nil f)
    unseen_on_law f (x ∷ xs) h up k base = go (cut_at f x xs) (unseen_on_law f xs (λ y m. h y (Memᴰ.tail m)) up.1 k.1)
      where
        go : Cut f x xs → (((l : ℕ) → at w l ≤ at v l + cnt l (spots_from f xs)) → unseen_on p v (map (placed_of key) xs) ≡ unseen_below p w v (map mark_of (spots_from f xs)))
            → unseen_on p v (map (placed_of key) (x ∷ xs)) ≡ unseen_below p w v (map mark_of (spots_from f (x ∷ xs)))
        go (kept e a) ih = rw (e, rest_from f x xs up a) (unseen_listed (x ∷ xs) h k)
        go (left e a) ih =
            let r = x.rec in
            let wr = h x (Memᴰ.head refl) in
            let b = base r.lane in
            let q : cnt r.lane (spots_from f (x ∷ xs)) ≡ cnt r.lane (spots_from f xs) = ap (cnt r.lane) e in
            let n = k.0 in
            let l = cnt_from r.lane f xs in
            let seen : ltb (at v r.lane) r.number ≡ false = le-ltb (at v r.lane) r.number (omega arith) in
            rw (e, lane_of_law r wr, number_of_law r wr, seen, and_false (ltb x.position p)) (ih (λ j. let a = base j in let z = ap (cnt j) e in omega arith))

module _ (key : List ℕ) where
  -- what the invariants say of a collector in service with no store due
  record Known (es : List Event) (c : State) : Type 0 where
    durable : Durable
    good : Durably durable
    apart : Apart key (settled (after key es)) durable
    same : c.vault ≡ durable.vault
    service : Service key c durable D.Nothing
    since : Fits c.journal c.points (since key es)

  known : (es : List Event) (c : State) → Idle key es c → Known es c
  known es c h =
      let i = listed_invariant key es h.premises in
      let l : Linked key c i.after = subst (λ (s : Option State). LinkedIf key s i.after) h.state i.link in
      record {
        durable = i.after;
        good = i.then;
        apart = i.apart';
        same = l.same;
        service = subst₂ (LinkedAt key c i.after) h.phase h.due l.rest;
        since = fits_list key es c h.state h.phase;
      }

  -- it is one that may be handed
  fine_of : (es : List Event) (c : State) → Known es c → StateFine c
  fine_of es c i = record { vault = vault_fine c.vault (ap vault_ok i.same ∙ vault_ok_law i.durable i.good); listed = i.service.arrays.fewer; pointed = i.service.arrays.eighth }

  idle_ready : (es : List Event) (c : State) → Idle key es c → Known es c → ready c ≡ true
  unfolding ready valid
  idle_ready es c h i = rw (fine_state c (fine_of es c i), h.phase, h.due)

  pub accepts : AcceptSays key
  unfolding accept too_low
  accepts es c h text lane position =
      let i = known es c h in
      let f = i.since in
      let g = since key es in
      past_refuse _ c 1 [] _ _ (rw (idle_ready es c h i))
      (at_refuse _ _ c 4 [] _ _ refl
      (at_refuse _ _ c 5 [] _ _ refl
      (at_refuse _ _ c 6 [] _ _ (ap₂ (λ (a b : Bool). a || b) (f.newest position) (f.used position))
      (at_refuse _ _ c 7 [] _ _ (ap (leb listed) (listed_count c.journal c.points g f))
      (at_refuse _ _ c 8 [] _ _ refl refl)))))

  -- a transaction that is accepted is held, and its record due
  held_text_law : (c : State) (text : List ℕ) (lane position : ℕ) → held_text (accepted c text lane position) ≡ text
  unfolding accepted holding
  held_text_law c text lane position = take-append_seam text _

  held_at : (c : State) (text : List ℕ) (lane position : ℕ) → (accepted c text lane position).held.position ≡ position
  unfolding accepted holding
  held_at c text lane position = refl

  accepted_holds : (es : List Event) (c : State) → Idle key es c → (i : Known es c) (text : List ℕ) (lane position : ℕ) → legal text ≡ true → lane < lanes → c.journal.count < listed
      → at c.vault.w lane < counter_max → holds (accepted c text lane position) ≡ true
  unfolding holds valid accepted listed_more holding
  accepted_holds es c h i text lane position fine ln few most =
      let d = accepted c text lane position in
      let f = fine_of es c i in
      let ls = subst (λ (x : Vault). Lanes x.w x.v x.r) (sym i.same) i.good.lanes in
      let ls' = lanes_w lane ln most i.service.common.order ls in
      let ok : valid d ≡ true = fine_state d (record { vault = record { e = f.vault.e; s = f.vault.s; n = f.vault.n; lane = λ l lt. ls'.lane l }; listed = few; pointed = f.pointed }) in
      let b = (length_bounds text fine).1 in
      rw (ok, h.phase, held_text_law c text lane position, fine, le-leb (length text) max_text b, lt-ltb lane lanes ln)

  accepted_record : (es : List Event) (c : State) → Known es c → (text : List ℕ) (lane position : ℕ) → lane < lanes
      → held_record (accepted c text lane position) ≡ record_bytes (aes_gcm key) lane c.vault.e (suc (at c.vault.w lane)) text
  unfolding held_record accepted holding
  accepted_record es c i text lane position ln =
      let w = c.vault.w in
      let long : length w ≡ lanes = ap (λ (x : Vault). length x.w) i.same ∙ i.good.lanes.wlen in
      let top : at (set w lane (suc (at w lane))) lane ≡ suc (at w lane) = get_or-set_same w lane (suc (at w lane)) 0 (omega arith) in
      rw (held_text_law c text lane position, top, i.service.key_is)

  pub seals : SealsTheAccepted key
  unfolding is_taken seal refuse
  seals es c h text lane position room yea long =
      let i = known es c h in
      walk_accept (λ a. is_taken a.said ≡ true → ((seal a.state room).said ≡ taken (S.Record position) (length text + frame_len))
      × ((seal a.state room).put ≡ record_bytes (aes_gcm key) lane c.vault.e (suc (at c.vault.w lane)) text)) c
      (λ n vs k e. clash (sym e)) text lane position
      (λ r t ln p m w e.
      let hs = accepted_holds es c h i text lane position t ln m w in
      let ht = held_text_law c text lane position in
      let rm : ltb room (length text + frame_len) ≡ false = le-ltb room (length text + frame_len) long in
      let is = accepted_record es c i text lane position ln in
      let size = length_record key lane c.vault.e (suc (at c.vault.w lane)) text in
      (rw (hs, ht, rm, is, size) (ap (λ (q : ℕ). taken (S.Record q) (length text + frame_len)) (held_at c text lane position)), rw (hs, ht, rm) is))
      yea

  pub commits : CommitTakes key
  unfolding commit commit_opened out_of_turn refuse committed
  commits es c h bytes r o e n le =
      let i = known es c h in
      let k : open_record (aes_gcm c.key) bytes ≡ some r = ap (λ (x : List ℕ). open_record (aes_gcm x) bytes) i.service.key_is ∙ o in
      let a = idle_ready es c h i in
      let now = eq-eqb r.epoch c.vault.e e in
      let turn = eq-eqb r.number (suc (at c.vault.v r.lane)) n in
      let most = le-ltb (at c.vault.w r.lane) r.number le in
      (rw (a, k, now, turn, most), rw (a, k, now, turn, most))

  -- the card's records can be written
  writable : (es : List Event) (c : State) (i : Known es c) → (y : Spot) → Memᴰ y i.durable.spots → Writable y.rec
  writable es c i y m = i.good.sealed.fine y.rec (i.good.card.known y m)

  unseen_is : (es : List Event) (c : State) (i : Known es c) (position : ℕ)
      → unseen_below position c.vault.w c.vault.v (marks_of c.journal) ≡ unseen_on position c.vault.v (settled (after key es)).card.records
  unseen_is es c i position =
      let s = i.service.common in
      let cs = i.durable.spots in
      ap (unseen_below position c.vault.w c.vault.v) s.marked
      ∙ sym (unseen_on_law key position c.vault.w c.vault.v (pred (floor_of c.points)) cs (writable es c i) s.rising s.consec s.base)
      ∙ ap (unseen_on position c.vault.v) (sym i.apart.card.records)

  kept_count : (es : List Event) (c : State) → Known es c → length (points_of c.points) ≡ c.points.count
  unfolding points_of
  kept_count es c i = let a = i.service.arrays in length-take-le c.points.count c.points.items (omega (arith, a.ilen, a.eighth))

  pub points : PointSays key
  unfolding point
  points es c h position =
      let i = known es c h in
      let g = since key es in
      past_refuse _ c 1 [] _ _ (rw (idle_ready es c h i))
      (at_refuse _ _ c 6 [] _ _ (i.since.newest position)
      (at_refuse _ _ c 7 [] _ _ (ap (leb points_max) (sym (kept_count es c i)))
      (at_refuse _ _ c 15 [] _ _ (unseen_is es c i position) refl)))

  pub keeps : PointIsKept key
  unfolding pointed points_more point_at points_of is_taken
  keeps es c h position yea =
      let ar = (known es c h).service.arrays in
      walk_point (λ a. is_taken a.said ≡ true → (p : Point) × (points_of a.state.points ≡ points_of c.points ++ (p ∷ [])) × (p.position ≡ position) × (p.covered ≡ false)) c
      (λ n vs k e. clash (sym e)) position
      (λ r low few e. (point_at c position, take-suc-set c.points.items c.points.count (point_at c position) (omega (arith, ar.ilen)), refl, refl))
      yea

  pub counts : PointsCount key
  counts es c h p m l lt =
      let i = known es c h in
      let cs = i.durable.spots in
      let at_or_above = spots_from p.position cs in
      let e : lane_on l (placed_from p.position (settled (after key es)).card.records) ≡ cnt l at_or_above =
      ap (λ (x : List Placed). lane_on l (placed_from p.position x)) i.apart.card.records ∙ ap (lane_on l) (placed_from_law key p.position cs)
      ∙ lane_on_law key l at_or_above (λ y k. writable es c i y (mem_from p.position cs y k).0) in
      let x = (i.service.common.pointed p m).exact l in
      omega arith

  pub nine : TruncatesNine key
  nine es c h position x f cv =
      let i = known es c h in
      let s = i.service.common in
      names_to (λ d k. dropped c position d s.ascending k)
      (truncate_tally c position x (fine_state c (fine_of es c i)) h.phase h.due f cv (λ l lt. (s.pointed x (found_in position (points_of c.points) x f).0).visible l))

  pub three : CheckpointsThree key
  three es c h hs hn room long =
      let i = known es c h in
      let s = i.service.common in
      let fine = fine_of es c i in
      let t = checkpoint_tally c h.phase fine room long (λ d. Covered c d × Truncates c d) (checkpoint_three c h.phase fine room long h.due hs hn)
      (covered c, then_truncates c fine h.phase s.ascending (λ x m l. (s.pointed x m).visible l) hs hn) in
      (t.0, t.1 ∙ ap (λ (k : List ℕ). [] ∷ file_bytes (aes_gcm k) (suc c.vault.s) (suc c.vault.n) c.table ∷ [] ∷ []) i.service.key_is)
