-- Accept, Seal and Commit keep the invariant. While a record is due, what is said of the card is said of it with that record behind.
-- Assumes nothing.
use Prim.Native.Nat.{ℕ, suc, ◌+◌, ◌≤◌, ◌<◌, pred, ◌*◌}
use mathlib.Core.Path.{◌≡◌, refl, sym, ap, subst, subst₂, ◌∙◌}
use mathlib.Core.Bool.{Bool, true, false, not, ◌&&◌}
use mathlib.Core.Option.{Option, none, some}
use mathlib.Core.Logic.{◌⊎◌, inl, inr, ◌≢◌}
use mathlib.Core.List.Memᴰ
use mathlib.Core.List.{List, [], ◌∷◌, ◌++◌, map, Memᴰ}
use native.Mathlib.Decide.{dec_lt}
use native.Mathlib.Omega.{arith}
use lib.Dec.{leb, ltb, eqb}
use lib.ListN.{set, length, length-set, length-append}
use lib.Seq.{get_or-set_same, take-append_seam}
use borrow.Author.Tests.{eqb-true, ltb-false, not-false}
use Rattle.octets.specs.Lists.{at}
use Rattle.octets.proofs.BoolLaws.{and_left, and_right, or_left, or_right}
use Rattle.transaction.specs.Transaction.{max_text, legal}
use Rattle.table.specs.Table.{lanes}
use Rattle.sealed.specs.Aead.{aes_gcm}
use Rattle.sealed.specs.Record.{Opened, record_bytes, open_record}
use Rattle.protocol.specs.Vaults.{counter_max}
use Rattle.protocol.specs.States.{listed, valid, serving, held_text, with_vault, points_max}
use Rattle.protocol.specs.Accept.{too_low, listed_more, holding, accepted, accept, is_record, held_record, holds, seal}
use Rattle.protocol.specs.Commit.{committed, out_of_turn, commit_opened, commit}
use Rattle.protocol.specs.Point.{Mark, marks_of}
use Rattle.protocol.specs.Truncate.{points_of}
use Rattle.protocol.specs.declared.Point.{Point}
use Rattle.protocol.specs.declared.State.{State}
use Rattle.protocol.specs.declared.Phase.TheVariants as F
use Rattle.protocol.specs.declared.Due.TheVariants as D
use Rattle.protocol.specs.declared.Store.TheVariants as S
use Rattle.protocol.proofs.Basis.{bytes_of}
use Rattle.protocol.proofs.Lanes.{Put, same, other, put}
use Rattle.protocol.proofs.Latest.{In, upto_add, full_add}
use Rattle.protocol.proofs.Card.{Spot, spots_from, cnt, cnt_snoc_same, cnt_snoc_other, consec_snoc, rising_snoc, from_snoc}
use Rattle.protocol.proofs.Listed.{upto_length, upto_set, flag_false, map_snoc}
use Rattle.protocol.proofs.Invariant.{Durable, quiet, out_record, Durably, Crowd, Serving, Holding, held_spot, Service, LinkedAt, Good, GoodAnswer, Known, At, mark_of, floor_of, next_of}
use Rattle.protocol.proofs.StoreLaws.{Up, up_set, lanes_w, lanes_v, sealed_w, sealed_add, book_sealed, book_add, files_book, card_begun}
use Rattle.protocol.proofs.KeepRecover.{good_refuse}
use Rattle.protocol.proofs.Walks.{walk_accept}
use Rattle.protocol.proofs.KeepCold.{unseal}
use Rattle.protocol.proofs.DueLaws.{is_record_law, is_serving}
use Rattle.protocol.proofs.Phases.{card_of, link_serving, link_quiet, when_ready}

-- one more number of a lane, and one more record of it
record Grown (w w' : List ℕ) (x : Spot) (l : ℕ) (cs : List Spot) : Type 0 where
  by : ℕ
  count : cnt l (cs ++ (x ∷ [])) ≡ cnt l cs + by
  raise : at w' l ≡ at w l + by

grow : (w : List ℕ) (x : Spot) → x.rec.lane < length w → (l : ℕ) (cs : List Spot) → Grown w (set w x.rec.lane (suc (at w x.rec.lane))) x l cs
grow w x h l cs = go (put w x.rec.lane (suc (at w x.rec.lane)) h l)
  where
    go : Put w x.rec.lane (suc (at w x.rec.lane)) l → Grown w (set w x.rec.lane (suc (at w x.rec.lane))) x l cs
    go (same e q) = let z : cnt l (cs ++ (x ∷ [])) ≡ suc (cnt l cs) = subst (λ (k : ℕ). cnt k (cs ++ (x ∷ [])) ≡ suc (cnt k cs)) (sym e) (cnt_snoc_same cs x) in
        let y : at w l ≡ at w x.rec.lane = ap (at w) e in record { by = 1; count = omega arith; raise = omega arith }
    go (other n q) = let z = cnt_snoc_other l cs x (λ e. n (sym e)) in record { by = 0; count = omega arith; raise = omega arith }

module _ (key : List ℕ) where
  crowd_snoc : (cs : List Spot) (x : Spot) (m : ℕ) (ps : List Point) → ((p : Point) → Memᴰ p ps → p.position ≤ x.position) → Crowd cs m ps → Crowd (cs ++ (x ∷ [])) (suc m) ps
  crowd_snoc cs x m [] h k = tt
  crowd_snoc cs x m (p ∷ ps) h k = (let a = k.0 in let e = ap length (from_snoc p.position cs x (h p (Memᴰ.head refl))) in let l = length-append (spots_from p.position cs) (x ∷ []) in omega arith, crowd_snoc cs x m ps (λ q n. h q (Memᴰ.tail n)) k.1)

  accept_good : (c : State) (d : Durable) (text : List ℕ) (lane pos : ℕ) → Durably (At c d) → c.phase ≡ F.Serving → Service key c (At c d) D.Nothing → legal text ≡ true → ((i : ℕ) → at text i < 256) → lane < lanes → floor_of c.points ≤ pos → next_of c.journal ≤ pos
      → c.journal.count < listed → at c.vault.w lane < counter_max → Good key (accepted c text lane pos) (S.W lane (suc (at c.vault.w lane))) [] none (At c d) quiet
  unfolding accepted listed_more holding marks_of
  accept_good c d text lane pos i e s fine bytes ln fl nx lt128 tp =
      let w = c.vault.w in
      let sv = s.common in
      let lw : lane < length w = omega (arith, i.lanes.wlen) in
      let up = up_set w lane (suc (at w lane)) lw (omega arith) in
      let x : Spot = held_spot (accepted c text lane pos) in
      let top : at (set w lane (suc (at w lane))) lane ≡ suc (at w lane) = get_or-set_same w lane (suc (at w lane)) 0 lw in
      let cs = d.spots in
      let g : (l : ℕ) (ys : List Spot) → Grown w (set w lane (suc (at w lane))) x l ys = λ l ys. grow w x lw l ys in
      let fr : spots_from (pred (floor_of c.points)) (cs ++ (x ∷ [])) ≡ spots_from (pred (floor_of c.points)) cs ++ (x ∷ []) = from_snoc (pred (floor_of c.points)) cs x (omega arith) in
      let ar = s.arrays in
      let ml : length (marks_of c.journal) ≡ c.journal.count = upto_length c.journal.count c.journal.positions c.journal.lanes (omega (arith, ar.plen)) (omega (arith, ar.llen)) in
      let m : Mark = record { position = pos; lane = lane } in
      let mk : marks_of (accepted c text lane pos).journal ≡ marks_of c.journal ++ (m ∷ []) = upto_set c.journal.count c.journal.positions c.journal.lanes pos lane (omega (arith, ar.plen)) (omega (arith, ar.llen)) in
      let ht : held_text (accepted c text lane pos) ≡ text = take-append_seam text _ in
      let mm : length (marks_of c.journal ++ (m ∷ [])) ≡ suc (length (marks_of c.journal)) = let z = length-append (marks_of c.journal) (m ∷ []) in omega arith in
      record {
        puts = tt;
        rises = omega arith;
        met = tt;
        now = i;
        then = record { lanes = lanes_w lane ln tp sv.order i.lanes; nums = i.nums; sealed = sealed_w up i.sealed; book = i.book; files = i.files; card = i.card; kept = i.kept };
        link = link_serving key c (accepted c text lane pos) _ e refl refl (record {
          key_is = s.key_is;
          arrays = record { plen = length-set c.journal.positions c.journal.count pos ∙ ar.plen; llen = length-set c.journal.lanes c.journal.count lane ∙ ar.llen; ilen = ar.ilen; fewer = lt128; eighth = ar.eighth };
          table = s.table;
          clean = s.clean;
          common = subst (λ (ms : List Mark). Serving (set w lane (suc (at w lane))) c.vault.v c.vault.r c.vault.s ms (points_of c.points) (floor_of c.points) (suc pos) d.book d.files (cs ++ (x ∷ []))) (sym mk) (record {
            order = sv.order;
            some_s = sv.some_s;
            consec = consec_snoc (at w) (at (set w lane (suc (at w lane)))) cs x top (λ l n. others w lane lw l n) refl sv.consec;
            rising = rising_snoc cs x (λ y m. let z = sv.under y m in omega arith) sv.rising;
            under = λ y m. below y (Memᴰ.append_cases cs m);
            marked = ap (λ (ms : List Mark). ms ++ (m ∷ [])) sv.marked ∙ sym (map_snoc (mark_of) (spots_from (pred (floor_of c.points)) cs) x) ∙ ap (map (mark_of)) (sym fr);
            few = omega arith;
            base = λ l. let a = sv.base l in let b = g l (spots_from (pred (floor_of c.points)) cs) in let q = ap (cnt l) fr in omega arith;
            pointed = λ p m. let o = sv.pointed p m in record { exact = λ l. let a = o.exact l in let b = g l (spots_from p.position cs) in let q = ap (cnt l) (from_snoc p.position cs x (let u = o.under in omega arith)) in omega arith; visible = o.visible; covers = o.covers; under = o.under };
            ascending = sv.ascending;
            crowd = subst (λ (n : ℕ). Crowd (cs ++ (x ∷ [])) n (points_of c.points)) (sym mm) (crowd_snoc cs x (length (marks_of c.journal)) (points_of c.points) (λ p m. let u = (sv.pointed p m).under in omega arith) sv.crowd);
            total = let a = sv.total in let l = length-append cs (x ∷ []) in omega arith;
            eight = sv.eight;
          });
          stored = record {
            stale = s.stored.0;
            exact = λ l. let a = s.stored.1 l in let b = g l cs in omega arith;
            lane = ln;
            fine = ap legal ht ∙ fine;
            bytes = λ j. subst (λ (x : List ℕ). at x j < 256) (sym ht) (bytes j);
            newest = λ r m q. let a = i.sealed.small r m in let b : at w r.lane ≡ at w lane = ap (at w) q in omega arith;
          };
        });
      }
    where
      others : (w : List ℕ) (lane : ℕ) → lane < length w → (l : ℕ) → l ≢ lane → at (set w lane (suc (at w lane))) l ≡ at w l
      others w lane h l n = go (put w lane (suc (at w lane)) h l)
        where
          go : Put w lane (suc (at w lane)) l → at (set w lane (suc (at w lane))) l ≡ at w l
          go (same e q) = absurd (n e)
          go (other m q) = q

      below : (y : Spot) → Memᴰ y d.spots ⊎ Memᴰ y (held_spot (accepted c text lane pos) ∷ []) → y.position < suc pos
      below y (inl m) = let z = s.common.under y m in omega arith
      below y (inr m) = let z = ap (λ (p : Spot). p.position) (Memᴰ.eq_of_singleton m) in omega arith

  pub keep_accept : (c : State) (d : Durable) (text : List ℕ) (lane pos : ℕ) → Durably (At c d) → LinkedAt key c (At c d) c.phase c.due → ((i : ℕ) → at text i < 256) → GoodAnswer key (At c d) none (accept c text lane pos)
  unfolding too_low
  keep_accept c d text lane pos i k bytes = walk_accept (GoodAnswer key (At c d) none) c (λ n vs k. tt) text lane pos (λ r t l p m w.
      let s = when_ready key c (At c d) k r in (
        quiet,
        accept_good c d text lane pos i s.0 s.2 t bytes l
            (flag_false c.points.any pos c.points.newest (or_left (c.points.any && leb pos c.points.newest) (c.journal.used && leb pos c.journal.last) p))
            (flag_false c.journal.used pos c.journal.last (or_right (c.points.any && leb pos c.points.newest) (c.journal.used && leb pos c.journal.last) p)) m w,
      ))

  -- the record that is held, and the bytes that are put out
  abbrev held_opened : State → Opened
  held_opened c = (held_spot c).rec

  held_is : (c : State) → c.key ≡ key → held_record c ≡ bytes_of key (held_opened c)
  unfolding held_record
  held_is c k = ap (λ (x : List ℕ). record_bytes (aes_gcm x) c.held.lane c.vault.e (at c.vault.w c.held.lane) (held_text c)) k

  -- the record that is due is not visible: else the book would have it
  not_seen : (c : State) (d : Durable) → Durably (At c d) → Holding c (At c d) → Dec (at c.vault.v c.held.lane < at c.vault.w c.held.lane)
      → at c.vault.v c.held.lane < at c.vault.w c.held.lane
  not_seen c d i h (yes p) = p
  not_seen c d i h (no p) =
      let e = h.exact c.held.lane in
      let k = cnt_snoc_same d.spots (held_spot c) in
      let y = i.book.whole c.held.lane (at c.vault.w c.held.lane) (omega arith) (omega arith) in
      let z = h.newest y.0 (i.book.known y.0 y.1) y.2 in
      let n = y.3 in
      absurd (omega arith)

  seal_good : (c : State) (d : Durable) → Durably (At c d) → c.phase ≡ F.Serving → Service key c (At c d) D.Record
      → Good key (with_vault c c.vault D.Nothing) (S.Record c.held.position) (held_record c) none (At c d) (out_record (held_opened c))
  seal_good c d i e s =
      let sv = s.common in
      let h = s.stored in
      let r = held_opened c in
      let sl = sealed_add {w = c.vault.w} r (omega arith) (record { fine = h.fine; bytes = h.bytes; lane = h.lane; number = (i.lanes.lane c.held.lane).most; epoch = i.nums.e≤; size = refl }) h.newest i.sealed in
      let below : at c.vault.v c.held.lane < at c.vault.w c.held.lane = not_seen c d i h (dec_lt (at c.vault.v c.held.lane) (at c.vault.w c.held.lane)) in
      let n = length-append d.spots (held_spot c ∷ []) in
      let few : length d.spots + 1 ≤ (points_max + 1) * listed = let a = sv.total in let b = sv.eight in let f = sv.few in omega arith in
      record {
        puts = (c.held.position, refl, held_is c s.key_is);
        rises = tt;
        met = s.clean;
        now = record { lanes = i.lanes; nums = i.nums; sealed = sl; book = book_sealed r i.book; files = i.files; card = card_begun r below few i.card; kept = i.kept };
        then = record {
          lanes = i.lanes;
          nums = i.nums;
          sealed = sl;
          book = book_sealed r i.book;
          files = i.files;
          card = card_of (r ∷ d.sealed) i.lanes sv h.exact (λ p m. kn p (Memᴰ.append_cases d.spots m)) s.clean;
          kept = i.kept;
        };
        link = link_serving key c (with_vault c c.vault D.Nothing) _ e refl refl (record { key_is = s.key_is; arrays = s.arrays; table = s.table; common = sv; clean = s.clean; stored = (h.stale, h.exact) });
      }
    where
      kn : (p : Spot) → Memᴰ p d.spots ⊎ Memᴰ p (held_spot c ∷ []) → In (held_opened c ∷ d.sealed) p.rec
      kn p (inl m) = Memᴰ.tail (i.card.known p m)
      kn p (inr m) = Memᴰ.head (ap (λ (x : Spot). x.rec) (Memᴰ.eq_of_singleton m))

  pub keep_seal : (c : State) (d : Durable) (room : ℕ) → Durably (At c d) → LinkedAt key c (At c d) c.phase c.due → GoodAnswer key (At c d) none (seal c room)
  unfolding seal holds valid
  keep_seal c d room i k =
      good_refuse key _ none _ c 1 [] _ (λ r.
      let a = not-false _ r in
      let t : Bool = valid c && serving c.phase in
      let b : (t && is_record c.due) ≡ true = and_left (t && is_record c.due) (leb c.held.len max_text) (and_left _ (legal (held_text c)) (and_left _ (ltb c.held.lane lanes) a)) in
      let n = is_record_law c.due (and_right t (is_record c.due) b) in
      let p = is_serving c.phase (and_right (valid c) (serving c.phase) (and_left t (is_record c.due) b)) in
      good_refuse key _ none _ c 3 _ _ (λ _. (out_record (held_opened c), seal_good c d i p (subst₂ (LinkedAt key c (At c d)) p n k))))

  commit_good : (c : State) (d : Durable) (y : Opened) → Durably (At c d) → c.phase ≡ F.Serving → c.due ≡ D.Nothing → Service key c (At c d) D.Nothing → In d.sealed y → y.lane < lanes
      → y.epoch ≡ c.vault.e → y.number ≡ suc (at c.vault.v y.lane) → y.number ≤ at c.vault.w y.lane
      → Good key (committed c y) (S.V y.lane y.number) [] (some y) (At c d) quiet
  unfolding committed
  commit_good c d y i e du s m ln ep nu le =
      let sv = s.common in
      let v = c.vault.v in
      let v' : List ℕ = set v y.lane y.number in
      let lv : y.lane < length v = omega (arith, i.lanes.vlen) in
      let up : Up v v' = up_set v y.lane y.number lv (omega arith) in
      let lo = sv.order y.lane in
      let dl = lanes_v y.lane y.number ln le (inl (omega arith)) i.lanes in
      let sv' : Serving c.vault.w v' c.vault.r c.vault.s (marks_of c.journal) (points_of c.points) (floor_of c.points) (next_of c.journal) (d.book ++ (y ∷ [])) d.files d.spots = record {
        order = λ l. let a = sv.order l in let b = up l in omega arith;
        some_s = sv.some_s;
        consec = sv.consec;
        rising = sv.rising;
        under = sv.under;
        marked = sv.marked;
        few = sv.few;
        base = λ l. let a = sv.base l in let b = up l in omega arith;
        pointed = λ p n. let o = sv.pointed p n in record {
          exact = o.exact;
          visible = λ l. let a = o.visible l in let b = up l in omega arith;
          covers = λ q f mf vf. upto_add y (let a = o.visible y.lane in omega arith) (o.covers q f mf vf);
          under = o.under;
        };
        ascending = sv.ascending;
        crowd = sv.crowd;
        total = sv.total;
        eight = sv.eight;
      } in
      record {
        puts = tt;
        rises = omega arith;
        met = tt;
        now = i;
        then = record {
          lanes = dl;
          nums = i.nums;
          sealed = i.sealed;
          book = book_add y i.lanes.vlen ln m ep nu i.book;
          files = files_book y sv.some_s s.stored.0 (omega arith) i.files;
          card = card_of d.sealed dl sv' s.stored.1 i.card.known s.clean;
          kept = i.kept;
        };
        link = link_quiet key c (committed c y) _ e du refl refl refl (record { key_is = s.key_is; arrays = s.arrays; table = full_add y (i.sealed.fine y m) s.table; common = sv'; clean = s.clean; stored = s.stored });
      }

  in_turn : (c : State) (r : Opened) → out_of_turn c r ≡ false → (r.number ≡ suc (at c.vault.v r.lane)) × (r.number ≤ at c.vault.w r.lane)
  unfolding out_of_turn
  in_turn c r q =
      let u = not (eqb r.number (suc (at c.vault.v r.lane))) in
      let most = ltb-false (at c.vault.w r.lane) _ (or_right u _ q) in
      (eqb-true _ _ (not-false _ (or_left u _ q)), omega arith)

  keep_opened : (c : State) (d : Durable) (o : Option Opened) → Durably (At c d) → c.phase ≡ F.Serving → c.due ≡ D.Nothing → Service key c (At c d) D.Nothing
      → ((y : Opened) → o ≡ some y → In d.sealed y) → GoodAnswer key (At c d) o (commit_opened c o)
  unfolding commit_opened
  keep_opened c d none i e du s h = tt
  keep_opened c d (some y) i e du s h =
      good_refuse key _ (some y) _ c 10 _ _ (λ p.
      good_refuse key _ (some y) _ c 11 _ _ (λ q.
      let m = h y refl in
      let now : y.epoch ≡ c.vault.e = eqb-true _ _ (not-false _ p) in
      let turn = in_turn c y q in
      (quiet, commit_good c d y i e du s m (i.sealed.fine y m).lane now turn.0 turn.1)))

  pub keep_commit : (c : State) (d : Durable) (b : List ℕ) → Durably (At c d) → LinkedAt key c (At c d) c.phase c.due → ((y : Opened) → open_record (aes_gcm key) b ≡ some y → Known key d.sealed d.files b)
      → GoodAnswer key (At c d) (open_record (aes_gcm key) b) (commit c b)
  unfolding commit
  keep_commit c d b i k h = good_refuse key _ (open_record (aes_gcm key) b) _ c 1 [] _ (λ r. let s = when_ready key c (At c d) k r in
      subst (λ (x : List ℕ). GoodAnswer key (At c d) (open_record (aes_gcm key) b) (commit_opened c (open_record (aes_gcm x) b))) (sym s.2.key_is)
      (keep_opened c d (open_record (aes_gcm key) b) i s.0 s.1 s.2 (λ y o. unseal key b y i.sealed (h y o) o)))
