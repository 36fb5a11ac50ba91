-- Each call that goes on with recovery's stores keeps the invariant.
-- Assumes nothing.
use Prim.Native.Nat.{ℕ, suc, ◌+◌, ◌≤◌, ◌<◌, pred}
use mathlib.Core.Path.{◌≡◌, refl, sym, ap, subst, ◌∙◌}
use mathlib.Core.Bool.{Bool, true, false, cond}
use mathlib.Core.Option.{Option, none}
use mathlib.Core.Logic.{inr}
use mathlib.Core.List.Memᴰ
use mathlib.Core.List.{List, [], ◌∷◌, ◌++◌, map}
use native.Mathlib.Omega.{arith}
use native.Mathlib.Decide.{dec_lt}
use lib.Dec.{ltb, eqb}
use lib.ListN.{set, length, get_or-eq_default}
use borrow.Author.Tests.{ltb-true, eqb-true, ltb-false}
use Rattle.octets.specs.Lists.{at}
use Rattle.octets.specs.Every.{all_below}
use Rattle.octets.proofs.EveryLaws.{all_at}
use Rattle.table.specs.Table.{lanes}
use Rattle.sealed.specs.Aead.{aes_gcm}
use Rattle.sealed.specs.Record.{Opened}
use Rattle.sealed.specs.Checkpoint.{OpenedFile, file_bytes}
use Rattle.protocol.specs.Vaults.{counter_max, set_v, set_r, set_e, set_s, set_n}
use Rattle.protocol.specs.States.{with_vault}
use Rattle.protocol.specs.Said.{Answered, taking, refuse}
use Rattle.protocol.specs.Steps.{stands_if, raise_s, raise_n, raise_e, put_r, put_v, stepped, table_file, file_step}
use Rattle.protocol.specs.Point.{marks_to, marks_of}
use Rattle.protocol.specs.Truncate.{points_of}
use Rattle.protocol.specs.Recover.{after_version, all_visible, after_r, after_v, recover_number, in_service, recover_step, recover_due}
use Rattle.protocol.specs.declared.Vault.{Vault}
use Rattle.protocol.specs.declared.State.{State}
use Rattle.protocol.specs.declared.Phase.{Phase}
use Rattle.protocol.specs.declared.Phase.TheVariants as F
use Rattle.protocol.specs.declared.Due.{Due}
use Rattle.protocol.specs.declared.Due.TheVariants as D
use Rattle.protocol.specs.declared.RecoverStep.{RecoverStep}
use Rattle.protocol.specs.declared.RecoverStep.TheVariants as G
use Rattle.protocol.specs.declared.RecoverNumber.{RecoverNumber}
use Rattle.protocol.specs.declared.RecoverNumber.TheVariants as M
use Rattle.protocol.specs.declared.Store.{Store}
use Rattle.protocol.specs.declared.Store.TheVariants as S
use Rattle.protocol.proofs.Basis.{file_of}
use Rattle.protocol.proofs.Lanes.{Put, same, other, put}
use Rattle.protocol.proofs.Latest.{Full, full_upto}
use Rattle.protocol.proofs.Card.{Spot, from_nil, cnt}
use Rattle.protocol.proofs.Invariant.{Durable, vault_to, quiet, out_file, known, filed, Durably, HasNext, checkpoints_left, Raising, RecoverDue, Recovering, LinkedAt, Linked, GoodAnswer, At, mark_of}
use Rattle.protocol.proofs.StoreLaws.{up_set, lanes_v, lanes_r, book_r, book_free, files_s, settled_s, files_r, files_add, card_r, card_free, card_empty, kept_add, kept_known, kept_s}

module _ (key : List ℕ) where
  -- a refusal keeps the invariant, and so does what goes on where there is none
  pub good_refuse : (d : Durable) (adds : Option Opened) (b : Bool) (c : State) (n : ℕ) (vs : List ℕ) (a : Answered) → (b ≡ false → GoodAnswer key d adds a) → GoodAnswer key d adds (refuse b c n vs a)
  unfolding refuse
  good_refuse d adds true c n vs a f = tt
  good_refuse d adds false c n vs a f = f refl

  -- the step of a vault number
  pub good_step : (d : Durable) (adds : Option Opened) (c : State) (b : Bool) (y : Vault) (du : Due) (st : Store) → (b ≡ false → GoodAnswer key d adds (taking (with_vault c y du) st [])) → GoodAnswer key d adds (stepped c (stands_if b y du st))
  unfolding stepped stands_if
  good_step d adds c true y du st f = tt
  good_step d adds c false y du st f = f refl

  link_rec : (c : State) (d : Durable) (x : Vault) (du : Due) → c.key ≡ key → c.phase ≡ F.Recovering → x ≡ d.vault → Full d.book c.table → RecoverDue x d du → Linked key (with_vault c x du) d
  link_rec c d x du k e s t r = record { same = s; rest = subst (λ (ph : Phase). LinkedAt key (with_vault c x du) d ph du) (sym e) (record { key_is = k; table = t; stored = r }) }

  -- lanes of which all eight are alike
  even_all : (a b : List ℕ) → length a ≡ lanes → length b ≡ lanes → ((k : ℕ) → k < lanes → at a k ≡ at b k) → (k : ℕ) → at a k ≡ at b k
  even_all a b la lb f k = go (dec_lt k lanes)
    where
      go : Dec (k < lanes) → at a k ≡ at b k
      go (yes h) = f k h
      go (no h) = get_or-eq_default a 0 (let y : length a ≤ k = omega arith in y) ∙ sym (get_or-eq_default b 0 (let y : length b ≤ k = omega arith in y))

  -- one more lane alike
  next_lane : (a b : List ℕ) (l : ℕ) → l < length a → ((k : ℕ) → k < l → at a k ≡ at b k) → (k : ℕ) → k < suc l → at (set a l (at b l)) k ≡ at b k
  next_lane a b l h f k lt = go (put a l (at b l) h k)
    where
      go : Put a l (at b l) k → at (set a l (at b l)) k ≡ at b k
      go (same e q) = q ∙ ap (at b) (sym e)
      go (other n q) = q ∙ f k (omega arith)

  -- the file that is put out, and that it can be written
  abbrev pub next_file : State → OpenedFile
  next_file c = record { version = suc c.vault.s; seal = c.vault.n; table = c.table }

  pub file_is : (c : State) → c.key ≡ key → table_file c ≡ file_of key (next_file c)
  unfolding table_file
  file_is c k = ap (λ (x : List ℕ). file_bytes (aes_gcm x) (suc c.vault.s) c.vault.n c.table) k

  pub file_now : (c : State) (d : Durable) → Durably (At c d) → Full d.book c.table → c.vault.s + 1 ≤ counter_max → Durably (known (out_file (next_file c)) (At c d))
  file_now c d i t h = record { lanes = i.lanes; nums = i.nums; sealed = i.sealed; book = i.book; files = files_add (next_file c) refl t (record { canonical = t.canon; version = omega arith; seal = i.nums.n≤ }) i.files; card = i.card; kept = kept_known (next_file c) i.kept }

  pub file_then : (c : State) (d : Durable) → Durably (At c d) → Full d.book c.table → c.vault.s + 1 ≤ counter_max → Durably (filed (out_file (next_file c)) (known (out_file (next_file c)) (At c d)))
  file_then c d i t h = let n = file_now c d i t h in record { lanes = i.lanes; nums = i.nums; sealed = i.sealed; book = i.book; files = n.files; card = i.card; kept = kept_add (next_file c) i.kept }

  pub has_next : (c : State) (d : Durable) → HasNext c.vault.s (d.cards ++ (next_file c ∷ []))
  has_next c d = (next_file c, Memᴰ.append_right d.cards (Memᴰ.head refl), refl)

  -- S may rise by one
  s_next : (c : State) (b : Bool) → c.vault.s + checkpoints_left b ≤ counter_max → c.vault.s + 1 ≤ counter_max
  s_next c false h = omega arith
  s_next c true h = h

  keep_file : (c : State) (d : Durable) → Durably (At c d) → c.phase ≡ F.Recovering → (b : Bool) → Recovering key c (At c d) (D.Recover (G.File b)) → (room : ℕ) → GoodAnswer key (At c d) none (file_step c room (D.Recover (G.Number (M.S b))))
  unfolding file_step
  keep_file c d i e b r room = good_refuse _ none _ c 1 [] _ (λ _. good_refuse _ none _ c 3 _ _ (λ _.
      let h = s_next c b r.stored.s_room in (
        out_file (next_file c),
        record {
          puts = (refl, file_is c r.key_is);
          rises = tt;
          met = tt;
          now = file_now c d i r.table h;
          then = file_then c d i r.table h;
          link = link_rec c _ c.vault (D.Recover (G.Number (M.S b))) r.key_is e refl r.table (r.stored, has_next c d);
        },
      )))

  -- the first checkpoint leaves room for the second; behind the second every file of version S has the whole book
  version_due : (x : Vault) (d : Durable) (b : Bool) → Durably (vault_to d x) → RecoverDue x d (D.Recover (G.Number (M.S b))) → RecoverDue (set_s x (suc x.s)) (vault_to d (set_s x (suc x.s))) (after_version b)
  unfolding after_version
  version_due x d false i r = let a = r.0 in record { s_room = omega arith; n_room = a.n_room; e_room = a.e_room }
  version_due x d true i r = let a = r.0 in (omega arith, record { caught = settled_s i.files; r_is_w = λ k h. absurd (omega arith); v_is_w = λ k h. absurd (omega arith); e_room = omega (arith, a.e_room) })

  keep_s : (c : State) (d : Durable) → Durably (At c d) → c.phase ≡ F.Recovering → (b : Bool) → Recovering key c (At c d) (D.Recover (G.Number (M.S b))) → GoodAnswer key (At c d) none (stepped c (recover_number c.vault (M.S b)))
  unfolding recover_number raise_s
  keep_s c d i e b r = good_step _ none c _ _ _ _ (λ _. (
    quiet,
    record {
      puts = tt;
      rises = omega arith;
      met = tt;
      now = i;
      then = record { lanes = i.lanes; nums = record { e≤ = i.nums.e≤; s≤ = let z = s_next c b r.stored.0.s_room in omega arith; n≤ = i.nums.n≤ }; sealed = i.sealed; book = i.book; files = files_s i.files; card = i.card; kept = kept_s r.stored.1 i.kept };
      link = link_rec c _ (set_s c.vault (suc c.vault.s)) (after_version b) r.key_is e refl r.table (version_due c.vault d b i r.stored);
    },
  ))

  keep_n : (c : State) (d : Durable) → Durably (At c d) → c.phase ≡ F.Recovering → Recovering key c (At c d) (D.Recover (G.Number M.N)) → GoodAnswer key (At c d) none (stepped c (recover_number c.vault M.N))
  unfolding recover_number raise_n
  keep_n c d i e r = let a = r.stored in good_step _ none c _ _ _ _ (λ _. (
    quiet,
    record {
      puts = tt;
      rises = omega arith;
      met = tt;
      now = i;
      then = record { lanes = i.lanes; nums = record { e≤ = i.nums.e≤; s≤ = i.nums.s≤; n≤ = let z = a.n_room in omega arith }; sealed = i.sealed; book = i.book; files = i.files; card = i.card; kept = i.kept };
      link = link_rec c _ (set_n c.vault (suc c.vault.n)) (D.Recover (G.File true)) r.key_is e refl r.table (record { s_room = a.s_room; n_room = let z = a.n_room in omega arith; e_room = a.e_room });
    },
  ))

  -- behind R of a lane: the next lane, and behind the last E and V, or emptying the log
  r_due : (x : Vault) (d : Durable) (l : ℕ) (b q : Bool) → l < lanes → Raising x d (suc l) 0 1 → ltb (suc l) lanes ≡ b → all_below (λ i. eqb (at x.w i) (at x.v i)) lanes ≡ q
      → RecoverDue x d (D.Recover (cond b (G.Number (M.R (suc l))) (cond q G.Empty (G.Number M.E))))
  r_due x d l true q h f eb eq = (ltb-true (suc l) lanes eb, f)
  r_due x d l false true h f eb eq = let z = ltb-false (suc l) lanes eb in
      record { caught = f.caught; r_is_w = λ k lt. f.r_is_w k (omega arith); v_is_w = λ k lt. sym (eqb-true (at x.w k) (at x.v k) (all_at _ lanes eq k lt)); e_room = let y = f.e_room in omega arith }
  r_due x d l false false h f eb eq = let z = ltb-false (suc l) lanes eb in record { caught = f.caught; r_is_w = λ k lt. f.r_is_w k (omega arith); v_is_w = f.v_is_w; e_room = f.e_room }

  keep_r : (c : State) (d : Durable) → Durably (At c d) → c.phase ≡ F.Recovering → (l : ℕ) → Recovering key c (At c d) (D.Recover (G.Number (M.R l))) → GoodAnswer key (At c d) none (stepped c (recover_number c.vault (M.R l)))
  unfolding recover_number put_r after_r all_visible
  keep_r c d i e l r =
      let h = r.stored.0 in
      let a = r.stored.1 in
      let s = a.caught in
      let x : Vault = set_r c.vault l (at c.vault.w l) in
      let ln = i.lanes.lane l in
      let lr : l < length c.vault.r = omega (arith, i.lanes.rlen) in
      let u = up_set c.vault.r l (at c.vault.w l) lr ln.gone in
      let i' = lanes_r l (at c.vault.w l) h (omega arith) (inr (omega arith)) i.lanes in
      good_step _ none c _ _ _ _ (λ _. (
        quiet,
        record {
          puts = tt;
          rises = ln.gone;
          met = tt;
          now = i;
          then = record { lanes = i'; nums = i.nums; sealed = i.sealed; book = book_r u i.book; files = files_r x.r s.some_s (λ f m v. full_upto x.r (s.full f m v)) i.files; card = card_r u i.card; kept = i.kept };
          link = link_rec c (vault_to d x) x (after_r c.vault l) r.key_is e refl r.table
              (r_due x (vault_to d x) l (ltb (suc l) lanes) (all_below (λ k. eqb (at c.vault.w k) (at c.vault.v k)) lanes) h
              (record { caught = s; r_is_w = next_lane c.vault.r c.vault.w l lr a.r_is_w; v_is_w = λ k lt. absurd (omega arith); e_room = a.e_room }) refl refl);
        },
      ))

  -- where R is W in each lane, V and E are free to rise
  keep_e : (c : State) (d : Durable) → Durably (At c d) → c.phase ≡ F.Recovering → Recovering key c (At c d) (D.Recover (G.Number M.E)) → GoodAnswer key (At c d) none (stepped c (recover_number c.vault M.E))
  unfolding recover_number raise_e
  keep_e c d i e r =
      let a = r.stored in
      let ev = even_all c.vault.r c.vault.w i.lanes.rlen i.lanes.wlen a.r_is_w in
      good_step _ none c _ _ _ _ (λ _. (
        quiet,
        record {
          puts = tt;
          rises = omega arith;
          met = tt;
          now = i;
          then = record {
            lanes = i.lanes;
            nums = record { e≤ = let z = a.e_room in omega arith; s≤ = i.nums.s≤; n≤ = i.nums.n≤ };
            sealed = i.sealed;
            book = book_free (suc c.vault.e) (λ l. omega arith) (λ l. let b = i.lanes.lane l in let z = ev l in omega arith) i.book;
            files = i.files;
            card = i.card;
            kept = i.kept;
          };
          link = link_rec c _ (set_e c.vault (suc c.vault.e)) (D.Recover (G.Number (M.V 0))) r.key_is e refl r.table
              (omega arith, record { caught = a.caught; r_is_w = a.r_is_w; v_is_w = λ k h. absurd (omega arith); e_room = let z = a.e_room in omega arith });
        },
      ))

  v_due : (x : Vault) (d : Durable) (l : ℕ) (b : Bool) → l < lanes → Raising x d lanes (suc l) 0 → ltb (suc l) lanes ≡ b → RecoverDue x d (D.Recover (cond b (G.Number (M.V (suc l))) G.Empty))
  v_due x d l true h f eb = (ltb-true (suc l) lanes eb, f)
  v_due x d l false h f eb = let z = ltb-false (suc l) lanes eb in record { caught = f.caught; r_is_w = f.r_is_w; v_is_w = λ k lt. f.v_is_w k (omega arith); e_room = f.e_room }

  keep_v : (c : State) (d : Durable) → Durably (At c d) → c.phase ≡ F.Recovering → (l : ℕ) → Recovering key c (At c d) (D.Recover (G.Number (M.V l))) → GoodAnswer key (At c d) none (stepped c (recover_number c.vault (M.V l)))
  unfolding recover_number put_v after_v
  keep_v c d i e l r =
      let h = r.stored.0 in
      let a = r.stored.1 in
      let ev = even_all c.vault.r c.vault.w i.lanes.rlen i.lanes.wlen a.r_is_w in
      let x : Vault = set_v c.vault l (at c.vault.w l) in
      let ln = i.lanes.lane l in
      let lv : l < length c.vault.v = omega (arith, i.lanes.vlen) in
      let u = up_set c.vault.v l (at c.vault.w l) lv ln.seen in
      let i' = lanes_v l (at c.vault.w l) h (omega arith) (inr (let z = ev l in omega arith)) i.lanes in
      let f : (k : ℕ) → at x.v k ≤ at x.r k = λ k. let b = (i'.lane k).seen in let z = ev k in omega arith in
      good_step _ none c _ _ _ _ (λ _. (
        quiet,
        record {
          puts = tt;
          rises = ln.seen;
          met = tt;
          now = i;
          then = record { lanes = i'; nums = i.nums; sealed = i.sealed; book = book_free c.vault.e u f i.book; files = i.files; card = card_free f i.card; kept = i.kept };
          link = link_rec c (vault_to d x) x (after_v l) r.key_is e refl r.table
              (v_due x (vault_to d x) l (ltb (suc l) lanes) h (record { caught = a.caught; r_is_w = a.r_is_w; v_is_w = next_lane c.vault.v c.vault.w l lv a.v_is_w; e_room = a.e_room }) refl);
        },
      ))

  keep_empty : (c : State) (d : Durable) → Durably (At c d) → Recovering key c (At c d) (D.Recover G.Empty) → GoodAnswer key (At c d) none (taking (in_service c) S.Empty [])
  unfolding in_service cnt marks_of marks_to points_of
  keep_empty c d i r =
      let s = r.stored.caught in
      let rw = even_all c.vault.r c.vault.w i.lanes.rlen i.lanes.wlen r.stored.r_is_w in
      let vw = even_all c.vault.v c.vault.w i.lanes.vlen i.lanes.wlen r.stored.v_is_w in
      let f : (l : ℕ) → at c.vault.v l ≤ at c.vault.r l = λ l. let a = rw l in let b = vw l in omega arith in (
        quiet,
        record {
          puts = tt;
          rises = tt;
          met = tt;
          now = i;
          then = record { lanes = i.lanes; nums = i.nums; sealed = i.sealed; book = i.book; files = i.files; card = card_empty f; kept = i.kept };
          link = record {
            same = refl;
            rest = record {
              key_is = r.key_is;
              arrays = record { plen = refl; llen = refl; ilen = refl; fewer = omega arith; eighth = omega arith };
              table = r.table;
              clean = refl;
              common = record {
                order = λ l. let a = rw l in let b = vw l in omega arith;
                some_s = s.some_s;
                consec = tt;
                rising = tt;
                under = λ y m. absurd (Memᴰ.not-nil m);
                marked = ap (λ (l : List Spot). map mark_of l) (sym (from_nil (pred 0)));
                few = omega arith;
                base = λ l. let b = vw l in omega arith;
                pointed = λ p m. absurd (Memᴰ.not-nil m);
                ascending = tt;
                crowd = tt;
                total = omega arith;
                eight = omega arith;
              };
              stored = (s.stale, λ l. let a = rw l in omega arith);
            };
          };
        },
      )

  -- each call that goes on with recovery's stores
  keep_number : (c : State) (d : Durable) (number : RecoverNumber) → Durably (At c d) → c.phase ≡ F.Recovering → Recovering key c (At c d) (D.Recover (G.Number number)) → GoodAnswer key (At c d) none (stepped c (recover_number c.vault number))
  keep_number c d (M.S b) i e r = keep_s c d i e b r
  keep_number c d M.N i e r = keep_n c d i e r
  keep_number c d (M.R l) i e r = keep_r c d i e l r
  keep_number c d M.E i e r = keep_e c d i e r
  keep_number c d (M.V l) i e r = keep_v c d i e l r

  keep_step : (c : State) (d : Durable) (step : RecoverStep) → Durably (At c d) → c.phase ≡ F.Recovering → Recovering key c (At c d) (D.Recover step) → (room : ℕ) → GoodAnswer key (At c d) none (recover_step c room step)
  unfolding recover_step
  keep_step c d (G.File b) i e r room = keep_file c d i e b r room
  keep_step c d (G.Number number) i e r room = keep_number c d number i e r
  keep_step c d G.Empty i e r room = keep_empty c d i r

  pub keep_due : (c : State) (d : Durable) (du : Due) → Durably (At c d) → c.phase ≡ F.Recovering → Recovering key c (At c d) du → (room : ℕ) → GoodAnswer key (At c d) none (recover_due c room du)
  unfolding recover_due
  keep_due c d D.Nothing i e r room = absurd r.stored
  keep_due c d D.Record i e r room = absurd r.stored
  keep_due c d (D.Checkpoint step) i e r room = absurd r.stored
  keep_due c d (D.Truncate position step) i e r room = absurd r.stored
  keep_due c d (D.Recover step) i e r room = keep_step c d step i e r room
