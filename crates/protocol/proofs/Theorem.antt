-- Demand 3: since every list keeps the invariants, the table of an accepted recovery is the book's, and a faithful card is taken.
-- Assumes nothing.
use Prim.Native.Nat.{ℕ, zero, suc, ◌+◌, ◌≤◌, ◌<◌, ◌*◌}
use mathlib.Core.Path.{◌≡◌, refl, sym, ap, ap₂, subst, ◌∙◌}
use mathlib.Core.Bool.{Bool, true, false, cond, ◌&&◌}
use mathlib.Core.Option.{Option, none, some}
use mathlib.Core.List.Memᴰ
use mathlib.Core.List.{List, [], ◌∷◌, ◌++◌, Memᴰ}
use native.Mathlib.Omega.{arith}
use native.Mathlib.Decide.{dec_lt}
use lib.Dec.{eqb}
use lib.ListN.{length, take, length-map, length-take, length-append}
use lib.Seq.{take-nil, take_all}
use borrow.Author.Tests.{le-leb, le-ltb, eq-eqb, ne_eqb}
use Rattle.octets.proofs.EveryLaws.{and_both}
use Rattle.transaction.specs.Transaction.{max_text}
use Rattle.table.specs.Table.{empty_table}
use Rattle.table.proofs.OrderLaws.{clash}
use Rattle.table.specs.declared.Entry.{Entry}
use Rattle.table.specs.declared.Table.{Table}
use Rattle.sealed.specs.Aead.{aes_gcm}
use Rattle.sealed.specs.Frame.{frame_len}
use Rattle.sealed.specs.Record.{Opened}
use Rattle.sealed.specs.Log.{records_to, records_in}
use Rattle.sealed.specs.Checkpoint.{OpenedFile, version_of, open_file}
use Rattle.sealed.proofs.LogTrip.{version_is, records_nil}
use Rattle.protocol.specs.Vaults.{vault_ok}
use Rattle.protocol.specs.States.{listed, points_max, valid, is_nothing}
use Rattle.protocol.specs.Said.{Said, refused, taken, Answered, refuse, taking}
use Rattle.protocol.specs.Load.{key_len, loaded, load}
use Rattle.protocol.specs.Replay.{Read, or_stop, replay}
use Rattle.protocol.specs.Recover.{log_max, spent, recovered, other_version, read_file, read_from, recover_read, recover_first, recover_phase, recover, in_service}
use Rattle.protocol.specs.LatestOf.{LatestOf}
use Rattle.protocol.specs.History.{call, call_recover, World, Lasting, settled, done, book_after, after_said, after_answer, answer, answer_of, adds_of, next, run, is_taken, PutOut, Honest, faithful_log, FaithfulFile}
use Rattle.protocol.specs.Beside.{longest_log, LogIsShort, forgotten, OtherFilesMayGo, Beside}
use Rattle.protocol.specs.Claim.{TakenUnlessSpent, HasLatest, after, Claim, Demand3}
use Rattle.protocol.specs.declared.Vault.{Vault}
use Rattle.protocol.specs.declared.State.{State}
use Rattle.protocol.specs.declared.Phase.{Phase}
use Rattle.protocol.specs.declared.Phase.TheVariants as F
use Rattle.protocol.specs.declared.Store.TheVariants as S
use Rattle.protocol.proofs.SpentLaws.{unspent_passes, spent_else}
use Rattle.protocol.proofs.Walks.{walk_recover, past_refuse, at_refuse}
use Rattle.protocol.proofs.Basis.{Writable, bytes_of, begun_bytes, size, file_of, file_opens, empty_file}
use Rattle.protocol.proofs.Latest.{In, Full}
use Rattle.protocol.proofs.BookLaws.{full_latest, latest_one}
use Rattle.protocol.proofs.LaidLaws.{laid_out, laid_length, records_laid, records_begun, records_one}
use Rattle.protocol.proofs.Card.{Spot, recs_of, mem_recs}
use Rattle.protocol.proofs.Faith.{read_faithful}
use Rattle.protocol.proofs.Invariant.{Durable, vault_to, begun_count, Durably, Cold, LinkedAt, Linked, LinkedIf, Apart, Invariant, At}
use Rattle.protocol.proofs.TallyLaws.{recovery_tally}
use Rattle.protocol.proofs.ServiceLaws.{vault_ok_law, accepts, seals, commits, points, keeps, counts, nine, three}
use Rattle.protocol.proofs.Apart.{mem_map, map_mem, faithful_log_law}
use Rattle.protocol.proofs.Runs.{next_invariant, run_invariant, listed_invariant}
use Rattle.protocol.proofs.ForgetLaws.{forgotten_invariant}
use Rattle.protocol.proofs.BegunLaws.{leaves, none_begun, none_meets, torn, sealed_torn}
use Rattle.protocol.proofs.RiseLaws.{rises, never_falls, older_files}

-- ---- an accepted Recover call leaves no cold state

abbrev WarmSaid : Said → State → Type 0
WarmSaid (refused n vs) c = Unit {0}
WarmSaid (taken st n) c = c.phase ≡ F.Cold → ⊥

abbrev Warm : Answered → Type 0
Warm a = WarmSaid a.said a.state

not_cold : F.Recovering ≡ F.Cold → ⊥
not_cold e = let z : ◌≡◌ {A = ℕ} 0 1 = cc in omega arith

serving_not_cold : F.Serving ≡ F.Cold → ⊥
serving_not_cold e = let z : ◌≡◌ {A = ℕ} 0 1 = cc in omega arith

warm : (c : State) (file log : List ℕ) (room : ℕ) → Warm (recover c file log room)
unfolding recovered in_service
warm c file log room = walk_recover Warm c (λ n vs k. tt) file log room (λ t. not_cold) (λ e x d st out f. not_cold (sym e ∙ f)) serving_not_cold

module _ (key : List ℕ) where
  -- ---- the table

  warm_table : (c : State) (d : Durable) (ph : Phase) → (ph ≡ F.Cold → ⊥) → LinkedAt key c d ph c.due → Full d.book c.table
  warm_table c d F.Cold h k = absurd (h refl)
  warm_table c d F.Recovering h k = k.table
  warm_table c d F.Serving h k = k.table

  -- what a Recover call leaves
  after_recover : (w : World) (c : State) (file log : List ℕ) (room : ℕ) → w.state ≡ some c
      → next key w (call (call_recover file log room)) ≡ after_said (recover c file log room).said (settled w) (some c) none (recover c file log room).state (recover c file log room).put
  unfolding next after_answer answer answer_of adds_of
  after_recover w c file log room q = ap (λ (s : Option State). after_answer (settled w) s none (answer s (call_recover file log room))) q

  abbrev HasBooks : World → Type 0
  HasBooks w = (d : State) × (w.state ≡ some d) × HasLatest w.lasting.book d.table

  safe_said : (sa : Said) (a : Lasting) (s : Option State) (c : State) (put : List ℕ) → WarmSaid sa c → is_taken sa ≡ true → Invariant key (after_said sa a s none c put) → HasBooks (after_said sa a s none c put)
  unfolding after_said is_taken done book_after
  safe_said (refused n vs) a s c put h e i = clash (sym e)
  safe_said (taken st n) a s c put h e i =
      let d = i.after in
      let f = warm_table c d c.phase h i.link.rest in
      (c, refl, subst (λ (x : List Opened). HasLatest x c.table) (sym i.apart'.book) (record { long = f.canon.long; each = full_latest d.book c.table f }))

  -- ---- the faithful card

  -- what is said where the reading is not stopped
  past_stop : (c : State) (b : Bool) (n : ℕ) (vs : List ℕ) (r : Read) (x : Said) → b ≡ false → (recover_read c r).said ≡ x → (recover_read c (or_stop b n vs r)).said ≡ x
  unfolding or_stop
  past_stop c true n vs r x e f = clash e
  past_stop c false n vs r x e f = f

  -- a faithful log is read to its end
  -- what such a card shows, with the first k bytes of a record that was begun
  abbrev shown : Durable → ℕ → List ℕ
  shown d k = laid_out key (recs_of d.spots) ++ take k (begun_bytes key d.begun)

  live_log : (c : State) (d : Durable) (k : ℕ) (t : Table) → c.key ≡ key → Durably (At c d) → (recover_read c (replay (aes_gcm c.key) c.vault t (shown d k))).said ≡ taken (S.N (suc c.vault.n)) 0
  unfolding recover_read
  live_log c d k t kk i =
      let r = read_faithful key c.vault i.card.top (In d.sealed)
      (λ y m a b. let w = i.book.whole y.lane y.number a b in let e : w.0 ≡ y = i.sealed.single w.0 y (i.book.known w.0 w.1) m w.2 w.3 in sym (ap (λ (x : Opened). x.epoch) e) ∙ w.4)
      i.sealed.fine d.spots t d.begun k i.lanes.rlen i.card.consec i.card.known i.card.reach i.card.begun_known i.card.begun_passed in
      rw (kk, r.1)

  -- and its checkpoint is that of a version that is asked for
  live_file : (c : State) (d : Durable) (k : ℕ) (a : Lasting) (s : ℕ) (file : List ℕ) → c.vault.s ≡ s → c.key ≡ key → Durably (At c d) → Apart key a d → FaithfulFile s a.card file
      → (recover_read c (read_from (aes_gcm c.key) c.vault file (shown d k))).said ≡ taken (S.N (suc c.vault.n)) 0
  unfolding FaithfulFile read_from read_file other_version
  live_file c d k a zero file q kk i h f =
      rw (eq-eqb c.vault.s 0 q) (past_stop c _ 9 (0 ∷ []) _ _ (rw f) (live_log c d k empty_table kk i))
  live_file c d k a (suc s) file q kk i h f =
      let m = mem_map (file_of key) d.cards file (subst (λ (x : List (List ℕ)). Memᴰ file x) h.card.files f.0) in
      let g = m.0 in
      let known = i.kept.known g m.1 in
      let fw = i.files.fine g known in
      let o : open_file (aes_gcm c.key) file ≡ some g = ap₂ (λ (j b : List ℕ). open_file (aes_gcm j) b) kk m.2 ∙ file_opens key g fw in
      let v : version_of file ≡ g.version = ap version_of m.2 ∙ version_is (aes_gcm key) g.version g.seal g.table (omega (arith, fw.version)) in
      let e : g.version ≡ c.vault.s = sym v ∙ f.1 ∙ sym q in
      let nz : eqb c.vault.s 0 ≡ false = ne_eqb c.vault.s 0 (λ z. let y : suc s ≡ 0 = sym q ∙ z in absurd (omega arith)) in
      rw (nz, o) (past_stop c _ 12 [] _ _ (rw (eq-eqb g.version c.vault.s e)) (live_log c d k g.table kk i))

  cold_valid : (c : State) → vault_ok c.vault ≡ true → Cold key c c.due → (valid c && is_nothing c.due) ≡ true
  unfolding valid
  cold_valid c v k = and_both (and_both (and_both v (le-leb c.journal.count listed (omega (arith, k.listed_none)))) (le-leb c.points.count points_max (omega (arith, k.pointed_none)))) (rw k.due)

  begun_short : (o : Option Opened) (k : ℕ) → ((y : Opened) → o ≡ some y → Writable y) → length (take k (begun_bytes key o)) ≤ (max_text + frame_len) * begun_count o
  begun_short none k w = let l = length-take {A = ℕ} k [] in omega arith
  begun_short (some r) k w = let l = length-take k (bytes_of key r) in let z = (size key r (w r refl)).1 in omega arith

  log_short : (d : Durable) (k : ℕ) → Durably d → length (shown d k) ≤ longest_log
  log_short d k i =
      let b = begun_short d.begun k (λ y e. i.sealed.fine y (i.card.begun_known y e)) in
      let q = length-append (laid_out key (recs_of d.spots)) (take k (begun_bytes key d.begun)) in
      let l = laid_length key (recs_of d.spots) (λ r m. let s = mem_recs d.spots r m in subst Writable (sym s.2) (i.sealed.fine s.0.rec (i.card.known s.0 s.1))) in
      let n = length-map d.spots (λ (s : Spot). s.rec) in
      let f = i.card.few in
      omega arith

  live_cold : (c : State) (d : Durable) (j : ℕ) (a : Lasting) (file : List ℕ) (room : ℕ) → Durably (At c d) → Cold key c c.due → Apart key a d → FaithfulFile c.vault.s a.card file
      → (recover_phase c file (shown d j) room F.Cold).said ≡ cond (spent c.vault) (refused 8 []) (taken (S.N (suc c.vault.n)) 0)
  unfolding recover_phase recover_first
  live_cold c d j a file room i k h f =
      let ll = log_short (At c d) j i in
      past_refuse _ c 1 [] _ _ (rw (cold_valid c (vault_ok_law (At c d) i) k))
      (past_refuse _ c 3 (log_max ∷ []) _ _ (le-ltb log_max (length (shown d j)) (omega arith))
      (at_refuse (spent c.vault) _ c 8 [] _ _ refl (live_file c d j a c.vault.s file refl k.key_is i h f)))

  -- with the state's own numbers, and then the vault's
  live_at : (c : State) (d : Durable) (a : Lasting) (file : List ℕ) (room k : ℕ) → c.phase ≡ F.Cold → Durably d → Linked key c d → Apart key a d → FaithfulFile a.vault.s a.card file
      → (recover c file (faithful_log a.card k) room).said ≡ cond (spent a.vault) (refused 8 []) (taken (S.N (suc a.vault.n)) 0)
  unfolding recover
  live_at c d a file room k e i l h f =
      let sa : a.vault ≡ c.vault = h.vault ∙ sym l.same in
      let lo = faithful_log_law key a d k h i.card.rising in
      let co : Cold key c c.due = subst (λ (ph : Phase). LinkedAt key c d ph c.due) e l.rest in
      let i' : Durably (At c d) = subst (λ (x : Vault). Durably (vault_to d x)) (sym l.same) i in
      subst (λ (x : Vault). (recover_phase c file (faithful_log a.card k) room c.phase).said ≡ cond (spent x) (refused 8 []) (taken (S.N (suc x.n)) 0)) (sym sa)
      (ap₂ (λ (ph : Phase) (log : List ℕ). (recover_phase c file log room ph).said) e lo ∙ live_cold c d k a file room i' co h (subst (λ (x : Vault). FaithfulFile x.s a.card file) sa f))

  unless_spent : (x : Vault) (said : Said) → said ≡ cond (spent x) (refused 8 []) (taken (S.N (suc x.n)) 0) → TakenUnlessSpent x said
  unless_spent x said e = record { takes = λ u. e ∙ rw (unspent_passes x u); spent = λ h. e ∙ rw (spent_else x h) }

  -- ---- Load, the file, the length

  load_at : (x : Vault) → length key ≡ key_len → vault_ok x ≡ true → load x key ≡ taking (loaded x key) S.Nothing []
  unfolding load refuse
  load_at x long v = rw (v, eq-eqb (length key) key_len long)

  has_file : (s : ℕ) (d : Durable) (a : Lasting) → d.vault.s ≡ s → Durably d → Apart key a d → (file : List ℕ) × FaithfulFile s a.card file
  unfolding FaithfulFile
  has_file zero d a q i h = ([], refl)
  has_file (suc s) d a q i h =
      let k = i.kept.have (omega arith) in
      let g = k.0 in
      let fw = i.files.fine g (i.kept.known g k.1) in (
        file_of key g,
        (
          subst (λ (x : List (List ℕ)). Memᴰ (file_of key g) x) (sym h.card.files) (map_mem (file_of key) d.cards g k.1),
          version_is (aes_gcm key) g.version g.seal g.table (omega (arith, fw.version)) ∙ k.2 ∙ q,
        ),
      )

  -- what the card hands over was put out: its records one by one, and its file
  honest_file : (s : ℕ) (w : World) (d : Durable) (file : List ℕ) → Durably d → Apart key (settled w) d → FaithfulFile s (settled w).card file → (f : OpenedFile) → open_file (aes_gcm key) file ≡ some f → PutOut w file
  unfolding FaithfulFile done
  honest_file zero w d file i h e f o = absurd (empty_file key f (rw e at o))
  honest_file (suc s) w d file i h e f o =
      let m = mem_map (file_of key) d.cards file (subst (λ (x : List (List ℕ)). Memᴰ file x) h.card.files e.0) in
      rw m.2 (h.out_file_law m.0 (i.kept.known m.0 m.1))

  -- of a record that was begun, all of it or none was put out
  honest_begun : (o : Option Opened) (k : ℕ) (P : List ℕ → Type 0) → ((y : Opened) → o ≡ some y → Writable y × P (bytes_of key y)) → (n : ℕ) (b : List ℕ) → Memᴰ b (records_to n (take k (begun_bytes key o))) → P b
  honest_begun none k P h n b m = absurd (Memᴰ.not-nil (rw (take-nil k, records_nil n) at m))
  honest_begun (some r) k P h n b m = go (dec_lt k (length (bytes_of key r)))
    where
      go : Dec (k < length (bytes_of key r)) → P b
      go (yes l) = absurd (Memᴰ.not-nil (rw (records_begun key r k n (h r refl).0 l) at m))
      go (no l) = subst P (sym (records_one key r n b (h r refl).0 (rw (take_all k (bytes_of key r) (omega arith)) at m))) (h r refl).1

  honest_record : (w : World) (d : Durable) (k : ℕ) → Durably d → Apart key (settled w) d → (b : List ℕ) → Memᴰ b (records_in (faithful_log (settled w).card k)) → PutOut w b
  unfolding records_in done
  honest_record w d k i h b m =
      let rs = recs_of d.spots in
      let was : (r : Opened) → Memᴰ r rs → In d.sealed r = λ r j. let s = mem_recs d.spots r j in subst (In d.sealed) (sym s.2) (i.card.known s.0 s.1) in
      let e = faithful_log_law key (settled w) d k h i.card.rising in
      let tail = honest_begun d.begun k (PutOut w) (λ y q. let z = i.card.begun_known y q in (i.sealed.fine y z, h.out_record_law y z)) in
      records_laid key (PutOut w) (take k (begun_bytes key d.begun)) tail rs (λ r j. i.sealed.fine r (was r j)) (λ r j. h.out_record_law r (was r j)) _ b (rw e at m)

  pub short : LogIsShort key
  short es p k =
      let i = listed_invariant key es p in
      subst (λ (x : List ℕ). length x ≤ longest_log) (sym (faithful_log_law key (settled (after key es)) i.after k i.apart' i.then.card.rising)) (log_short i.after k i.then)

  -- ---- the claim, of a world that keeps the invariants

  module _ (w : World) (i : Invariant key w) where
    safe : (c : State) → w.state ≡ some c → (file log : List ℕ) (room : ℕ) → Honest key w (call (call_recover file log room)) → is_taken (recover c file log room).said ≡ true
        → HasBooks (next key w (call (call_recover file log room)))
    safe c q file log room h yea =
        let e = after_recover w c file log room q in
        let j = next_invariant key w (call (call_recover file log room)) i h in
        subst HasBooks (sym e) (safe_said (recover c file log room).said (settled w) (some c) (recover c file log room).state (recover c file log room).put (warm c file log room) yea (subst (Invariant key) e j))

    live : (c : State) → w.state ≡ some c → c.phase ≡ F.Cold → (file : List ℕ) (room k : ℕ) → FaithfulFile (settled w).vault.s (settled w).card file
        → TakenUnlessSpent (settled w).vault (recover c file (faithful_log (settled w).card k) room).said
    live c q e file room k f =
        unless_spent _ _ (live_at c i.after (settled w) file room k e i.then (subst (λ (s : Option State). LinkedIf key s i.after) q i.link) i.apart' f)

    loads : length key ≡ key_len → ((load (settled w).vault key).said ≡ taken S.Nothing 0) × ((load (settled w).vault key).state.phase ≡ F.Cold)
    unfolding loaded
    loads long =
        let e = load_at (settled w).vault long (ap vault_ok i.apart'.vault ∙ vault_ok_law i.after i.then) in
        (ap (λ (a : Answered). a.said) e, ap (λ (a : Answered). a.state.phase) e)

    files : (file : List ℕ) × FaithfulFile (settled w).vault.s (settled w).card file
    files = has_file (settled w).vault.s i.after (settled w) (ap (λ (x : Vault). x.s) (sym i.apart'.vault)) i.then i.apart'

    honest : (file : List ℕ) (room k : ℕ) → FaithfulFile (settled w).vault.s (settled w).card file → Honest key w (call (call_recover file (faithful_log (settled w).card k) room))
    unfolding Honest
    honest file room k f = (λ b r m o. honest_record w i.after k i.then i.apart' b m, honest_file (settled w).vault.s w i.after file i.then i.apart' f)

    one : (m : ℕ) (a b : Entry) → LatestOf (settled w).book m a → LatestOf (settled w).book m b → a ≡ b
    one m x y =
        let d = i.after in
        subst (λ (b : List Opened). LatestOf b m x → LatestOf b m y → x ≡ y) (sym i.apart'.book)
        (latest_one d.book (λ r s j k. i.then.sealed.single r s (i.then.book.known r j) (i.then.book.known s k)) m x y)

    claims : length key ≡ key_len → Claim key w
    claims long = record { table_is_the_books = safe; latest_is_one = one; faithful_card_is_taken = live; load_is_taken = loads long; card_has_a_file = files; faithful_card_is_honest = honest }

-- the longest log, in figures
pub longest_is : longest_log ≡ 202752
longest_is = refl

-- ---- DEMAND 3

pub demand_3 : Demand3
demand_3 key long es p = claims key (after key es) (listed_invariant key es p) long

others : (key : List ℕ) → OtherFilesMayGo key
others key long es p left among file f n more q =
    let w = after key es in
    let i = forgotten_invariant key w (listed_invariant key es p) left among file f n in
    claims key (run key (forgotten left w) more) (run_invariant key more (forgotten left w) i q) long

pub beside : (key : List ℕ) → Beside key
beside key = record { log_is_short = short key; leaves = leaves key; none_begun_in_service = none_begun key; none_met = none_meets key; sealed_beginnings_are_torn = sealed_torn key; beginnings_are_torn = torn key; no_store_lowers = rises key; stored_s_never_falls = never_falls key; older_files_may_go = older_files key; other_files_may_go = others key; recovers = recovery_tally; accept_says = accepts key; seals_the_accepted = seals key; commit_takes = commits key; point_says = points key; point_is_kept = keeps key; points_count = counts key; truncates_nine = nine key; checkpoints_three = three key }
