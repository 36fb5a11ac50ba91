-- The lists of specs/Worked.antt keep to the premises. The first leaves a cold collector with one visible record; of it the honest card is taken,
-- and the hostile ones are turned down. The second takes each of the eight calls, is cut twice and recovers by 24 stores. So neither half of demand
-- 3 is about nothing, and no call is ruled out by a premise. The lists are followed from one world written out to the next, some calls at a
-- time, and each step is a computation; what was sealed is never computed, but opens by the round trips of Basis and LaidLaws.
-- Assumes nothing.
use Prim.Native.Nat.{ℕ, zero, suc, ◌≤◌, ◌<◌}
use mathlib.Core.Path.{◌≡◌, refl, sym, ap, subst, ◌∙◌}
use mathlib.Core.Bool.{Bool, true, false, ◌&&◌}
use mathlib.Core.List.Memᴰ
use mathlib.Core.List.{List, [], ◌∷◌, ◌++◌, map, append-nil, append_assoc, Memᴰ}
use mathlib.Core.Option.{Option, some, none}
use mathlib.Core.Logic.{◌⊎◌, inl, inr}
use native.Mathlib.Omega.{arith}
use borrow.Author.Tests.{ltb-true, le-ltb}
use lib.Dec.{ltb, lit<}
use lib.ListN.{length, get_or, replicate, take, length-append}
use lib.Seq.{take-nil}
use Rattle.octets.specs.Lists.{at}
use Rattle.octets.specs.Bytes.{padded}
use Rattle.octets.specs.Little.{little}
use Rattle.octets.specs.Every.{all_below}
use Rattle.octets.proofs.BoolLaws.{and_left, and_right}
use Rattle.transaction.specs.Signed.{signed_of}
use Rattle.transaction.specs.Transaction.{legal, legal_len, write_count, stamp_of, write_at, write_in, lowest, legal_write}
use Rattle.table.specs.declared.Table.{Table}
use Rattle.table.specs.Order.{latest}
use Rattle.table.specs.Table.{no_entry, empty_table, entry_of, entry_at, put, put_to, entered}
use Rattle.table.proofs.EnteredLaws.{empty_canonical, entered_canonical}
use Rattle.sealed.specs.Aead.{aes_gcm}
use Rattle.sealed.specs.Record.{Opened, record_kind, open_record}
use Rattle.sealed.specs.Log.{records_to, records_in}
use Rattle.sealed.specs.Checkpoint.{OpenedFile, file_kind, file_len, file_bytes, open_file}
use Rattle.sealed.proofs.RecordTrip.{length_record}
use Rattle.sealed.proofs.LogTrip.{version_is, records_nil}
use Rattle.protocol.specs.Vaults.{new_vault, lane_ok, vault_ok}
use Rattle.protocol.specs.States.{no_journal, no_point, no_points, no_held, valid, ready}
use Rattle.protocol.specs.Said.{Said, refused, taken, Answered, refusing, taking, refuse}
use Rattle.protocol.specs.Load.{loaded, load}
use Rattle.protocol.specs.Accept.{too_low, listed_more, holding, accepted, accept, held_record, holds, seal}
use Rattle.protocol.specs.Commit.{committed, commit_opened, commit, out_of_turn}
use Rattle.protocol.specs.Point.{marks_to, marks_of, marks_from, lane_count, unseen_below, journal_of, counts_at, point_at, points_more, pointed, point}
use Rattle.protocol.specs.Steps.{stands_if, raise_s, raise_n, raise_e, put_r, put_v, stepped, table_file, file_step}
use Rattle.protocol.specs.Checkpoint.{covered_point, covered_points, checkpointed, checkpoint_first, checkpoint_last, checkpoint_step, checkpoint_due, checkpoint}
use Rattle.protocol.specs.Truncate.{points_of, find_point, points_above, dropped_to, after_truncate_r, truncate_lane, uncovered, truncate_first, truncate_next, truncate_delete, truncate_step, truncate_due, truncate}
use Rattle.protocol.specs.Replay.{stopped, reading, passed_over, or_stop, behind, step_opened, steps, missing_from, or_missing, ended, replay}
use Rattle.protocol.specs.Recover.{log_max, spent, recovered, recover_read, read_file, read_from, recover_first, after_version, all_visible, after_r, after_v, recover_number, in_service, recover_step, recover_due, recover_phase, recover, other_version}
use Rattle.protocol.specs.History.{Call, Event, call, cut, call_load, call_recover, call_accept, call_seal, call_commit, call_point, call_checkpoint, call_truncate, Placed, placed_from, card_after, insert_placed, in_order, end_to_end, faithful_log, FaithfulFile, vault_after, Sealing, Lasting, World, nothing_pending, new_lasting, new_world, book_after, done, settled, sealed_by, with_sealings, card_cut, broken, answer_of, first_answer, answer, adds_of, after_said, after_answer, next, run, PutOut, Honest, Premises}
use Rattle.protocol.specs.Sheet.{number}
use Rattle.protocol.specs.Worked.{text, shown_entry, one_reading, only_record, record_of, older_file, newer_file, doubled_log, last_vault, cold, recovering, transacting, events, torn_events, pointing, cutting, cut_vault, third_file, from_third, whole_life, whole_vault, whole_state, shown_at, shown_by, whole_shown}
use Rattle.protocol.specs.declared.Vault.{Vault}
use Rattle.protocol.specs.declared.Phase.TheVariants as F
use Rattle.protocol.specs.declared.Due.{Due}
use Rattle.protocol.specs.declared.Due.TheVariants as D
use Rattle.protocol.specs.declared.TruncateStep.TheVariants as L
use Rattle.protocol.specs.declared.RecoverStep.TheVariants as G
use Rattle.protocol.specs.declared.RecoverNumber.TheVariants as M
use Rattle.protocol.specs.declared.Journal.{Journal}
use Rattle.protocol.specs.declared.Points.{Points}
use Rattle.protocol.specs.declared.Held.{Held}
use Rattle.protocol.specs.declared.State.{State}
use Rattle.protocol.specs.declared.Store.{Store}
use Rattle.protocol.specs.declared.Store.TheVariants as S
use Rattle.protocol.proofs.Basis.{Writable, bytes_of, opens, file_opens, empty_file}
use Rattle.protocol.proofs.LaidLaws.{AllWritable, laid_out, go_on, follow, replay_laid, records_laid}

-- ---- the transaction

-- each number is below 256
small : List ℕ → Bool
small [] = true
small (x ∷ xs) = ltb x 256 && small xs

small_at : (s : List ℕ) → small s ≡ true → (i : ℕ) → at s i < 256
unfolding small
small_at [] e i = lit< tt
small_at (x ∷ xs) e zero = ltb-true x 256 (and_left (ltb x 256) (small xs) e)
small_at (x ∷ xs) e (suc i) = small_at xs (and_right (ltb x 256) (small xs) e) i

text_bytes : (i : ℕ) → at text i < 256
unfolding text small
text_bytes = small_at text refl

text_legal : legal text ≡ true
unfolding text legal legal_len write_count all_below legal_write write_at write_in lowest little padded
text_legal = refl

-- its record can be put out, and so can several of it
only_writable : Writable only_record
unfolding only_record
only_writable = record { fine = text_legal; bytes = text_bytes; lane = lit< tt; number = omega arith; epoch = omega arith; size = refl }

no_writable : AllWritable []
no_writable r m = absurd (Memᴰ.not-nil m)

more_writable : {rs : List Opened} → AllWritable rs → AllWritable (only_record ∷ rs)
more_writable {rs} h r m = go (Memᴰ.cases_cons m)
  where
    go : (r ≡ only_record) ⊎ Memᴰ r rs → Writable r
    go (inl e) = rw e only_writable
    go (inr k) = h r k

-- ---- Load

-- good numbers and a key of 16 bytes are taken
load_taken : (x : Vault) (key : List ℕ) → vault_ok x ≡ true → length key ≡ 16 → load x key ≡ taking (loaded x key) S.Nothing []
unfolding load refuse
load_taken x key good long = rw (good, long)

new_good : vault_ok new_vault ≡ true
unfolding new_vault vault_ok lane_ok all_below
new_good = refl

last_good : vault_ok last_vault ≡ true
unfolding last_vault vault_ok lane_ok all_below
last_good = refl

cut_good : vault_ok cut_vault ≡ true
unfolding cut_vault vault_ok lane_ok all_below
cut_good = refl

module _ (key : List ℕ) where
  -- ---- lists that keep to the premises

  -- from one world, events that keep to the premises come to another, and at their calls these numbers are shown
  record Goes (w : World) (es : List Event) (ns : List ℕ) (u : World) : Type 0 where
    keeps : Premises key w es
    shows : shown_by key w es ≡ ns
    ends : run key w es ≡ u

  keeps_both : (w : World) (es fs : List Event) → Premises key w es → Premises key (run key w es) fs → Premises key w (es ++ fs)
  unfolding run Premises
  keeps_both w [] fs h k = k
  keeps_both w (e ∷ es) fs h k = (h.0, keeps_both (next key w e) es fs h.1 k)

  shows_both : (w : World) (es fs : List Event) → shown_by key w (es ++ fs) ≡ shown_by key w es ++ shown_by key (run key w es) fs
  unfolding run shown_by
  shows_both w [] fs = refl
  shows_both w (call k ∷ es) fs =
      ap (λ (ns : List ℕ). shown_at (answer w.state k) ++ ns) (shows_both (next key w (call k)) es fs) ∙ sym (append_assoc (shown_at (answer w.state k)) _ _)
  shows_both w (cut b ∷ es) fs = shows_both (next key w (cut b)) es fs

  ends_both : (w : World) (es fs : List Event) → run key w (es ++ fs) ≡ run key (run key w es) fs
  unfolding run
  ends_both w [] fs = refl
  ends_both w (e ∷ es) fs = ends_both (next key w e) es fs

  -- some events, and then others
  infixr 5 ◌then◌
  ◌then◌ : {w v u : World} {es fs : List Event} {ns ms : List ℕ} → Goes w es ns v → Goes v fs ms u → Goes w (es ++ fs) (ns ++ ms) u
  ◌then◌ {w} {v} {u} {es} {fs} {ns} {ms} g h = record {
    keeps = keeps_both w es fs g.keeps (rw g.ends h.keeps);
    shows = shows_both w es fs ∙ rw (g.shows, g.ends, h.shows);
    ends = ends_both w es fs ∙ rw g.ends h.ends;
  }

  -- a call that may stand again behind itself, taken so many times
  often : (k : Call) → ((w : World) → Honest key w (call k) → Honest key (next key w (call k)) (call k)) → (n : ℕ) (w : World) → Honest key w (call k) → Premises key w (replicate n (call k))
  unfolding Premises
  often k more zero w h = tt
  often k more (suc n) w h = (h, often k more n (next key w (call k)) (more w h))

  times : (n : ℕ) (k : Call) {w : World} (v : World) → ((w : World) → Honest key w (call k) → Honest key (next key w (call k)) (call k)) → Honest key w (call k)
      → shown_by key w (replicate n (call k)) ≡ replicate n 0 → run key w (replicate n (call k)) ≡ v → Goes w (replicate n (call k)) (replicate n 0) v
  times n k {w} v more h shows ends = record { keeps = often k more n w h; shows = shows; ends = ends }

  -- what was put out stays so
  out_before : (more before : List Sealing) (b : List ℕ) → Memᴰ b (map (λ (s : Sealing). s.bytes) before) → Memᴰ b (map (λ (s : Sealing). s.bytes) (more ++ before))
  out_before [] before b m = m
  out_before (s ∷ more) before b m = Memᴰ.tail (out_before more before b m)

  stays_out : (w : World) (k : Call) (b : List ℕ) → PutOut w b → PutOut (next key w (call k)) b
  unfolding next done after_answer after_said with_sealings
  stays_out w k b m = go (answer w.state k)
    where
      said : (a : Answered) (x : Said) → PutOut (after_said x (settled w) w.state (adds_of key k) a.state a.put) b
      said a (refused n vs) = m
      said a (taken st n) = out_before (sealed_by a.state st a.put) w.lasting.sealings b m

      go : (o : Option Answered) → PutOut (after_answer (settled w) w.state (adds_of key k) o) b
      go none = m
      go (some a) = said a a.said

  -- an empty log has no record
  empty_log : (w : World) (b : List ℕ) (r : Opened) → Memᴰ b (records_in []) → open_record (aes_gcm key) b ≡ some r → PutOut w b
  unfolding records_in records_to
  empty_log w b r m e = absurd (Memᴰ.not-nil m)

  -- such a call is Recover with the empty log and a file that was put out
  abbrev from : List ℕ → Call
  from file = call_recover file [] file_len

  recovers : (n : ℕ) (file : List ℕ) {w : World} (v : World) → ((f : OpenedFile) → open_file (aes_gcm key) file ≡ some f → PutOut w file)
      → shown_by key w (replicate n (call (from file))) ≡ replicate n 0 → run key w (replicate n (call (from file))) ≡ v → Goes w (replicate n (call (from file))) (replicate n 0) v
  unfolding Honest
  recovers n file {w} v out shows ends =
      times n (from file) v (λ w h. (empty_log (next key w (call (from file))), λ f e. stays_out w (from file) file (h.1 f e))) (empty_log w, out) shows ends

  -- ---- the worlds on the way

  -- W, V and R of lane 0, E, S and N; all else is 0
  abbrev numbers : ℕ → ℕ → ℕ → ℕ → ℕ → ℕ → Vault
  numbers w v r e s n = record { w = w ∷ replicate 7 0; v = v ∷ replicate 7 0; r = r ∷ replicate 7 0; e = e; s = s; n = n }

  -- what was sealed: the record, and the files, which have their versions for seal numbers
  abbrev only : Sealing
  only = record { kind = record_kind; lane = 0; number = 1; bytes = record_of key }

  abbrev filed : ℕ → Table → Sealing
  filed s t = record { kind = file_kind; lane = 0; number = s; bytes = file_bytes (aes_gcm key) s s t }

  -- what lasts: the numbers, the records and the files on the card, the book, what was sealed
  abbrev lasts : Vault → List Placed → List (List ℕ) → List Opened → List Sealing → Lasting
  lasts x records files book sealings = record { vault = x; card = record { records = records; files = files; beginning = [] }; book = book; sealings = sealings }

  -- with a store pending that adds nothing to the book
  abbrev pends : Lasting → Store → List ℕ → State → World
  pends d store bytes c = record { lasting = d; pending = record { store = store; bytes = bytes; adds = none }; state = some c }

  -- in a recovery: what lasts, the pending store, the numbers in the state, the store due, the table
  abbrev midst : Lasting → Store → Vault → Due → Table → World
  midst d store x due t = pends d store [] (record { vault = x; phase = F.Recovering; due = due; table = t; journal = no_journal; points = no_points; held = no_held; key = key })

  abbrev serves : Vault → Due → Table → Journal → Points → Held → State
  serves x due t j p h = record { vault = x; phase = F.Serving; due = due; table = t; journal = j; points = p; held = h; key = key }

  -- the new collector, loaded
  new_one : World
  new_one = record { lasting = new_lasting; pending = nothing_pending; state = some (loaded new_vault key) }

  -- with both files stored
  abbrev first : Vault → List Placed → List Opened → List Sealing → Lasting
  first x records book more = lasts x records (older_file key ∷ newer_file key ∷ []) book (more ++ (filed 2 empty_table ∷ filed 1 empty_table ∷ []))

  -- in service; the log is about to be emptied
  begun : World
  begun = pends (first (numbers 0 0 0 0 2 2) [] [] []) S.Empty [] (serves (numbers 0 0 0 0 2 2) D.Nothing empty_table no_journal no_points no_held)

  -- the transaction is accepted
  numbered : World
  numbered = pends (first (numbers 0 0 0 0 2 2) [] [] []) (S.W 0 1) [] (serves (numbers 1 0 0 0 2 2) D.Record empty_table (listed_more no_journal 0 10) no_points (holding text 0 10))

  -- its record is sealed
  written : World
  written =
      pends (first (numbers 1 0 0 0 2 2) [] [] (only ∷ [])) (S.Record 10) (record_of key)
      (serves (numbers 1 0 0 0 2 2) D.Nothing empty_table (listed_more no_journal 0 10) no_points (holding text 0 10))

  -- the record on the card
  abbrev placed : Placed
  placed = record { position = 10; bytes = record_of key }

  -- it is committed
  visible : World
  visible = record {
    lasting = first (numbers 1 0 0 0 2 2) (placed ∷ []) [] (only ∷ []);
    pending = record { store = S.V 0 1; bytes = []; adds = some only_record };
    state = some (serves (numbers 1 1 0 0 2 2) D.Nothing one_reading (listed_more no_journal 0 10) no_points (holding text 0 10));
  }

  -- it is cut, without a state or with the one that is loaded
  final : Option State → World
  final c = record { lasting = first last_vault (placed ∷ []) (only_record ∷ []) (only ∷ []); pending = nothing_pending; state = c }

  -- ---- from world to world

  -- fifteen calls: N, a file, S; the same three again; R of the eight lanes; the log is emptied
  go_recovering : Goes new_one recovering (replicate 15 0) begun
  unfolding run shown_by shown_at number new_one begun new_lasting new_vault loaded next answer answer_of adds_of after_answer after_said done card_after vault_after book_after with_sealings sealed_by recover recover_phase recover_first read_from or_stop recover_read recovered recover_due recover_step recover_number raise_s raise_n raise_e put_r put_v stands_if stepped file_step refuse valid vault_ok lane_ok all_below spent replay steps ended missing_from or_missing after_version after_r all_visible in_service table_file
  go_recovering =
      recovers 6 [] (midst (first (numbers 0 0 0 0 1 2) [] [] []) (S.S 2) (numbers 0 0 0 0 2 2) (D.Recover (G.Number (M.R 0))) empty_table) (λ f e. absurd (empty_file key f e)) refl refl
      then recovers 4 [] (midst (first (numbers 0 0 0 0 2 2) [] [] []) (S.R 3 0) (numbers 0 0 0 0 2 2) (D.Recover (G.Number (M.R 4))) empty_table) (λ f e. absurd (empty_file key f e)) refl refl
      then recovers 4 [] (midst (first (numbers 0 0 0 0 2 2) [] [] []) (S.R 7 0) (numbers 0 0 0 0 2 2) (D.Recover G.Empty) empty_table) (λ f e. absurd (empty_file key f e)) refl refl
      then recovers 1 [] begun (λ f e. absurd (empty_file key f e)) refl refl

  go_accept : Goes begun (call (call_accept text 0 10) ∷ []) (0 ∷ []) numbered
  unfolding run shown_by shown_at number Premises Honest begun numbered next answer answer_of adds_of after_answer after_said done card_after vault_after book_after with_sealings sealed_by accept accepted ready valid vault_ok lane_ok all_below too_low refuse
  go_accept = record { keeps = (text_bytes, tt); shows = rw text_legal; ends = rw text_legal }

  go_seal : Goes numbered (call (call_seal 56) ∷ []) (0 ∷ []) written
  unfolding run shown_by shown_at number Premises Honest numbered written next answer answer_of adds_of after_answer after_said done card_after vault_after book_after with_sealings sealed_by seal holds held_record valid vault_ok lane_ok all_below listed_more holding refuse text legal legal_len write_count legal_write write_at write_in lowest little padded
  go_seal = record { keeps = (tt, tt); shows = refl; ends = refl }

  -- what was sealed opens
  only_opens : open_record (aes_gcm key) (record_of key) ≡ some only_record
  unfolding only_record
  only_opens = opens key only_record only_writable

  go_commit : Goes written (call (call_commit (record_of key)) ∷ []) (0 ∷ []) visible
  unfolding run shown_by shown_at number Premises Honest written visible next answer answer_of adds_of after_answer after_said done card_after vault_after book_after with_sealings sealed_by commit commit_opened out_of_turn committed only_record ready valid vault_ok lane_ok all_below listed_more refuse
  go_commit = record { keeps = (λ r e. Memᴰ.head refl, tt); shows = rw only_opens; ends = rw only_opens }

  -- good numbers that are the vault's are loaded
  loads : (x : Vault) (d : Lasting) → d.vault ≡ x → vault_ok x ≡ true → length key ≡ 16
      → Goes (record { lasting = d; pending = nothing_pending; state = none }) (call (call_load x key) ∷ []) (0 ∷ []) (record { lasting = d; pending = nothing_pending; state = some (loaded x key) })
  unfolding run shown_by shown_at number Premises Honest next answer first_answer adds_of after_answer after_said done card_after vault_after book_after with_sealings sealed_by
  loads x d is good long = record { keeps = (λ e. (sym is, refl), tt); shows = rw (load_taken x key good long); ends = rw (load_taken x key good long) }

  -- a new collector is put in service, and makes its transaction visible
  go_visible : length key ≡ 16 → Goes new_world (call (call_load new_vault key) ∷ (recovering ++ transacting key)) (replicate 19 0) visible
  unfolding new_world new_lasting new_one
  go_visible long = loads new_vault new_lasting refl new_good long then go_recovering then go_accept then go_seal then go_commit

  go_cut : Goes visible (cut true ∷ []) [] (final none)
  unfolding run shown_by Premises Honest visible final last_vault next done card_after vault_after book_after
  go_cut = record { keeps = (tt, tt); shows = refl; ends = refl }

  go_all : length key ≡ 16 → Goes new_world (events key) (replicate 20 0) (final (some (cold key)))
  unfolding events final cold
  go_all long = go_visible long then go_cut then loads last_vault _ refl last_good long

  -- ---- the list that is cut while its record is written

  -- the card shows a beginning of the record
  torn_off : World
  torn_off = record {
    lasting = record {
      vault = numbers 1 0 0 0 2 2;
      card = record { records = []; files = older_file key ∷ newer_file key ∷ []; beginning = record_of key };
      book = [];
      sealings = only ∷ filed 2 empty_table ∷ filed 1 empty_table ∷ [];
    };
    pending = nothing_pending;
    state = none;
  }

  go_torn_off : Goes written (cut false ∷ []) [] torn_off
  unfolding run shown_by Premises Honest written torn_off next broken card_cut
  go_torn_off = record { keeps = (tt, tt); shows = refl; ends = refl }

  go_torn : length key ≡ 16 → Goes new_world (torn_events key) (replicate 18 0) torn_off
  unfolding torn_events new_world new_lasting new_one
  go_torn long = loads new_vault new_lasting refl new_good long then go_recovering then go_accept then go_seal then go_torn_off

  -- it keeps to the premises, and a card that kept faith then shows any beginning of the record
  pub torn_listed : length key ≡ 16 → Premises key new_world (torn_events key)
  torn_listed long = (go_torn long).keeps

  pub torn_log : length key ≡ 16 → (k : ℕ) → faithful_log (settled (run key new_world (torn_events key))).card k ≡ take k (record_of key)
  unfolding torn_off done card_after faithful_log in_order end_to_end
  torn_log long k = ap (λ (w : World). faithful_log (settled w).card k) (go_torn long).ends

  -- ---- the list with every call

  -- the point above the record: one number of lane 0 lies below it
  one_point : Points
  one_point = record { items = record { position = 20; counts = 1 ∷ replicate 7 0; covered = false } ∷ replicate 7 no_point; count = 1; any = true; newest = 20 }

  -- in service, with a store due and points
  abbrev keeping : Vault → Due → Points → State
  keeping x due p = serves x due one_reading (journal_of [] true 10) p (holding text 0 10)

  -- the point is set; once more it is refused, and nothing has changed
  point_set : World
  point_set = pends (first (numbers 1 1 0 0 2 2) (placed ∷ []) (only_record ∷ []) (only ∷ [])) S.Nothing [] (keeping (numbers 1 1 0 0 2 2) D.Nothing one_point)

  -- with the third file stored, and more files behind it
  abbrev third : Vault → List Placed → List (List ℕ) → List Sealing → Lasting
  third x records files more = lasts x records (older_file key ∷ newer_file key ∷ third_file key ∷ files) (only_record ∷ []) (more ++ (filed 3 one_reading ∷ only ∷ filed 2 empty_table ∷ filed 1 empty_table ∷ []))

  -- the checkpoint is done; in the midst of the truncation; it is done
  checkpoint_done : World
  checkpoint_done = pends (third (numbers 1 1 0 0 2 3) (placed ∷ []) [] []) (S.S 3) [] (keeping (numbers 1 1 0 0 3 3) D.Nothing (covered_points one_point))

  truncating : Store → Due → World
  truncating store due = pends (third (numbers 1 1 1 0 3 3) (placed ∷ []) [] []) store [] (keeping (numbers 1 1 1 0 3 3) due (covered_points one_point))

  truncated : World
  truncated = pends (third (numbers 1 1 1 0 3 3) (placed ∷ []) [] []) (S.Delete 20) [] (keeping (numbers 1 1 1 0 3 3) D.Nothing (dropped_to (covered_points one_point) 20))

  -- it is cut behind the second Accept, without a state or with the one that is loaded
  after_cut : Option State → World
  after_cut c = record { lasting = third cut_vault [] [] []; pending = nothing_pending; state = c }

  -- recovery is accepted
  accepting : World
  accepting = midst (third cut_vault [] [] []) (S.N 4) (numbers 2 1 1 0 3 4) (D.Recover (G.File false)) one_reading

  -- with all five files stored
  abbrev fifth : Vault → Lasting
  fifth x = third x [] (file_bytes (aes_gcm key) 4 4 one_reading ∷ file_bytes (aes_gcm key) 5 5 one_reading ∷ []) (filed 5 one_reading ∷ filed 4 one_reading ∷ [])

  -- in service again; the log is about to be emptied
  whole_world : World
  whole_world = pends (fifth whole_vault) S.Empty [] (whole_state key)

  go_point : Goes visible (call (call_point 20) ∷ []) (0 ∷ []) point_set
  unfolding run shown_by shown_at number Premises Honest visible point_set one_point next answer answer_of adds_of after_answer after_said done card_after vault_after book_after with_sealings sealed_by point pointed point_at points_more counts_at journal_of marks_of marks_to marks_from lane_count unseen_below ready valid vault_ok lane_ok all_below listed_more refuse
  go_point = record { keeps = (tt, tt); shows = refl; ends = refl }

  -- behind it the same point is refused
  go_refused : Goes point_set (call (call_point 20) ∷ []) (6 ∷ []) point_set
  unfolding run shown_by shown_at number Premises Honest point_set one_point next answer answer_of adds_of after_answer after_said done card_after vault_after book_after point journal_of ready valid vault_ok lane_ok all_below refuse
  go_refused = record { keeps = (tt, tt); shows = refl; ends = refl }

  go_checkpoint : Goes point_set (replicate 3 (call (call_checkpoint file_len))) (replicate 3 0) checkpoint_done
  unfolding run shown_by shown_at number Premises Honest point_set checkpoint_done one_point next answer answer_of adds_of after_answer after_said done card_after vault_after book_after with_sealings sealed_by checkpoint checkpoint_due checkpoint_first checkpoint_step checkpoint_last raise_n stands_if stepped file_step checkpointed table_file valid vault_ok lane_ok all_below journal_of refuse
  go_checkpoint = times 3 (call_checkpoint file_len) checkpoint_done (λ w h. tt) tt refl refl

  go_truncate : Goes checkpoint_done (replicate 9 (call (call_truncate 20))) (replicate 9 0) truncated
  unfolding run shown_by shown_at number Premises Honest checkpoint_done truncating truncated one_point next answer answer_of adds_of after_answer after_said done card_after vault_after book_after with_sealings sealed_by truncate truncate_due truncate_step truncate_delete truncate_first truncate_next truncate_lane put_r stands_if stepped after_truncate_r uncovered find_point points_of covered_points covered_point valid vault_ok lane_ok all_below journal_of refuse
  go_truncate =
      times 3 (call_truncate 20) (truncating (S.R 2 0) (D.Truncate 20 (L.R 3))) (λ w h. tt) tt refl refl
      then times 3 (call_truncate 20) (truncating (S.R 5 0) (D.Truncate 20 (L.R 6))) (λ w h. tt) tt refl refl
      then times 3 (call_truncate 20) truncated (λ w h. tt) tt refl refl

  -- the cut comes behind the store of W
  go_cutting : Goes truncated cutting (0 ∷ []) (after_cut none)
  unfolding run shown_by shown_at number Premises Honest truncated after_cut cut_vault one_point next answer answer_of adds_of after_answer after_said done card_after vault_after book_after placed_from with_sealings sealed_by accept accepted ready valid vault_ok lane_ok all_below too_low dropped_to points_above points_of covered_points covered_point journal_of refuse
  go_cutting = record { keeps = (text_bytes, (tt, tt)); shows = rw text_legal; ends = rw text_legal }

  -- the file opens, and recovery is accepted
  third_opens : open_file (aes_gcm key) (third_file key) ≡ some (record { version = 3; seal = 3; table = one_reading })
  third_opens =
      file_opens key (record { version = 3; seal = 3; table = one_reading })
      (record { canonical = entered_canonical empty_table text 0 1 text_legal text_bytes (lit< tt) (omega arith) empty_canonical; version = omega arith; seal = omega arith })

  go_accepting : Goes (after_cut (some (loaded cut_vault key))) (from_third key ∷ []) (0 ∷ []) accepting
  unfolding run shown_by shown_at number after_cut cut_vault accepting loaded next answer answer_of adds_of after_answer after_said done card_after vault_after book_after with_sealings sealed_by recover recover_phase recover_first read_from read_file other_version recover_read or_stop recovered refuse valid vault_ok lane_ok all_below spent replay steps ended missing_from or_missing
  go_accepting = recovers 1 (third_file key) accepting (λ f e. Memᴰ.head refl) (rw third_opens) (rw third_opens)

  -- a cut before its store is done breaks it
  go_broken : Goes accepting (cut false ∷ []) [] (after_cut none)
  unfolding run shown_by Premises Honest accepting after_cut next broken card_cut
  go_broken = record { keeps = (tt, tt); shows = refl; ends = refl }

  -- with all five files stored, the third one is among what was put out
  third_out : PutOut whole_world (third_file key)
  unfolding whole_world
  third_out = Memᴰ.tail (Memᴰ.tail (Memᴰ.head refl))

  -- the other twenty-three calls: a file, S; N, a file, S; R of the eight lanes; E; V of the eight lanes; the log is emptied
  go_completing : Goes accepting (replicate 23 (from_third key)) (replicate 23 0) whole_world
  unfolding run shown_by shown_at number cut_vault accepting whole_world whole_vault whole_state next answer answer_of adds_of after_answer after_said done card_after vault_after book_after with_sealings sealed_by recover recover_phase recover_due recover_step recover_number raise_s raise_n raise_e put_r put_v stands_if stepped file_step refuse valid vault_ok lane_ok all_below after_version after_r after_v all_visible in_service table_file
  go_completing =
      recovers 5 (third_file key) (midst (fifth (numbers 2 1 1 0 4 5)) (S.S 5) (numbers 2 1 1 0 5 5) (D.Recover (G.Number (M.R 0))) one_reading) (λ f e. Memᴰ.head refl) refl refl
      then recovers 4 (third_file key) (midst (fifth (numbers 2 1 2 0 5 5)) (S.R 3 0) (numbers 2 1 2 0 5 5) (D.Recover (G.Number (M.R 4))) one_reading) (λ f e. third_out) refl refl
      then recovers 4 (third_file key) (midst (fifth (numbers 2 1 2 0 5 5)) (S.R 7 0) (numbers 2 1 2 0 5 5) (D.Recover (G.Number M.E)) one_reading) (λ f e. third_out) refl refl
      then recovers 1 (third_file key) (midst (fifth (numbers 2 1 2 0 5 5)) (S.E 1) (numbers 2 1 2 1 5 5) (D.Recover (G.Number (M.V 0))) one_reading) (λ f e. third_out) refl refl
      then recovers 4 (third_file key) (midst (fifth (numbers 2 2 2 1 5 5)) (S.V 3 0) (numbers 2 2 2 1 5 5) (D.Recover (G.Number (M.V 4))) one_reading) (λ f e. third_out) refl refl
      then recovers 4 (third_file key) (midst (fifth (numbers 2 2 2 1 5 5)) (S.V 7 0) (numbers 2 2 2 1 5 5) (D.Recover G.Empty) one_reading) (λ f e. third_out) refl refl
      then recovers 1 (third_file key) whole_world (λ f e. third_out) refl refl

  go_pointing : length key ≡ 16 → Goes new_world (pointing key) (replicate 20 0) point_set
  go_pointing long = go_visible long then go_point

  go_whole : length key ≡ 16 → Goes new_world (whole_life key) whole_shown whole_world
  unfolding whole_life after_cut
  go_whole long =
      let load = loads cut_vault (third cut_vault [] [] []) refl cut_good long in
      go_pointing long then (go_refused then go_checkpoint then go_truncate) then go_cutting then (load then go_accepting then go_broken) then load then go_accepting then go_completing

  -- it keeps to the premises
  pub whole_listed : length key ≡ 16 → Premises key new_world (whole_life key)
  whole_listed long = (go_whole long).keeps

  -- each of its calls is taken, but for the second Point at 20
  pub whole_shown_law : length key ≡ 16 → shown_by key new_world (whole_life key) ≡ whole_shown
  whole_shown_law long = (go_whole long).shows

  -- which is refused with 6 by the state that the first one left
  pub point_refused : length key ≡ 16 → (c : State) × ((run key new_world (pointing key)).state ≡ some c) × (point c 20 ≡ refusing c 6 [])
  unfolding point_set one_point point ready valid vault_ok lane_ok all_below journal_of refuse
  point_refused long = (_, ap (λ (w : World). w.state) (go_pointing long).ends, refl)

  -- in the end the collector is in service, with nothing due and the one reading in its table
  pub whole_state_law : length key ≡ 16 → (run key new_world (whole_life key)).state ≡ some (whole_state key)
  unfolding whole_world
  whole_state_law long = ap (λ (w : World). w.state) (go_whole long).ends

  -- these numbers are in the vault: the epoch has risen, and W, V and R of lane 0 are 2
  pub whole_vault_law : length key ≡ 16 → (settled (run key new_world (whole_life key))).vault ≡ whole_vault
  unfolding whole_world done vault_after
  whole_vault_law long = ap (λ (w : World). (settled w).vault) (go_whole long).ends

  -- the book has the one record: the second transaction was never visible
  pub whole_book : length key ≡ 16 → (settled (run key new_world (whole_life key))).book ≡ only_record ∷ []
  unfolding whole_world done book_after
  whole_book long = ap (λ (w : World). (settled w).book) (go_whole long).ends

  -- and the card's log is empty
  pub whole_log : length key ≡ 16 → (k : ℕ) → faithful_log (settled (run key new_world (whole_life key))).card k ≡ []
  unfolding whole_world done card_after faithful_log in_order end_to_end
  whole_log long k = ap (λ (w : World). faithful_log (settled w).card k) (go_whole long).ends ∙ take-nil k

  -- ---- the list that leaves a cold collector

  -- it keeps to the premises
  pub example_listed : length key ≡ 16 → Premises key new_world (events key)
  example_listed long = (go_all long).keeps

  -- each of its calls is taken
  pub example_shown : length key ≡ 16 → shown_by key new_world (events key) ≡ replicate 20 0
  example_shown long = (go_all long).shows

  -- and leaves this collector
  pub example_cold : length key ≡ 16 → (run key new_world (events key)).state ≡ some (cold key)
  unfolding final
  example_cold long = ap (λ (w : World). w.state) (go_all long).ends

  -- which is cold, with one visible record above R in lane 0
  pub cold_is : ((cold key).phase ≡ F.Cold) × ((cold key).vault ≡ last_vault)
  unfolding cold loaded
  cold_is = (refl, refl)

  -- the honest card is the one that kept faith: it has the record, and a file of version S
  pub honest_log : length key ≡ 16 → (k : ℕ) → faithful_log (settled (run key new_world (events key))).card k ≡ record_of key
  unfolding final done card_after faithful_log in_order insert_placed end_to_end
  honest_log long k =
      ap (λ (w : World). faithful_log (settled w).card k) (go_all long).ends
      ∙ ap (λ (s : List ℕ). (record_of key ++ []) ++ s) (take-nil k)
      ∙ append-nil (record_of key ++ [])
      ∙ append-nil (record_of key)

  pub honest_file : length key ≡ 16 → FaithfulFile (settled (run key new_world (events key))).vault.s (settled (run key new_world (events key))).card (newer_file key)
  unfolding final last_vault done card_after vault_after FaithfulFile
  honest_file long =
      subst (λ (w : World). FaithfulFile (settled w).vault.s (settled w).card (newer_file key)) (sym (go_all long).ends)
      (Memᴰ.tail (Memᴰ.head refl), version_is (aes_gcm key) 2 2 empty_table (omega arith))

  -- ---- the cards and the premises: whatever opens of these four was put out

  record_long : length (record_of key) ≡ 56
  unfolding text
  record_long = length_record key 0 0 1 text

  -- the record alone, and doubled, are records end to end
  one_laid : laid_out key (only_record ∷ []) ≡ record_of key
  unfolding laid_out only_record
  one_laid = append-nil (record_of key)

  two_laid : laid_out key (only_record ∷ only_record ∷ []) ≡ doubled_log key
  unfolding laid_out only_record
  two_laid = ap (λ (s : List ℕ). record_of key ++ s) (append-nil (record_of key))

  -- records that are all the one, end to end
  all_only : (rs : List Opened) → ((r : Opened) → Memᴰ r rs → r ≡ only_record) → (log : List ℕ) → laid_out key rs ≡ log → (b : List ℕ) → Memᴰ b (records_in log) → b ≡ record_of key
  unfolding records_in only_record
  all_only rs h log e b m =
      let fine : AllWritable rs = λ r k. rw (h r k) only_writable in
      let is : records_in log ≡ records_to (length log) (laid_out key rs ++ []) = ap (records_to (length log)) (sym e ∙ sym (append-nil (laid_out key rs))) in
      records_laid key (λ (c : List ℕ). c ≡ record_of key) [] (λ n c i. absurd (Memᴰ.not-nil (rw (records_nil n) at i))) rs fine (λ r i. ap (bytes_of key) (h r i)) (length log) b (rw is at m)

  only_one : (r : Opened) → Memᴰ r (only_record ∷ []) → r ≡ only_record
  only_one r m = Memᴰ.eq_of_singleton m

  only_two : (r : Opened) → Memᴰ r (only_record ∷ only_record ∷ []) → r ≡ only_record
  only_two r m = go (Memᴰ.cases_cons m)
    where
      go : (r ≡ only_record) ⊎ Memᴰ r (only_record ∷ []) → r ≡ only_record
      go (inl e) = e
      go (inr k) = only_one r k

  -- and that was put out
  put_only : (c : Option State) (b : List ℕ) → b ≡ record_of key → PutOut (final c) b
  unfolding final
  put_only c b e = rw e (Memᴰ.head refl)

  record_parts : (c : Option State) (b : List ℕ) (r : Opened) → Memᴰ b (records_in (record_of key)) → open_record (aes_gcm key) b ≡ some r → PutOut (final c) b
  record_parts c b r m e = put_only c b (all_only (only_record ∷ []) only_one (record_of key) one_laid b m)

  fits : length key ≡ 16 → (e : Event) → Honest key (final (some (cold key))) e → Honest key (run key new_world (events key)) e
  fits long e h = subst (λ (w : World). Honest key w e) (sym (go_all long).ends) h

  pub honest_fits : length key ≡ 16 → (room : ℕ) → Honest key (run key new_world (events key)) (call (call_recover (newer_file key) (record_of key) room))
  unfolding Honest final
  honest_fits long room = fits long (call (call_recover (newer_file key) (record_of key) room)) (record_parts (some (cold key)), λ f e. Memᴰ.tail (Memᴰ.head refl))

  pub empty_fits : length key ≡ 16 → (room : ℕ) → Honest key (run key new_world (events key)) (call (call_recover (newer_file key) [] room))
  unfolding Honest final
  empty_fits long room = fits long (call (call_recover (newer_file key) [] room)) (empty_log (final (some (cold key))), λ f e. Memᴰ.tail (Memᴰ.head refl))

  pub old_fits : length key ≡ 16 → (room : ℕ) → Honest key (run key new_world (events key)) (call (call_recover (older_file key) (record_of key) room))
  unfolding Honest final
  old_fits long room =
      fits long (call (call_recover (older_file key) (record_of key) room)) (record_parts (some (cold key)), λ f e. Memᴰ.tail (Memᴰ.tail (Memᴰ.head refl)))

  pub doubled_fits : length key ≡ 16 → (room : ℕ) → Honest key (run key new_world (events key)) (call (call_recover (newer_file key) (doubled_log key) room))
  unfolding Honest final
  doubled_fits long room =
      fits long (call (call_recover (newer_file key) (doubled_log key) room))
      (λ b r m e. put_only (some (cold key)) b (all_only (only_record ∷ only_record ∷ []) only_two (doubled_log key) two_laid b m), λ f e. Memᴰ.tail (Memᴰ.head refl))

  -- ---- what is said to the cards

  newer_opens : open_file (aes_gcm key) (newer_file key) ≡ some (record { version = 2; seal = 2; table = empty_table })
  newer_opens = file_opens key (record { version = 2; seal = 2; table = empty_table }) (record { canonical = empty_canonical; version = omega arith; seal = omega arith })

  older_opens : open_file (aes_gcm key) (older_file key) ≡ some (record { version = 1; seal = 1; table = empty_table })
  older_opens = file_opens key (record { version = 1; seal = 1; table = empty_table }) (record { canonical = empty_canonical; version = omega arith; seal = omega arith })

  -- with the newer file it is for the log to say
  with_newer : (log : List ℕ) (room : ℕ) → length log ≤ log_max → recover (cold key) (newer_file key) log room ≡ recover_read (cold key) (replay (aes_gcm key) last_vault empty_table log)
  unfolding cold loaded last_vault recover recover_phase recover_first read_from read_file other_version recover_read or_stop refuse valid vault_ok lane_ok all_below spent
  with_newer log room h = rw (le-ltb log_max (length log) h, newer_opens)

  with_older : (log : List ℕ) (room : ℕ) → length log ≤ log_max → recover (cold key) (older_file key) log room ≡ refusing (cold key) 12 []
  unfolding cold loaded last_vault recover recover_phase recover_first read_from read_file other_version recover_read or_stop refuse valid vault_ok lane_ok all_below spent
  with_older log room h = rw (le-ltb log_max (length log) h, older_opens)

  replay_one : replay (aes_gcm key) last_vault empty_table (record_of key) ≡ reading (record { offset = 56; last = 1 ∷ replicate 7 0; table = entered empty_table text 0 1 })
  unfolding follow go_on step_opened passed_over or_stop behind ended missing_from or_missing only_record last_vault text
  replay_one = ap (replay (aes_gcm key) last_vault empty_table) (sym one_laid) ∙ replay_laid key last_vault empty_table (only_record ∷ []) (more_writable no_writable)

  replay_two : replay (aes_gcm key) last_vault empty_table (doubled_log key) ≡ stopped 11 (56 ∷ [])
  unfolding follow go_on step_opened passed_over or_stop behind ended only_record last_vault text
  replay_two =
      ap (replay (aes_gcm key) last_vault empty_table) (sym two_laid)
      ∙ replay_laid key last_vault empty_table (only_record ∷ only_record ∷ []) (more_writable (more_writable no_writable))

  replay_none : replay (aes_gcm key) last_vault empty_table [] ≡ stopped 13 (0 ∷ [])
  unfolding replay steps ended missing_from or_missing last_vault
  replay_none = refl

  honest_answer : (room : ℕ) → recover (cold key) (newer_file key) (record_of key) room ≡ taking (recovered (cold key) (entered empty_table text 0 1)) (S.N 3) []
  unfolding recover_read cold loaded last_vault
  honest_answer room = with_newer (record_of key) room (let l = record_long in omega arith) ∙ ap (recover_read (cold key)) replay_one

  -- the honest card is taken, with the store of N, and its transaction is in the table
  pub honest_taken : (room : ℕ)
      → ((recover (cold key) (newer_file key) (record_of key) room).said ≡ taken (S.N 3) 0)
      × ((recover (cold key) (newer_file key) (record_of key) room).state.table ≡ entered empty_table text 0 1)
  unfolding recovered
  honest_taken room = (ap (λ (a : Answered). a.said) (honest_answer room), ap (λ (a : Answered). a.state.table) (honest_answer room))

  -- the record left out
  pub hostile_empty : (room : ℕ) → (recover (cold key) (newer_file key) [] room).said ≡ refused 13 (0 ∷ [])
  unfolding recover_read
  hostile_empty room = ap (λ (a : Answered). a.said) (with_newer [] room (omega arith) ∙ ap (recover_read (cold key)) replay_none)

  -- the record doubled
  pub hostile_doubled : (room : ℕ) → (recover (cold key) (newer_file key) (doubled_log key) room).said ≡ refused 11 (56 ∷ [])
  unfolding recover_read
  hostile_doubled room =
      let l = record_long in
      let d = length-append (record_of key) (record_of key) in
      ap (λ (a : Answered). a.said) (with_newer (doubled_log key) room (omega arith) ∙ ap (recover_read (cold key)) replay_two)

  -- the older file
  pub hostile_old : (room : ℕ) → (recover (cold key) (older_file key) (record_of key) room).said ≡ refused 12 []
  hostile_old room = ap (λ (a : Answered). a.said) (with_older (record_of key) room (let l = record_long in omega arith))

-- the meter then shows the reading
pub reading_shown : get_or (entered empty_table text 0 1).entries 1 no_entry ≡ shown_entry
unfolding text entered put_to put empty_table write_count write_at write_in entry_at entry_of stamp_of latest little padded signed_of
reading_shown = refl

-- and it does at the end of the list with every call
pub whole_shows : (key : List ℕ) → get_or (whole_state key).table.entries 1 no_entry ≡ shown_entry
unfolding whole_state
whole_shows key = reading_shown
