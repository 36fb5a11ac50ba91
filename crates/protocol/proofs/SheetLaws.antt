-- 01's bench sheet holds, for every key. The definitions are computed on each case, except for the cipher: what a record or a checkpoint opens to
-- comes from the law that what was sealed opens to what was sealed, its length from the law on lengths, and the reading of a log from the
-- law that reading sealed records end to end is following them (LaidLaws). So no AES is computed here.
-- Assumes nothing.
use Prim.Native.Nat.{ℕ, ◌+◌, ◌-◌, ◌^◌, ◌≤◌, ◌<◌}
use mathlib.Core.Path.{◌≡◌, refl, ap, ap₂, ◌∙◌, sym}
use mathlib.Core.Bool.{Bool, true, false, ◌&&◌}
use mathlib.Core.List.Memᴰ
use mathlib.Core.List.{List, [], ◌∷◌, ◌++◌, map, Memᴰ, append-nil}
use mathlib.Core.Logic.{◌⊎◌, inl, inr}
use mathlib.Core.Option.{some}
use native.Mathlib.Omega.{arith}
use lib.Dec.{leb, ltb}
use lib.ListN.{length, replicate, get_or, length-map, length-take, length-append, get_or-eq_default}
use borrow.Author.Tests.{ltb-true, ltb-false, leb-true, le-ltb}
use Rattle.octets.specs.Lists.{at}
use Rattle.octets.specs.Little.{little, little_bytes}
use Rattle.octets.specs.Bytes.{padded}
use Rattle.octets.specs.Every.{all_below}
use Rattle.octets.proofs.EveryLaws.{and_true, all_at}
use Rattle.aes_key.specs.Gf.{x_times, times_bits, ◌•◌, squares, inverse}
use Rattle.aes_key.specs.Sbox.{bit, affine_bit, affine_bits, affine, sbox}
use Rattle.transaction.specs.Signed.{signed_of}
use Rattle.transaction.specs.Transaction.{write_count, legal_len, stamp_of, write_in, write_at, lowest, legal_write, legal}
use Rattle.table.specs.Table.{empty_table, entry_of, entry_at, put, put_to, entered}
use Rattle.table.proofs.EnteredLaws.{empty_canonical}
use Rattle.table.specs.Order.{lex, later, latest}
use Rattle.sealed.specs.Aead.{aes_gcm}
use Rattle.sealed.specs.Checkpoint.{file_len, legal_file, open_file}
use Rattle.sealed.specs.Record.{Opened, record_bytes, len_of, legal_head, whole_len, open_record}
use Rattle.sealed.specs.Log.{record_at, torn_at}
use Rattle.sealed.proofs.NonceLaws.{nonce_m3}
use Rattle.sealed.proofs.RecordTrip.{length_one, length_most, record_opens}
use Rattle.sealed.specs.Frame.{frame_len}
use Rattle.protocol.specs.Vaults.{counter_max, new_vault, vault_ok, lane_ok, set_s}
use Rattle.protocol.specs.States.{valid, ready, with_vault}
use Rattle.protocol.specs.Said.{Answered, taking, refuse}
use Rattle.protocol.specs.Load.{loaded, load}
use Rattle.protocol.specs.Accept.{too_low, listed_more, holding, accepted, accept, holds, held_record, seal}
use Rattle.protocol.specs.Commit.{committed, commit_opened, commit, out_of_turn}
use Rattle.protocol.specs.Point.{point, pointed, points_more, journal_of, marks_of, marks_to, marks_from, lane_count, unseen_below, counts_at, point_at}
use Rattle.protocol.specs.Replay.{Reading, Read, stopped, reading, passed_over, or_stop, behind, step_opened, steps, missing_from, or_missing, ended, replay, at_first}
use Rattle.protocol.specs.Recover.{log_max, spent, recovered, recover_read, other_version, read_file, read_from, recover_first, in_service, recover_phase, recover}
use Rattle.protocol.specs.Sheet.{gives, Holds, number, display, valued, displays, from_torn, begun, headed, some_writes, transaction, read, counted, vault_of, accept_at, commit_sealed, visible_at, log_of, from_log, from_version, versioned, served, sealed_of, two, record_max, sheet}
use Rattle.protocol.specs.declared.Vault.{Vault}
use Rattle.protocol.specs.declared.State.{State}
use Rattle.protocol.specs.declared.Due.TheVariants as D
use Rattle.protocol.specs.declared.Store.TheVariants as S
use Rattle.protocol.proofs.Basis.{Writable, file_opens}
use Rattle.protocol.proofs.LaidLaws.{laid_out, go_on, follow, AllWritable, Comes, comes_torn, comes_left, comes_closed, replay_tail, laid_length, comes_none, go_reading}

-- case n of the sheet gives what is expected
abbrev Marked : List ℕ → ℕ → Type 0
Marked key n = (get_or (sheet key) (n - 1) (gives [] [])).found ≡ (get_or (sheet key) (n - 1) (gives [] [])).expected

-- ---- M1

module _ (key : List ℕ) where
  -- the bytes of records of one write and of 16, and the answer to 17
  sealed_is : (sealed_of key 1 ≡ record_bytes (aes_gcm key) 0 0 1 (transaction 0 1))
      × (sealed_of key 16 ≡ record_bytes (aes_gcm key) 0 0 1 (transaction 0 16))
      × (display (accept (served key) (transaction 0 17) 0 10) ≡ 4)
  unfolding sealed_of served loaded new_vault in_service number accept seal refuse ready valid vault_ok lane_ok holds held_record accepted holding listed_more too_low legal legal_len write_count transaction some_writes little_bytes all_below legal_write write_at write_in lowest little padded
  sealed_is = (refl, refl, refl)

  m1 : Marked key 1
  unfolding sheet transaction some_writes little_bytes
  m1 =
      let s = sealed_is in
      let one : length (sealed_of key 1) ≡ 56 = ap length s.0 ∙ length_one key 0 0 1 (transaction 0 1) refl in
      let most : length (sealed_of key 16) ≡ 176 = ap length s.1 ∙ length_most key 0 0 1 (transaction 0 16) refl in
      rw (one, most, s.2)

-- ---- M2

m2 : (key : List ℕ) → Marked key 2
unfolding sheet sbox affine affine_bits affine_bit bit inverse squares ◌•◌ times_bits x_times
m2 key = refl

-- ---- M4 to M9

-- the record of lane 0 and a number
abbrev numbered : ℕ → Opened
numbered n = record { lane = 0; epoch = 0; number = n; text = transaction n 1; size = length (transaction n 1) + frame_len }

-- it can be sealed
abbrev fits : ℕ → Bool
fits n = legal (transaction n 1) && all_below (λ i. ltb (at (transaction n 1) i) 256) 16 && leb n counter_max

unfoldable all_fit : List ℕ → Bool
all_fit [] = true
all_fit (n ∷ ns) = fits n && all_fit ns

long_one : (n : ℕ) → length (transaction n 1) ≡ 16
unfolding transaction some_writes little_bytes
long_one n = refl

writable : (n : ℕ) → fits n ≡ true → Writable (numbered n)
writable n h =
    let a = and_true (legal (transaction n 1) && all_below (λ i. ltb (at (transaction n 1) i) 256) 16) (leb n counter_max) h in
    let b = and_true (legal (transaction n 1)) (all_below (λ i. ltb (at (transaction n 1) i) 256) 16) a.0 in
    record { fine = b.0; bytes = λ i. byte i b.1 (ltb i 16) refl; lane = omega arith; number = leb-true n counter_max a.1; epoch = omega arith; size = refl }
  where
    byte : (i : ℕ) → all_below (λ i. ltb (at (transaction n 1) i) 256) 16 ≡ true → (t : Bool) → ltb i 16 ≡ t → at (transaction n 1) i < 256
    byte i all true e = ltb-true (at (transaction n 1) i) 256 (all_at _ 16 all i (ltb-true i 16 e))
    byte i all false e = let l = long_one n in let z = get_or-eq_default (transaction n 1) 0 {n = i} (let k = ltb-false i 16 e in omega arith) in omega arith

all_writable : (ns : List ℕ) → all_fit ns ≡ true → AllWritable (map numbered ns)
unfolding all_fit
all_writable [] h r m = absurd (Memᴰ.not-nil m)
all_writable (n ∷ ns) h r m =
    let a = and_true (fits n) (all_fit ns) h in
    go (Memᴰ.cases_cons m) (all_writable ns a.1 r) (writable n a.0)
  where
    go : (r ≡ numbered n) ⊎ Memᴰ r (map numbered ns) → (Memᴰ r (map numbered ns) → Writable r) → Writable (numbered n) → Writable r
    go (inl e) rest w = rw e w
    go (inr i) rest w = rest i

module _ (key : List ℕ) where
  -- what Load hands back
  loads : (x : Vault) → length key ≡ 16 → vault_ok x ≡ true → (load x key).state ≡ loaded x key
  unfolding load refuse
  loads x long h = rw (h, long)

  log_laid : (ns : List ℕ) → log_of key ns ≡ laid_out key (map numbered ns)
  unfolding log_of laid_out
  log_laid [] = refl
  log_laid (n ∷ ns) = ap (λ (s : List ℕ). record_bytes (aes_gcm key) 0 0 n (transaction n 1) ++ s) (log_laid ns)

  -- what the numbers of a log come to, from the empty table
  abbrev come : Vault → List ℕ → Read
  come x ns = ended x (follow x (at_first x empty_table) (map numbered ns))

  recovers : (r v w : ℕ) (log : List ℕ) → vault_ok (vault_of r v w) ≡ true → length log ≤ log_max
      → recover (loaded (vault_of r v w) key) [] log file_len ≡ recover_read (loaded (vault_of r v w) key) (replay (aes_gcm key) (vault_of r v w) empty_table log)
  unfolding recover recover_phase recover_first read_from or_stop refuse loaded valid spent vault_of
  recovers r v w log h l = rw (h, le-ltb log_max (length log) l)

  -- what the numbers of a log and a tail come to
  abbrev come_to : Vault → List ℕ → (Reading → Read) → Read
  come_to x ns f = ended x (go_on (follow x (at_first x empty_table) (map numbered ns)) f)

  from_torn_law : (r v w : ℕ) (ns tail : List ℕ) (f : Reading → Read) → length key ≡ 16 → vault_ok (vault_of r v w) ≡ true → all_fit ns ≡ true → length ns ≤ 4 → length tail ≤ record_max → Comes key (vault_of r v w) tail f
      → from_torn key r v w ns tail ≡ recover_read (loaded (vault_of r v w) key) (come_to (vault_of r v w) ns f)
  unfolding from_torn
  from_torn_law r v w ns tail f long h fit few short c =
      let rs = map numbered ns in
      let x = vault_of r v w in
      let all = all_writable ns fit in
      let l = laid_length key rs all in
      let m = length-map ns numbered in
      let n = length-append (laid_out key rs) tail in
      ap₂ (λ (d : State) (log : List ℕ). recover d [] (log ++ tail) file_len) (loads x long h) (log_laid ns)
      ∙ recovers r v w (laid_out key rs ++ tail) h (omega arith)
      ∙ ap (recover_read (loaded x key)) (replay_tail key x empty_table rs tail f all c)

  from_log_law : (r v w : ℕ) (ns : List ℕ) → length key ≡ 16 → vault_ok (vault_of r v w) ≡ true → all_fit ns ≡ true → length ns ≤ 4
      → from_log key r v w ns ≡ recover_read (loaded (vault_of r v w) key) (come (vault_of r v w) ns)
  unfolding from_log from_torn
  from_log_law r v w ns long h fit few =
      let x = vault_of r v w in
      ap (λ (log : List ℕ). recover (load x key).state [] log file_len) (sym (append-nil (log_of key ns)))
      ∙ from_torn_law r v w ns [] reading long h fit few (omega arith) (comes_none key x)
      ∙ ap (λ (d : Read). recover_read (loaded x key) (ended x d)) (go_reading key (follow x (at_first x empty_table) (map numbered ns)))

  -- a case of M4 to M9
  by_log : (f : Answered → List ℕ) (r v w : ℕ) (ns expected : List ℕ) → length key ≡ 16 → vault_ok (vault_of r v w) ≡ true → all_fit ns ≡ true → length ns ≤ 4
      → f (recover_read (loaded (vault_of r v w) key) (come (vault_of r v w) ns)) ≡ expected → f (from_log key r v w ns) ≡ expected
  by_log f r v w ns expected long h fit few e = ap f (from_log_law r v w ns long h fit few) ∙ e

  m4_m9 : length key ≡ 16 → Marked key 4 × Marked key 5 × Marked key 6 × Marked key 7 × Marked key 8 × Marked key 9
  unfolding sheet read number vault_of vault_ok lane_ok all_fit legal legal_len write_count transaction some_writes little_bytes all_below legal_write write_at write_in lowest little padded recover_read ended follow go_on step_opened passed_over or_stop behind missing_from or_missing loaded recovered entered put_to put entry_at entry_of empty_table latest stamp_of signed_of
  m4_m9 long = (
    by_log read 3 5 5 (4 ∷ 5 ∷ []) _ long refl refl (omega arith) refl,
    by_log (λ a. display a ∷ []) 3 5 5 (5 ∷ 4 ∷ []) _ long refl refl (omega arith) refl,
    by_log (λ a. display a ∷ []) 3 5 5 (4 ∷ []) _ long refl refl (omega arith) refl,
    by_log (λ a. display a ∷ []) 3 5 5 (4 ∷ 4 ∷ 5 ∷ []) _ long refl refl (omega arith) refl,
    by_log read 3 5 6 (3 ∷ 4 ∷ 5 ∷ 6 ∷ []) _ long refl refl (omega arith) refl,
    by_log (λ a. display a ∷ []) 5 3 5 [] _ long refl refl (omega arith) refl,
  )

-- ---- CR 4

module _ (key : List ℕ) where
  by_torn : (view : Answered → List ℕ) (r v w : ℕ) (ns tail : List ℕ) (f : Reading → Read) (expected : List ℕ) → length key ≡ 16 → vault_ok (vault_of r v w) ≡ true → all_fit ns ≡ true → length ns ≤ 4 → length tail ≤ record_max
      → Comes key (vault_of r v w) tail f → view (recover_read (loaded (vault_of r v w) key) (come_to key (vault_of r v w) ns f)) ≡ expected → view (from_torn key r v w ns tail) ≡ expected
  by_torn view r v w ns tail f expected long h fit few short c e = ap view (from_torn_law key r v w ns tail f long h fit few short c) ∙ e

  -- 55 bytes of a record of 56
  begun_comes : (x : Vault) (n : ℕ) → fits n ≡ true → Comes key x (begun key 55 n) reading
  begun_comes x n h = comes_torn key x (numbered n) 55 (writable n h) (let l = length_one key 0 0 n (transaction n 1) (long_one n) in omega arith)

  begun_short : (n : ℕ) → length (begun key 55 n) ≤ record_max
  begun_short n = let l = length-take 55 (record_bytes (aes_gcm key) 0 0 n (transaction n 1)) in omega arith

  ones_closed : (x : Vault) → Comes key x (replicate 20 0xff) (λ g. stopped 9 (g.offset ∷ []))
  unfolding torn_at record_at legal_head
  ones_closed x = comes_closed key x (replicate 20 0xff) (omega arith) refl refl

  ones_left : (x : Vault) → Comes key x (replicate 19 0xff) reading
  unfolding torn_at
  ones_left x = comes_left key x (replicate 19 0xff) refl

  -- a head alone, and what would be one but for one of its numbers
  head_left : (x : Vault) → Comes key x (headed key 1 0 16) reading
  unfolding torn_at legal_head len_of whole_len legal_len little_bytes little padded
  head_left x = comes_left key x (headed key 1 0 16) refl

  no_head : (x : Vault) (kind lane n : ℕ) → legal_head (headed key kind lane n) ≡ false → Comes key x (headed key kind lane n) (λ g. stopped 9 (g.offset ∷ []))
  unfolding torn_at record_at little_bytes
  no_head x kind lane n h = comes_closed key x (headed key kind lane n) (omega arith) (rw h) (rw h)

  no_heads : (legal_head (headed key 2 0 16) ≡ false) × (legal_head (headed key 1 8 16) ≡ false) × (legal_head (headed key 1 0 17) ≡ false)
  unfolding legal_head len_of legal_len little_bytes little padded
  no_heads = (refl, refl, refl)

  torn_cases : length key ≡ 16 → Marked key 13 × Marked key 14 × Marked key 15 × Marked key 16
  unfolding sheet read number valued vault_of vault_ok lane_ok all_fit legal legal_len write_count transaction some_writes little_bytes all_below legal_write write_at write_in lowest little padded recover_read ended follow go_on step_opened passed_over or_stop behind missing_from or_missing loaded recovered entered put_to put entry_at entry_of empty_table latest stamp_of signed_of
  torn_cases long = (
    by_torn displays 3 5 5 (4 ∷ []) (begun key 55 5) reading _ long refl refl (omega arith) (begun_short 5) (begun_comes (vault_of 3 5 5) 5 refl) refl,
    by_torn read 3 5 6 (4 ∷ 5 ∷ []) (begun key 55 6) reading _ long refl refl (omega arith) (begun_short 6) (begun_comes (vault_of 3 5 6) 6 refl) refl,
    by_torn displays 3 5 5 (4 ∷ 5 ∷ []) (replicate 20 0xff) (λ g. stopped 9 (g.offset ∷ [])) _ long refl refl (omega arith) (omega arith) (ones_closed (vault_of 3 5 5)) refl,
    by_torn read 3 5 5 (4 ∷ 5 ∷ []) (replicate 19 0xff) reading _ long refl refl (omega arith) (omega arith) (ones_left (vault_of 3 5 5)) refl,
  )

  no_head_9 : length key ≡ 16 → (kind lane n : ℕ) → legal_head (headed key kind lane n) ≡ false → displays (from_torn key 3 5 6 (4 ∷ 5 ∷ []) (headed key kind lane n)) ≡ 9 ∷ 112 ∷ []
  unfolding sheet read number valued vault_of vault_ok lane_ok all_fit legal legal_len write_count transaction some_writes little_bytes all_below legal_write write_at write_in lowest little padded recover_read ended follow go_on step_opened passed_over or_stop behind missing_from or_missing loaded recovered entered put_to put entry_at entry_of empty_table latest stamp_of signed_of
  no_head_9 long kind lane n h =
      by_torn displays 3 5 6 (4 ∷ 5 ∷ []) (headed key kind lane n) (λ g. stopped 9 (g.offset ∷ [])) (9 ∷ 112 ∷ []) long refl refl (omega arith) (omega arith) (no_head (vault_of 3 5 6) kind lane n h) refl

  head_cases : length key ≡ 16 → Marked key 17 × Marked key 18
  unfolding sheet read number valued vault_of vault_ok lane_ok all_fit legal legal_len write_count transaction some_writes little_bytes all_below legal_write write_at write_in lowest little padded recover_read ended follow go_on step_opened passed_over or_stop behind missing_from or_missing loaded recovered entered put_to put entry_at entry_of empty_table latest stamp_of signed_of
  head_cases long = (
    by_torn read 3 5 6 (4 ∷ 5 ∷ []) (headed key 1 0 16) reading _ long refl refl (omega arith) (omega arith) (head_left (vault_of 3 5 6)) refl,
    ap₂ (λ (a b : List ℕ). a ++ b) (no_head_9 long 2 0 16 no_heads.0) (ap₂ (λ (a b : List ℕ). a ++ b) (no_head_9 long 1 8 16 no_heads.1) (no_head_9 long 1 0 17 no_heads.2)),
  )

-- ---- M10

m10 : (key : List ℕ) → Marked key 10
unfolding sheet entered put_to put entry_at entry_of empty_table latest later lex transaction some_writes little_bytes write_count stamp_of write_at write_in little padded signed_of
m10 key = refl

-- ---- M11

fit_one : legal (transaction 0 1) ≡ true
unfolding legal legal_len write_count transaction some_writes little_bytes all_below legal_write write_at write_in lowest little padded
fit_one = refl

-- a state in which a transaction was accepted at a position and sealed
abbrev sealed_at : State → ℕ → State
sealed_at c position = with_vault (accepted c (transaction 0 1) 0 position) (accepted c (transaction 0 1) 0 position).vault D.Nothing

-- its record
abbrev one : ℕ → Opened
one n = record { lane = 0; epoch = 0; number = n; text = transaction 0 1; size = length (transaction 0 1) + frame_len }

commits : (b : State) (bytes : List ℕ) (r : Opened) → ready b ≡ true → open_record (aes_gcm b.key) bytes ≡ some r → commit b bytes ≡ commit_opened b (some r)
unfolding commit refuse
commits b bytes r h e = rw (h, e)

module _ (key : List ℕ) where
  one_opens : (n : ℕ) → n ≤ counter_max → open_record (aes_gcm key) (record_bytes (aes_gcm key) 0 0 n (transaction 0 1)) ≡ some (one n)
  one_opens n h = record_opens key 0 0 n (transaction 0 1) fit_one (omega arith) (omega arith) (omega arith)

  -- what was sealed is committed
  visible_is : (c b : State) (position n : ℕ) → b.key ≡ key → n ≤ counter_max
      → seal (accept_at c position).state record_max ≡ taking b (S.Record position) (record_bytes (aes_gcm key) 0 0 n (transaction 0 1)) → ready b ≡ true
      → visible_at c position ≡ (commit_opened b (some (one n))).state
  unfolding visible_at commit_sealed
  visible_is c b position n k h s r =
      ap commit_sealed s ∙ ap (λ (a : Answered). a.state) (commits b (record_bytes (aes_gcm key) 0 0 n (transaction 0 1)) (one n) r (rw k (one_opens n h)))

  -- the state with the record at 10, and with the one at 20
  abbrev first : State
  first = committed (sealed_at (served key) 10) (one 1)

  abbrev second : State
  second = committed (sealed_at first 20) (one 2)

  two_is : two key ≡ second
  unfolding two served loaded new_vault in_service accept seal refuse ready valid vault_ok lane_ok holds held_record accepted holding listed_more too_low legal legal_len write_count transaction some_writes little_bytes all_below legal_write write_at write_in lowest little padded commit_opened out_of_turn committed
  two_is =
      ap (λ (c : State). visible_at c 20) (visible_is (served key) (sealed_at (served key) 10) 10 1 refl (omega arith) refl refl)
      ∙ visible_is first (sealed_at first 20) 20 2 refl (omega arith) refl refl

  abbrev pointing : State → List ℕ
  pointing c = counted (point c 20) ∷ counted (point c 21) ∷ display (accept_at (point c 21).state 21) ∷ display (accept_at (point c 21).state 22) ∷ []

  second_points : pointing second ≡ 1 ∷ 2 ∷ 6 ∷ 0 ∷ []
  unfolding counted number point pointed points_more journal_of marks_of marks_to marks_from lane_count unseen_below counts_at point_at served loaded new_vault in_service accept refuse ready valid vault_ok lane_ok accepted holding listed_more too_low legal legal_len write_count transaction some_writes little_bytes all_below legal_write write_at write_in lowest little padded committed
  second_points = refl

  m11 : Marked key 11
  unfolding sheet
  m11 = ap pointing two_is ∙ second_points

-- ---- M12

version_opens : (key : List ℕ) (s : ℕ) → s ≤ counter_max → open_file (aes_gcm key) (versioned key s) ≡ some (record { version = s; seal = 0; table = empty_table })
unfolding versioned
version_opens key s h = file_opens key (record { version = s; seal = 0; table = empty_table }) (record { canonical = empty_canonical; version = h; seal = omega arith })

m12 : (key : List ℕ) → length key ≡ 16 → Marked key 12
unfolding sheet from_version number loaded new_vault vault_ok lane_ok all_below recover recover_phase recover_first read_from read_file other_version recover_read or_stop refuse valid spent open_file legal_file replay steps ended missing_from or_missing
m12 key long = rw (loads key (set_s new_vault (2 ^ 48 - 3)) long refl, loads key (set_s new_vault (2 ^ 48 - 2)) long refl, version_opens key (2 ^ 48 - 3) (omega arith))

-- ---- the sheet

pub sheet_holds : (key : List ℕ) → length key ≡ 16 → Holds (sheet key)
unfolding Holds sheet
sheet_holds key long =
    let l = m4_m9 key long in
    let t = torn_cases key long in
    let u = head_cases key long in
    (m1 key, (m2 key, (nonce_m3, (l.0, (l.1, (l.2, (l.3, (l.4, (l.5, (m10 key, (m11 key, (m12 key long, (t.0, (t.1, (t.2, (t.3, (u.0, (u.1, tt))))))))))))))))))
