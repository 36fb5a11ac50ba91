-- What is said beside demand 3, after any list that keeps to the premises: that a faithful log is short, where a card may show the beginning of a
-- record, that the vault's numbers only rise, which files may go, the stores of the longer operations, and 01's sentences on a collector in
-- service. The proofs are in proofs/ServiceLaws.antt, BegunLaws, RiseLaws, ForgetLaws and Theorem.
-- Assumes nothing.
use Rattle.std.specs.Prelude.{ℕ, suc, ◌+◌, ◌*◌, ◌≤◌, ◌<◌, ◌≡◌, Bool, true, false, cond, not, ◌&&◌, ◌||◌, ◌⊎◌, leb, ltb, eqb, length, take, Some}
use mathlib.Core.List.{List, [], ◌∷◌, ◌++◌, Memᴰ}
use Rattle.std.proofs.Math.Option.{Option, some, none}
use Rattle.octets.specs.Lists.{at}
use Rattle.transaction.specs.Transaction.{max_text, legal}
use Rattle.table.specs.Table.{lanes, entered}
use Rattle.sealed.specs.Aead.{aes_gcm}
use Rattle.sealed.specs.Frame.{frame_len}
use Rattle.sealed.specs.Record.{Opened, lane_of, number_of, record_bytes, open_record}
use Rattle.sealed.specs.Log.{torn_at}
use Rattle.sealed.specs.Checkpoint.{file_len, version_of, file_bytes}
use Rattle.protocol.specs.Vaults.{counter_max}
use Rattle.protocol.specs.States.{listed, points_max}
use Rattle.protocol.specs.Said.{refused, taken}
use Rattle.protocol.specs.Accept.{accept, seal}
use Rattle.protocol.specs.Commit.{commit}
use Rattle.protocol.specs.Point.{point}
use Rattle.protocol.specs.Checkpoint.{checkpoint}
use Rattle.protocol.specs.Truncate.{points_of, find_point, truncate}
use Rattle.protocol.specs.Recover.{recover}
use Rattle.protocol.specs.Load.{key_len}
use Rattle.protocol.specs.Tally.{recovery_stores, truncate_stores, checkpoint_stores, answers, put_by, Names, Serves, Dropped, Covered, Truncates}
use Rattle.protocol.specs.History.{Call, Event, call, cut, Placed, placed_from, Card, World, new_world, nothing_pending, settled, next, run, is_taken, Honest, Premises, faithful_log, FaithfulFile}
use Rattle.protocol.specs.Since.{Since, nothing_since, since_run, any_from, standing}
use Rattle.protocol.specs.Claim.{after, Listed, Claim}
use Rattle.protocol.specs.declared.Vault.{Vault}
use Rattle.protocol.specs.declared.Point.{Point}
use Rattle.protocol.specs.declared.State.{State}
use Rattle.protocol.specs.declared.Phase.TheVariants as F
use Rattle.protocol.specs.declared.Due.{Due}
use Rattle.protocol.specs.declared.Due.TheVariants as D
use Rattle.protocol.specs.declared.CheckpointStep.TheVariants as K
use Rattle.protocol.specs.declared.RecoverStep.TheVariants as G
use Rattle.protocol.specs.declared.RecoverNumber.TheVariants as M
use Rattle.protocol.specs.declared.Store.{Store}
use Rattle.protocol.specs.declared.Store.TheVariants as S

-- the store sets no vault number below what it is
abbrev pub NotLower : Vault → Store → Type 0
NotLower x S.Nothing = Unit {0}
NotLower x (S.W l k) = at x.w l ≤ k
NotLower x (S.V l k) = at x.v l ≤ k
NotLower x (S.R l k) = at x.r l ≤ k
NotLower x (S.E k) = x.e ≤ k
NotLower x (S.S k) = x.s ≤ k
NotLower x (S.N k) = x.n ≤ k
NotLower x (S.Record p) = Unit {0}
NotLower x S.File = Unit {0}
NotLower x (S.Delete p) = Unit {0}
NotLower x S.Empty = Unit {0}

-- 128 records from each of 8 points on and 128 before the first, each of the longest
abbrev pub longest_log : ℕ
longest_log = (points_max + 1) * listed * (max_text + frame_len)

-- a record on the card below a position has a number above V of its lane
unfoldable pub unseen_on : ℕ → List ℕ → List Placed → Bool
unseen_on p v [] = false
unseen_on p v (x ∷ xs) = (ltb x.position p && ltb (at v (lane_of x.bytes)) (number_of x.bytes)) || unseen_on p v xs

-- how many records on the card are of a lane
unfoldable pub lane_on : ℕ → List Placed → ℕ
lane_on l [] = 0
lane_on l (x ∷ xs) = cond (eqb (lane_of x.bytes) l) (suc (lane_on l xs)) (lane_on l xs)

abbrev pub Among : List (List ℕ) → List (List ℕ) → Type 0
Among left all = (f : List ℕ) → Memᴰ f left → Memᴰ f all

-- of all the files only those of a version below s are not left
pub record Lacks (s : ℕ) (all left : List (List ℕ)) : Type 0 where
  pub among : Among left all
  pub kept : (f : List ℕ) → Memᴰ f all → s ≤ version_of f → Memᴰ f left

-- the card with the files that are left
abbrev pub card_left : List (List ℕ) → Card → Card
card_left left d = record { records = d.records; files = left; beginning = d.beginning }

-- a file is faithful of a card exactly where it is of the card with the files that are left
pub record SameFaith (s : ℕ) (d : Card) (left : List (List ℕ)) (file : List ℕ) : Type 0 where
  pub still : FaithfulFile s d file → FaithfulFile s (card_left left d) file
  pub only : FaithfulFile s (card_left left d) file → FaithfulFile s d file

-- the store of S is the one that is due
unfoldable pub s_due : Due → Bool
s_due D.Nothing = false
s_due D.Record = false
s_due (D.Checkpoint K.File) = false
s_due (D.Checkpoint K.Version) = true
s_due (D.Truncate position step) = false
s_due (D.Recover (G.File second)) = false
s_due (D.Recover (G.Number (M.S second))) = true
s_due (D.Recover (G.Number M.N)) = false
s_due (D.Recover (G.Number (M.R lane))) = false
s_due (D.Recover (G.Number M.E)) = false
s_due (D.Recover (G.Number (M.V lane))) = false
s_due (D.Recover G.Empty) = false

-- where the store of S is due, a file of the version that it is about to name is left
unfoldable pub NextLeft : Option State → ℕ → List (List ℕ) → Type 0
NextLeft none s left = Unit {0}
NextLeft (some c) s left = s_due c.due ≡ true → (file : List ℕ) × Memᴰ file left × (version_of file ≡ suc s)

-- the pending store is done, and of the card's files these are left
unfoldable pub forgotten : List (List ℕ) → World → World
forgotten left w = record {
  lasting = record { vault = (settled w).vault; card = card_left left (settled w).card; book = (settled w).book; sealings = (settled w).sealings };
  pending = nothing_pending;
  state = w.state;
}

module _ (key : List ℕ) where
  -- ---- the vault and the card

  -- a faithful log is at most as long as the longest, 202,752 of 262,144 bytes, with what it shows of a record that a cut left
  abbrev pub LogIsShort : Type 0
  LogIsShort = (es : List Event) → Listed key es → (k : ℕ) → length (faithful_log (settled (after key es)).card k) ≤ longest_log

  -- ---- the record that a cut left

  -- 02, CR 4, of any world: "a cut may leave any beginning of the record being written, at the end of the log. A faithful card may now show that,
  -- until an empty store is done, which drops it too." And no cut adds a file: "A torn checkpoint never counts as one of version S."
  pub record Leaves (w : World) : Type 0 where
    pub record_cut : (p : ℕ) → w.pending.store ≡ S.Record p → (next key w (cut false)).lasting.card.beginning ≡ w.pending.bytes
    pub other_cut : ((p : ℕ) → w.pending.store ≡ S.Record p → ⊥) → (next key w (cut false)).lasting.card.beginning ≡ w.lasting.card.beginning
    pub other_done : (w.pending.store ≡ S.Empty → ⊥) → (settled w).card.beginning ≡ w.lasting.card.beginning
    pub emptied : w.pending.store ≡ S.Empty → (settled w).card.beginning ≡ []
    pub no_file : (next key w (cut false)).lasting.card.files ≡ w.lasting.card.files

  -- in service there is no beginning, once the pending store is done
  abbrev pub NoneBegunInService : Type 0
  NoneBegunInService = (es : List Event) → Listed key es → (c : State) → (after key es).state ≡ some c → c.phase ≡ F.Serving → (settled (after key es)).card.beginning ≡ []

  -- and no pending record store or delete store meets one
  abbrev pub NoneMet : Type 0
  NoneMet = (es : List Event) → Listed key es → (p : ℕ) → ((after key es).pending.store ≡ S.Record p) ⊎ ((after key es).pending.store ≡ S.Delete p) → (after key es).lasting.card.beginning ≡ []

  -- every proper beginning of what Seal put out is torn, behind whatever it stands: so no cut in its store leaves a log that is turned down for it
  abbrev pub SealedBeginningsAreTorn : Type 0
  SealedBeginningsAreTorn = (es : List Event) → Listed key es → (p : ℕ) → (after key es).pending.store ≡ S.Record p → (front : List ℕ) (k : ℕ) → k < length (after key es).pending.bytes
      → torn_at (front ++ take k (after key es).pending.bytes) (length front) ≡ true

  -- and so is every proper beginning of what the card has begun
  abbrev pub BeginningsAreTorn : Type 0
  BeginningsAreTorn = (es : List Event) → Listed key es → (front : List ℕ) (k : ℕ) → k < length (settled (after key es)).card.beginning
      → torn_at (front ++ take k (settled (after key es)).card.beginning) (length front) ≡ true

  -- ---- numbers and files

  -- the vault's numbers only rise: no store that a call names lowers one
  abbrev pub NoStoreLowers : Type 0
  NoStoreLowers = (es : List Event) → Listed key es → (k : Call) → Honest key (after key es) (call k) → NotLower (settled (after key es)).vault (next key (after key es) (call k)).pending.store

  -- the S that is stored never falls, whatever comes after
  abbrev pub StoredSNeverFalls : Type 0
  StoredSNeverFalls = (es more : List Event) → Listed key es → Premises key (after key es) more → (after key es).lasting.vault.s ≤ (run key (after key es) more).lasting.vault.s

  -- so files of an older version may go once S is stored: of a card that has lost only such files a file is faithful exactly where it is of the
  -- card that has them all, then and whatever comes after
  abbrev pub OlderFilesMayGo : Type 0
  OlderFilesMayGo = (es more : List Event) → Listed key es → Premises key (after key es) more
      → (left : List (List ℕ)) → Lacks (after key es).lasting.vault.s (settled (run key (after key es) more)).card.files left
      → (file : List ℕ) → SameFaith (settled (run key (after key es) more)).vault.s (settled (run key (after key es) more)).card left file

  -- And files of other versions than S, those that a cut before S has left among them, may go too, but for the one that S is about to name: the
  -- whole claim holds of the card that is left, then and whatever comes after.
  abbrev pub OtherFilesMayGo : Type 0
  OtherFilesMayGo = length key ≡ key_len → (es : List Event) → Listed key es
      → (left : List (List ℕ)) → Among left (settled (after key es)).card.files → (file : List ℕ) → FaithfulFile (settled (after key es)).vault.s (card_left left (settled (after key es)).card) file
      → NextLeft (after key es).state (settled (after key es)).vault.s left
      → (more : List Event) → Premises key (forgotten left (after key es)) more → Claim key (run key (forgotten left (after key es)) more)

  -- ---- recovery, from any state

  -- "if any W ≠ V, also E + 1 and V = W for lanes 0 to 7 .. That makes 15 or 24. Then it is in service with no point and no position used."
  abbrev pub Recovers : Type 0
  Recovers = (c : State) (file log : List ℕ) (room : ℕ) → c.phase ≡ F.Cold → is_taken (recover c file log room).said ≡ true → file_len ≤ room
      → (((l : ℕ) → l < lanes → at c.vault.w l ≡ at c.vault.v l) → Names (λ d. recover d file log room) c (recovery_stores false c.vault) Serves)
      × ((l : ℕ) → l < lanes → (at c.vault.w l ≡ at c.vault.v l → ⊥) → Names (λ d. recover d file log room) c (recovery_stores true c.vault) Serves)

  -- ---- in service

  -- c is the state after a list, in service with no store due
  pub record Idle (es : List Event) (c : State) : Type 0 where
    pub premises : Listed key es
    pub state : (after key es).state ≡ some c
    pub phase : c.phase ≡ F.Serving
    pub due : c.due ≡ D.Nothing

  -- what the list has used and set since service began
  abbrev pub since : List Event → Since
  since es = since_run key new_world es nothing_since

  -- "a transaction, a lane, a position .. above every position used since service began and above the newest point .. At most 128 accepted
  -- records may stand at or above the newest point": each number where its cause holds, lowest first
  abbrev pub AcceptSays : Type 0
  AcceptSays = (es : List Event) (c : State) → Idle es c → (text : List ℕ) (lane position : ℕ)
      → (accept c text lane position).said
      ≡ cond (not (legal text)) (refused 4 [])
      (cond (leb lanes lane) (refused 5 [])
      (cond (any_from position (since es).points || any_from position (since es).used) (refused 6 [])
      (cond (leb listed (length (standing (since es).points (since es).used))) (refused 7 [])
      (cond (leb counter_max (at c.vault.w lane)) (refused 8 [])
      (taken (S.W lane (suc (at c.vault.w lane))) 0)))))

  -- Seal "fills the lent buffer from its start with the record under E and W" of the transaction, lane and position that Accept was given
  abbrev pub SealsTheAccepted : Type 0
  SealsTheAccepted = (es : List Event) (c : State) → Idle es c → (text : List ℕ) (lane position room : ℕ) → is_taken (accept c text lane position).said ≡ true → length text + frame_len ≤ room
      → ((seal (accept c text lane position).state room).said ≡ taken (S.Record position) (length text + frame_len))
      × ((seal (accept c text lane position).state room).put ≡ record_bytes (aes_gcm key) lane c.vault.e (suc (at c.vault.w lane)) text)

  -- "They open, bear epoch E and number V + 1 of their lane, at most W. .. V rises by 1: the transaction enters the table"
  abbrev pub CommitTakes : Type 0
  CommitTakes = (es : List Event) (c : State) → Idle es c → (bytes : List ℕ) (r : Opened) → open_record (aes_gcm key) bytes ≡ some r
      → r.epoch ≡ c.vault.e → r.number ≡ suc (at c.vault.v r.lane) → r.number ≤ at c.vault.w r.lane
      → ((commit c bytes).said ≡ taken (S.V r.lane r.number) 0) × ((commit c bytes).state.table ≡ entered c.table r.text r.lane r.number)

  -- "a position above the newest point, with every accepted record below it visible. .. At most 8 points are kept." The accepted records are the
  -- card's, and those that a truncation has dropped, which are visible.
  abbrev pub PointSays : Type 0
  PointSays = (es : List Event) (c : State) → Idle es c → (position : ℕ)
      → (point c position).said
      ≡ cond (any_from position (since es).points) (refused 6 [])
      (cond (leb points_max (length (points_of c.points))) (refused 7 [])
      (cond (unseen_on position c.vault.v (settled (after key es)).card.records) (refused 15 [])
      (taken S.Nothing 0)))

  -- a point that is taken is kept behind the others, and no checkpoint covers it yet
  abbrev pub PointIsKept : Type 0
  PointIsKept = (es : List Event) (c : State) → Idle es c → (position : ℕ) → is_taken (point c position).said ≡ true
      → (p : Point) × (points_of (point c position).state.points ≡ points_of c.points ++ (p ∷ [])) × (p.position ≡ position) × (p.covered ≡ false)

  -- "Per lane it keeps how many numbers lie below it, earlier ones included": with the records at or above it they come to W
  abbrev pub PointsCount : Type 0
  PointsCount = (es : List Event) (c : State) → Idle es c → (p : Point) → Memᴰ p (points_of c.points) → (l : ℕ) → l < lanes
      → at p.counts l + lane_on l (placed_from p.position (settled (after key es)).card.records) ≡ at c.vault.w l

  -- nine calls of Truncate at a covered point name R of lanes 0 to 7 from the point's counts, and then the deletion
  abbrev pub TruncatesNine : Type 0
  TruncatesNine = (es : List Event) (c : State) → Idle es c → (position : ℕ) (p : Point)
      → find_point position (points_of c.points) ≡ Some p → p.covered ≡ true → Names (λ d. truncate d position) c (truncate_stores p) (Dropped c position)

  -- three calls of Checkpoint, where neither S nor N is at the maximum, name N + 1, the file and S + 1; the file is of the whole table with
  -- version S + 1 and the raised N as seal number; every kept point is then covered, nothing else has changed, and Truncate takes each of them
  abbrev pub CheckpointsThree : Type 0
  CheckpointsThree = (es : List Event) (c : State) → Idle es c → c.vault.s < counter_max → c.vault.n < counter_max → (room : ℕ) → file_len ≤ room
      → Names (λ d. checkpoint d room) c (checkpoint_stores c.vault) (λ d. Covered c d × Truncates c d)
      × (put_by (answers (λ d. checkpoint d room) 3 c) ≡ [] ∷ file_bytes (aes_gcm key) (suc c.vault.s) (suc c.vault.n) c.table ∷ [] ∷ [])

  pub record Beside : Type 0 where
    pub log_is_short : LogIsShort
    pub leaves : (w : World) → Leaves w
    pub none_begun_in_service : NoneBegunInService
    pub none_met : NoneMet
    pub sealed_beginnings_are_torn : SealedBeginningsAreTorn
    pub beginnings_are_torn : BeginningsAreTorn
    pub no_store_lowers : NoStoreLowers
    pub stored_s_never_falls : StoredSNeverFalls
    pub older_files_may_go : OlderFilesMayGo
    pub other_files_may_go : OtherFilesMayGo
    pub recovers : Recovers
    pub accept_says : AcceptSays
    pub seals_the_accepted : SealsTheAccepted
    pub commit_takes : CommitTakes
    pub point_says : PointSays
    pub point_is_kept : PointIsKept
    pub points_count : PointsCount
    pub truncates_nine : TruncatesNine
    pub checkpoints_three : CheckpointsThree
