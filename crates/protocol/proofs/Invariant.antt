-- What holds of every list: the invariants, and what ties a state to what lasts.
--
-- What lasts is looked at with its bytes taken apart (Durable): the records and files that were put out, and those on the card that kept faith.
--
-- Of what lasts (Durably):
-- (1) the vault keeps Load's rule and the maximum, and each lane has its three numbers (Lanes, Numbers);
-- (2) of a lane and a number at most one record was ever put out, its number is at most W, and it can be written (SealedOnce);
-- (3) the book holds only records that were put out, none above V, and every number above R up to V, under epoch E (Booked);
-- (4) no file that was put out is of a version above S + 1; one of version S + 1 has the whole book's table; one of version S, and the empty
--     table while S = 0, has the book's up to R (Filed);
-- (5) the card's records are in order of position; in each lane their numbers go up by one to a top; where R < V they reach from R to V; they
--     are at most 9 · 128, with one that a cut left begun; that one was put out, and has a number at most R or above V (Carded);
-- (6) the card has a file of version S where S > 0 (CardFiled).
--
-- Of a state, by its phase and the store that is due (Linked):
-- (7) its vault numbers are the vault's once the pending store is done;
-- (8) cold: no store is due and nothing is listed;
-- (9) recovering: its table is the whole book's; once both checkpoints are done every file of version S has it too; R = W before E and V rise;
-- (10) in service: its table is the whole book's; no R is above V; the listed records are the card's from the newest point on; a point's counts
--      are what lies below it, they are visible, and a covered point's are in every file of version S (Serving); no record is begun.
-- Assumes nothing.
use Prim.Native.Nat.{ℕ, suc, ◌+◌, ◌*◌, ◌≤◌, ◌<◌, pred}
use mathlib.Core.Path.{◌≡◌}
use mathlib.Core.Bool.{Bool, true, false, cond}
use mathlib.Core.Option.{Option, none, some}
use Rattle.std.specs.Prelude.{Some}
use mathlib.Core.List.{List, [], ◌∷◌, ◌++◌, map, Memᴰ}
use lib.ListN.{length}
use Rattle.octets.specs.Lists.{at}
use Rattle.transaction.specs.Transaction.{legal}
use Rattle.table.specs.Table.{lanes, empty_table}
use Rattle.sealed.specs.Record.{Opened}
use Rattle.sealed.specs.Checkpoint.{OpenedFile}
use Rattle.sealed.specs.Frame.{frame_len}
use Rattle.protocol.specs.Vaults.{counter_max, set_w, set_v, set_r, set_e, set_s, set_n}
use Rattle.protocol.specs.States.{listed, points_max, held_text}
use Rattle.protocol.specs.Point.{Mark, marks_of}
use Rattle.protocol.specs.Truncate.{points_of, find_point}
use Rattle.protocol.specs.Said.{Said, refused, taken, Answered}
use Rattle.protocol.specs.History.{Card, Lasting, World, Sealing, settled, broken}
use Rattle.protocol.specs.Beside.{NotLower}
use Rattle.protocol.specs.declared.Vault.{Vault}
use Rattle.protocol.specs.declared.Point.{Point}
use Rattle.protocol.specs.declared.Points.{Points}
use Rattle.protocol.specs.declared.Journal.{Journal}
use Rattle.protocol.specs.declared.State.{State}
use Rattle.protocol.specs.declared.Phase.{Phase}
use Rattle.protocol.specs.declared.Phase.TheVariants as F
use Rattle.protocol.specs.declared.Due.{Due}
use Rattle.protocol.specs.declared.Due.TheVariants as D
use Rattle.protocol.specs.declared.CheckpointStep.{CheckpointStep}
use Rattle.protocol.specs.declared.CheckpointStep.TheVariants as K
use Rattle.protocol.specs.declared.TruncateStep.{TruncateStep}
use Rattle.protocol.specs.declared.TruncateStep.TheVariants as L
use Rattle.protocol.specs.declared.RecoverStep.{RecoverStep}
use Rattle.protocol.specs.declared.RecoverStep.TheVariants as G
use Rattle.protocol.specs.declared.RecoverNumber.{RecoverNumber}
use Rattle.protocol.specs.declared.RecoverNumber.TheVariants as M
use Rattle.protocol.specs.declared.Store.{Store}
use Rattle.protocol.specs.declared.Store.TheVariants as S
use Rattle.protocol.proofs.VaultLaws.{LaneFine}
use Rattle.protocol.proofs.Basis.{Passed, Writable, FileWritable, bytes_of, begun_bytes, file_of}
use Rattle.protocol.proofs.Latest.{In, Single, Full, Upto}
use Rattle.protocol.proofs.Hostile.{Whole}
use Rattle.protocol.proofs.Card.{Spot, spots_from, cnt, Consec, Rising, placed_of}

-- what lasts, with its bytes taken apart: the records and the files that were put out, and those that the card holds
pub record Durable : Type 0 where
  pub vault : Vault
  pub book : List Opened
  pub sealed : List Opened
  pub files : List OpenedFile
  pub spots : List Spot
  pub cards : List OpenedFile
  pub begun : Option Opened

abbrev pub vault_to : Durable → Vault → Durable
vault_to d x = record { vault = x; book = d.book; sealed = d.sealed; files = d.files; spots = d.spots; cards = d.cards; begun = d.begun }

abbrev pub spots_to : Durable → List Spot → Durable
spots_to d c = record { vault = d.vault; book = d.book; sealed = d.sealed; files = d.files; spots = c; cards = d.cards; begun = d.begun }

abbrev pub begun_to : Durable → Option Opened → Durable
begun_to d o = record { vault = d.vault; book = d.book; sealed = d.sealed; files = d.files; spots = d.spots; cards = d.cards; begun = o }

abbrev pub cards_to : Durable → List OpenedFile → Durable
cards_to d cs = record { vault = d.vault; book = d.book; sealed = d.sealed; files = d.files; spots = d.spots; cards = cs; begun = d.begun }

-- ---- what a call puts out, and what its store does

pub data Out : Type 0 where
  quiet : Out
  out_record : Opened → Out
  out_file : OpenedFile → Out

-- what is put out is known from then on, whether or not its store is done
abbrev pub known : Out → Durable → Durable
known quiet d = d
known (out_record r) d = record { vault = d.vault; book = d.book; sealed = r ∷ d.sealed; files = d.files; spots = d.spots; cards = d.cards; begun = d.begun }
known (out_file f) d = record { vault = d.vault; book = d.book; sealed = d.sealed; files = f ∷ d.files; spots = d.spots; cards = d.cards; begun = d.begun }

abbrev pub spotted : ℕ → Out → Durable → Durable
spotted p quiet d = d
spotted p (out_record r) d = spots_to d (d.spots ++ (record { position = p; rec = r } ∷ []))
spotted p (out_file f) d = d

abbrev pub filed : Out → Durable → Durable
filed quiet d = d
filed (out_record r) d = d
filed (out_file f) d = cards_to d (d.cards ++ (f ∷ []))

-- one store carried out
abbrev pub carried : Store → Out → Durable → Durable
carried S.Nothing o d = d
carried (S.W l k) o d = vault_to d (set_w d.vault l k)
carried (S.V l k) o d = vault_to d (set_v d.vault l k)
carried (S.R l k) o d = vault_to d (set_r d.vault l k)
carried (S.E k) o d = vault_to d (set_e d.vault k)
carried (S.S k) o d = vault_to d (set_s d.vault k)
carried (S.N k) o d = vault_to d (set_n d.vault k)
carried (S.Record p) o d = spotted p o d
carried S.File o d = filed o d
carried (S.Delete p) o d = spots_to d (spots_from p d.spots)
carried S.Empty o d = begun_to (spots_to d []) none

-- one store not carried out, at a cut: a record put out may have been begun
abbrev pub cut_short : Out → Durable → Durable
cut_short quiet d = d
cut_short (out_record r) d = begun_to d (some r)
cut_short (out_file f) d = d

abbrev pub booked_to : Option Opened → Durable → Durable
booked_to none d = d
booked_to (some r) d = record { vault = d.vault; book = d.book ++ (r ∷ []); sealed = d.sealed; files = d.files; spots = d.spots; cards = d.cards; begun = d.begun }

-- ---- (1) to (6): what lasts

abbrev pub FileIn : List OpenedFile → OpenedFile → Type 0
FileIn fs f = Memᴰ f fs

abbrev pub SpotIn : List Spot → Spot → Type 0
SpotIn ps p = Memᴰ p ps

pub record Lanes (w v r : List ℕ) : Type 0 where
  pub wlen : length w ≡ lanes
  pub vlen : length v ≡ lanes
  pub rlen : length r ≡ lanes
  pub lane : (l : ℕ) → LaneFine (at w l) (at v l) (at r l)

pub record Numbers (e s n : ℕ) : Type 0 where
  pub e≤ : e ≤ counter_max
  pub s≤ : s ≤ counter_max
  pub n≤ : n ≤ counter_max

pub record SealedOnce (w : List ℕ) (sealed : List Opened) : Type 0 where
  pub small : (r : Opened) → In sealed r → r.number ≤ at w r.lane
  pub fine : (r : Opened) → In sealed r → Writable r
  pub single : Single (In sealed)

pub record Booked (v r : List ℕ) (e : ℕ) (sealed book : List Opened) : Type 0 where
  pub known : (x : Opened) → In book x → In sealed x
  pub seen : (x : Opened) → In book x → x.number ≤ at v x.lane
  pub whole : Whole v r e book

pub record Filed (s : ℕ) (r : List ℕ) (book : List Opened) (files : List OpenedFile) : Type 0 where
  pub next : (f : OpenedFile) → FileIn files f → f.version ≤ suc s
  pub full : (f : OpenedFile) → FileIn files f → f.version ≡ suc s → Full book f.table
  pub held : (f : OpenedFile) → FileIn files f → f.version ≡ s → Upto book r f.table
  pub fresh : s ≡ 0 → Upto book r empty_table
  pub fine : (f : OpenedFile) → FileIn files f → FileWritable f

-- how many records are begun: one, or none
abbrev pub begun_count : Option Opened → ℕ
begun_count none = 0
begun_count (some y) = 1

pub record Carded (v r : List ℕ) (sealed : List Opened) (spots : List Spot) (begun : Option Opened) : Type 0 where
  pub top : ℕ → ℕ
  pub consec : Consec top spots
  pub reach : (l : ℕ) → at r l < at v l → (at v l ≤ top l) × (top l ≤ at r l + cnt l spots)
  pub known : (p : Spot) → SpotIn spots p → In sealed p.rec
  pub rising : Rising spots
  pub few : length spots + begun_count begun ≤ (points_max + 1) * listed
  pub begun_known : (y : Opened) → begun ≡ some y → In sealed y
  pub begun_passed : (y : Opened) → begun ≡ some y → Passed v r y

pub record CardFiled (s : ℕ) (files cards : List OpenedFile) : Type 0 where
  pub known : (f : OpenedFile) → FileIn cards f → FileIn files f
  pub have : 0 < s → (f : OpenedFile) × FileIn cards f × (f.version ≡ s)

pub record Durably (d : Durable) : Type 0 where
  pub lanes : Lanes d.vault.w d.vault.v d.vault.r
  pub nums : Numbers d.vault.e d.vault.s d.vault.n
  pub sealed : SealedOnce d.vault.w d.sealed
  pub book : Booked d.vault.v d.vault.r d.vault.e d.sealed d.book
  pub files : Filed d.vault.s d.vault.r d.book d.files
  pub card : Carded d.vault.v d.vault.r d.sealed d.spots d.begun
  pub kept : CardFiled d.vault.s d.files d.cards

-- ---- (9): recovering

-- a file of the next version is on the card
abbrev pub HasNext : ℕ → List OpenedFile → Type 0
HasNext s cards = (f : OpenedFile) × FileIn cards f × (f.version ≡ suc s)

-- no file of the next version was put out
abbrev pub Stale : ℕ → List OpenedFile → Type 0
Stale s files = (f : OpenedFile) → FileIn files f → f.version ≤ s

-- every file of version S has the whole book
pub record Caught (s : ℕ) (book : List Opened) (files : List OpenedFile) : Type 0 where
  pub stale : Stale s files
  pub full : (f : OpenedFile) → FileIn files f → f.version ≡ s → Full book f.table
  pub some_s : 0 < s

-- S, N and E may still rise by so much
pub record Ahead (x : Vault) (s n e : ℕ) : Type 0 where
  pub s_room : x.s + s ≤ counter_max
  pub n_room : x.n + n ≤ counter_max
  pub e_room : x.e + e ≤ counter_max

-- the checkpoints that are still to be written
abbrev pub checkpoints_left : Bool → ℕ
checkpoints_left false = 2
checkpoints_left true = 1

-- both checkpoints are done; R is W in the lanes below rl, V is W in those below vl, and E may still rise by el
pub record Raising (x : Vault) (d : Durable) (rl vl el : ℕ) : Type 0 where
  pub caught : Caught x.s d.book d.files
  pub r_is_w : (k : ℕ) → k < rl → at x.r k ≡ at x.w k
  pub v_is_w : (k : ℕ) → k < vl → at x.v k ≡ at x.w k
  pub e_room : x.e + el ≤ counter_max

-- by the store that is due
abbrev pub RecoverNumberDue : Vault → Durable → RecoverNumber → Type 0
RecoverNumberDue x d (M.S second) = Ahead x (checkpoints_left second) (pred (checkpoints_left second)) 1 × HasNext x.s d.cards
RecoverNumberDue x d M.N = Ahead x 1 1 1
RecoverNumberDue x d (M.R l) = (l < lanes) × Raising x d l 0 1
RecoverNumberDue x d M.E = Raising x d lanes 0 1
RecoverNumberDue x d (M.V l) = (l < lanes) × Raising x d lanes l 0

abbrev pub RecoverStepDue : Vault → Durable → RecoverStep → Type 0
RecoverStepDue x d (G.File second) = Ahead x (checkpoints_left second) (pred (checkpoints_left second)) 1
RecoverStepDue x d (G.Number number) = RecoverNumberDue x d number
RecoverStepDue x d G.Empty = Raising x d lanes lanes 0

abbrev pub RecoverDue : Vault → Durable → Due → Type 0
RecoverDue x d D.Nothing = ⊥
RecoverDue x d D.Record = ⊥
RecoverDue x d (D.Checkpoint step) = ⊥
RecoverDue x d (D.Truncate position step) = ⊥
RecoverDue x d (D.Recover step) = RecoverStepDue x d step

-- ---- (10): in service

-- one more than the newest point, or 0; one more than the last position used, or 0
abbrev pub floor_of : Points → ℕ
floor_of p = cond p.any (suc p.newest) 0

abbrev pub next_of : Journal → ℕ
next_of j = cond j.used (suc j.last) 0

abbrev pub mark_of : Spot → Mark
mark_of p = record { position = p.position; lane = p.rec.lane }

pub record PointOk (w v : List ℕ) (s floor : ℕ) (book : List Opened) (files : List OpenedFile) (spots : List Spot) (p : Point) : Type 0 where
  pub exact : (l : ℕ) → at p.counts l + cnt l (spots_from p.position spots) ≡ at w l
  pub visible : (l : ℕ) → at p.counts l ≤ at v l
  pub covers : p.covered ≡ true → (f : OpenedFile) → FileIn files f → f.version ≡ s → Upto book p.counts f.table
  pub under : p.position < floor

abbrev pub Ascending : List Point → Type 0
Ascending [] = Unit {0}
Ascending (p ∷ ps) = ((q : Point) → Memᴰ q ps → p.position < q.position) × Ascending ps

-- from a point on there are at most 128 records for each later point, and those listed
abbrev pub Crowd : List Spot → ℕ → List Point → Type 0
Crowd spots m [] = Unit {0}
Crowd spots m (p ∷ ps) = (length (spots_from p.position spots) ≤ listed * length ps + m) × Crowd spots m ps

pub record Serving (w v r : List ℕ) (s : ℕ) (marks : List Mark) (points : List Point) (floor next : ℕ) (book : List Opened) (files : List OpenedFile) (spots : List Spot) : Type 0 where
  pub order : (l : ℕ) → at r l ≤ at v l
  pub some_s : 0 < s
  pub consec : Consec (at w) spots
  pub rising : Rising spots
  pub under : (y : Spot) → SpotIn spots y → y.position < next
  pub marked : marks ≡ map mark_of (spots_from (pred floor) spots)
  pub few : length marks ≤ listed
  pub base : (l : ℕ) → at w l ≤ at v l + cnt l (spots_from (pred floor) spots)
  pub pointed : (p : Point) → Memᴰ p points → PointOk w v s floor book files spots p
  pub ascending : Ascending points
  pub crowd : Crowd spots (length marks) points
  pub total : length spots ≤ listed * length points + length marks
  pub eight : length points ≤ points_max

abbrev pub ServingAt : State → Durable → List Spot → Type 0
ServingAt c d spots = Serving c.vault.w c.vault.v c.vault.r c.vault.s (marks_of c.journal) (points_of c.points) (floor_of c.points) (next_of c.journal) d.book d.files spots

-- what lies above R is on the card
abbrev pub Exact : Vault → List Spot → Type 0
Exact x spots = (l : ℕ) → at x.r l + cnt l spots ≡ at x.w l

-- the record of the transaction held, at its position
abbrev pub held_spot : State → Spot
held_spot c = record { position = c.held.position; rec = record { lane = c.held.lane; epoch = c.vault.e; number = at c.vault.w c.held.lane; text = held_text c; size = length (held_text c) + frame_len } }

-- the card's records, and the one that is held
abbrev pub spots_at : State → Durable → Due → List Spot
spots_at c d D.Nothing = d.spots
spots_at c d D.Record = d.spots ++ (held_spot c ∷ [])
spots_at c d (D.Checkpoint step) = d.spots
spots_at c d (D.Truncate position step) = d.spots
spots_at c d (D.Recover step) = d.spots

-- a record is due
pub record Holding (c : State) (d : Durable) : Type 0 where
  pub stale : Stale c.vault.s d.files
  pub exact : Exact c.vault (d.spots ++ (held_spot c ∷ []))
  pub lane : c.held.lane < lanes
  pub fine : legal (held_text c) ≡ true
  pub bytes : (i : ℕ) → at (held_text c) i < 256
  pub newest : (r : Opened) → In d.sealed r → r.lane ≡ c.held.lane → r.number < at c.vault.w c.held.lane

-- R of lane j is due, or the deletion where j is 8
pub record Cutting (c : State) (d : Durable) (j position : ℕ) : Type 0 where
  pub stale : Stale c.vault.s d.files
  pub at_point : Point
  pub found : find_point position (points_of c.points) ≡ Some at_point
  pub covered : at_point.covered ≡ true
  pub did : (l : ℕ) → l < j → at c.vault.r l ≡ at at_point.counts l
  pub left : (l : ℕ) → j ≤ l → at c.vault.r l + cnt l d.spots ≡ at c.vault.w l

abbrev pub CheckpointDue : State → Durable → CheckpointStep → Type 0
CheckpointDue c d K.File = Stale c.vault.s d.files × Exact c.vault d.spots × (c.vault.s + 1 ≤ counter_max)
CheckpointDue c d K.Version = Exact c.vault d.spots × (c.vault.s + 1 ≤ counter_max) × HasNext c.vault.s d.cards

abbrev pub TruncateDue : State → Durable → ℕ → TruncateStep → Type 0
TruncateDue c d position (L.R j) = Cutting c d j position
TruncateDue c d position L.Delete = Cutting c d lanes position

abbrev pub ServiceDue : State → Durable → Due → Type 0
ServiceDue c d D.Nothing = Stale c.vault.s d.files × Exact c.vault d.spots
ServiceDue c d D.Record = Holding c d
ServiceDue c d (D.Checkpoint step) = CheckpointDue c d step
ServiceDue c d (D.Truncate position step) = TruncateDue c d position step
ServiceDue c d (D.Recover step) = ⊥

-- a record store and a delete store meet no beginning
abbrev pub Met : Option Opened → Store → Type 0
Met o S.Nothing = Unit {0}
Met o (S.W l k) = Unit {0}
Met o (S.V l k) = Unit {0}
Met o (S.R l k) = Unit {0}
Met o (S.E k) = Unit {0}
Met o (S.S k) = Unit {0}
Met o (S.N k) = Unit {0}
Met o (S.Record p) = o ≡ none
Met o S.File = Unit {0}
Met o (S.Delete p) = o ≡ none
Met o S.Empty = Unit {0}

-- ---- (7) to (10): the state, under the one key

-- the arrays have their lengths
pub record Arrays (j : Journal) (p : Points) : Type 0 where
  pub plen : length j.positions ≡ listed
  pub llen : length j.lanes ≡ listed
  pub ilen : length p.items ≡ points_max
  pub fewer : j.count ≤ listed
  pub eighth : p.count ≤ points_max

module _ (key : List ℕ) where
  pub record Cold (c : State) (du : Due) : Type 0 where
    pub key_is : c.key ≡ key
    pub due : du ≡ D.Nothing
    pub listed_none : c.journal.count ≡ 0
    pub pointed_none : c.points.count ≡ 0

  pub record Recovering (c : State) (d : Durable) (du : Due) : Type 0 where
    pub key_is : c.key ≡ key
    pub table : Full d.book c.table
    pub stored : RecoverDue c.vault d du

  pub record Service (c : State) (d : Durable) (du : Due) : Type 0 where
    pub key_is : c.key ≡ key
    pub arrays : Arrays c.journal c.points
    pub table : Full d.book c.table
    pub common : ServingAt c d (spots_at c d du)
    pub clean : d.begun ≡ none
    pub stored : ServiceDue c d du

  abbrev pub LinkedAt : State → Durable → Phase → Due → Type 0
  LinkedAt c d F.Cold du = Cold c du
  LinkedAt c d F.Recovering du = Recovering c d du
  LinkedAt c d F.Serving du = Service c d du

  pub record Linked (c : State) (d : Durable) : Type 0 where
    pub same : c.vault ≡ d.vault
    pub rest : LinkedAt c d c.phase c.due

  abbrev pub LinkedIf : Option State → Durable → Type 0
  LinkedIf none d = Unit {0}
  LinkedIf (some c) d = Linked c d

  -- ---- what lasts, and the same taken apart

  -- bytes that were put out are those of a record or of a file
  pub data Known (sealed : List Opened) (files : List OpenedFile) (b : List ℕ) : Type 0 where
    as_record : (r : Opened) → In sealed r → b ≡ bytes_of key r → Known sealed files b
    as_file : (f : OpenedFile) → FileIn files f → b ≡ file_of key f → Known sealed files b

  pub record SameCard (c : Card) (spots : List Spot) (cards : List OpenedFile) (begun : Option Opened) : Type 0 where
    pub records : c.records ≡ map (placed_of key) spots
    pub files : c.files ≡ map (file_of key) cards
    pub beginning : c.beginning ≡ begun_bytes key begun

  pub record Apart (a : Lasting) (d : Durable) : Type 0 where
    pub vault : a.vault ≡ d.vault
    pub book : a.book ≡ d.book
    pub card : SameCard a.card d.spots d.cards d.begun
    pub out : (b : List ℕ) → Memᴰ b (map (λ (s : Sealing). s.bytes) a.sealings) → Known d.sealed d.files b
    pub out_record_law : (r : Opened) → In d.sealed r → Memᴰ (bytes_of key r) (map (λ (s : Sealing). s.bytes) a.sealings)
    pub out_file_law : (f : OpenedFile) → FileIn d.files f → Memᴰ (file_of key f) (map (λ (s : Sealing). s.bytes) a.sealings)

  -- the invariant: what lasts, after a cut before the pending store is done and with it done, and the state's tie to the latter
  pub record Invariant (w : World) : Type 0 where
    pub before : Durable
    pub after : Durable
    pub apart : Apart (broken w.pending w.lasting) before
    pub apart' : Apart (settled w) after
    pub now : Durably before
    pub then : Durably after
    pub link : LinkedIf w.state after
    pub met : Met after.begun w.pending.store

  -- ---- what an accepted call keeps

  -- a store that sets a vault number or drops records
  abbrev pub Plain : Store → Type 0
  Plain S.Nothing = Unit {0}
  Plain (S.W l k) = Unit {0}
  Plain (S.V l k) = Unit {0}
  Plain (S.R l k) = Unit {0}
  Plain (S.E k) = Unit {0}
  Plain (S.S k) = Unit {0}
  Plain (S.N k) = Unit {0}
  Plain (S.Record p) = ⊥
  Plain S.File = ⊥
  Plain (S.Delete p) = Unit {0}
  Plain S.Empty = Unit {0}

  -- the store and the bytes put out are those of the record or file
  abbrev pub Puts : Out → Store → List ℕ → Type 0
  Puts quiet st put = Plain st
  Puts (out_record r) st put = (p : ℕ) × (st ≡ S.Record p) × (put ≡ bytes_of key r)
  Puts (out_file f) st put = (st ≡ S.File) × (put ≡ file_of key f)

  pub record Good (c : State) (st : Store) (put : List ℕ) (adds : Option Opened) (d : Durable) (o : Out) : Type 0 where
    pub puts : Puts o st put
    pub rises : NotLower d.vault st
    pub met : Met (booked_to adds (carried st o (known o d))).begun st
    pub now : Durably (cut_short o (known o d))
    pub then : Durably (booked_to adds (carried st o (known o d)))
    pub link : Linked c (booked_to adds (carried st o (known o d)))

  abbrev pub GoodSaid : Said → State → List ℕ → Option Opened → Durable → Type 0
  GoodSaid (refused n vs) c put adds d = Unit {0}
  GoodSaid (taken st n) c put adds d = (o : Out) × Good c st put adds d o

  abbrev pub GoodAnswer : Durable → Option Opened → Answered → Type 0
  GoodAnswer d adds a = GoodSaid a.said a.state a.put adds d

-- what lasts, with the state's own numbers
abbrev pub At : State → Durable → Durable
At c d = vault_to d c.vault
