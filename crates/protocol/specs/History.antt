-- 01, The list, the book and the card (demand 3): what a list of calls and cuts comes to, from a new vault and no state.
-- Assumes nothing.
use Rattle.std.specs.Prelude.{ℕ, zero, suc, ◌<◌, ◌≡◌, Bool, true, false, cond, leb, take}
use mathlib.Core.List.{List, [], ◌∷◌, ◌++◌, map, Memᴰ}
use Rattle.std.proofs.Math.Option.{Option, some, none}
use Rattle.octets.specs.Lists.{at}
use Rattle.sealed.specs.Aead.{aes_gcm}
use Rattle.sealed.specs.Record.{record_kind, Opened, open_record}
use Rattle.sealed.specs.Log.{records_in}
use Rattle.sealed.specs.Checkpoint.{file_kind, OpenedFile, version_of, open_file}
use Rattle.protocol.specs.Vaults.{new_vault, set_w, set_v, set_r, set_e, set_s, set_n}
use Rattle.protocol.specs.Said.{Said, refused, taken, Answered}
use Rattle.protocol.specs.Load.{load}
use Rattle.protocol.specs.Accept.{accept, seal}
use Rattle.protocol.specs.Commit.{commit}
use Rattle.protocol.specs.Point.{point}
use Rattle.protocol.specs.Checkpoint.{checkpoint}
use Rattle.protocol.specs.Truncate.{truncate}
use Rattle.protocol.specs.Recover.{recover}
use Rattle.protocol.specs.declared.Vault.{Vault}
use Rattle.protocol.specs.declared.State.{State}
use Rattle.protocol.specs.declared.Store.{Store}
use Rattle.protocol.specs.declared.Store.TheVariants as S

-- ---- the list

-- "calls of the eight operations above, with any arguments". A call that puts bytes out is lent room for so many.
pub data Call : Type 0 where
  call_load : Vault → List ℕ → Call
  call_accept : List ℕ → ℕ → ℕ → Call
  call_seal : ℕ → Call
  call_commit : List ℕ → Call
  call_point : ℕ → Call
  call_checkpoint : ℕ → Call
  call_truncate : ℕ → Call
  call_recover : List ℕ → List ℕ → ℕ → Call

-- "and cuts": "where a cut comes first, the list says whether it was done"
pub data Event : Type 0 where
  call : Call → Event
  cut : Bool → Event

-- ---- the card that keeps faith

pub record Placed : Type 0 where
  pub position : ℕ
  pub bytes : List ℕ

-- the records, in the order in which they were stored, the checkpoint files, and the record of which a cut left a beginning (02, CR 4), or []
pub record Card : Type 0 where
  pub records : List Placed
  pub files : List (List ℕ)
  pub beginning : List ℕ

-- the records at or above a position
unfoldable pub placed_from : ℕ → List Placed → List Placed
placed_from p [] = []
placed_from p (x ∷ xs) = cond (leb p x.position) (x ∷ placed_from p xs) (placed_from p xs)

-- "A record store adds the record at its position, a checkpoint store adds the file, a delete store drops all records below its position, an
-- empty store drops all records. Nothing else changes what it holds". The bytes are those that the call put out. A beginning is shown "until an
-- empty store is done, which drops it too".
unfoldable pub card_after : Store → List ℕ → Card → Card
card_after S.Nothing bytes d = d
card_after (S.W l k) bytes d = d
card_after (S.V l k) bytes d = d
card_after (S.R l k) bytes d = d
card_after (S.E k) bytes d = d
card_after (S.S k) bytes d = d
card_after (S.N k) bytes d = d
card_after (S.Record p) bytes d = record { records = d.records ++ (record { position = p; bytes = bytes } ∷ []); files = d.files; beginning = d.beginning }
card_after S.File bytes d = record { records = d.records; files = d.files ++ (bytes ∷ []); beginning = d.beginning }
card_after (S.Delete p) bytes d = record { records = placed_from p d.records; files = d.files; beginning = d.beginning }
card_after S.Empty bytes d = record { records = []; files = d.files; beginning = [] }

-- a cut before the store is done: "a cut may leave any beginning of the record being written, at the end of the log". A file is never begun on
-- the card: "A torn checkpoint never counts as one of version S".
unfoldable pub card_cut : Store → List ℕ → Card → Card
card_cut S.Nothing bytes d = d
card_cut (S.W l k) bytes d = d
card_cut (S.V l k) bytes d = d
card_cut (S.R l k) bytes d = d
card_cut (S.E k) bytes d = d
card_cut (S.S k) bytes d = d
card_cut (S.N k) bytes d = d
card_cut (S.Record p) bytes d = record { records = d.records; files = d.files; beginning = bytes }
card_cut S.File bytes d = d
card_cut (S.Delete p) bytes d = d
card_cut S.Empty bytes d = d

-- "its records end to end in order of position"
unfoldable pub insert_placed : Placed → List Placed → List Placed
insert_placed x [] = x ∷ []
insert_placed x (y ∷ ys) = cond (leb x.position y.position) (x ∷ y ∷ ys) (y ∷ insert_placed x ys)

unfoldable pub in_order : List Placed → List Placed
in_order [] = []
in_order (x ∷ xs) = insert_placed x (in_order xs)

unfoldable pub end_to_end : List Placed → List ℕ
end_to_end [] = []
end_to_end (x ∷ xs) = x.bytes ++ end_to_end xs

-- and behind them the first k bytes of the record that was begun
unfoldable pub faithful_log : Card → ℕ → List ℕ
faithful_log d k = end_to_end (in_order d.records) ++ take k d.beginning

-- "and some checkpoint it holds of version S (none while S = 0)"
unfoldable pub FaithfulFile : ℕ → Card → List ℕ → Type 0
FaithfulFile zero d file = file ≡ []
FaithfulFile (suc s) d file = Memᴰ file d.files × (version_of file ≡ suc s)

-- ---- the vault

unfoldable pub vault_after : Store → Vault → Vault
vault_after S.Nothing x = x
vault_after (S.W l k) x = set_w x l k
vault_after (S.V l k) x = set_v x l k
vault_after (S.R l k) x = set_r x l k
vault_after (S.E k) x = set_e x k
vault_after (S.S k) x = set_s x k
vault_after (S.N k) x = set_n x k
vault_after (S.Record p) x = x
vault_after S.File x = x
vault_after (S.Delete p) x = x
vault_after S.Empty x = x

-- ---- what lasts, and what is yet to be done

-- what a call sealed: the kind, the lane (0 for a file), the number or the seal number, and the bytes
pub record Sealing : Type 0 where
  pub kind : ℕ
  pub lane : ℕ
  pub number : ℕ
  pub bytes : List ℕ

-- what a cut keeps: the vault, the card that keeps faith, the book, and the trace of all sealings
pub record Lasting : Type 0 where
  pub vault : Vault
  pub card : Card
  pub book : List Opened
  pub sealings : List Sealing

-- the store that was named and is not yet done, the bytes that were put out with it, and what it adds to the book
pub record Pending : Type 0 where
  pub store : Store
  pub bytes : List ℕ
  pub adds : Option Opened

pub record World : Type 0 where
  pub lasting : Lasting
  pub pending : Pending
  pub state : Option State

abbrev pub nothing_pending : Pending
nothing_pending = record { store = S.Nothing; bytes = []; adds = none }

-- "It starts from a new vault and no state."
unfoldable pub new_lasting : Lasting
new_lasting = record { vault = new_vault; card = record { records = []; files = []; beginning = [] }; book = []; sealings = [] }

unfoldable pub new_world : World
new_world = record { lasting = new_lasting; pending = nothing_pending; state = none }

unfoldable pub book_after : Option Opened → List Opened → List Opened
book_after none b = b
book_after (some r) b = b ++ (r ∷ [])

-- the pending store is done
unfoldable pub done : Pending → Lasting → Lasting
done p d = record {
  vault = vault_after p.store d.vault;
  card = card_after p.store p.bytes d.card;
  book = book_after p.adds d.book;
  sealings = d.sealings;
}

abbrev pub settled : World → Lasting
settled w = done w.pending w.lasting

-- a cut comes before the pending store is done
unfoldable pub broken : Pending → Lasting → Lasting
broken p d = record { vault = d.vault; card = card_cut p.store p.bytes d.card; book = d.book; sealings = d.sealings }

-- what a taken call sealed, where c is the state that it handed back
unfoldable pub sealed_by : State → Store → List ℕ → List Sealing
sealed_by c (S.Record p) bytes = record { kind = record_kind; lane = c.held.lane; number = at c.vault.w c.held.lane; bytes = bytes } ∷ []
sealed_by c S.File bytes = record { kind = file_kind; lane = 0; number = c.vault.n; bytes = bytes } ∷ []
sealed_by c S.Nothing bytes = []
sealed_by c (S.W l k) bytes = []
sealed_by c (S.V l k) bytes = []
sealed_by c (S.R l k) bytes = []
sealed_by c (S.E k) bytes = []
sealed_by c (S.S k) bytes = []
sealed_by c (S.N k) bytes = []
sealed_by c (S.Delete p) bytes = []
sealed_by c S.Empty bytes = []

unfoldable pub with_sealings : Lasting → List Sealing → Lasting
with_sealings d more = record { vault = d.vault; card = d.card; book = d.book; sealings = more ++ d.sealings }

-- ---- one event

-- what a call answers. "A cut leaves no state, and without a state only Load can be called."
unfoldable pub answer_of : State → Call → Answered
answer_of c (call_load x key) = load x key
answer_of c (call_accept text lane position) = accept c text lane position
answer_of c (call_seal room) = seal c room
answer_of c (call_commit bytes) = commit c bytes
answer_of c (call_point position) = point c position
answer_of c (call_checkpoint room) = checkpoint c room
answer_of c (call_truncate position) = truncate c position
answer_of c (call_recover file log room) = recover c file log room

unfoldable pub first_answer : Call → Option Answered
first_answer (call_load x key) = some (load x key)
first_answer (call_accept text lane position) = none
first_answer (call_seal room) = none
first_answer (call_commit bytes) = none
first_answer (call_point position) = none
first_answer (call_checkpoint room) = none
first_answer (call_truncate position) = none
first_answer (call_recover file log room) = none

unfoldable pub answer : Option State → Call → Option Answered
answer none k = first_answer k
answer (some c) k = some (answer_of c k)

-- "When the store named by an accepted Commit is done .. the lane, number and transaction in that call's bytes are added. Nothing else adds
-- to it"
unfoldable pub adds_of : List ℕ → Call → Option Opened
adds_of key (call_load x k) = none
adds_of key (call_accept text lane position) = none
adds_of key (call_seal room) = none
adds_of key (call_commit bytes) = open_record (aes_gcm key) bytes
adds_of key (call_point position) = none
adds_of key (call_checkpoint room) = none
adds_of key (call_truncate position) = none
adds_of key (call_recover file log room) = none

-- "A refused call leaves the state, or its absence, as before"; "what an accepted Load returns replaces any that was there".
unfoldable pub after_said : Said → Lasting → Option State → Option Opened → State → List ℕ → World
after_said (refused n vs) d before adds c put = record { lasting = d; pending = nothing_pending; state = before }
after_said (taken st n) d before adds c put =
    record { lasting = with_sealings d (sealed_by c st put); pending = record { store = st; bytes = put; adds = adds }; state = some c }

unfoldable pub after_answer : Lasting → Option State → Option Opened → Option Answered → World
after_answer d before adds none = record { lasting = d; pending = nothing_pending; state = before }
after_answer d before adds (some a) = after_said a.said d before adds a.state a.put

-- "A named store is done before the next call; where a cut comes first, the list says whether it was done."
unfoldable pub next : List ℕ → World → Event → World
next key w (call k) = after_answer (settled w) w.state (adds_of key k) (answer w.state k)
next key w (cut true) = record { lasting = settled w; pending = nothing_pending; state = none }
next key w (cut false) = record { lasting = broken w.pending w.lasting; pending = nothing_pending; state = none }

unfoldable pub run : List ℕ → World → List Event → World
run key w [] = w
run key w (e ∷ es) = run key (next key w e) es

-- ---- the premises

-- "put out by an earlier Seal, Checkpoint or Recover of the list"
abbrev pub PutOut : World → List ℕ → Type 0
PutOut w bytes = Memᴰ bytes (map (λ (s : Sealing). s.bytes) w.lasting.sealings)

unfoldable pub is_taken : Said → Bool
is_taken (refused n vs) = false
is_taken (taken st n) = true

-- "Every accepted Load gets the vault's numbers and the one key." "The bytes handed to Commit and Recover are any, but whatever of them opens
-- as a record or checkpoint was put out by an earlier Seal, Checkpoint or Recover of the list": the whole of Commit's bytes, the whole records
-- that a reading of the log from its first byte meets, the whole checkpoint. A transaction is bytes: each of its numbers is below 256.
unfoldable pub Honest : List ℕ → World → Event → Type 0
Honest key w (call (call_load x k)) = is_taken (load x k).said ≡ true → (x ≡ (settled w).vault) × (k ≡ key)
Honest key w (call (call_accept text lane position)) = (i : ℕ) → at text i < 256
Honest key w (call (call_seal room)) = Unit {0}
Honest key w (call (call_commit bytes)) = (r : Opened) → open_record (aes_gcm key) bytes ≡ some r → PutOut w bytes
Honest key w (call (call_point position)) = Unit {0}
Honest key w (call (call_checkpoint room)) = Unit {0}
Honest key w (call (call_truncate position)) = Unit {0}
Honest key w (call (call_recover file log room)) =
    ((b : List ℕ) (r : Opened) → Memᴰ b (records_in log) → open_record (aes_gcm key) b ≡ some r → PutOut w b)
    × ((f : OpenedFile) → open_file (aes_gcm key) file ≡ some f → PutOut w file)
Honest key w (cut b) = Unit {0}

-- each event of the list, in its turn
unfoldable pub Premises : List ℕ → World → List Event → Type 0
Premises key w [] = Unit {0}
Premises key w (e ∷ es) = Honest key w e × Premises key (next key w e) es
