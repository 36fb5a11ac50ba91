-- Demand 3, as 01's section on the list, the book and the card has it: one claim about what the whole list comes to. What is said beside it stands in Beside.
-- The proof is in proofs/Theorem.antt.
-- Assumes nothing.
use Rattle.std.specs.Prelude.{ℕ, suc, ◌-◌, ◌^◌, ◌≤◌, ◌<◌, ◌≡◌, true, List, [], length, get_or}
use Rattle.std.proofs.Math.Option.{some}
use Rattle.transaction.specs.Transaction.{meters}
use Rattle.table.specs.declared.Entry.{Entry}
use Rattle.table.specs.declared.Table.{Table}
use Rattle.table.specs.Table.{no_entry}
use Rattle.sealed.specs.Record.{Opened}
use Rattle.protocol.specs.Said.{Said, refused, taken}
use Rattle.protocol.specs.Load.{key_len, load}
use Rattle.protocol.specs.Recover.{recover}
use Rattle.protocol.specs.LatestOf.{LatestOf}
use Rattle.protocol.specs.History.{Event, call, call_recover, World, new_world, settled, next, run, is_taken, Honest, Premises, faithful_log, FaithfulFile}
use Rattle.protocol.specs.declared.Vault.{Vault}
use Rattle.protocol.specs.declared.State.{State}
use Rattle.protocol.specs.declared.Phase.TheVariants as F
use Rattle.protocol.specs.declared.Store.TheVariants as S

-- no counter is spent: "A spent counter at recovery is S or N above 2^48 − 3, or E at 2^48 − 1."
pub record Unspent (x : Vault) : Type 0 where
  pub s : x.s ≤ 2 ^ 48 - 3
  pub n : x.n ≤ 2 ^ 48 - 3
  pub e : x.e < 2 ^ 48 - 1

-- accepted exactly when no counter is spent: taken, with the store of N + 1, or refused with 8
pub record TakenUnlessSpent (x : Vault) (said : Said) : Type 0 where
  pub takes : Unspent x → said ≡ taken (S.N (suc x.n)) 0
  pub spent : (Unspent x → ⊥) → said ≡ refused 8 []

-- "exactly the latest reading of every meter": a table of 256 entries, each the latest of all writes to its meter in the book
pub record HasLatest (book : List Opened) (t : Table) : Type 0 where
  pub long : length t.entries ≡ meters
  pub each : (m : ℕ) → m < meters → LatestOf book m (get_or t.entries m no_entry)

module _ (key : List ℕ) where
  -- what a list comes to, from a new vault and no state
  abbrev pub after : List Event → World
  after es = run key new_world es

  -- a list that keeps to the premises
  abbrev pub Listed : List Event → Type 0
  Listed es = Premises key new_world es

  -- the claim, of the world that a list comes to
  pub record Claim (w : World) : Type 0 where
    -- "After the call by which Recover is accepted, and after each that goes on with its stores, the table in the state is the book's table,
    -- entry for entry": whatever is handed over as checkpoint and log.
    pub table_is_the_books : (c : State) → w.state ≡ some c → (file log : List ℕ) (room : ℕ) → Honest key w (call (call_recover file log room)) → is_taken (recover c file log room).said ≡ true
        → (d : State) × ((next key w (call (call_recover file log room))).state ≡ some d) × HasLatest (next key w (call (call_recover file log room))).lasting.book d.table
    -- the latest of all writes to a meter in the book is one entry
    pub latest_is_one : (m : ℕ) (a b : Entry) → LatestOf (settled w).book m a → LatestOf (settled w).book m b → a ≡ b
    -- "After any such list, recovery of a cold collector from a card that kept faith as 01 defines is accepted exactly when no counter is
    -- spent": whichever beginning it shows of a record that a cut left (02, CR 4), and so at every call anew.
    pub faithful_card_is_taken : (c : State) → w.state ≡ some c → c.phase ≡ F.Cold → (file : List ℕ) (room k : ℕ) → FaithfulFile (settled w).vault.s (settled w).card file
        → TakenUnlessSpent (settled w).vault (recover c file (faithful_log (settled w).card k) room).said
    -- Load takes the vault's numbers after any list, names no store, and hands back a cold collector: so there is always one
    pub load_is_taken : ((load (settled w).vault key).said ≡ taken S.Nothing 0) × ((load (settled w).vault key).state.phase ≡ F.Cold)
    -- the card that kept faith has a file of version S where S > 0
    pub card_has_a_file : (file : List ℕ) × FaithfulFile (settled w).vault.s (settled w).card file
    -- and what it hands over keeps to the premises: neither half of the claim is without the other
    pub faithful_card_is_honest : (file : List ℕ) (room k : ℕ) → FaithfulFile (settled w).vault.s (settled w).card file → Honest key w (call (call_recover file (faithful_log (settled w).card k) room))

-- demand 3, for every key of 16 bytes and every list that keeps to the premises
abbrev pub Demand3 : Type 0
Demand3 = (key : List ℕ) → length key ≡ key_len → (es : List Event) → Listed key es → Claim key (after key es)
