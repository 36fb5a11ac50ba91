-- Demand 3 of what firmware calls: the claim of protocol's Claim about replies, state in numbers, named store and number. A run over C is the run
-- of the definitions. The proof is in proofs/ClaimLaws.antt.
-- Assumes nothing.
use Rattle.std.specs.Prelude.{ℕ, suc, ◌≡◌, List, [], map, length}
use Rattle.std.proofs.Math.Option.{some}
use Rattle.table.specs.declared.Entry.{Entry}
use Rattle.protocol.specs.Load.{key_len}
use Rattle.protocol.specs.LatestOf.{LatestOf}
use Rattle.protocol.specs.Claim as claim
use Rattle.protocol.specs.Claim.{Unspent, HasLatest}
use Rattle.protocol.specs.History as history
use Rattle.protocol.specs.History.{faithful_log, FaithfulFile}
use Rattle.protocol.specs.Said.{refused}
use Rattle.protocol.specs.declared.Vault.{Vault}
use Rattle.protocol.specs.declared.Phase.TheVariants as F
use Rattle.protocol.specs.declared.Store.TheVariants as S
use Rattle.boundary.specs.Flat.{phase_number}
use Rattle.boundary.specs.Replies.{named, said_of}
use Rattle.boundary.specs.Run.{Event, call, paviluko_recover, returned, loaded, World, settled, new_world, event_of, next, run, flat_world, Honest, Premises}
use Rattle.boundary.specs.declared.FlatState.{FlatState}
use Rattle.boundary.specs.declared.Said.{Said}

-- accepted exactly when no counter is spent: number 0 with the store of N + 1, or number 8
pub record TakenUnlessSpent (x : Vault) (said : Said) : Type 0 where
  pub takes : Unspent x → said ≡ named (S.N (suc x.n)) 0
  pub spent : (Unspent x → ⊥) → said ≡ said_of (refused 8 [])

module _ (key : List ℕ) where
  -- what a list of events over C comes to, from a new vault and no state
  abbrev pub after : List Event → World
  after es = run key new_world es

  -- a list that keeps to the premises
  abbrev pub Listed : List Event → Type 0
  Listed es = Premises key new_world es

  -- calls over C, each handed the state last returned, are the definitions' calls: what lasts, the store that is pending and the state are theirs
  abbrev pub RunIsTheDefinitions : Type 0
  RunIsTheDefinitions = (es : List Event) → after es ≡ flat_world (history.run key history.new_world (map event_of es))

  -- such a list keeps to the premises exactly where the definitions' list does
  abbrev pub PremisesAreTheDefinitions : Type 0
  PremisesAreTheDefinitions = (es : List Event) → (Listed es → claim.Listed key (map event_of es)) × (claim.Listed key (map event_of es) → Listed es)

  -- and every list of the definitions is one of C calls: so the lists that are worked out there (protocol's Worked) are lists over C
  abbrev pub EveryListIsOne : Type 0
  EveryListIsOne = (es : List history.Event) → (cs : List Event) × (map event_of cs ≡ es)

  -- the claim, of the world that a list comes to
  pub record Claim (w : World) : Type 0 where
    -- whatever is handed over as checkpoint and log: where paviluko_recover says 0, the table in the state that it hands back is the book's, entry
    -- for entry
    pub table_is_the_books : (s : FlatState) → w.state ≡ some s → (file log out : List ℕ) → Honest key w (call (paviluko_recover file log out))
        → (returned s (paviluko_recover file log out)).reply.said.number ≡ 0
        → HasLatest (next key w (call (paviluko_recover file log out))).lasting.book (returned s (paviluko_recover file log out)).reply.state.table
    -- the latest of all writes to a meter in the book is one entry
    pub latest_is_one : (m : ℕ) (a b : Entry) → LatestOf (settled w).book m a → LatestOf (settled w).book m b → a ≡ b
    -- a cold collector takes a card that kept faith, whichever beginning it shows of a record that a cut left, exactly when no counter is spent
    pub faithful_card_is_taken : (s : FlatState) → w.state ≡ some s → s.phase ≡ phase_number F.Cold → (file out : List ℕ) (k : ℕ) → FaithfulFile (settled w).vault.s (settled w).card file
        → TakenUnlessSpent (settled w).vault (returned s (paviluko_recover file (faithful_log (settled w).card k) out)).reply.said
    -- paviluko_load takes the vault's numbers after any list, names no store, and hands back a cold collector
    pub load_is_taken : ((loaded (settled w).vault key).reply.said ≡ named S.Nothing 0) × ((loaded (settled w).vault key).reply.state.phase ≡ phase_number F.Cold)
    -- the card that kept faith has a file of version S where S > 0
    pub card_has_a_file : (file : List ℕ) × FaithfulFile (settled w).vault.s (settled w).card file
    -- and what it hands over keeps to the premises
    pub faithful_card_is_honest : (file out : List ℕ) (k : ℕ) → FaithfulFile (settled w).vault.s (settled w).card file → Honest key w (call (paviluko_recover file (faithful_log (settled w).card k) out))

  pub record OverC : Type 0 where
    pub run_is_the_definitions : RunIsTheDefinitions
    pub premises_are_the_definitions : PremisesAreTheDefinitions
    pub every_list_is_one : EveryListIsOne
    pub claim : (es : List Event) → Listed es → Claim (after es)

-- demand 3 over C, for every key of 16 bytes
abbrev pub Demand3 : Type 0
Demand3 = (key : List ℕ) → length key ≡ key_len → OverC key
