-- Demand 3 over C: the run over C is the run of the definitions, so what holds of the one holds of the other, with the state in numbers and the
-- store as a reply names it.
-- Assumes nothing.
use Prim.Native.Nat.{ℕ}
use mathlib.Core.Path.{◌≡◌, refl, sym, ap, subst, ◌∙◌}
use mathlib.Core.Bool.{Bool, true, false, cond}
use mathlib.Core.List.{List, map}
use mathlib.Core.Option.{Option, some, none}
use native.Mathlib.Omega.{arith}
use lib.Dec.{eqb}
use lib.ListN.{length}
use borrow.Author.Tests.{eq-eqb}
use Rattle.sealed.specs.Record.{Opened}
use Rattle.table.specs.declared.Entry.{Entry}
use Rattle.table.specs.declared.Table.{Table}
use Rattle.protocol.specs.Said.{Answered}
use Rattle.protocol.specs.Recover.{recover}
use Rattle.protocol.specs.LatestOf.{LatestOf}
use Rattle.protocol.specs.Claim as claim
use Rattle.protocol.specs.Claim.{HasLatest}
use Rattle.protocol.specs.History as history
use Rattle.protocol.specs.History.{Lasting, is_taken, answer_of, adds_of, faithful_log, FaithfulFile}
use Rattle.protocol.specs.declared.Vault.{Vault}
use Rattle.protocol.specs.declared.State.{State}
use Rattle.protocol.specs.declared.Phase.TheVariants as F
use Rattle.protocol.specs.declared.Store.TheVariants as S
use Rattle.protocol.proofs.Theorem.{demand_3}
use Rattle.boundary.specs.Flat.{phase_number, phase_of, freeze}
use Rattle.boundary.specs.Replies.{named, said_of, reply_of}
use Rattle.boundary.specs.Run.{Call, Event, call, paviluko_recover, Returned, returned, loaded, World, new_world, settled, asked, event_of, after_reply, after_taken, resting, after_call, next, flat_state, flat_world, Honest}
use Rattle.boundary.specs.Claim.{TakenUnlessSpent, after, Listed, RunIsTheDefinitions, Claim, Demand3}
use Rattle.boundary.specs.declared.FlatState.{FlatState}
use Rattle.boundary.specs.declared.Said.{Said as SaidNumbers}
use Rattle.boundary.proofs.FlatLaws.{phase_back}
use Rattle.boundary.proofs.NumberLaws.{number_tells}
use Rattle.boundary.proofs.RunLaws.{returned_is, call_numbered, event_is, run_is, premises_are, premises_too, every_list}

-- ---- states

-- the state that there is, or this one
abbrev or_else : FlatState → Option FlatState → FlatState
or_else s none = s
or_else s (some t) = t

-- a state in numbers after a run is that of a state of the definitions
state_of : (o : Option State) (s : FlatState) → flat_state o ≡ some s → (c : State) × (o ≡ some c) × (freeze c ≡ s)
unfolding flat_state
state_of none s e = let z : ◌≡◌ {A = ℕ} 0 1 = cc in absurd (omega arith)
state_of (some c) s e = (c, refl, ap (or_else s) e)

-- a state written down with the phase of a cold one is cold
is_cold : (c : State) → (freeze c).phase ≡ phase_number F.Cold → c.phase ≡ F.Cold
unfolding freeze phase_of
is_cold c e = sym (phase_back c.phase) ∙ ap phase_of e ∙ phase_back F.Cold

-- ---- what paviluko_recover says

module _ (c : State) (file log out : List ℕ) where
  abbrev answered : Answered
  answered = recover c file log (length out)

  said_is : (returned (freeze c) (paviluko_recover file log out)).reply.said ≡ said_of answered.said
  unfolding asked answer_of reply_of
  said_is = ap (λ (r : Returned). r.reply.said) (returned_is c (paviluko_recover file log out))

  -- number 0: it is taken
  zero_taken : (returned (freeze c) (paviluko_recover file log out)).reply.said.number ≡ 0 → is_taken answered.said ≡ true
  unfolding asked answer_of
  zero_taken n = sym (number_tells (call_numbered c (paviluko_recover file log out))) ∙ eq-eqb _ 0 (sym (ap (λ (x : SaidNumbers). x.number) said_is) ∙ n)

  unless_spent : (x : Vault) → claim.TakenUnlessSpent x answered.said → TakenUnlessSpent x (returned (freeze c) (paviluko_recover file log out)).reply.said
  unfolding said_of named
  unless_spent x h = record { takes = λ u. said_is ∙ ap said_of (h.takes u); spent = λ u. said_is ∙ ap said_of (h.spent u) }

-- whatever the number, the state behind a call is the one in its reply
reply_state : (b : Bool) (d : Lasting) (adds : Option Opened) (r : Returned) → (cond b (after_taken d adds r) (resting d (some r.reply.state))).state ≡ some r.reply.state
unfolding after_taken resting
reply_state true d adds r = refl
reply_state false d adds r = refl

call_state : (key : List ℕ) (d : Lasting) (k : Call) (s : FlatState) → (after_call key d k (some s)).state ≡ some (returned s k).reply.state
unfolding after_call after_reply
call_state key d k s = reply_state (eqb (returned s k).reply.said.number 0) d (adds_of key (asked k)) (returned s k)

module _ (key : List ℕ) where
  abbrev events : List Event → List history.Event
  events es = map event_of es

  pub is_the_definitions : RunIsTheDefinitions key
  unfolding new_world history.new_world flat_world flat_state
  is_the_definitions es = run_is key es history.new_world

  listed : (es : List Event) → Listed key es → claim.Listed key (events es)
  unfolding new_world history.new_world flat_world flat_state
  listed es p = premises_are key es history.new_world p

  unlisted : (es : List Event) → claim.Listed key (events es) → Listed key es
  unfolding new_world history.new_world flat_world flat_state
  unlisted es p = premises_too key es history.new_world p

  module _ (es : List Event) (p : Listed key es) (holds : claim.Claim key (claim.after key (events es))) where
    abbrev beside : history.World
    beside = claim.after key (events es)

    same : after key es ≡ flat_world beside
    same = is_the_definitions es

    -- the state of the definitions' run
    same_state : (s : FlatState) → (after key es).state ≡ some s → (c : State) × (beside.state ≡ some c) × (freeze c ≡ s)
    unfolding flat_world
    same_state s q = state_of beside.state s (sym (ap (λ (w : World). w.state) same) ∙ q)

    -- what is settled is what is settled there
    same_settled : settled (after key es) ≡ history.settled beside
    unfolding flat_world
    same_settled = ap settled same

    -- ---- the table

    module _ (file log out : List ℕ) where
      abbrev recovery : Event
      recovery = call (paviluko_recover file log out)

      same_next : next key (after key es) recovery ≡ flat_world (history.next key beside (event_of recovery))
      same_next = ap (λ (w : World). next key w recovery) same ∙ event_is key beside recovery

      behind_state : (s : FlatState) → (after key es).state ≡ some s → (next key (after key es) recovery).state ≡ some (returned s (paviluko_recover file log out)).reply.state
      unfolding next
      behind_state s q =
          ap (λ (o : Option FlatState). (after_call key (settled (after key es)) (paviluko_recover file log out) o).state) q
          ∙ call_state key (settled (after key es)) (paviluko_recover file log out) s

      -- the table in the reply is that of the state which the definitions' run comes to
      reply_table : (s : FlatState) (d : State) → (after key es).state ≡ some s → (history.next key beside (event_of recovery)).state ≡ some d
          → (returned s (paviluko_recover file log out)).reply.state.table ≡ d.table
      unfolding flat_world flat_state freeze
      reply_table s d q r =
          let e : some (returned s (paviluko_recover file log out)).reply.state ≡ some (freeze d) = sym (behind_state s q) ∙ ap (λ (w : World). w.state) same_next ∙ ap flat_state r in
          ap (λ (o : Option FlatState). (or_else s o).table) e

      honest_there : Honest key (after key es) recovery → history.Honest key beside (event_of recovery)
      unfolding history.Honest event_of asked flat_world
      honest_there h = subst (λ (w : World). Honest key w recovery) same h

    safe : (s : FlatState) → (after key es).state ≡ some s → (file log out : List ℕ) → Honest key (after key es) (recovery file log out)
        → (returned s (paviluko_recover file log out)).reply.said.number ≡ 0
        → HasLatest (next key (after key es) (recovery file log out)).lasting.book (returned s (paviluko_recover file log out)).reply.state.table
    unfolding event_of asked flat_world
    safe s q file log out h n =
        let c = same_state s q in
        let yea = zero_taken c.0 file log out (subst (λ (t : FlatState). (returned t (paviluko_recover file log out)).reply.said.number ≡ 0) (sym c.2) n) in
        let r = holds.table_is_the_books c.0 c.1 file log (length out) (honest_there file log out h) yea in
        let b : (history.next key beside (event_of (recovery file log out))).lasting.book ≡ (next key (after key es) (recovery file log out)).lasting.book = sym (ap (λ (w : World). w.lasting.book) (same_next file log out)) in
        subst (λ (x : List Opened). HasLatest x (returned s (paviluko_recover file log out)).reply.state.table) b
        (subst (λ (x : Table). HasLatest (history.next key beside (event_of (recovery file log out))).lasting.book x) (sym (reply_table file log out s r.0 q r.1)) r.2)

    -- ---- the card that kept faith

    live : (s : FlatState) → (after key es).state ≡ some s → s.phase ≡ phase_number F.Cold → (file out : List ℕ) (k : ℕ) → FaithfulFile (settled (after key es)).vault.s (settled (after key es)).card file
        → TakenUnlessSpent (settled (after key es)).vault (returned s (paviluko_recover file (faithful_log (settled (after key es)).card k) out)).reply.said
    live s q co file out k f =
        let c = same_state s q in
        let f' = subst (λ (d : Lasting). FaithfulFile d.vault.s d.card file) same_settled f in
        let co' = is_cold c.0 (subst (λ (t : FlatState). t.phase ≡ phase_number F.Cold) (sym c.2) co) in
        let r = holds.faithful_card_is_taken c.0 c.1 co' file (length out) k f' in
        let log = faithful_log (history.settled beside).card k in
        let x = unless_spent c.0 file log out (history.settled beside).vault r in
        subst (λ (d : Lasting). TakenUnlessSpent d.vault (returned s (paviluko_recover file (faithful_log d.card k) out)).reply.said) (sym same_settled)
        (subst (λ (t : FlatState). TakenUnlessSpent (history.settled beside).vault (returned t (paviluko_recover file log out)).reply.said) c.2 x)

    loads : ((loaded (settled (after key es)).vault key).reply.said ≡ named S.Nothing 0) × ((loaded (settled (after key es)).vault key).reply.state.phase ≡ phase_number F.Cold)
    unfolding reply_of said_of named freeze phase_number
    loads =
        let r = holds.load_is_taken in
        subst (λ (d : Lasting). ((loaded d.vault key).reply.said ≡ named S.Nothing 0) × ((loaded d.vault key).reply.state.phase ≡ phase_number F.Cold)) (sym same_settled) (ap said_of r.0, ap phase_number r.1)

    files : (file : List ℕ) × FaithfulFile (settled (after key es)).vault.s (settled (after key es)).card file
    files =
        let r = holds.card_has_a_file in
        (r.0, subst (λ (d : Lasting). FaithfulFile d.vault.s d.card r.0) (sym same_settled) r.1)

    honest : (file out : List ℕ) (k : ℕ) → FaithfulFile (settled (after key es)).vault.s (settled (after key es)).card file → Honest key (after key es) (recovery file (faithful_log (settled (after key es)).card k) out)
    unfolding history.Honest event_of asked flat_world
    honest file out k f =
        let f' = subst (λ (d : Lasting). FaithfulFile d.vault.s d.card file) same_settled f in
        let r = holds.faithful_card_is_honest file (length out) k f' in
        subst (λ (w : World). Honest key w (recovery file (faithful_log (settled w).card k) out)) (sym same) r

    one : (m : ℕ) (a b : Entry) → LatestOf (settled (after key es)).book m a → LatestOf (settled (after key es)).book m b → a ≡ b
    one m a b = subst (λ (d : Lasting). LatestOf d.book m a → LatestOf d.book m b → a ≡ b) (sym same_settled) (holds.latest_is_one m a b)

    holds_of : Claim key (after key es)
    holds_of = record { table_is_the_books = safe; latest_is_one = one; faithful_card_is_taken = live; load_is_taken = loads; card_has_a_file = files; faithful_card_is_honest = honest }

-- ---- DEMAND 3, OVER C

pub demand_3_over_c : Demand3
demand_3_over_c key long = record {
  run_is_the_definitions = is_the_definitions key;
  premises_are_the_definitions = λ es. (listed key es, unlisted key es);
  every_list_is_one = every_list;
  claim = λ es p. holds_of key es p (demand_3 key long (events key es) (listed key es p));
}
