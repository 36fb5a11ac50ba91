-- A run over C, as firmware makes it: a list of loads, calls and cuts. Each call is handed the state last returned, in numbers; the store that its
-- reply names is done before the next call, unless a cut comes first. What lasts (vault, card, book and trace of the sealings) is History's.
-- Assumes nothing.
use Rattle.std.specs.Prelude.{ℕ, Bool, true, false, cond, List, [], ◌∷◌, eqb, length, take}
use Rattle.std.proofs.Math.Option.{Option, some, none}
use Rattle.octets.specs.Lists.{put_over}
use Rattle.sealed.specs.Record.{Opened}
use Rattle.protocol.specs.Said.{Answered}
use Rattle.protocol.specs.Load.{load}
use Rattle.protocol.specs.Accept.{accept, seal}
use Rattle.protocol.specs.Commit.{commit}
use Rattle.protocol.specs.Point.{point}
use Rattle.protocol.specs.Checkpoint.{checkpoint}
use Rattle.protocol.specs.Truncate.{truncate}
use Rattle.protocol.specs.Recover.{recover}
use Rattle.protocol.specs.History as history
use Rattle.protocol.specs.History.{call_load, call_accept, call_seal, call_commit, call_point, call_checkpoint, call_truncate, call_recover, Lasting, Pending, nothing_pending, new_lasting, done, broken, sealed_by, with_sealings, adds_of}
use Rattle.protocol.specs.declared.Vault.{Vault}
use Rattle.protocol.specs.declared.State.{State}
use Rattle.boundary.specs.Flat.{thaw, freeze}
use Rattle.boundary.specs.Replies.{reply_of, reply_to, put_to, store_of}
use Rattle.boundary.specs.declared.FlatState.{FlatState}
use Rattle.boundary.specs.declared.Reply.{Reply}

-- ---- the calls

-- the seven functions that take a state, with their other arguments; a buffer that is lent for bytes to be put out stands as it was lent
pub data Call : Type 0 where
  paviluko_accept : List ℕ → ℕ → ℕ → Call
  paviluko_seal : List ℕ → Call
  paviluko_commit : List ℕ → Call
  paviluko_point : ℕ → Call
  paviluko_checkpoint : List ℕ → Call
  paviluko_truncate : ℕ → Call
  paviluko_recover : List ℕ → List ℕ → List ℕ → Call

pub data Event : Type 0 where
  paviluko_load : Vault → List ℕ → Event
  call : Call → Event
  cut : Bool → Event

-- what a call returns, and what then stands in the buffer that it was lent (nothing where it was lent none)
pub record Returned : Type 0 where
  pub reply : Reply
  pub out : List ℕ

abbrev pub back : FlatState → Answered → List ℕ → Returned
back s a out = record { reply = reply_to s a; out = put_over (put_to s a) out }

-- the promises of crates/paviluko/src/lib.rt, one for one
unfoldable pub returned : FlatState → Call → Returned
returned s (paviluko_accept transaction lane position) = back s (accept (thaw s) transaction lane position) []
returned s (paviluko_seal out) = back s (seal (thaw s) (length out)) out
returned s (paviluko_commit bytes) = back s (commit (thaw s) bytes) []
returned s (paviluko_point position) = back s (point (thaw s) position) []
returned s (paviluko_checkpoint out) = back s (checkpoint (thaw s) (length out)) out
returned s (paviluko_truncate position) = back s (truncate (thaw s) position) []
returned s (paviluko_recover file log out) = back s (recover (thaw s) file log (length out)) out

abbrev pub loaded : Vault → List ℕ → Returned
loaded x key = record { reply = reply_of (load x key); out = [] }

-- ---- one event

pub record World : Type 0 where
  pub lasting : Lasting
  pub pending : Pending
  pub state : Option FlatState

abbrev pub settled : World → Lasting
settled w = done w.pending w.lasting

unfoldable pub new_world : World
new_world = record { lasting = new_lasting; pending = nothing_pending; state = none }

-- the call of the definitions that a call over C is: a lent buffer counts by its length
unfoldable pub asked : Call → history.Call
asked (paviluko_accept transaction lane position) = call_accept transaction lane position
asked (paviluko_seal out) = call_seal (length out)
asked (paviluko_commit bytes) = call_commit bytes
asked (paviluko_point position) = call_point position
asked (paviluko_checkpoint out) = call_checkpoint (length out)
asked (paviluko_truncate position) = call_truncate position
asked (paviluko_recover file log out) = call_recover file log (length out)

unfoldable pub event_of : Event → history.Event
event_of (paviluko_load x key) = history.call (call_load x key)
event_of (call k) = history.call (asked k)
event_of (cut b) = history.cut b

-- the bytes to be stored: "the first len bytes of out"
abbrev pub written : Returned → List ℕ
written r = take r.reply.said.len r.out

-- number 0: the store named is pending, and the state is the reply's
unfoldable pub after_taken : Lasting → Option Opened → Returned → World
after_taken d adds r = record {
  lasting = with_sealings d (sealed_by (thaw r.reply.state) (store_of r.reply.said) (written r));
  pending = record { store = store_of r.reply.said; bytes = written r; adds = adds };
  state = some r.reply.state;
}

-- nothing is pending
unfoldable pub resting : Lasting → Option FlatState → World
resting d s = record { lasting = d; pending = nothing_pending; state = s }

unfoldable pub after_reply : Lasting → Option Opened → Returned → Option FlatState → World
after_reply d adds r s = cond (eqb r.reply.said.number 0) (after_taken d adds r) (resting d s)

-- a call with the state last returned; without a state there is none to hand over, and nothing is called
unfoldable pub after_call : List ℕ → Lasting → Call → Option FlatState → World
after_call key d k none = resting d none
after_call key d k (some s) = after_reply d (adds_of key (asked k)) (returned s k) (some (returned s k).reply.state)

-- A call that is turned down hands back a state, and the host goes on with that one. A load that is turned down hands back none to go on with:
-- the host keeps the one that it had. A cut leaves none.
unfoldable pub next : List ℕ → World → Event → World
next key w (paviluko_load x k) = after_reply (settled w) none (loaded x k) w.state
next key w (call k) = after_call key (settled w) k w.state
next key w (cut true) = resting (settled w) none
next key w (cut false) = resting (broken w.pending w.lasting) none

unfoldable pub run : List ℕ → World → List Event → World
run key w [] = w
run key w (e ∷ es) = run key (next key w e) es

-- ---- beside the definitions' run

-- a world of the definitions, its state written down in numbers
unfoldable pub flat_state : Option State → Option FlatState
flat_state none = none
flat_state (some c) = some (freeze c)

unfoldable pub flat_world : history.World → World
flat_world w = record { lasting = w.lasting; pending = w.pending; state = flat_state w.state }

-- what lasts and what is pending, without the state
abbrev pub stateless : World → history.World
stateless w = record { lasting = w.lasting; pending = w.pending; state = none }

-- the premises on an event, one for one History's, which say nothing of the state
abbrev pub Honest : List ℕ → World → Event → Type 0
Honest key w e = history.Honest key (stateless w) (event_of e)

unfoldable pub Premises : List ℕ → World → List Event → Type 0
Premises key w [] = Unit {0}
Premises key w (e ∷ es) = Honest key w e × Premises key (next key w e) es
