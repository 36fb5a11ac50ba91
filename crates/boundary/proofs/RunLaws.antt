-- A run over C is the run of the definitions, its state written down in numbers. A state that a call hands back is known and reads as the state
-- of the definition's answer, its reply names that answer's store, and the first bytes of the buffer are those put out; a call that is turned
-- down hands back the state that came. So each event takes the one run's world to the other's.
-- Assumes nothing.
use Prim.Native.Nat.{ℕ}
use mathlib.Core.Path.{◌≡◌, refl, sym, ap, ap₂, subst, ◌∙◌}
use mathlib.Core.Bool.{true, false}
use mathlib.Core.List.{List, [], ◌∷◌, map}
use mathlib.Core.Option.{Option, some, none}
use lib.Seq.{take-append_seam}
use lib.ListN.{length, drop, replicate, length-replicate}
use Rattle.octets.specs.Lists.{put_over}
use Rattle.sealed.specs.Record.{Opened}
use Rattle.protocol.specs.Said.{Said, refused, taken, Answered}
use Rattle.protocol.specs.Load.{load}
use Rattle.protocol.specs.Accept.{accept, seal}
use Rattle.protocol.specs.Commit.{commit}
use Rattle.protocol.specs.Point.{point}
use Rattle.protocol.specs.Checkpoint.{checkpoint}
use Rattle.protocol.specs.Truncate.{truncate}
use Rattle.protocol.specs.Recover.{recover}
use Rattle.protocol.specs.History as history
use Rattle.protocol.specs.History.{call_load, call_accept, call_seal, call_commit, call_point, call_checkpoint, call_truncate, call_recover, Lasting, answer_of, first_answer, answer, adds_of, after_said, after_answer}
use Rattle.protocol.specs.declared.Vault.{Vault}
use Rattle.protocol.specs.declared.State.{State}
use Rattle.protocol.proofs.RefusalLaws.{kept_by, Kept, accept_kept, seal_kept, commit_kept, point_kept, checkpoint_kept, truncate_kept, recover_kept}
use Rattle.protocol.proofs.Walks.{walk_load}
use Rattle.boundary.specs.Flat.{thaw, freeze}
use Rattle.boundary.specs.Replies.{said_of, reply_of, reply_to, put_to}
use Rattle.boundary.specs.Run.{Call, paviluko_accept, paviluko_seal, paviluko_commit, paviluko_point, paviluko_checkpoint, paviluko_truncate, paviluko_recover, Event, paviluko_load, call, cut, Returned, back, returned, loaded, World, asked, event_of, after_taken, resting, after_reply, after_call, next, run, flat_state, flat_world, stateless, Premises}
use Rattle.boundary.specs.declared.FlatState.{FlatState}
use Rattle.boundary.proofs.FlatLaws.{thaw_freeze, freeze_is_known}
use Rattle.boundary.proofs.ReplyLaws.{named_0, store_back, len_back}
use Rattle.boundary.proofs.NumberLaws.{numbered_by, Numbered, other_than_0, load_numbered, accept_numbered, seal_numbered, commit_numbered, point_numbered, checkpoint_numbered, truncate_numbered, recover_numbered}

-- ---- what a call returns

-- the buffer that is lent to a call
unfoldable pub lent : Call → List ℕ
lent (paviluko_accept transaction lane position) = []
lent (paviluko_seal out) = out
lent (paviluko_commit bytes) = []
lent (paviluko_point position) = []
lent (paviluko_checkpoint out) = out
lent (paviluko_truncate position) = []
lent (paviluko_recover file log out) = out

-- the answer of the definitions over C, with a buffer lent
abbrev pub shown_over : Answered → List ℕ → Returned
shown_over a out = record { reply = reply_of a; out = put_over a.put out }

back_is : (c : State) (f : State → Answered) (out : List ℕ) → back (freeze c) (f (thaw (freeze c))) out ≡ shown_over (f c) out
unfolding reply_to put_to
back_is c f out = rw (thaw_freeze c, freeze_is_known c)

pub returned_is : (c : State) (k : Call) → returned (freeze c) k ≡ shown_over (answer_of c (asked k)) (lent k)
unfolding returned asked answer_of lent
returned_is c (paviluko_accept transaction lane position) = back_is c (λ d. accept d transaction lane position) []
returned_is c (paviluko_seal out) = back_is c (λ d. seal d (length out)) out
returned_is c (paviluko_commit bytes) = back_is c (λ d. commit d bytes) []
returned_is c (paviluko_point position) = back_is c (λ d. point d position) []
returned_is c (paviluko_checkpoint out) = back_is c (λ d. checkpoint d (length out)) out
returned_is c (paviluko_truncate position) = back_is c (λ d. truncate d position) []
returned_is c (paviluko_recover file log out) = back_is c (λ d. recover d file log (length out)) out

pub call_numbered : (c : State) (k : Call) → Numbered (answer_of c (asked k))
unfolding asked answer_of
call_numbered c (paviluko_accept transaction lane position) = accept_numbered c transaction lane position
call_numbered c (paviluko_seal out) = seal_numbered c (length out)
call_numbered c (paviluko_commit bytes) = commit_numbered c bytes
call_numbered c (paviluko_point position) = point_numbered c position
call_numbered c (paviluko_checkpoint out) = checkpoint_numbered c (length out)
call_numbered c (paviluko_truncate position) = truncate_numbered c position
call_numbered c (paviluko_recover file log out) = recover_numbered c file log (length out)

call_kept : (c : State) (k : Call) → Kept c (answer_of c (asked k))
unfolding asked answer_of
call_kept c (paviluko_accept transaction lane position) = accept_kept c transaction lane position
call_kept c (paviluko_seal out) = seal_kept c (length out)
call_kept c (paviluko_commit bytes) = commit_kept c bytes
call_kept c (paviluko_point position) = point_kept c position
call_kept c (paviluko_checkpoint out) = checkpoint_kept c (length out)
call_kept c (paviluko_truncate position) = truncate_kept c position
call_kept c (paviluko_recover file log out) = recover_kept c file log (length out)

-- a load puts nothing out
load_none : (x : Vault) (k : List ℕ) → put_over (load x k).put [] ≡ []
load_none x k = walk_load (λ (a : Answered). put_over a.put [] ≡ []) (λ n vs h. refl) x k refl

-- ---- one event

-- where the call is turned down, the host goes on with the state that there was
abbrev SameState : Said → Option State → Option FlatState → Type 0
SameState (refused n vs) before s = s ≡ flat_state before
SameState (taken st n) before s = Unit {0}

after_reply_is : (x : Said) (c : State) (put out : List ℕ) (d : Lasting) (adds : Option Opened) (before : Option State) (s : Option FlatState) → numbered_by x put → SameState x before s
    → after_reply d adds (record { reply = record { state = freeze c; said = said_of x }; out = put_over put out }) s ≡ flat_world (after_said x d before adds c put)
unfolding numbered_by said_of after_reply after_taken resting flat_world flat_state after_said
after_reply_is (refused n vs) c put out d adds before s h e = rw (other_than_0 n h, e)
after_reply_is (taken st n) c put out d adds before s h e = rw (store_back st n, len_back st n, thaw_freeze c, h, take-append_seam put (drop (length put) out), named_0 st (length put))

-- a load hands back no state to go on with, where it is turned down
load_back : (x : Said) (before : Option State) → SameState x before (flat_state before)
load_back (refused n vs) before = refl
load_back (taken st n) before = tt

-- a call hands back the state that came
call_back : (x : Said) (c d : State) (put : List ℕ) → kept_by x c d put → SameState x (some c) (some (freeze d))
unfolding kept_by flat_state
call_back (refused n vs) c d put h = ap (λ (y : State). some (freeze y)) h.0
call_back (taken st n) c d put h = tt

module _ (key : List ℕ) where
  load_said : (d : Lasting) (x : Vault) (k : List ℕ) (before : Option State)
      → after_reply d none (loaded x k) (flat_state before) ≡ flat_world (after_said (load x k).said d before none (load x k).state (load x k).put)
  unfolding reply_of
  load_said d x k before =
      subst (λ (out : List ℕ). after_reply d none (record { reply = reply_of (load x k); out = out }) (flat_state before) ≡ flat_world (after_said (load x k).said d before none (load x k).state (load x k).put)) (load_none x k)
      (after_reply_is (load x k).said (load x k).state (load x k).put [] d none before (flat_state before) (load_numbered x k).by (load_back (load x k).said before))

  load_is : (d : Lasting) (x : Vault) (k : List ℕ) (before : Option State) → after_reply d none (loaded x k) (flat_state before) ≡ flat_world (after_answer d before none (answer before (call_load x k)))
  unfolding after_answer answer answer_of first_answer
  load_is d x k none = load_said d x k none
  load_is d x k (some c) = load_said d x k (some c)

  -- a call on a state
  call_some : (d : Lasting) (c : State) (a : Answered) (adds : Option Opened) (out : List ℕ) → Numbered a → Kept c a
      → after_reply d adds (shown_over a out) (some (reply_of a).state) ≡ flat_world (after_said a.said d (some c) adds a.state a.put)
  unfolding reply_of
  call_some d c a adds out n h = after_reply_is a.said a.state a.put out d adds (some c) (some (freeze a.state)) n.by (call_back a.said c a.state a.put h.by)

  -- without a state, none of the seven
  not_first : (k : Call) → first_answer (asked k) ≡ none
  unfolding first_answer asked
  not_first (paviluko_accept transaction lane position) = refl
  not_first (paviluko_seal out) = refl
  not_first (paviluko_commit bytes) = refl
  not_first (paviluko_point position) = refl
  not_first (paviluko_checkpoint out) = refl
  not_first (paviluko_truncate position) = refl
  not_first (paviluko_recover file log out) = refl

  call_is : (d : Lasting) (k : Call) (before : Option State) → after_call key d k (flat_state before) ≡ flat_world (after_answer d before (adds_of key (asked k)) (answer before (asked k)))
  unfolding after_call after_answer answer flat_state flat_world resting
  call_is d k none = rw (not_first k)
  call_is d k (some c) =
      ap (λ (r : Returned). after_reply d (adds_of key (asked k)) r (some r.reply.state)) (returned_is c k)
      ∙ call_some d c (answer_of c (asked k)) (adds_of key (asked k)) (lent k) (call_numbered c k) (call_kept c k)

  pub event_is : (w : history.World) (e : Event) → next key (flat_world w) e ≡ flat_world (history.next key w (event_of e))
  unfolding next event_of history.next flat_world flat_state resting adds_of
  event_is w (paviluko_load x k) = load_is (history.settled w) x k w.state
  event_is w (call k) = call_is (history.settled w) k w.state
  event_is w (cut true) = refl
  event_is w (cut false) = refl

  pub run_is : (es : List Event) (w : history.World) → run key (flat_world w) es ≡ flat_world (history.run key w (map event_of es))
  unfolding run history.run
  run_is [] w = refl
  run_is (e ∷ es) w = ap (λ (x : World). run key x es) (event_is w e) ∙ run_is es (history.next key w (event_of e))

  -- ---- the premises

  -- they say nothing of the state
  honest_any : (w : history.World) (s : Option State) (e : history.Event) → history.Honest key w e → history.Honest key (record { lasting = w.lasting; pending = w.pending; state = s }) e
  unfolding history.Honest
  honest_any w s (history.call (call_load x k)) h = h
  honest_any w s (history.call (call_accept text lane position)) h = h
  honest_any w s (history.call (call_seal room)) h = h
  honest_any w s (history.call (call_commit bytes)) h = h
  honest_any w s (history.call (call_point position)) h = h
  honest_any w s (history.call (call_checkpoint room)) h = h
  honest_any w s (history.call (call_truncate position)) h = h
  honest_any w s (history.call (call_recover file log room)) h = h
  honest_any w s (history.cut b) h = h

  pub premises_are : (es : List Event) (w : history.World) → Premises key (flat_world w) es → history.Premises key w (map event_of es)
  unfolding Premises history.Premises flat_world
  premises_are [] w p = tt
  premises_are (e ∷ es) w p = (honest_any (stateless (flat_world w)) w.state (event_of e) p.0, premises_are es (history.next key w (event_of e)) (subst (λ (x : World). Premises key x es) (event_is w e) p.1))

  pub premises_too : (es : List Event) (w : history.World) → history.Premises key w (map event_of es) → Premises key (flat_world w) es
  unfolding Premises history.Premises flat_world
  premises_too [] w p = tt
  premises_too (e ∷ es) w p = (honest_any w none (event_of e) p.0, subst (λ (x : World). Premises key x es) (sym (event_is w e)) (premises_too es (history.next key w (event_of e)) p.1))

-- ---- every list of the definitions

-- a call of the definitions over C; where bytes are to be put out, a buffer of so many zeros is lent
over_c : (e : history.Event) → (c : Event) × (event_of c ≡ e)
unfolding event_of asked
over_c (history.call (call_load x k)) = (paviluko_load x k, refl)
over_c (history.call (call_accept text lane position)) = (call (paviluko_accept text lane position), refl)
over_c (history.call (call_seal room)) = (call (paviluko_seal (replicate room 0)), ap (λ (n : ℕ). history.call (call_seal n)) (length-replicate room 0))
over_c (history.call (call_commit bytes)) = (call (paviluko_commit bytes), refl)
over_c (history.call (call_point position)) = (call (paviluko_point position), refl)
over_c (history.call (call_checkpoint room)) = (call (paviluko_checkpoint (replicate room 0)), ap (λ (n : ℕ). history.call (call_checkpoint n)) (length-replicate room 0))
over_c (history.call (call_truncate position)) = (call (paviluko_truncate position), refl)
over_c (history.call (call_recover file log room)) = (call (paviluko_recover file log (replicate room 0)), ap (λ (n : ℕ). history.call (call_recover file log n)) (length-replicate room 0))
over_c (history.cut b) = (cut b, refl)

pub every_list : (es : List history.Event) → (cs : List Event) × (map event_of cs ≡ es)
every_list [] = ([], refl)
every_list (e ∷ es) = let x = over_c e in let xs = every_list es in (x.0 ∷ xs.0, ap₂ (λ (y : history.Event) (ys : List history.Event). y ∷ ys) x.1 xs.1)
