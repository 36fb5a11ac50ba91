-- The state in a reply is known, and stands for the state of the definition's answer: calls over the boundary, each handed the state last
-- returned, are the definitions' calls. And a call whose reply has another number than 0 hands back the state that came, number for number,
-- and puts nothing out. So a host may go on with the state in the reply, whatever the number.
-- Assumes nothing.
use Prim.Native.Nat.{ℕ}
use mathlib.Core.Path.{◌≡◌, refl, ap, ◌∙◌}
use mathlib.Core.Bool.{Bool, true, false, cond}
use mathlib.Core.List.{List, []}
use Rattle.octets.proofs.BoolLaws.{and_false}
use Rattle.protocol.specs.Said.{Said, refused, taken, Answered}
use Rattle.protocol.specs.Accept.{accept, seal}
use Rattle.protocol.specs.Commit.{commit}
use Rattle.protocol.specs.Point.{point}
use Rattle.protocol.specs.Checkpoint.{checkpoint}
use Rattle.protocol.specs.Truncate.{truncate}
use Rattle.protocol.specs.Recover.{recover}
use Rattle.protocol.specs.declared.Store.{Store}
use Rattle.protocol.specs.declared.Store.TheVariants as S
use Rattle.protocol.proofs.RefusalLaws.{kept_by, Kept, accept_kept, seal_kept, commit_kept, point_kept, checkpoint_kept, truncate_kept, recover_kept}
use Rattle.boundary.specs.declared.FlatState.{FlatState}
use Rattle.boundary.specs.declared.Reply.{Reply}
use Rattle.boundary.specs.Flat.{due_known, known_by, known, thaw, freeze}
use Rattle.boundary.specs.Replies.{named, store_of, said_of, reply_of, not_a_state, reply_to, put_to}
use Rattle.boundary.proofs.FlatLaws.{no_phase_0, thaw_freeze, freeze_is_known, freeze_thaw}

-- ---- the next call

-- the first call, Load, is handed no state
pub first_known : (a : Answered) → known (reply_of a).state ≡ true
unfolding reply_of
first_known a = freeze_is_known a.state

pub first_is : (a : Answered) → thaw (reply_of a).state ≡ a.state
unfolding reply_of
first_is a = thaw_freeze a.state

module _ (s : FlatState) (a : Answered) (e : known s ≡ true) where
  reply_is : reply_to s a ≡ reply_of a
  unfolding reply_to
  reply_is = rw e

  pub next_known : known (reply_to s a).state ≡ true
  next_known = ap (λ (r : Reply). known r.state) reply_is ∙ first_known a

  pub next_is : thaw (reply_to s a).state ≡ a.state
  next_is = ap (λ (r : Reply). thaw r.state) reply_is ∙ first_is a

-- ---- no state

-- A state with phase 0 is none, so a state of zeros is none: every call hands it back with number 1, and puts nothing out.
module _ (s : FlatState) (a : Answered) (e : s.phase ≡ 0) where
  zero_unknown : known s ≡ false
  unfolding known_by
  zero_unknown = rw (e, no_phase_0, and_false (due_known s.due))

  pub zero_reply : reply_to s a ≡ not_a_state s
  unfolding reply_to
  zero_reply = rw zero_unknown

  pub zero_put : put_to s a ≡ []
  unfolding put_to
  zero_put = rw zero_unknown

-- ---- refusals

-- a call that is taken has number 0
pub named_0 : (st : Store) (n : ℕ) → (named st n).number ≡ 0
unfolding named
named_0 S.Nothing n = refl
named_0 (S.W l v) n = refl
named_0 (S.V l v) n = refl
named_0 (S.R l v) n = refl
named_0 (S.E v) n = refl
named_0 (S.S v) n = refl
named_0 (S.N v) n = refl
named_0 (S.Record p) n = refl
named_0 S.File n = refl
named_0 (S.Delete p) n = refl
named_0 S.Empty n = refl

-- nothing of a named store is lost in a reply
pub store_back : (st : Store) (n : ℕ) → store_of (named st n) ≡ st
unfolding named store_of
store_back S.Nothing n = refl
store_back (S.W l v) n = refl
store_back (S.V l v) n = refl
store_back (S.R l v) n = refl
store_back (S.E v) n = refl
store_back (S.S v) n = refl
store_back (S.N v) n = refl
store_back (S.Record p) n = refl
store_back S.File n = refl
store_back (S.Delete p) n = refl
store_back S.Empty n = refl

-- and it has how many bytes are put out
pub len_back : (st : Store) (n : ℕ) → (named st n).len ≡ n
unfolding named
len_back S.Nothing n = refl
len_back (S.W l v) n = refl
len_back (S.V l v) n = refl
len_back (S.R l v) n = refl
len_back (S.E v) n = refl
len_back (S.S v) n = refl
len_back (S.N v) n = refl
len_back (S.Record p) n = refl
len_back S.File n = refl
len_back (S.Delete p) n = refl
len_back S.Empty n = refl

-- where the reply has another number, its state is the one that came, and nothing is put out
pub record AsItCame (s : FlatState) (a : Answered) : Type 0 where
  pub state : ((reply_to s a).said.number ≡ 0 → ⊥) → (reply_to s a).state ≡ s
  pub put : ((reply_to s a).said.number ≡ 0 → ⊥) → put_to s a ≡ []

module _ (s : FlatState) (a : Answered) (h : Kept (thaw s) a) where
  kept : (x : Said) → kept_by x (thaw s) a.state a.put → ((said_of x).number ≡ 0 → ⊥) → (a.state ≡ thaw s) × (a.put ≡ [])
  unfolding kept_by said_of
  kept (refused n vs) e other = e
  kept (taken st n) e other = absurd (other (named_0 st n))

  state_by : (b : Bool) → known s ≡ b → ((cond b (reply_of a) (not_a_state s)).said.number ≡ 0 → ⊥) → (cond b (reply_of a) (not_a_state s)).state ≡ s
  unfolding reply_of not_a_state
  state_by true e other = ap freeze (kept a.said h.by other).0 ∙ freeze_thaw s e
  state_by false e other = refl

  put_by_law : (b : Bool) → ((cond b (reply_of a) (not_a_state s)).said.number ≡ 0 → ⊥) → cond b a.put [] ≡ []
  unfolding reply_of
  put_by_law true other = (kept a.said h.by other).1
  put_by_law false other = refl

  pub as_it_came : AsItCame s a
  unfolding reply_to put_to
  as_it_came = record { state = state_by (known s) refl; put = put_by_law (known s) }

-- ---- the operations

module _ (s : FlatState) where
  pub accept_back : (text : List ℕ) (lane position : ℕ) → AsItCame s (accept (thaw s) text lane position)
  accept_back text lane position = as_it_came s _ (accept_kept (thaw s) text lane position)

  pub seal_back : (room : ℕ) → AsItCame s (seal (thaw s) room)
  seal_back room = as_it_came s _ (seal_kept (thaw s) room)

  pub commit_back : (bytes : List ℕ) → AsItCame s (commit (thaw s) bytes)
  commit_back bytes = as_it_came s _ (commit_kept (thaw s) bytes)

  pub point_back : (position : ℕ) → AsItCame s (point (thaw s) position)
  point_back position = as_it_came s _ (point_kept (thaw s) position)

  pub checkpoint_back : (room : ℕ) → AsItCame s (checkpoint (thaw s) room)
  checkpoint_back room = as_it_came s _ (checkpoint_kept (thaw s) room)

  pub truncate_back : (position : ℕ) → AsItCame s (truncate (thaw s) position)
  truncate_back position = as_it_came s _ (truncate_kept (thaw s) position)

  pub recover_back : (file log : List ℕ) (room : ℕ) → AsItCame s (recover (thaw s) file log room)
  recover_back file log room = as_it_came s _ (recover_kept (thaw s) file log room)
