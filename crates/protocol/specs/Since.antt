-- What a list has used and set since service began, read off its calls and their answers and not off the state.
-- 01, Accept: "a position .. above every position used since service began and above the newest point. .. At most 128 accepted records may stand
-- at or above the newest point (all of them while there is no point)." Point: "The newest point is the greatest set since service began, even if
-- dropped." Recover: "Then it is in service with no point and no position used."
-- Assumes nothing.
use Rattle.std.specs.Prelude.{ℕ, suc, Bool, false, cond, ◌||◌, List, [], ◌∷◌, ◌++◌, leb}
use Rattle.std.proofs.Math.Option.{Option, none, some}
use Rattle.protocol.specs.Said.{Said, refused, taken, Answered}
use Rattle.protocol.specs.History.{Call, call_load, call_accept, call_seal, call_commit, call_point, call_checkpoint, call_truncate, call_recover, Event, call, cut, World, answer, next}

-- the positions of the accepted records, in their order, and the points that were set
pub record Since : Type 0 where
  pub used : List ℕ
  pub points : List ℕ

abbrev pub nothing_since : Since
nothing_since = record { used = []; points = [] }

-- what a call that is taken adds; service begins anew with a recovery, and so with a Load before it
unfoldable pub since_taken : Call → Since → Since
since_taken (call_load x key) g = nothing_since
since_taken (call_accept text lane position) g = record { used = g.used ++ (position ∷ []); points = g.points }
since_taken (call_seal room) g = g
since_taken (call_commit bytes) g = g
since_taken (call_point position) g = record { used = g.used; points = position ∷ g.points }
since_taken (call_checkpoint room) g = g
since_taken (call_truncate position) g = g
since_taken (call_recover file log room) g = nothing_since

unfoldable pub since_said : Call → Said → Since → Since
since_said k (refused n vs) g = g
since_said k (taken st n) g = since_taken k g

unfoldable pub since_answer : Call → Option Answered → Since → Since
since_answer k none g = g
since_answer k (some a) g = since_said k a.said g

unfoldable pub since_next : World → Event → Since → Since
since_next w (call k) g = since_answer k (answer w.state k) g
since_next w (cut b) g = nothing_since

-- along a list
unfoldable pub since_run : List ℕ → World → List Event → Since → Since
since_run key w [] g = g
since_run key w (e ∷ es) g = since_run key (next key w e) es (since_next w e g)

-- some of the positions is at or above p
unfoldable pub any_from : ℕ → List ℕ → Bool
any_from p [] = false
any_from p (q ∷ qs) = leb p q || any_from p qs

-- the positions "at or above the newest point (all of them while there is no point)": those that no point lies above
unfoldable pub standing : List ℕ → List ℕ → List ℕ
standing points [] = []
standing points (q ∷ qs) = cond (any_from (suc q) points) (standing points qs) (q ∷ standing points qs)
