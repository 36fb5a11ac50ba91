-- A refusal leaves the state as it came, and puts nothing out.
-- Assumes nothing.
use mathlib.Core.Path.{◌≡◌, refl}
use mathlib.Core.Bool.{true}
use mathlib.Core.List.{List, []}
use Prim.Native.Nat.{ℕ}
use Rattle.protocol.specs.Said.{Said, refused, taken, Answered, refusing}
use Rattle.protocol.specs.Accept.{accept, seal}
use Rattle.protocol.specs.Commit.{commit}
use Rattle.protocol.specs.Point.{point}
use Rattle.protocol.specs.Checkpoint.{checkpoint}
use Rattle.protocol.specs.Truncate.{truncate}
use Rattle.protocol.specs.Recover.{recover}
use Rattle.protocol.specs.declared.State.{State}
use Rattle.protocol.proofs.StopLaws.{number_ok}
use Rattle.protocol.proofs.Walks.{walk_accept, walk_seal, walk_commit, walk_point, walk_checkpoint, walk_truncate, walk_recover}

unfoldable pub kept_by : Said → State → State → List ℕ → Type 0
kept_by (refused n vs) c d out = (d ≡ c) × (out ≡ [])
kept_by (taken st n) c d out = Unit {0}

-- where the answer is a refusal, the state is c and nothing is put out
pub record Kept (c : State) (a : Answered) : Type 0 where
  pub by : kept_by a.said c a.state a.put

down : (c : State) (n : ℕ) (vs : List ℕ) → number_ok n ≡ true → Kept c (refusing c n vs)
unfolding kept_by
down c n vs k = record { by = (refl, refl) }

module _ (c : State) where
  pub accept_kept : (text : List ℕ) (lane position : ℕ) → Kept c (accept c text lane position)
  unfolding kept_by
  accept_kept text lane position = walk_accept (Kept c) c (down c) text lane position (λ r t l p m w. record { by = tt })

  pub seal_kept : (room : ℕ) → Kept c (seal c room)
  unfolding kept_by
  seal_kept room = walk_seal (Kept c) c (down c) room (record { by = tt })

  pub commit_kept : (bytes : List ℕ) → Kept c (commit c bytes)
  unfolding kept_by
  commit_kept bytes = walk_commit (Kept c) c (down c) bytes (λ r. record { by = tt })

  pub point_kept : (position : ℕ) → Kept c (point c position)
  unfolding kept_by
  point_kept position = walk_point (Kept c) c (down c) position (λ r p n. record { by = tt })

  pub checkpoint_kept : (room : ℕ) → Kept c (checkpoint c room)
  unfolding kept_by
  checkpoint_kept room = walk_checkpoint (Kept c) c (down c) (λ x d st out. record { by = tt }) room (record { by = tt })

  pub truncate_kept : (position : ℕ) → Kept c (truncate c position)
  unfolding kept_by
  truncate_kept position = walk_truncate (Kept c) c (down c) (λ x d st out. record { by = tt }) position (record { by = tt })

  pub recover_kept : (file log : List ℕ) (room : ℕ) → Kept c (recover c file log room)
  unfolding kept_by
  recover_kept file log room = walk_recover (Kept c) c (down c) file log room (λ t. record { by = tt }) (λ e x d st out. record { by = tt }) (record { by = tt })
