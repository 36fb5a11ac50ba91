-- The number of a call that is turned down is one of 01's 1 to 15, and a call that is taken says how many bytes it puts out. So the number in a
-- reply is 0 exactly where the call is taken.
-- Assumes nothing.
use Prim.Native.Nat.{ℕ, zero, suc}
use mathlib.Core.Path.{◌≡◌, refl, sym}
use mathlib.Core.Bool.{true, false}
use mathlib.Core.List.{List}
use lib.Dec.{eqb, eqb-suc-zero}
use lib.ListN.{length}
use Rattle.table.proofs.OrderLaws.{clash}
use Rattle.protocol.specs.Said.{Said, refused, taken, Answered, refusing}
use Rattle.protocol.specs.History.{is_taken}
use Rattle.protocol.specs.Load.{load}
use Rattle.protocol.specs.Accept.{accept, seal}
use Rattle.protocol.specs.Commit.{commit}
use Rattle.protocol.specs.Point.{point}
use Rattle.protocol.specs.Checkpoint.{checkpoint}
use Rattle.protocol.specs.Truncate.{truncate}
use Rattle.protocol.specs.Recover.{recover}
use Rattle.protocol.specs.declared.Vault.{Vault}
use Rattle.protocol.specs.declared.State.{State}
use Rattle.protocol.proofs.StopLaws.{number_ok}
use Rattle.protocol.proofs.Walks.{walk_load, walk_accept, walk_seal, walk_commit, walk_point, walk_checkpoint, walk_truncate, walk_recover}
use Rattle.boundary.specs.Replies.{said_of}
use Rattle.boundary.proofs.ReplyLaws.{named_0}

unfoldable pub numbered_by : Said → List ℕ → Type 0
numbered_by (refused n vs) put = number_ok n ≡ true
numbered_by (taken st n) put = n ≡ length put

-- where the answer is a refusal, its number is one of 01's; where the call is taken, it says how many bytes it puts out
pub record Numbered (a : Answered) : Type 0 where
  pub by : numbered_by a.said a.put

-- ---- the number in the reply

-- no number of 01's is 0
pub other_than_0 : (n : ℕ) → number_ok n ≡ true → eqb n 0 ≡ false
other_than_0 zero h = clash (sym h)
other_than_0 (suc n) h = eqb-suc-zero n

said_tells : (x : Said) (put : List ℕ) → numbered_by x put → eqb (said_of x).number 0 ≡ is_taken x
unfolding numbered_by said_of is_taken
said_tells (refused n vs) put h = other_than_0 n h
said_tells (taken st n) put h = rw (named_0 st n)

-- the number said is 0 exactly where the call is taken
pub number_tells : {a : Answered} → Numbered a → eqb (said_of a.said).number 0 ≡ is_taken a.said
number_tells {a} h = said_tells a.said a.put h.by

-- and it is 01's number where it is not
pub number_is : (n : ℕ) (vs : List ℕ) → (said_of (refused n vs)).number ≡ n
unfolding said_of
number_is n vs = refl

-- ---- the operations

down : (c : State) (n : ℕ) (vs : List ℕ) → number_ok n ≡ true → Numbered (refusing c n vs)
unfolding numbered_by
down c n vs h = record { by = h }

pub load_numbered : (x : Vault) (key : List ℕ) → Numbered (load x key)
unfolding numbered_by
load_numbered x key = walk_load Numbered (down _) x key (record { by = refl })

module _ (c : State) where
  pub accept_numbered : (text : List ℕ) (lane position : ℕ) → Numbered (accept c text lane position)
  unfolding numbered_by
  accept_numbered text lane position = walk_accept Numbered c (down c) text lane position (λ r t l p m w. record { by = refl })

  pub seal_numbered : (room : ℕ) → Numbered (seal c room)
  unfolding numbered_by
  seal_numbered room = walk_seal Numbered c (down c) room (record { by = refl })

  pub commit_numbered : (bytes : List ℕ) → Numbered (commit c bytes)
  unfolding numbered_by
  commit_numbered bytes = walk_commit Numbered c (down c) bytes (λ r. record { by = refl })

  pub point_numbered : (position : ℕ) → Numbered (point c position)
  unfolding numbered_by
  point_numbered position = walk_point Numbered c (down c) position (λ r p n. record { by = refl })

  pub checkpoint_numbered : (room : ℕ) → Numbered (checkpoint c room)
  unfolding numbered_by
  checkpoint_numbered room = walk_checkpoint Numbered c (down c) (λ x d st out. record { by = refl }) room (record { by = refl })

  pub truncate_numbered : (position : ℕ) → Numbered (truncate c position)
  unfolding numbered_by
  truncate_numbered position = walk_truncate Numbered c (down c) (λ x d st out. record { by = refl }) position (record { by = refl })

  pub recover_numbered : (file log : List ℕ) (room : ℕ) → Numbered (recover c file log room)
  unfolding numbered_by
  recover_numbered file log room = walk_recover Numbered c (down c) file log room (λ t. record { by = refl }) (λ e x d st out. record { by = refl }) (record { by = refl })
