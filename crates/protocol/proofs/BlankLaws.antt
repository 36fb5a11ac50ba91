-- Every call on the blank state of a refused Load is refused with 1.
-- Assumes nothing.
use mathlib.Core.Path.{◌≡◌, refl}
use mathlib.Core.List.{List, []}
use Prim.Native.Nat.{ℕ}
use Rattle.protocol.specs.Vaults.{new_vault, vault_ok}
use Rattle.protocol.specs.States.{valid, ready}
use Rattle.protocol.specs.Said.{refusing, refuse}
use Rattle.protocol.specs.Load.{loaded, blank}
use Rattle.protocol.specs.Accept.{accept, holds, seal}
use Rattle.protocol.specs.Commit.{commit}
use Rattle.protocol.specs.Point.{point}
use Rattle.protocol.specs.Checkpoint.{checkpoint}
use Rattle.protocol.specs.Truncate.{truncate}
use Rattle.protocol.specs.Recover.{recover, recover_phase, recover_first}

-- the blank state: every call is refused with 1
pub blank_accept : (text : List ℕ) (lane position : ℕ) → accept blank text lane position ≡ refusing blank 1 []
unfolding accept refuse ready valid vault_ok blank loaded new_vault
blank_accept text lane position = refl

pub blank_seal : (room : ℕ) → seal blank room ≡ refusing blank 1 []
unfolding seal refuse holds valid vault_ok blank loaded new_vault
blank_seal room = refl

pub blank_commit : (bytes : List ℕ) → commit blank bytes ≡ refusing blank 1 []
unfolding commit refuse ready valid vault_ok blank loaded new_vault
blank_commit bytes = refl

pub blank_point : (position : ℕ) → point blank position ≡ refusing blank 1 []
unfolding point refuse ready valid vault_ok blank loaded new_vault
blank_point position = refl

pub blank_checkpoint : (room : ℕ) → checkpoint blank room ≡ refusing blank 1 []
unfolding checkpoint refuse valid vault_ok blank loaded new_vault
blank_checkpoint room = refl

pub blank_truncate : (position : ℕ) → truncate blank position ≡ refusing blank 1 []
unfolding truncate refuse valid vault_ok blank loaded new_vault
blank_truncate position = refl

pub blank_recover : (file log : List ℕ) (room : ℕ) → recover blank file log room ≡ refusing blank 1 []
unfolding recover recover_phase recover_first refuse valid vault_ok blank loaded new_vault
blank_recover file log room = refl
