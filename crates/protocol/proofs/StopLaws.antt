-- The numbers that the reading of a checkpoint and a log stops with are 01's.
-- Assumes nothing.
use Prim.Native.Nat.{ℕ, zero, suc}
use mathlib.Core.Path.{◌≡◌, refl}
use mathlib.Core.Bool.{Bool, true, false, cond, ◌&&◌}
use mathlib.Core.List.{List}
use mathlib.Core.Option.{Option, some, none}
use Rattle.std.specs.Prelude as Code
use Rattle.std.specs.Prelude.{Some, None}
use lib.Dec.{leb, eqb}
use lib.ListN.{length}
use Rattle.table.specs.declared.Table.{Table}
use Rattle.sealed.specs.Aead.{Aead}
use Rattle.sealed.specs.Record.{Opened}
use Rattle.sealed.specs.Checkpoint.{OpenedFile}
use Rattle.protocol.specs.Replay.{Reading, Read, stopped, reading, passed_over, or_stop, step_opened, step, goes_on, step_on, steps, or_missing, ended, replay}
use Rattle.protocol.specs.Recover.{read_file, read_from}
use Rattle.protocol.specs.declared.Vault.{Vault}

-- 1 to 15
abbrev pub number_ok : ℕ → Bool
number_ok n = leb 1 n && leb n 15

unfoldable pub read_by : Read → Type 0
read_by (stopped n vs) = number_ok n ≡ true
read_by (reading g) = Unit {0}

pub record ReadNumbered (r : Read) : Type 0 where
  pub by : read_by r

going : (g : Reading) → ReadNumbered (reading g)
unfolding read_by
going g = record { by = tt }

or_stop_law : (b : Bool) (n : ℕ) (vs : List ℕ) (other : Read) → number_ok n ≡ true → ReadNumbered other → ReadNumbered (or_stop b n vs other)
unfolding or_stop read_by
or_stop_law true n vs other h k = record { by = h }
or_stop_law false n vs other h k = k

either : (b : Bool) (p q : Read) → ReadNumbered p → ReadNumbered q → ReadNumbered (cond b p q)
either true p q hp hq = hp
either false p q hp hq = hq

module _ (a : Aead) (x : Vault) where
  opened_read : (g : Reading) (o : Option Opened) → ReadNumbered (step_opened x g o)
  unfolding step_opened read_by
  opened_read g none = record { by = refl }
  opened_read g (some r) = either (passed_over x r) _ _ (going _) (or_stop_law _ 10 _ _ refl (or_stop_law _ 11 _ _ refl (going _)))

  on_read : (log : List ℕ) (r : Read) → ReadNumbered r → ReadNumbered (step_on a x log r)
  unfolding step_on step
  on_read log (stopped n vs) h = h
  on_read log (reading g) h = either (goes_on log g.offset) _ _ (opened_read g _) h

  steps_read : (log : List ℕ) (n : ℕ) (r : Read) → ReadNumbered r → ReadNumbered (steps n a x log r)
  unfolding steps
  steps_read log zero r h = h
  steps_read log (suc n) r h = steps_read log n _ (on_read log r h)

  missing_read : (o : Code.Option ℕ) (r : Read) → ReadNumbered r → ReadNumbered (or_missing o r)
  unfolding or_missing read_by
  missing_read None r h = h
  missing_read (Some lane) r h = record { by = refl }

  ended_read : (r : Read) → ReadNumbered r → ReadNumbered (ended x r)
  unfolding ended
  ended_read (stopped n vs) h = h
  ended_read (reading g) h = missing_read _ _ h

  replay_numbered : (t : Table) (log : List ℕ) → ReadNumbered (replay a x t log)
  unfolding replay
  replay_numbered t log = ended_read _ (steps_read log (length log) _ (going _))

  file_numbered : (log : List ℕ) (o : Option OpenedFile) → ReadNumbered (read_file a x log o)
  unfolding read_file read_by
  file_numbered log none = record { by = refl }
  file_numbered log (some f) = or_stop_law _ 12 _ _ refl (replay_numbered _ log)

  pub from_numbered : (file log : List ℕ) → ReadNumbered (read_from a x file log)
  unfolding read_from
  from_numbered file log = either (eqb x.s 0) _ _ (or_stop_law _ 9 _ _ refl (replay_numbered _ log)) (file_numbered log _)
