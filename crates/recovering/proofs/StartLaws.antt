-- What the first call of Recover (01, Operations) reads under a prepared key is what it reads under the key.
-- Assumes nothing.
use Prim.Native.Nat.{ℕ}
use mathlib.Core.Path.{◌≡◌, refl, ap, ap₂, ◌∙◌}
use mathlib.Core.Bool.{cond, not}
use mathlib.Core.List.{List, [], ◌∷◌}
use mathlib.Core.Option.{Option, some, none}
use lib.Dec.{eqb}
use lib.ListN.{length}
use Rattle.gcm.specs.Key.{prepared}
use Rattle.table.specs.Table.{empty_table}
use Rattle.sealed.specs.Aead.{Aead, aes_gcm, prepared_by}
use Rattle.sealed.specs.Checkpoint.{OpenedFile, open_file}
use Rattle.sealed.proofs.FileLaws.{prepared_file}
use Rattle.protocol.specs.Replay.{Read, or_stop}
use Rattle.protocol.specs.Recover.{other_version, read_file, read_from}
use Rattle.protocol.specs.declared.Vault.{Vault}
use Rattle.replay.proofs.KeyLaws.{prepared_replay}

-- under a prepared key it is what is read under the key
module _ (key : List ℕ) (x : Vault) (file log : List ℕ) where
  abbrev ready : Aead
  ready = prepared_by (prepared key).schedule (prepared key).multiples

  same_file : (o : Option OpenedFile) → read_file ready x log o ≡ read_file (aes_gcm key) x log o
  unfolding read_file
  same_file none = refl
  same_file (some f) = ap (or_stop (other_version x f) 12 []) (prepared_replay key x f.table log)

  pub prepared_from : read_from (prepared_by (prepared key).schedule (prepared key).multiples) x file log ≡ read_from (aes_gcm key) x file log
  unfolding read_from
  prepared_from =
      ap₂ (λ (p q : Read). cond (eqb x.s 0) (or_stop (not (eqb (length file) 0)) 9 (0 ∷ []) p) q) (prepared_replay key x empty_table log)
      (ap (read_file ready x log) (prepared_file key file) ∙ same_file (open_file (aes_gcm key) file))
