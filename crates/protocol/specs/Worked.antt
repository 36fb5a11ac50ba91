-- Three lists of events, for any key. In each a new collector is put in service and takes one transaction; in two it makes it visible.
-- events: it is cut and loaded again. A cold collector then stands there with one visible record above R, and is handed four cards: the honest
-- one, and three that are not.
-- whole_life: all eight calls are taken. The record goes into a checkpoint and is truncated; a point is refused; a cut comes with its store done
-- and one with its store not done; the second breaks a recovery, and the next recovery goes to its end by 24 stores.
-- torn_events: a cut comes while the record is written, and the card then shows any beginning of it.
-- Assumes nothing.
use Rattle.std.specs.Prelude.{ℕ, ◌+◌, true, false, List, [], ◌∷◌, ◌++◌, pos, length, replicate}
use Rattle.std.proofs.Math.Option.{Option, some, none}
use Rattle.table.specs.declared.Entry.{Entry}
use Rattle.table.specs.declared.Table.{Table}
use Rattle.table.specs.Table.{lanes, empty_table, entered}
use Rattle.sealed.specs.Aead.{aes_gcm}
use Rattle.sealed.specs.Record.{Opened, record_bytes}
use Rattle.sealed.specs.Checkpoint.{file_len, file_bytes}
use Rattle.sealed.specs.Frame.{frame_len}
use Rattle.protocol.specs.Vaults.{new_vault}
use Rattle.protocol.specs.States.{no_journal, no_points, no_held}
use Rattle.protocol.specs.Said.{Answered}
use Rattle.protocol.specs.Load.{loaded}
use Rattle.protocol.specs.History.{Event, call, cut, call_load, call_recover, call_accept, call_seal, call_commit, call_point, call_checkpoint, call_truncate, World, answer, next}
use Rattle.protocol.specs.Sheet.{display}
use Rattle.protocol.specs.declared.Vault.{Vault}
use Rattle.protocol.specs.declared.State.{State}
use Rattle.protocol.specs.declared.Phase.TheVariants as F
use Rattle.protocol.specs.declared.Due.TheVariants as D

-- ---- the transaction

-- stamp 5; meter 1, code 1 (cold water), zero, reading 7
unfoldable pub text : List ℕ
text = 5 ∷ 0 ∷ 0 ∷ 0 ∷ 0 ∷ 0 ∷ 0 ∷ 0 ∷ 1 ∷ 0 ∷ 1 ∷ 0 ∷ 7 ∷ 0 ∷ 0 ∷ 0 ∷ []

-- what its meter is to show
abbrev pub shown_entry : Entry
shown_entry = record { stamp = 5; number = 1; reading = pos 7; code = 1; lane = 0; present = true }

-- the table with it
abbrev pub one_reading : Table
one_reading = entered empty_table text 0 1

-- its record: the first of lane 0, in epoch 0
unfoldable pub only_record : Opened
only_record = record { lane = 0; epoch = 0; number = 1; text = text; size = length text + frame_len }

-- ---- the cards

-- the record's bytes
abbrev pub record_of : List ℕ → List ℕ
record_of key = record_bytes (aes_gcm key) 0 0 1 text

-- the files that the first recovery put out, before there was a reading: the first one is the older
abbrev pub older_file : List ℕ → List ℕ
older_file key = file_bytes (aes_gcm key) 1 1 empty_table

abbrev pub newer_file : List ℕ → List ℕ
newer_file key = file_bytes (aes_gcm key) 2 2 empty_table

-- the honest card has the newer file and the record; the hostile ones leave the record out, double it, or have the older file
abbrev pub doubled_log : List ℕ → List ℕ
doubled_log key = record_of key ++ record_of key

-- ---- the list that the cards are handed after

-- the vault at the end
unfoldable pub last_vault : Vault
last_vault = record { w = 1 ∷ replicate 7 0; v = 1 ∷ replicate 7 0; r = replicate lanes 0; e = 0; s = 2; n = 2 }

-- the collector that is then handed a card
unfoldable pub cold : List ℕ → State
cold key = loaded last_vault key

-- a recovery call with nothing on the card, and room for a file
abbrev pub from_empty : Event
from_empty = call (call_recover [] [] file_len)

-- recovery is accepted by the first of fifteen calls; the other fourteen name its other stores
abbrev pub recovering : List Event
recovering = replicate 15 from_empty

-- in service: one transaction on lane 0 at position 10, sealed, and made visible
abbrev pub transacting : List ℕ → List Event
transacting key = call (call_accept text 0 10) ∷ call (call_seal 56) ∷ call (call_commit (record_of key)) ∷ []

-- a cut, with the store of V done, and the numbers of the vault loaded
abbrev pub restarting : List ℕ → List Event
restarting key = cut true ∷ call (call_load last_vault key) ∷ []

unfoldable pub events : List ℕ → List Event
events key = call (call_load new_vault key) ∷ (recovering ++ (transacting key ++ restarting key))

-- ---- a list that is cut while its record is written

-- a transaction is accepted and sealed, and the plug is pulled before the record's store is done
unfoldable pub torn_events : List ℕ → List Event
torn_events key = call (call_load new_vault key) ∷ (recovering ++ (call (call_accept text 0 10) ∷ call (call_seal 56) ∷ cut false ∷ []))

-- ---- a list with every call

-- in place of the cut: a point above the record
abbrev pub pointing : List ℕ → List Event
pointing key = call (call_load new_vault key) ∷ (recovering ++ (transacting key ++ (call (call_point 20) ∷ [])))

-- the point once more, which is refused; a checkpoint, which covers it; and a truncation there
abbrev pub tidying : List Event
tidying = call (call_point 20) ∷ (replicate 3 (call (call_checkpoint file_len)) ++ replicate 9 (call (call_truncate 20)))

-- the same transaction once more; a cut, with the store of W done, so that there is a number whose record is never sealed
abbrev pub cutting : List Event
cutting = call (call_accept text 0 30) ∷ cut true ∷ []

-- the vault then
unfoldable pub cut_vault : Vault
cut_vault = record { w = 2 ∷ replicate 7 0; v = 1 ∷ replicate 7 0; r = 1 ∷ replicate 7 0; e = 0; s = 3; n = 3 }

-- the file that the checkpoint put out, and a recovery call with it and the empty log
abbrev pub third_file : List ℕ → List ℕ
third_file key = file_bytes (aes_gcm key) 3 3 one_reading

abbrev pub from_third : List ℕ → Event
from_third key = call (call_recover (third_file key) [] file_len)

-- a recovery that is accepted and broken by a cut, with its first store not done
abbrev pub breaking : List ℕ → List Event
breaking key = call (call_load cut_vault key) ∷ from_third key ∷ cut false ∷ []

-- a recovery to its end: W is not V in lane 0, and so there are 24 stores
abbrev pub completing : List ℕ → List Event
completing key = call (call_load cut_vault key) ∷ replicate 24 (from_third key)

unfoldable pub whole_life : List ℕ → List Event
whole_life key = pointing key ++ (tidying ++ (cutting ++ (breaking key ++ completing key)))

-- the vault at its end
unfoldable pub whole_vault : Vault
whole_vault = record { w = 2 ∷ replicate 7 0; v = 2 ∷ replicate 7 0; r = 2 ∷ replicate 7 0; e = 1; s = 5; n = 5 }

-- the collector: in service, with nothing due, and the one reading in its table
unfoldable pub whole_state : List ℕ → State
whole_state key = record { vault = whole_vault; phase = F.Serving; due = D.Nothing; table = one_reading; journal = no_journal; points = no_points; held = no_held; key = key }

-- ---- what is shown

-- at a call: 01's number, and 0 where it is taken; nothing where there is no state to call it on
unfoldable pub shown_at : Option Answered → List ℕ
shown_at none = []
shown_at (some a) = display a ∷ []

-- at each call of a list, in its turn
unfoldable pub shown_by : List ℕ → World → List Event → List ℕ
shown_by key w [] = []
shown_by key w (call k ∷ es) = shown_at (answer w.state k) ++ shown_by key (next key w (call k)) es
shown_by key w (cut b ∷ es) = shown_by key (next key w (cut b)) es

-- twenty calls are taken, the point once more is refused with 6, and forty calls are taken
abbrev pub whole_shown : List ℕ
whole_shown = replicate 20 0 ++ (6 ∷ replicate 40 0)
