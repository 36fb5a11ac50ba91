-- 01, Operations: "Recover (cold only): a checkpoint, of length 0 exactly if S = 0 (empty table; else 9), and a log of at most 262,144 bytes. ..
-- Recovery is now accepted. Then the stores: N, checkpoint S + 1, S; the same three again; R = W for lanes 0 to 7; if any W ≠ V, also E + 1 and
-- V = W for lanes 0 to 7; empty the log. That makes 15 or 24. Then it is in service with no point and no position used."
-- "Recover takes 1, 3, 8, then the checkpoint (9, 12), then record by record (9, 10, 11), then 13." The call that accepts names the first N.
-- Assumes nothing.
use Rattle.std.specs.Prelude.{ℕ, suc, ◌+◌, Bool, true, false, cond, not, ◌&&◌, ◌||◌, List, [], ◌∷◌, leb, ltb, eqb, length}
use Rattle.std.specs.Prelude as Code
use Rattle.std.proofs.Math.Option.{Option, some, none}
use Rattle.octets.specs.Lists.{at}
use Rattle.octets.specs.Every.{all_below}
use Rattle.transaction.specs.Edition.{present}
use Rattle.table.specs.declared.Table.{Table}
use Rattle.table.specs.Table.{lanes, empty_table}
use Rattle.sealed.specs.Aead.{Aead, aes_gcm}
use Rattle.sealed.specs.Checkpoint.{OpenedFile, open_file}
use Rattle.protocol.specs.Vaults.{counter_max, set_n}
use Rattle.protocol.specs.States.{no_journal, no_points, valid, is_nothing}
use Rattle.protocol.specs.Said.{Answered, refuse, refusing, taking}
use Rattle.protocol.specs.Steps.{raise_s, raise_n, raise_e, put_r, put_v, stepped, file_step}
use Rattle.protocol.specs.Replay.{Read, stopped, reading, or_stop, replay}
use Rattle.protocol.specs.declared.Vault.{Vault}
use Rattle.protocol.specs.declared.State.{State}
use Rattle.protocol.specs.declared.Phase.{Phase}
use Rattle.protocol.specs.declared.Phase.TheVariants as F
use Rattle.protocol.specs.declared.Due.{Due}
use Rattle.protocol.specs.declared.Due.TheVariants as D
use Rattle.protocol.specs.declared.RecoverStep.{RecoverStep}
use Rattle.protocol.specs.declared.RecoverStep.TheVariants as G
use Rattle.protocol.specs.declared.RecoverNumber.{RecoverNumber}
use Rattle.protocol.specs.declared.RecoverNumber.TheVariants as M
use Rattle.protocol.specs.declared.Step.{Step}
use Rattle.protocol.specs.declared.Store.TheVariants as S

abbrev pub log_max : ℕ
log_max = present.log_max

-- "A spent counter at recovery is S or N above 2^48 − 3, or E at 2^48 − 1."
unfoldable pub spent : Vault → Bool
spent x = ltb counter_max (x.s + 2) || ltb counter_max (x.n + 2) || leb counter_max x.e

-- ---- accepting

-- the checkpoint's version is not S
unfoldable pub other_version : Vault → OpenedFile → Bool
other_version x f = not (eqb f.version x.s)

unfoldable pub read_file : Aead → Vault → List ℕ → Option OpenedFile → Read
read_file a x log none = stopped 9 (0 ∷ [])
read_file a x log (some f) = or_stop (other_version x f) 12 [] (replay a x f.table log)

-- the checkpoint and the log, read: while S is 0 the checkpoint is of length 0, and the table empty
unfoldable pub read_from : Aead → Vault → List ℕ → List ℕ → Read
read_from a x file log =
    cond (eqb x.s 0)
    (or_stop (not (eqb (length file) 0)) 9 (0 ∷ []) (replay a x empty_table log))
    (read_file a x log (open_file a file))

unfoldable pub recovered : State → Table → State
recovered c t = record {
  vault = set_n c.vault (suc c.vault.n);
  phase = F.Recovering;
  due = D.Recover (G.File false);
  table = t;
  journal = c.journal;
  points = c.points;
  held = c.held;
  key = c.key;
}

unfoldable pub recover_read : State → Read → Answered
recover_read c (stopped n vs) = refusing c n vs
recover_read c (reading g) = taking (recovered c g.table) (S.N (suc c.vault.n)) []

unfoldable pub recover_first : State → List ℕ → List ℕ → Answered
recover_first c file log =
    refuse (not (valid c && is_nothing c.due)) c 1 []
    (refuse (ltb log_max (length log)) c 3 (log_max ∷ [])
    (refuse (spent c.vault) c 8 []
    (recover_read c (read_from (aes_gcm c.key) c.vault file log))))

-- ---- going on

unfoldable pub after_version : Bool → Due
after_version second = D.Recover (G.Number (cond second (M.R 0) M.N))

-- behind R of a lane: the next lane, and behind the last E if any W ≠ V
unfoldable pub all_visible : Vault → Bool
all_visible x = all_below (λ i. eqb (at x.w i) (at x.v i)) lanes

unfoldable pub after_r : Vault → ℕ → Due
after_r x lane = D.Recover (cond (ltb (suc lane) lanes) (G.Number (M.R (suc lane))) (cond (all_visible x) G.Empty (G.Number M.E)))

unfoldable pub after_v : ℕ → Due
after_v lane = D.Recover (cond (ltb (suc lane) lanes) (G.Number (M.V (suc lane))) G.Empty)

-- the step of a vault number
unfoldable pub recover_number : Vault → RecoverNumber → Code.Option Step
recover_number x (M.S second) = raise_s x (after_version second)
recover_number x M.N = raise_n x (D.Recover (G.File true))
recover_number x (M.R lane) = put_r x lane (at x.w lane) (after_r x lane)
recover_number x M.E = raise_e x (D.Recover (G.Number (M.V 0)))
recover_number x (M.V lane) = put_v x lane (at x.w lane) (after_v lane)

unfoldable pub in_service : State → State
in_service c = record {
  vault = c.vault;
  phase = F.Serving;
  due = D.Nothing;
  table = c.table;
  journal = no_journal;
  points = no_points;
  held = c.held;
  key = c.key;
}

unfoldable pub recover_step : State → ℕ → RecoverStep → Answered
recover_step c room (G.File second) = file_step c room (D.Recover (G.Number (M.S second)))
recover_step c room (G.Number number) = stepped c (recover_number c.vault number)
recover_step c room G.Empty = taking (in_service c) S.Empty []

unfoldable pub recover_due : State → ℕ → Due → Answered
recover_due c room (D.Recover step) = recover_step c room step
recover_due c room D.Nothing = refusing c 1 []
recover_due c room D.Record = refusing c 1 []
recover_due c room (D.Checkpoint step) = refusing c 1 []
recover_due c room (D.Truncate position step) = refusing c 1 []

unfoldable pub recover_phase : State → List ℕ → List ℕ → ℕ → Phase → Answered
recover_phase c file log room F.Cold = recover_first c file log
recover_phase c file log room F.Recovering = refuse (not (valid c)) c 1 [] (recover_due c room c.due)
recover_phase c file log room F.Serving = refusing c 1 []

unfoldable pub recover : State → List ℕ → List ℕ → ℕ → Answered
recover c file log room = recover_phase c file log room c.phase
