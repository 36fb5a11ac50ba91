-- Load, and the call by which Recover is accepted, keep the invariant: what opens was put out, so the reading comes to the whole book.
-- Assumes nothing.
use Prim.Native.Nat.{ℕ}
use mathlib.Core.Path.{◌≡◌, refl, subst}
use mathlib.Core.Bool.{Bool, true, false, cond, not}
use mathlib.Core.Option.{Option, none, some}
use mathlib.Core.List.{List, [], ◌∷◌, Memᴰ}
use native.Mathlib.Omega.{arith}
use lib.Dec.{eqb}
use lib.ListN.{length}
use borrow.Author.Tests.{eqb-true, not-false}
use Rattle.table.specs.Table.{empty_table}
use Rattle.table.specs.declared.Table.{Table}
use Rattle.sealed.specs.Aead.{aes_gcm}
use Rattle.sealed.specs.Record.{Opened, open_record}
use Rattle.sealed.specs.Log.{records_in}
use Rattle.sealed.specs.Checkpoint.{OpenedFile, open_file}
use Rattle.sealed.proofs.LogTrip.{file_not_record, record_not_file}
use Rattle.protocol.specs.Vaults.{vault_ok}
use Rattle.protocol.specs.Said.{refuse, taking}
use Rattle.protocol.specs.Load.{key_len, loaded, blank, load}
use Rattle.protocol.specs.Replay.{Read, stopped, reading, or_stop, replay}
use Rattle.protocol.specs.Recover.{spent, other_version, read_file, read_from, recovered, recover_read, recover_first, recover_phase}
use Rattle.protocol.specs.History.{is_taken}
use Rattle.protocol.specs.declared.Vault.{Vault}
use Rattle.protocol.specs.declared.State.{State}
use Rattle.protocol.specs.declared.Phase.TheVariants as F
use Rattle.protocol.specs.declared.Store.TheVariants as S
use Rattle.protocol.proofs.SpentLaws.{passes_unspent}
use Rattle.protocol.proofs.Basis.{opens, file_opens}
use Rattle.protocol.proofs.Latest.{In, Upto}
use Rattle.protocol.proofs.Hostile.{replay_full}
use Rattle.protocol.proofs.Invariant.{Durable, quiet, FileIn, SealedOnce, Filed, Durably, Known, as_record, as_file, GoodAnswer, At}
use Rattle.protocol.proofs.KeepRecover.{good_refuse}

-- a checkpoint that is not turned down is of version S
pub asked : (c : State) (f : OpenedFile) → other_version c.vault f ≡ false → f.version ≡ c.vault.s
unfolding other_version
asked c f v = eqb-true f.version c.vault.s (not-false _ v)

module _ (key : List ℕ) where
  pub keep_load : (d : Durable) (x : Vault) (k : List ℕ) → Durably d → (is_taken (load x k).said ≡ true → (x ≡ d.vault) × (k ≡ key)) → GoodAnswer key d none (load x k)
  unfolding load refuse is_taken loaded
  keep_load d x k i h = go (not (vault_ok x)) (not (eqb (length k) key_len)) h
    where
      go : (b c : Bool) → (is_taken (refuse b blank 2 [] (refuse c blank 3 (key_len ∷ []) (taking (loaded x k) S.Nothing []))).said ≡ true → (x ≡ d.vault) × (k ≡ key))
          → GoodAnswer key d none (refuse b blank 2 [] (refuse c blank 3 (key_len ∷ []) (taking (loaded x k) S.Nothing [])))
      go true c h = tt
      go false true h = tt
      go false false h = let e = h refl in
          (quiet, record { puts = tt; rises = tt; met = tt; now = i; then = i; link = record { same = e.0; rest = record { key_is = e.1; due = refl; listed_none = refl; pointed_none = refl } } })

  -- what opens as a record and was put out was sealed as one
  pub unseal : {w : List ℕ} {s : List Opened} {fs : List OpenedFile} (b : List ℕ) (r : Opened) → SealedOnce w s → Known key s fs b → open_record (aes_gcm key) b ≡ some r → In s r
  unseal {s = s} b r d (as_record p m q) e =
      let o = opens key p (d.fine p m) in
      let z : p ≡ r = cc in subst (In s) z m
  unseal b r d (as_file f m q) e =
      let o = file_not_record (aes_gcm key) f.version f.seal f.table in
      let z : ◌≡◌ {A = ℕ} 0 1 = cc in absurd (omega arith)

  -- and as a file
  unseal_file : {s : ℕ} {r : List ℕ} {book sealed : List Opened} {fs : List OpenedFile} (b : List ℕ) (f : OpenedFile) → Filed s r book fs → Known key sealed fs b → open_file (aes_gcm key) b ≡ some f → FileIn fs f
  unseal_file {fs = fs} b f d (as_file p m q) e =
      let o = file_opens key p (d.fine p m) in
      let z : p ≡ f = cc in subst (FileIn fs) z m
  unseal_file b f d (as_record p m q) e =
      let o = record_not_file (aes_gcm key) p.lane p.epoch p.number p.text in
      let z : ◌≡◌ {A = ℕ} 0 1 = cc in absurd (omega arith)

  -- whatever opens was put out
  abbrev pub TrustedLog : Durable → List ℕ → Type 0
  TrustedLog d log = (b : List ℕ) (r : Opened) → Memᴰ b (records_in log) → open_record (aes_gcm key) b ≡ some r → Known key d.sealed d.files b

  abbrev pub TrustedFile : Durable → List ℕ → Type 0
  TrustedFile d file = (f : OpenedFile) → open_file (aes_gcm key) file ≡ some f → Known key d.sealed d.files file

  keep_read : (c : State) (d : Durable) (log : List ℕ) (t : Table) → c.key ≡ key → Durably (At c d) → TrustedLog d log → Upto d.book c.vault.r t → spent c.vault ≡ false
      → (rd : Read) → replay (aes_gcm c.key) c.vault t log ≡ rd → GoodAnswer key (At c d) none (recover_read c rd)
  unfolding recover_read recovered
  keep_read c d log t kk i h u sp (stopped n vs) e = tt
  keep_read c d log t kk i h u sp (reading g) e =
      let left = passes_unspent c.vault sp in
      let s2 = left.s in
      let n2 = left.n in
      let e1 = left.e in
      let f = replay_full c.key c.vault d.book (In d.sealed) i.book.known i.sealed.single i.sealed.fine i.book.whole i.book.seen i.lanes.rlen i.lanes.vlen log
      (λ b y m o. let q = subst (λ (x : List ℕ). open_record (aes_gcm x) b ≡ some y) kk o in unseal b y i.sealed (h b y m q) q) t u g e in (
        quiet,
        record {
          puts = tt;
          rises = omega arith;
          met = tt;
          now = i;
          then = record { lanes = i.lanes; nums = record { e≤ = i.nums.e≤; s≤ = i.nums.s≤; n≤ = omega arith }; sealed = i.sealed; book = i.book; files = i.files; card = i.card; kept = i.kept };
          link = record { same = refl; rest = record { key_is = kk; table = f; stored = record { s_room = omega arith; n_room = omega arith; e_room = omega arith } } };
        },
      )

  -- a reading that is stopped keeps the invariant, and so does what goes on where it is not
  good_stop : (c : State) (d : Durable) (b : Bool) (n : ℕ) (vs : List ℕ) (r : Read) → (b ≡ false → GoodAnswer key d none (recover_read c r)) → GoodAnswer key d none (recover_read c (or_stop b n vs r))
  unfolding or_stop recover_read
  good_stop c d true n vs r f = tt
  good_stop c d false n vs r f = f refl

  keep_log : (c : State) (d : Durable) (log : List ℕ) (t : Table) → c.key ≡ key → Durably (At c d) → TrustedLog d log → Upto d.book c.vault.r t → spent c.vault ≡ false → GoodAnswer key (At c d) none (recover_read c (replay (aes_gcm c.key) c.vault t log))
  keep_log c d log t kk i h u sp = keep_read c d log t kk i h u sp (replay (aes_gcm c.key) c.vault t log) refl

  -- the table that recovery starts from has the book up to R
  keep_file : (c : State) (d : Durable) (log : List ℕ) (o : Option OpenedFile) → c.key ≡ key → Durably (At c d) → TrustedLog d log → ((f : OpenedFile) → o ≡ some f → FileIn d.files f) → spent c.vault ≡ false
      → GoodAnswer key (At c d) none (recover_read c (read_file (aes_gcm c.key) c.vault log o))
  unfolding read_file recover_read
  keep_file c d log none kk i h hf sp = tt
  keep_file c d log (some f) kk i h hf sp = good_stop c (At c d) _ 12 [] _ (λ v.
      keep_log c d log f.table kk i h (i.files.held f (hf f refl) (asked c f v)) sp)

  keep_from : (c : State) (d : Durable) (file log : List ℕ) → c.key ≡ key → Durably (At c d) → TrustedLog d log → TrustedFile d file → spent c.vault ≡ false
      → GoodAnswer key (At c d) none (recover_read c (read_from (aes_gcm c.key) c.vault file log))
  unfolding read_from
  keep_from c d file log kk i h hf sp = go (eqb c.vault.s 0) refl
    where
      go : (b : Bool) → eqb c.vault.s 0 ≡ b
          → GoodAnswer key (At c d) none (recover_read c (cond b (or_stop (not (eqb (length file) 0)) 9 (0 ∷ []) (replay (aes_gcm c.key) c.vault empty_table log)) (read_file (aes_gcm c.key) c.vault log (open_file (aes_gcm c.key) file))))
      go true e = good_stop c (At c d) _ 9 _ _ (λ _. keep_log c d log empty_table kk i h (i.files.fresh (eqb-true c.vault.s 0 e)) sp)
      go false e = keep_file c d log (open_file (aes_gcm c.key) file) kk i h
          (λ f o. let q = subst (λ (x : List ℕ). open_file (aes_gcm x) file ≡ some f) kk o in unseal_file file f i.files (hf f q) q) sp

  -- the call by which Recover is accepted
  pub keep_cold : (c : State) (d : Durable) (file log : List ℕ) (room : ℕ) → c.key ≡ key → Durably (At c d) → TrustedLog d log → TrustedFile d file → GoodAnswer key (At c d) none (recover_phase c file log room F.Cold)
  unfolding recover_phase recover_first
  keep_cold c d file log room kk i h hf =
      good_refuse key _ none _ c 1 [] _ (λ _. good_refuse key _ none _ c 3 _ _ (λ _. good_refuse key _ none (spent c.vault) c 8 [] _ (λ sp. keep_from c d file log kk i h hf sp)))
