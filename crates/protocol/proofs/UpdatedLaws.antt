-- A box whose table another order made (specs/Updated.antt). A file that was sealed opens, whatever its table; so the log rules begin with that table,
-- and each record that enters leaves at a meter the later of its write and what was there.
-- Assumes nothing.
use Prim.Native.Nat.{ℕ, suc, ◌+◌, ◌^◌, ◌<◌, ◌≤◌}
use mathlib.Core.Path.{◌≡◌, refl, sym, ap, subst, ◌∙◌}
use mathlib.Core.Bool.{true, false}
use mathlib.Core.List.Memᴰ
use mathlib.Core.List.{List, [], ◌∷◌, ◌++◌, append_assoc, append-nil, Memᴰ}
use mathlib.Core.Logic.{◌⊎◌, inl, inr}
use mathlib.Core.Option.{Option, none, some}
use native.Mathlib.Omega.{arith}
use lib.ListN.{length, take, drop}
use borrow.Author.Tests.{lt-leb, le-ltb, eq-eqb, ne_eqb, not-false}
use Rattle.octets.specs.Lists.{at}
use Rattle.octets.proofs.BoolLaws.{and_left}
use Rattle.transaction.specs.Transaction.{meters}
use Rattle.table.specs.declared.Entry.{Entry}
use Rattle.table.specs.declared.Table.{Table}
use Rattle.table.specs.Table.{entry_for}
use Rattle.table.specs.Written.{written}
use Rattle.table.specs.Canonical.{CanonicalTable}
use Rattle.table.specs.Claim.{Holds, LatestAmong}
use Rattle.table.proofs.OrderLaws.{clash}
use Rattle.table.proofs.EnteredLaws.{length_entered}
use Rattle.table.proofs.AnyTable.{entered_holds, among_none, among_same, And, among_more}
use Rattle.sealed.specs.Aead.{aes_gcm}
use Rattle.sealed.specs.Record.{Opened, whole_len, open_record}
use Rattle.sealed.specs.Log.{record_at, records_to, records_in}
use Rattle.sealed.proofs.RecordTrip.{opens_legal}
use Rattle.sealed.proofs.FileLaws.{file_opens}
use Rattle.sealed.proofs.LogTrip.{at_opens, records_at}
use Rattle.protocol.specs.States.{valid, is_nothing}
use Rattle.protocol.specs.Said.{Answered}
use Rattle.protocol.specs.Replay.{Reading, Read, stopped, reading, passed_over, behind, goes_on, or_stop, replay}
use Rattle.protocol.specs.Recover.{other_version, read_file, read_from, recovered, recover_read, recover_first, recover}
use Rattle.protocol.specs.Commit.{committed, commit_opened, commit}
use Rattle.protocol.specs.History.{is_taken}
use Rattle.protocol.specs.Updated.{checkpoint_of, EntersFrom, Updated}
use Rattle.protocol.specs.declared.Vault.{Vault}
use Rattle.protocol.specs.declared.State.{State}
use Rattle.protocol.specs.declared.Phase.TheVariants as F
use Rattle.protocol.proofs.Walks.{through}
use Rattle.protocol.proofs.VaultLaws.{state_fine}
use Rattle.protocol.proofs.TallyLaws.{cold_first}
use Rattle.protocol.proofs.ReadingLaws.{passing, entering, none_left, kept_replay}

-- ---- the log rules

module _ (key : List ℕ) (x : Vault) (log : List ℕ) (t : Table) (m : ℕ) (room : m < length t.entries) where
  -- the records before the offset, and what the meter has by them
  record Came (n : ℕ) (g : Reading) : Type 0 where
    before : List (List ℕ)
    all : records_in log ≡ before ++ records_to n (drop g.offset log)
    long : length g.table.entries ≡ length t.entries
    latest : LatestAmong (EntersFrom key x before m) (entry_for t m) (entry_for g.table m)

  -- the record at the offset
  abbrev bytes_at : Reading → List ℕ
  bytes_at g = take (whole_len (drop g.offset log)) (drop g.offset log)

  all_more : (n : ℕ) (g : Reading) (r : Opened) (h : Came (suc n) g) → record_at (aes_gcm key) log g.offset ≡ some r
      → records_in log ≡ (h.before ++ (bytes_at g ∷ [])) ++ records_to n (drop (behind g r) log)
  unfolding behind
  all_more n g r h e =
      h.all ∙ ap (λ (l : List (List ℕ)). h.before ++ l) (records_at (aes_gcm key) log g.offset n r e)
      ∙ sym (append_assoc h.before (bytes_at g ∷ []) (records_to n (drop (g.offset + r.size) log)))

  -- among other bytes
  moved : {from to : List (List ℕ)} {e : Entry} (i : EntersFrom key x from m e) → Memᴰ i.bytes to → EntersFrom key x to m e
  moved i k = record {
    bytes = i.bytes;
    opened = i.opened;
    among = k;
    opens = i.opens;
    above_r = i.above_r;
    not_above_v = i.not_above_v;
    writes = i.writes;
  }

  module _ (before : List (List ℕ)) (b : List ℕ) (r : Opened) (opened : open_record (aes_gcm key) b ≡ some r) where
    wider : (e : Entry) → EntersFrom key x before m e → EntersFrom key x (before ++ (b ∷ [])) m e
    wider e i = moved i (Memᴰ.append_left (b ∷ []) i.among)

    -- it is one of those before, or this one
    split : (e : Entry) (i : EntersFrom key x (before ++ (b ∷ [])) m e) → EntersFrom key x before m e ⊎ (i.opened ≡ r)
    split e i = go (Memᴰ.append_cases before i.among)
      where
        go : Memᴰ i.bytes before ⊎ Memᴰ i.bytes (b ∷ []) → EntersFrom key x before m e ⊎ (i.opened ≡ r)
        go (inl k) = inl (moved i k)
        go (inr k) =
            let q = Memᴰ.eq_of_singleton k in
            let z : some i.opened ≡ some r = sym i.opens ∙ ap (open_record (aes_gcm key)) q ∙ opened in
            inr (cc)

    -- it is passed over
    past : passed_over x r ≡ true → {was is : Entry} → LatestAmong (EntersFrom key x before m) was is → LatestAmong (EntersFrom key x (before ++ (b ∷ [])) m) was is
    unfolding passed_over
    past p = among_same wider narrow
      where
        not_past : (i : Opened) → i ≡ r → at x.r i.lane < i.number → i.number ≤ at x.v i.lane → passed_over x r ≡ false
        not_past i q a v = rw (← q) (rw (lt-leb i.number (at x.r i.lane) a, le-ltb (at x.v i.lane) i.number v))

        narrow : (e : Entry) → EntersFrom key x (before ++ (b ∷ [])) m e → EntersFrom key x before m e
        narrow e i = go (split e i)
          where
            go : EntersFrom key x before m e ⊎ (i.opened ≡ r) → EntersFrom key x before m e
            go (inl k) = k
            go (inr q) = let a = i.above_r in let v = i.not_above_v in clash (sym p ∙ not_past i.opened q (omega arith) (omega arith))

    -- it enters
    come : at x.r r.lane < r.number → r.number ≤ at x.v r.lane → {was is then : Entry} → Holds r.text r.lane r.number m is then
        → LatestAmong (EntersFrom key x before m) was is → LatestAmong (EntersFrom key x (before ++ (b ∷ [])) m) was then
    come above upto h l = among_same to from (among_more r.text r.lane r.number m (EntersFrom key x before m) l h)
      where
        to : (e : Entry) → And r.text r.lane r.number m (EntersFrom key x before m) e → EntersFrom key x (before ++ (b ∷ [])) m e
        to e (inl i) = wider e i
        to e (inr q) = record {
          bytes = b;
          opened = r;
          among = Memᴰ.append_right before (Memᴰ.head refl);
          opens = opened;
          above_r = omega arith;
          not_above_v = omega arith;
          writes = q;
        }

        from : (e : Entry) → EntersFrom key x (before ++ (b ∷ [])) m e → And r.text r.lane r.number m (EntersFrom key x before m) e
        from e i = go (split e i)
          where
            go : EntersFrom key x before m e ⊎ (i.opened ≡ r) → And r.text r.lane r.number m (EntersFrom key x before m) e
            go (inl k) = inl k
            go (inr q) = inr (ap (λ (o : Opened). written o.text o.lane o.number m) (sym q) ∙ i.writes)

  passes : (n : ℕ) (g : Reading) (r : Opened) → Came (suc n) g → record_at (aes_gcm key) log g.offset ≡ some r → passed_over x r ≡ true → Came n (passing g r)
  passes n g r h e p = record {
    before = h.before ++ (bytes_at g ∷ []);
    all = all_more n g r h e;
    long = h.long;
    latest = past h.before (bytes_at g) r (at_opens (aes_gcm key) log g.offset r e) p h.latest;
  }

  enters : (n : ℕ) (g : Reading) (r : Opened) → Came (suc n) g → record_at (aes_gcm key) log g.offset ≡ some r → at x.r r.lane < r.number → r.number ≤ at x.v r.lane
      → r.number ≡ suc (at g.last r.lane) → Came n (entering g r)
  enters n g r h e above upto q =
      let o = at_opens (aes_gcm key) log g.offset r e in
      let k = h.long in
      record {
        before = h.before ++ (bytes_at g ∷ []);
        all = all_more n g r h e;
        long = length_entered g.table r.text r.lane r.number ∙ h.long;
        latest = come h.before (bytes_at g) r o above upto (entered_holds g.table r.text r.lane r.number m (opens_legal (aes_gcm key) (bytes_at g) r o).text (omega arith)) h.latest;
      }

  ends : (n : ℕ) (g : Reading) → Came (suc n) g → goes_on log g.offset ≡ false → Came n g
  ends n g h p = record {
    before = h.before;
    all = h.all ∙ ap (λ (l : List (List ℕ)). h.before ++ l) (none_left log g.offset (suc n) p ∙ sym (none_left log g.offset n p));
    long = h.long;
    latest = h.latest;
  }

  nothing_yet : LatestAmong (EntersFrom key x [] m) (entry_for t m) (entry_for t m)
  nothing_yet = among_same (λ e w. absurd w) (λ e i. Memᴰ.not-nil i.among) (among_none (entry_for t m))

  replay_latest : (g : Reading) → replay (aes_gcm key) x t log ≡ reading g → LatestAmong (EntersFrom key x (records_in log) m) (entry_for t m) (entry_for g.table m)
  unfolding records_in records_to
  replay_latest g e =
      let k = (kept_replay (aes_gcm key) x log Came passes enters ends t g (record { before = []; all = refl; long = refl; latest = nothing_yet }) e).0 in
      subst (λ (l : List (List ℕ)). LatestAmong (EntersFrom key x l m) (entry_for t m) (entry_for g.table m)) (sym (k.all ∙ append-nil k.before)) k.latest

-- ---- the checkpoint

-- a file with any table in its layout is read
old_file : (c : State) (seal : ℕ) (t : Table) (log : List ℕ) → valid c ≡ true → 0 < c.vault.s → seal < 2 ^ 64 → CanonicalTable t
    → read_from (aes_gcm c.key) c.vault (checkpoint_of c seal t) log ≡ replay (aes_gcm c.key) c.vault t log
unfolding read_from read_file other_version or_stop
old_file c seal t log v s n canonical =
    let f = (state_fine c v).vault.s in
    rw (ne_eqb c.vault.s 0 (omega arith), file_opens c.key c.vault.s seal t (omega arith) n canonical, eq-eqb c.vault.s c.vault.s refl)

-- ---- the calls

module _ (c : State) (seal : ℕ) (t : Table) (log : List ℕ) (s : 0 < c.vault.s) (n : seal < 2 ^ 64) (canonical : CanonicalTable t) (m : ℕ) (room : m < meters) where
  -- what is asked of an answer
  abbrev Compared : Answered → Type 0
  Compared a = LatestAmong (EntersFrom c.key c.vault (records_in log) m) (entry_for t m) (entry_for a.state.table m)

  read_compared : (r : Read) → replay (aes_gcm c.key) c.vault t log ≡ r → is_taken (recover_read c r).said ≡ true → Compared (recover_read c r)
  unfolding recover_read recovered is_taken
  read_compared (stopped k vs) e h = clash (sym h)
  read_compared (reading g) e h = let k = canonical.long in replay_latest c.key c.vault log t m (omega arith) g e

  first_compared : is_taken (recover_first c (checkpoint_of c seal t) log).said ≡ true → Compared (recover_first c (checkpoint_of c seal t) log)
  unfolding recover_first
  first_compared =
      through Compared _ c 1 [] _
      (λ v. through Compared _ c 3 _ _
      (λ l. through Compared _ c 8 [] _
      (λ p. let w = and_left (valid c) (is_nothing c.due) (not-false _ v) in
      read_compared (read_from (aes_gcm c.key) c.vault (checkpoint_of c seal t) log) (sym (old_file c seal t log w s n canonical)))))

  recover_compared : (lent : ℕ) → c.phase ≡ F.Cold → is_taken (recover c (checkpoint_of c seal t) log lent).said ≡ true → Compared (recover c (checkpoint_of c seal t) log lent)
  recover_compared lent cold = rw (cold_first c (checkpoint_of c seal t) log lent cold) first_compared

module _ (c : State) (bytes : List ℕ) where
  -- a record that opens, and what each meter then has
  abbrev Committed : Answered → Type 0
  Committed a = (r : Opened) × (open_record (aes_gcm c.key) bytes ≡ some r)
      × ((m : ℕ) → m < length c.table.entries → Holds r.text r.lane r.number m (entry_for c.table m) (entry_for a.state.table m))

  opened_commits : (o : Option Opened) → open_record (aes_gcm c.key) bytes ≡ o → is_taken (commit_opened c o).said ≡ true → Committed (commit_opened c o)
  unfolding commit_opened committed is_taken
  opened_commits none e = λ h. clash (sym h)
  opened_commits (some r) e =
      through Committed _ c 10 _ _
      (λ p. through Committed _ c 11 _ _
      (λ q h. (r, e, λ m room. entered_holds c.table r.text r.lane r.number m (opens_legal (aes_gcm c.key) bytes r e).text room)))

  commit_compared : is_taken (commit c bytes).said ≡ true → Committed (commit c bytes)
  unfolding commit
  commit_compared = through Committed _ c 1 [] _ (λ p. opened_commits (open_record (aes_gcm c.key) bytes) refl)

pub updated : Updated
updated = record {
  old_checkpoint_is_read = old_file;
  compared_in_recover = λ c seal t log room cold s n canonical h m k. recover_compared c seal t log s n canonical m k room cold h;
  compared_in_commit = commit_compared;
}
