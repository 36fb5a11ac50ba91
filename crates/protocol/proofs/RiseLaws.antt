-- No store that a call names lowers a vault number, since every list keeps the invariants. So the S that is stored never falls: each event stores
-- the number that was pending, or loses it. A recovery then asks for a file of that version or a later one, and older files may go.
-- Assumes nothing.
use Prim.Native.Nat.{ℕ, zero, suc, ◌≤◌}
use mathlib.Core.Path.{◌≡◌, refl, sym, subst}
use mathlib.Core.Bool.{true, false}
use mathlib.Core.Option.{Option, none, some}
use mathlib.Core.List.{List, [], ◌∷◌}
use native.Mathlib.Omega.{arith}
use Rattle.sealed.specs.Record.{Opened}
use Rattle.protocol.specs.Said.{Said, refused, taken, Answered}
use Rattle.protocol.specs.History.{Call, Event, call, cut, World, Lasting, Card, new_lasting, new_world, settled, broken, done, vault_after, with_sealings, after_said, after_answer, answer, adds_of, next, run, Honest, Premises, FaithfulFile}
use Rattle.protocol.specs.Claim.{after, Listed}
use Rattle.protocol.specs.Beside.{NotLower, NoStoreLowers, StoredSNeverFalls, Lacks, SameFaith, OlderFilesMayGo}
use Rattle.protocol.specs.declared.Vault.{Vault}
use Rattle.protocol.specs.declared.State.{State}
use Rattle.protocol.specs.declared.Store.{Store}
use Rattle.protocol.specs.declared.Store.TheVariants as S
use Rattle.protocol.proofs.Invariant.{Durable, Invariant, GoodSaid}
use Rattle.protocol.proofs.Runs.{trusted, GoodIf, keep_answer, next_invariant, new_invariant, listed_invariant}

-- a store that lowers nothing leaves S, or raises it
s_after : (st : Store) (x : Vault) → NotLower x st → x.s ≤ (vault_after st x).s
unfolding vault_after
s_after S.Nothing x h = omega arith
s_after (S.W l k) x h = omega arith
s_after (S.V l k) x h = omega arith
s_after (S.R l k) x h = omega arith
s_after (S.E k) x h = omega arith
s_after (S.S k) x h = h
s_after (S.N k) x h = omega arith
s_after (S.Record p) x h = omega arith
s_after S.File x h = omega arith
s_after (S.Delete p) x h = omega arith
s_after S.Empty x h = omega arith

module _ (key : List ℕ) where
  -- ---- one call

  said_rises : (sa : Said) (a : Lasting) (s : Option State) (adds : Option Opened) (c : State) (put : List ℕ) (d : Durable) → GoodSaid key sa c put adds d → NotLower d.vault (after_said sa a s adds c put).pending.store
  unfolding after_said
  said_rises (refused n vs) a s adds c put d g = tt
  said_rises (taken st n) a s adds c put d (o, g) = g.rises

  answer_rises : (a : Lasting) (s : Option State) (adds : Option Opened) (r : Option Answered) (d : Durable) → GoodIf key d adds r → NotLower d.vault (after_answer a s adds r).pending.store
  unfolding after_answer
  answer_rises a s adds none d g = tt
  answer_rises a s adds (some r) d g = said_rises r.said a s adds r.state r.put d g

  rises_at : (w : World) → Invariant key w → (k : Call) → Honest key w (call k) → NotLower (settled w).vault (next key w (call k)).pending.store
  unfolding next
  rises_at w i k h =
      let d = i.after in
      subst (λ (x : Vault). NotLower x (after_answer (settled w) w.state (adds_of key k) (answer w.state k)).pending.store) (sym i.apart'.vault)
      (answer_rises (settled w) w.state (adds_of key k) (answer w.state k) d (keep_answer key w.state k d i.then i.link (trusted key w d k i.apart' h)))

  pub rises : NoStoreLowers key
  rises es p k h = rises_at (after key es) (listed_invariant key es p) k h

  -- ---- one event

  -- the store that is pending does not lower S
  abbrev Raises : World → Type 0
  Raises w = w.lasting.vault.s ≤ (settled w).vault.s

  said_lasts : (sa : Said) (a : Lasting) (s : Option State) (adds : Option Opened) (c : State) (put : List ℕ) → (after_said sa a s adds c put).lasting.vault ≡ a.vault
  unfolding after_said with_sealings
  said_lasts (refused n vs) a s adds c put = refl
  said_lasts (taken st n) a s adds c put = refl

  answer_lasts : (a : Lasting) (s : Option State) (adds : Option Opened) (r : Option Answered) → (after_answer a s adds r).lasting.vault ≡ a.vault
  unfolding after_answer
  answer_lasts a s adds none = refl
  answer_lasts a s adds (some r) = said_lasts r.said a s adds r.state r.put

  -- what lasts of the vault behind a call is what was pending, done
  call_lasts : (w : World) (k : Call) → (next key w (call k)).lasting.vault ≡ (settled w).vault
  unfolding next
  call_lasts w k = answer_lasts (settled w) w.state (adds_of key k) (answer w.state k)

  next_raises : (w : World) (e : Event) → Invariant key w → Honest key w e → Raises (next key w e)
  unfolding done next broken
  next_raises w (call k) i h =
      s_after (next key w (call k)).pending.store (next key w (call k)).lasting.vault
      (subst (λ (x : Vault). NotLower x (next key w (call k)).pending.store) (sym (call_lasts w k)) (rises_at w i k h))
  next_raises w (cut true) i h = s_after S.Nothing (settled w).vault tt
  next_raises w (cut false) i h = s_after S.Nothing w.lasting.vault tt

  next_keeps : (w : World) (e : Event) → Raises w → w.lasting.vault.s ≤ (next key w e).lasting.vault.s
  unfolding next broken
  next_keeps w (call k) r = subst (λ (x : Vault). w.lasting.vault.s ≤ x.s) (sym (call_lasts w k)) r
  next_keeps w (cut true) r = r
  next_keeps w (cut false) r = omega arith

  -- ---- every list

  new_raises : Raises new_world
  unfolding new_world new_lasting done
  new_raises = s_after S.Nothing _ tt

  run_raises : (es : List Event) (w : World) → Invariant key w → Raises w → Premises key w es → (w.lasting.vault.s ≤ (run key w es).lasting.vault.s) × Raises (run key w es)
  unfolding run Premises
  run_raises [] w i r p = (omega arith, r)
  run_raises (e ∷ es) w i r p =
      let one = next_keeps w e r in
      let more = run_raises es (next key w e) (next_invariant key w e i p.0) (next_raises w e i p.0) p.1 in
      let m = more.0 in
      (omega arith, more.1)

  -- from a new vault, and then on
  listed_raises : (es more : List Event) → Listed key es → Premises key (after key es) more
      → ((after key es).lasting.vault.s ≤ (run key (after key es) more).lasting.vault.s) × Raises (run key (after key es) more)
  listed_raises es more p q =
      run_raises more (after key es) (listed_invariant key es p) (run_raises es new_world (new_invariant key) new_raises p).1 q

  pub never_falls : StoredSNeverFalls key
  never_falls es more p q = (listed_raises es more p q).0

  -- ---- files of an older version

  same_faith : (s : ℕ) {t : ℕ} (d : Card) (left : List (List ℕ)) → Lacks t d.files left → t ≤ s → (file : List ℕ) → SameFaith s d left file
  unfolding FaithfulFile
  same_faith zero {t} d left l h file = record { still = λ e. e; only = λ e. e }
  same_faith (suc s) {t} d left l h file = record {
    still = λ e. (l.kept file e.0 (let v = e.1 in omega arith), e.1);
    only = λ e. (l.among file e.0, e.1);
  }

  pub older_files : OlderFilesMayGo key
  older_files es more p q left l file =
      let r = listed_raises es more p q in
      let one = r.0 in
      let two = r.1 in
      same_faith (settled (run key (after key es) more)).vault.s (settled (run key (after key es) more)).card left l (omega arith) file
