-- Every list keeps the invariants: a new vault has them, and each event keeps them.
-- Assumes nothing.
use Prim.Native.Nat.{ℕ, ◌≤◌, ◌<◌}
use mathlib.Core.Path.{◌≡◌, refl, sym, subst, ◌∙◌}
use mathlib.Core.Bool.{true, false}
use mathlib.Core.Option.{Option, none, some}
use mathlib.Core.Logic.{inl}
use mathlib.Core.List.Memᴰ
use mathlib.Core.List.{List, [], ◌∷◌}
use native.Mathlib.Omega.{arith}
use native.Mathlib.Decide.{dec_lt}
use lib.ListN.{length, replicate, length-replicate, get_or-replicate, get_or-eq_default}
use Rattle.octets.specs.Lists.{at}
use Rattle.table.specs.Table.{lanes}
use Rattle.sealed.specs.Aead.{aes_gcm}
use Rattle.sealed.specs.Record.{Opened, open_record}
use Rattle.protocol.specs.Vaults.{new_vault}
use Rattle.protocol.specs.Said.{Said, refused, taken, Answered}
use Rattle.protocol.specs.Load.{load}
use Rattle.protocol.specs.Recover.{recover_phase, recover}
use Rattle.protocol.specs.History.{Call, call_load, call_accept, call_seal, call_commit, call_point, call_checkpoint, call_truncate, call_recover, Event, call, cut, Lasting, World, new_lasting, new_world, settled, done, answer_of, first_answer, answer, adds_of, after_said, after_answer, next, run, is_taken, Honest, Premises}
use Rattle.protocol.specs.Claim.{after, Listed}
use Rattle.protocol.specs.declared.Vault.{Vault}
use Rattle.protocol.specs.declared.State.{State}
use Rattle.protocol.specs.declared.Phase.{Phase}
use Rattle.protocol.specs.declared.Phase.TheVariants as F
use Rattle.protocol.proofs.Latest.{upto_empty}
use Rattle.protocol.proofs.Invariant.{Durable, vault_to, known, carried, cut_short, booked_to, Durably, LinkedAt, Linked, LinkedIf, Known, Apart, Invariant, GoodSaid, GoodAnswer, At}
use Rattle.protocol.proofs.KeepRecover.{good_refuse, keep_due}
use Rattle.protocol.proofs.KeepCold.{keep_load, keep_cold, TrustedLog, TrustedFile}
use Rattle.protocol.proofs.KeepAccept.{keep_accept, keep_seal, keep_commit}
use Rattle.protocol.proofs.KeepPoint.{keep_point}
use Rattle.protocol.proofs.KeepCheckpoint.{keep_checkpoint}
use Rattle.protocol.proofs.KeepTruncate.{keep_truncate}
use Rattle.protocol.proofs.Apart.{apart_still, apart_uncut, apart_known, apart_done, apart_cut}
use Rattle.protocol.proofs.StoreLaws.{no_begun}

-- ---- a new vault

at_zero : (l : ℕ) → at (replicate lanes 0) l ≡ 0
at_zero l = go (dec_lt l lanes)
  where
    go : Dec (l < lanes) → at (replicate lanes 0) l ≡ 0
    go (yes h) = get_or-replicate lanes l 0 0 h
    go (no h) = get_or-eq_default (replicate lanes 0) 0 (let z = length-replicate {A = ℕ} lanes 0 in let y : length {A = ℕ} (replicate lanes 0) ≤ l = omega arith in y)

abbrev new_durable : Durable
new_durable = record { vault = new_vault; book = []; sealed = []; files = []; spots = []; cards = []; begun = none }

new_durably : Durably new_durable
unfolding new_vault
new_durably = record {
  lanes = record { wlen = refl; vlen = refl; rlen = refl; lane = λ l. let z = at_zero l in record { most = omega arith; seen = omega arith; gone = omega arith; past = inl (omega arith) } };
  nums = record { e≤ = omega arith; s≤ = omega arith; n≤ = omega arith };
  sealed = record { small = λ r m. absurd (Memᴰ.not-nil m); fine = λ r m. absurd (Memᴰ.not-nil m); single = λ a b m. absurd (Memᴰ.not-nil m) };
  book = record { known = λ r m. absurd (Memᴰ.not-nil m); seen = λ r m. absurd (Memᴰ.not-nil m); whole = λ l n p q. absurd (let z = at_zero l in omega arith) };
  files = record { next = λ f m. absurd (Memᴰ.not-nil m); full = λ f m. absurd (Memᴰ.not-nil m); held = λ f m. absurd (Memᴰ.not-nil m); fresh = λ e. upto_empty _; fine = λ f m. absurd (Memᴰ.not-nil m) };
  card = record { top = λ l. 0; consec = tt; reach = λ l h. absurd (let z = at_zero l in omega arith); known = λ p m. absurd (Memᴰ.not-nil m); rising = tt; few = omega arith; begun_known = λ b e. no_begun b e; begun_passed = λ b e. no_begun b e };
  kept = record { known = λ f m. absurd (Memᴰ.not-nil m); have = λ h. absurd (omega arith) };
}

module _ (key : List ℕ) where
  new_apart : Apart key new_lasting new_durable
  unfolding new_lasting
  new_apart = record { vault = refl; book = refl; card = record { records = refl; files = refl; beginning = refl }; out = λ b m. absurd (Memᴰ.not-nil m); out_record_law = λ r m. absurd (Memᴰ.not-nil m); out_file_law = λ f m. absurd (Memᴰ.not-nil m) }

  pub new_invariant : Invariant key new_world
  unfolding new_world
  new_invariant = record { before = new_durable; after = new_durable; apart = apart_uncut key new_lasting new_durable new_apart; apart' = apart_still key new_lasting new_durable new_apart; now = new_durably; then = new_durably; link = tt; met = tt }

  -- ---- one call

  -- what the premises say of a call, with the bytes that were put out taken apart
  abbrev pub Trusted : Durable → Call → Type 0
  Trusted d (call_load x k) = is_taken (load x k).said ≡ true → (x ≡ d.vault) × (k ≡ key)
  Trusted d (call_accept text lane position) = (i : ℕ) → at text i < 256
  Trusted d (call_seal room) = Unit {0}
  Trusted d (call_commit bytes) = (r : Opened) → open_record (aes_gcm key) bytes ≡ some r → Known key d.sealed d.files bytes
  Trusted d (call_point position) = Unit {0}
  Trusted d (call_checkpoint room) = Unit {0}
  Trusted d (call_truncate position) = Unit {0}
  Trusted d (call_recover file log room) = TrustedLog key d log × TrustedFile key d file

  pub trusted : (w : World) (d : Durable) (k : Call) → Apart key (settled w) d → Honest key w (call k) → Trusted d k
  unfolding Honest done
  trusted w d (call_load x k) a h = λ t. let e = h t in (e.0 ∙ a.vault, e.1)
  trusted w d (call_accept text lane position) a h = h
  trusted w d (call_seal room) a h = tt
  trusted w d (call_commit bytes) a h = λ r o. a.out bytes (h r o)
  trusted w d (call_point position) a h = tt
  trusted w d (call_checkpoint room) a h = tt
  trusted w d (call_truncate position) a h = tt
  trusted w d (call_recover file log room) a h = (λ b r m o. a.out b (h.0 b r m o), λ f o. a.out file (h.1 f o))

  keep_phase : (c : State) (d : Durable) (file log : List ℕ) (room : ℕ) (ph : Phase) → c.phase ≡ ph → Durably (At c d) → LinkedAt key c (At c d) ph c.due → TrustedLog key d log → TrustedFile key d file
      → GoodAnswer key (At c d) none (recover_phase c file log room ph)
  unfolding recover_phase
  keep_phase c d file log room F.Cold e i l h hf = keep_cold key c d file log room l.key_is i h hf
  keep_phase c d file log room F.Recovering e i l h hf = good_refuse key _ none _ c 1 [] _ (λ _. keep_due key c d c.due i e l room)
  keep_phase c d file log room F.Serving e i l h hf = tt

  keep_recover : (c : State) (d : Durable) (file log : List ℕ) (room : ℕ) → Durably (At c d) → LinkedAt key c (At c d) c.phase c.due → TrustedLog key d log → TrustedFile key d file
      → GoodAnswer key (At c d) none (recover c file log room)
  unfolding recover
  keep_recover c d file log room i l h hf = keep_phase c d file log room c.phase refl i l h hf

  -- with the state's own numbers
  keep_at : (k : Call) (c : State) (d : Durable) → Durably (At c d) → LinkedAt key c (At c d) c.phase c.due → Trusted (At c d) k → GoodAnswer key (At c d) (adds_of key k) (answer_of c k)
  unfolding answer_of adds_of
  keep_at (call_load x k) c d i l h = keep_load key (At c d) x k i h
  keep_at (call_accept text lane position) c d i l h = keep_accept key c d text lane position i l h
  keep_at (call_seal room) c d i l h = keep_seal key c d room i l
  keep_at (call_commit bytes) c d i l h = keep_commit key c d bytes i l h
  keep_at (call_point position) c d i l h = keep_point key c d position i l
  keep_at (call_checkpoint room) c d i l h = keep_checkpoint key c d room i l
  keep_at (call_truncate position) c d i l h = keep_truncate key c d position i l
  keep_at (call_recover file log room) c d i l h = keep_recover c d file log room i l h.0 h.1

  -- with the vault's, which are the same
  pub keep_call : (k : Call) (c : State) (d : Durable) → Durably d → Linked key c d → Trusted d k → GoodAnswer key d (adds_of key k) (answer_of c k)
  keep_call k c d i l h = subst (λ (x : Vault). GoodAnswer key (vault_to d x) (adds_of key k) (answer_of c k)) l.same
      (keep_at k c d (subst (λ (x : Vault). Durably (vault_to d x)) (sym l.same) i) (subst (λ (x : Vault). LinkedAt key c (vault_to d x) c.phase c.due) (sym l.same) l.rest) (subst (λ (x : Vault). Trusted (vault_to d x) k) (sym l.same) h))

  -- an answer, or none where there is no state
  abbrev pub GoodIf : Durable → Option Opened → Option Answered → Type 0
  GoodIf d adds none = Unit {0}
  GoodIf d adds (some a) = GoodAnswer key d adds a

  keep_first : (k : Call) (d : Durable) → Durably d → Trusted d k → GoodIf d (adds_of key k) (first_answer k)
  unfolding first_answer adds_of
  keep_first (call_load x k) d i h = keep_load key d x k i h
  keep_first (call_accept text lane position) d i h = tt
  keep_first (call_seal room) d i h = tt
  keep_first (call_commit bytes) d i h = tt
  keep_first (call_point position) d i h = tt
  keep_first (call_checkpoint room) d i h = tt
  keep_first (call_truncate position) d i h = tt
  keep_first (call_recover file log room) d i h = tt

  pub keep_answer : (s : Option State) (k : Call) (d : Durable) → Durably d → LinkedIf key s d → Trusted d k → GoodIf d (adds_of key k) (answer s k)
  unfolding answer
  keep_answer none k d i l h = keep_first k d i h
  keep_answer (some c) k d i l h = keep_call k c d i l h

  -- ---- one event

  after_said_law : (a : Lasting) (d : Durable) (s : Option State) (adds : Option Opened) (sa : Said) (c : State) (put : List ℕ) → Apart key a d → Durably d → LinkedIf key s d → GoodSaid key sa c put adds d
      → Invariant key (after_said sa a s adds c put)
  unfolding after_said
  after_said_law a d s adds (refused n vs) c put h i l g = record { before = d; after = d; apart = apart_uncut key a d h; apart' = apart_still key a d h; now = i; then = i; link = l; met = tt }
  after_said_law a d s adds (taken st n) c put h i l (o, g) =
      let k = apart_known key a d c o st put g.puts h in
      record {
        before = cut_short o (known o d);
        after = booked_to adds (carried st o (known o d));
        apart = apart_cut key _ (known o d) o st put adds g.puts k;
        apart' = apart_done key _ (known o d) o st put adds g.puts k;
        now = g.now;
        then = g.then;
        link = g.link;
        met = g.met;
      }

  after_answer_law : (a : Lasting) (d : Durable) (s : Option State) (adds : Option Opened) (r : Option Answered) → Apart key a d → Durably d → LinkedIf key s d → GoodIf d adds r → Invariant key (after_answer a s adds r)
  unfolding after_answer
  after_answer_law a d s adds none h i l g = record { before = d; after = d; apart = apart_uncut key a d h; apart' = apart_still key a d h; now = i; then = i; link = l; met = tt }
  after_answer_law a d s adds (some r) h i l g = after_said_law a d s adds r.said r.state r.put h i l g

  pub next_invariant : (w : World) (e : Event) → Invariant key w → Honest key w e → Invariant key (next key w e)
  unfolding next
  next_invariant w (call k) i h =
      let d = i.after in
      after_answer_law (settled w) d w.state (adds_of key k) (answer w.state k) i.apart' i.then i.link (keep_answer w.state k d i.then i.link (trusted w d k i.apart' h))
  next_invariant w (cut true) i h = record { before = i.after; after = i.after; apart = apart_uncut key _ _ i.apart'; apart' = apart_still key _ _ i.apart'; now = i.then; then = i.then; link = tt; met = tt }
  next_invariant w (cut false) i h = record { before = i.before; after = i.before; apart = apart_uncut key _ _ i.apart; apart' = apart_still key _ _ i.apart; now = i.now; then = i.now; link = tt; met = tt }

  -- ---- every list

  pub run_invariant : (es : List Event) (w : World) → Invariant key w → Premises key w es → Invariant key (run key w es)
  unfolding run Premises
  run_invariant [] w i p = i
  run_invariant (e ∷ es) w i p = run_invariant es (next key w e) (next_invariant w e i p.0) p.1

  -- what a list comes to, from a new vault
  pub listed_invariant : (es : List Event) → Listed key es → Invariant key (after key es)
  listed_invariant es p = run_invariant es new_world new_invariant p
