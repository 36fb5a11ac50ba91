-- Files of other versions than S may go: the invariants speak of the card's files in three places only. Each is one that was put out, which holds
-- of fewer too; one of version S is there, and one of the next version where the store of S is due, which is asked of those that are left.
-- Assumes nothing.
use Prim.Native.Nat.{ℕ, zero, suc, ◌<◌}
use mathlib.Core.Path.{◌≡◌, refl, sym, ap, ap₂, subst, ◌∙◌}
use mathlib.Core.Bool.{true}
use mathlib.Core.Option.{Option, none, some}
use mathlib.Core.Logic.{◌⊎◌, inl, inr}
use mathlib.Core.List.Memᴰ
use mathlib.Core.List.{List, [], ◌∷◌, map, Memᴰ}
use native.Mathlib.Omega.{arith}
use Rattle.sealed.specs.Aead.{aes_gcm}
use Rattle.sealed.specs.Checkpoint.{OpenedFile, version_of}
use Rattle.sealed.proofs.LogTrip.{version_is}
use Rattle.protocol.specs.History.{Lasting, World, settled, FaithfulFile}
use Rattle.protocol.specs.Beside.{Among, card_left, s_due, NextLeft, forgotten}
use Rattle.protocol.specs.declared.State.{State}
use Rattle.protocol.specs.declared.Vault.{Vault}
use Rattle.protocol.specs.declared.Phase.{Phase}
use Rattle.protocol.specs.declared.Phase.TheVariants as F
use Rattle.protocol.specs.declared.Due.{Due}
use Rattle.protocol.specs.declared.Due.TheVariants as D
use Rattle.protocol.specs.declared.CheckpointStep.TheVariants as K
use Rattle.protocol.specs.declared.TruncateStep.TheVariants as L
use Rattle.protocol.specs.declared.RecoverStep.TheVariants as G
use Rattle.protocol.specs.declared.RecoverNumber.TheVariants as M
use Rattle.protocol.proofs.Basis.{file_of}
use Rattle.protocol.proofs.Invariant.{Durable, cards_to, FileIn, Durably, HasNext, Raising, RecoverDue, Cutting, Service, LinkedAt, Linked, LinkedIf, Apart, Invariant}
use Rattle.protocol.proofs.Apart.{mem_map, apart_still, apart_uncut}

-- ---- the state

module _ (c : State) (d : Durable) (cs : List OpenedFile) where
  raising : (x : Vault) (rl vl el : ℕ) → Raising x d rl vl el → Raising x (cards_to d cs) rl vl el
  raising x rl vl el r = record { caught = r.caught; r_is_w = r.r_is_w; v_is_w = r.v_is_w; e_room = r.e_room }

  recover_due_law : (x : Vault) (du : Due) → (s_due du ≡ true → HasNext x.s cs) → RecoverDue x d du → RecoverDue x (cards_to d cs) du
  unfolding s_due
  recover_due_law x D.Nothing n h = h
  recover_due_law x D.Record n h = h
  recover_due_law x (D.Checkpoint step) n h = h
  recover_due_law x (D.Truncate position step) n h = h
  recover_due_law x (D.Recover (G.File second)) n h = h
  recover_due_law x (D.Recover (G.Number (M.S second))) n h = (h.0, n refl)
  recover_due_law x (D.Recover (G.Number M.N)) n h = h
  recover_due_law x (D.Recover (G.Number (M.R lane))) n h = (h.0, raising x _ _ _ h.1)
  recover_due_law x (D.Recover (G.Number M.E)) n h = raising x _ _ _ h
  recover_due_law x (D.Recover (G.Number (M.V lane))) n h = (h.0, raising x _ _ _ h.1)
  recover_due_law x (D.Recover G.Empty) n h = raising x _ _ _ h

  cutting : (j position : ℕ) → Cutting c d j position → Cutting c (cards_to d cs) j position
  cutting j position h = record { stale = h.stale; at_point = h.at_point; found = h.found; covered = h.covered; did = h.did; left = h.left }

  module _ (key : List ℕ) where
    service : (du : Due) → (s_due du ≡ true → HasNext c.vault.s cs) → Service key c d du → Service key c (cards_to d cs) du
    unfolding s_due
    service D.Nothing n h = record { key_is = h.key_is; arrays = h.arrays; table = h.table; common = h.common; clean = h.clean; stored = h.stored }
    service D.Record n h =
        let k = h.stored in
        record { key_is = h.key_is; arrays = h.arrays; table = h.table; common = h.common; clean = h.clean; stored = record { stale = k.stale; exact = k.exact; lane = k.lane; fine = k.fine; bytes = k.bytes; newest = k.newest } }
    service (D.Checkpoint K.File) n h = record { key_is = h.key_is; arrays = h.arrays; table = h.table; common = h.common; clean = h.clean; stored = h.stored }
    service (D.Checkpoint K.Version) n h = let k = h.stored in record { key_is = h.key_is; arrays = h.arrays; table = h.table; common = h.common; clean = h.clean; stored = (k.0, k.1, n refl) }
    service (D.Truncate position (L.R j)) n h = record { key_is = h.key_is; arrays = h.arrays; table = h.table; common = h.common; clean = h.clean; stored = cutting _ position h.stored }
    service (D.Truncate position L.Delete) n h = record { key_is = h.key_is; arrays = h.arrays; table = h.table; common = h.common; clean = h.clean; stored = cutting _ position h.stored }
    service (D.Recover step) n h = absurd h.stored

    linked_at : (ph : Phase) (du : Due) → (s_due du ≡ true → HasNext c.vault.s cs) → LinkedAt key c d ph du → LinkedAt key c (cards_to d cs) ph du
    linked_at F.Cold du n h = h
    linked_at F.Recovering du n h = record { key_is = h.key_is; table = h.table; stored = recover_due_law c.vault du n h.stored }
    linked_at F.Serving du n h = service du n h

    linked : (s_due c.due ≡ true → HasNext c.vault.s cs) → Linked key c d → Linked key c (cards_to d cs)
    linked n h = record { same = h.same; rest = linked_at c.phase c.due n h.rest }

-- ---- the card

module _ (key : List ℕ) where
  -- the files that are left, taken apart
  left_apart : (cards : List OpenedFile) (left : List (List ℕ)) → Among left (map (file_of key) cards) → (cs : List OpenedFile) × (left ≡ map (file_of key) cs) × ((f : OpenedFile) → FileIn cs f → FileIn cards f)
  left_apart cards [] h = ([], refl, λ f m. absurd (Memᴰ.not-nil m))
  left_apart cards (b ∷ bs) h =
      let g = mem_map (file_of key) cards b (h b (Memᴰ.head refl)) in
      let r = left_apart cards bs (λ f m. h f (Memᴰ.tail m)) in
      (g.0 ∷ r.0, ap₂ (λ (x : List ℕ) (xs : List (List ℕ)). x ∷ xs) g.2 r.1, λ f m. among g.0 r.0 g.1 r.2 f (Memᴰ.cases_cons m))
    where
      among : (g : OpenedFile) (gs : List OpenedFile) → FileIn cards g → ((f : OpenedFile) → FileIn gs f → FileIn cards f) → (f : OpenedFile) → (f ≡ g) ⊎ FileIn gs f → FileIn cards f
      among g gs k ih f (inl e) = subst (FileIn cards) (sym e) k
      among g gs k ih f (inr m) = ih f m

  -- one of them, taken apart, with its version
  left_file : (d : Durable) (cs : List OpenedFile) (left : List (List ℕ)) (s : ℕ) (file : List ℕ) → Durably d → left ≡ map (file_of key) cs → ((f : OpenedFile) → FileIn cs f → FileIn d.cards f)
      → Memᴰ file left → version_of file ≡ s → (f : OpenedFile) × FileIn cs f × (f.version ≡ s)
  left_file d cs left s file i e sub m v =
      let k = mem_map (file_of key) cs file (subst (Memᴰ file) e m) in
      let g = k.0 in
      let fw = i.files.fine g (i.kept.known g (sub g k.1)) in
      (g, k.1, sym (ap version_of k.2 ∙ version_is (aes_gcm key) g.version g.seal g.table (omega (arith, fw.version))) ∙ v)

  -- one is of version S
  left_has : (s : ℕ) (d : Durable) (cs : List OpenedFile) (left : List (List ℕ)) (a : Lasting) (file : List ℕ) → Durably d → left ≡ map (file_of key) cs → ((f : OpenedFile) → FileIn cs f → FileIn d.cards f)
      → FaithfulFile s (card_left left a.card) file → 0 < s → (f : OpenedFile) × FileIn cs f × (f.version ≡ s)
  unfolding FaithfulFile
  left_has zero d cs left a file i e sub f h = absurd (omega arith)
  left_has (suc s) d cs left a file i e sub f h = left_file d cs left (suc s) file i e sub f.0 f.1

  -- and one of the next, where the store of S is due
  left_linked : (s : Option State) (d : Durable) (cs : List OpenedFile) (left : List (List ℕ)) → Durably d → left ≡ map (file_of key) cs → ((f : OpenedFile) → FileIn cs f → FileIn d.cards f)
      → NextLeft s d.vault.s left → LinkedIf key s d → LinkedIf key s (cards_to d cs)
  unfolding NextLeft
  left_linked none d cs left i e sub n h = tt
  left_linked (some c) d cs left i e sub n h =
      let v : c.vault.s ≡ d.vault.s = ap (λ (x : Vault). x.s) h.same in
      linked c d cs key (λ due. let f = n due in subst (λ (s : ℕ). HasNext s cs) (sym v) (left_file d cs left (suc d.vault.s) f.0 i e sub f.1 f.2)) h

  left_durably : (d : Durable) (cs : List OpenedFile) → Durably d → ((f : OpenedFile) → FileIn cs f → FileIn d.cards f) → (0 < d.vault.s → (f : OpenedFile) × FileIn cs f × (f.version ≡ d.vault.s)) → Durably (cards_to d cs)
  left_durably d cs i sub h = record {
    lanes = i.lanes;
    nums = i.nums;
    sealed = i.sealed;
    book = i.book;
    files = i.files;
    card = i.card;
    kept = record { known = λ f m. i.kept.known f (sub f m); have = h };
  }

  pub forgotten_invariant : (w : World) → Invariant key w → (left : List (List ℕ)) → Among left (settled w).card.files
      → (file : List ℕ) → FaithfulFile (settled w).vault.s (card_left left (settled w).card) file → NextLeft w.state (settled w).vault.s left → Invariant key (forgotten left w)
  unfolding forgotten
  forgotten_invariant w i left among file f n =
      let d = i.after in
      let h = i.apart' in
      let r = left_apart d.cards left (subst (Among left) h.card.files among) in
      let cs = r.0 in
      let e : (settled w).vault.s ≡ d.vault.s = ap (λ (x : Vault). x.s) h.vault in
      let f' = subst (λ (s : ℕ). FaithfulFile s (card_left left (settled w).card) file) e f in
      let k = left_durably d cs i.then r.2 (left_has d.vault.s d cs left (settled w) file i.then r.1 r.2 f') in
      let a : Apart key (forgotten left w).lasting (cards_to d cs) = record { vault = h.vault; book = h.book; card = record { records = h.card.records; files = r.1; beginning = h.card.beginning }; out = h.out; out_record_law = h.out_record_law; out_file_law = h.out_file_law } in
      record { before = cards_to d cs; after = cards_to d cs; apart = apart_uncut key _ _ a; apart' = apart_still key _ _ a; now = k; then = k; met = tt; link = left_linked w.state d cs left i.then r.1 r.2 (subst (λ (s : ℕ). NextLeft w.state s left) e n) i.link }
