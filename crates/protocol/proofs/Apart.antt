-- What lasts, and the same with its bytes taken apart: they stay so when a call puts something out and when its store is done.
-- Assumes nothing.
use Prim.Native.Nat.{ℕ}
use mathlib.Core.Path.{◌≡◌, refl, sym, ap, ap₂, subst, ◌∙◌}
use mathlib.Core.Option.{Option, none, some}
use mathlib.Core.Logic.{◌⊎◌, inl, inr}
use mathlib.Core.List.Memᴰ
use mathlib.Core.List.{List, [], ◌∷◌, ◌++◌, map, Memᴰ}
use lib.ListN.{take}
use Rattle.sealed.specs.Record.{Opened}
use Rattle.sealed.specs.Checkpoint.{OpenedFile}
use Rattle.protocol.specs.Vaults.{set_w, set_v, set_r, set_e, set_s, set_n}
use Rattle.protocol.specs.History.{Placed, placed_from, Lasting, Sealing, nothing_pending, done, vault_after, card_after, book_after, sealed_by, with_sealings, card_cut, broken, faithful_log}
use Rattle.protocol.specs.declared.Vault.{Vault}
use Rattle.protocol.specs.declared.State.{State}
use Rattle.protocol.specs.declared.Store.{Store}
use Rattle.protocol.specs.declared.Store.TheVariants as S
use Rattle.protocol.proofs.Basis.{bytes_of, begun_bytes, file_of}
use Rattle.protocol.proofs.LaidLaws.{laid_out}
use Rattle.protocol.proofs.Card.{Rising, recs_of, placed_of, placed_from_law, in_order_law, end_to_end_law}
use Rattle.protocol.proofs.Listed.{map_snoc}
use Rattle.protocol.proofs.Invariant.{Durable, Out, quiet, out_record, out_file, known, carried, cut_short, booked_to, Known, as_record, as_file, Apart, Puts}

-- what stands in a list under a function
pub mem_map : {A B : Type 0} (f : A → B) (xs : List A) (y : B) → Memᴰ y (map f xs) → (x : A) × Memᴰ x xs × (y ≡ f x)
mem_map f [] y m = absurd (Memᴰ.not-nil m)
mem_map {A} {B} f (x ∷ xs) y m = go (Memᴰ.cases_cons m) (λ k. mem_map f xs y k)
  where
    go : (y ≡ f x) ⊎ Memᴰ y (map f xs) → (Memᴰ y (map f xs) → (z : A) × Memᴰ z xs × (y ≡ f z)) → (z : A) × Memᴰ z (x ∷ xs) × (y ≡ f z)
    go (inl e) ih = (x, Memᴰ.head refl, e)
    go (inr k) ih = let a = ih k in (a.0, Memᴰ.tail a.1, a.2)

pub map_mem : {A B : Type 0} (f : A → B) (xs : List A) (x : A) → Memᴰ x xs → Memᴰ (f x) (map f xs)
map_mem f [] x m = absurd (Memᴰ.not-nil m)
map_mem f (y ∷ ys) x m = go (Memᴰ.cases_cons m) (λ k. map_mem f ys x k)
  where
    go : (x ≡ y) ⊎ Memᴰ x ys → (Memᴰ x ys → Memᴰ (f x) (map f ys)) → Memᴰ (f x) (f y ∷ map f ys)
    go (inl e) ih = Memᴰ.head (ap f e)
    go (inr k) ih = Memᴰ.tail (ih k)

module _ (key : List ℕ) where
  abbrev bytes_in : List Sealing → List (List ℕ)
  bytes_in ss = map (λ (s : Sealing). s.bytes) ss

  -- nothing pending changes nothing
  pub apart_still : (a : Lasting) (d : Durable) → Apart key a d → Apart key (done nothing_pending a) d
  unfolding done vault_after card_after book_after
  apart_still a d h = h

  pub apart_uncut : (a : Lasting) (d : Durable) → Apart key a d → Apart key (broken nothing_pending a) d
  unfolding broken card_cut
  apart_uncut a d h = h

  -- ---- what is put out

  with_record_law : {s : List Opened} {fs : List OpenedFile} {b : List ℕ} (r : Opened) → Known key s fs b → Known key (r ∷ s) fs b
  with_record_law r (as_record x m e) = as_record x (Memᴰ.tail m) e
  with_record_law r (as_file f m e) = as_file f m e

  with_file : {s : List Opened} {fs : List OpenedFile} {b : List ℕ} (f : OpenedFile) → Known key s fs b → Known key s (f ∷ fs) b
  with_file f (as_record x m e) = as_record x m e
  with_file f (as_file g m e) = as_file g (Memᴰ.tail m) e

  plain_apart : (a : Lasting) (d : Durable) (c : State) (st : Store) (put : List ℕ) → Puts key quiet st put → Apart key a d → Apart key (with_sealings a (sealed_by c st put)) d
  unfolding with_sealings sealed_by
  plain_apart a d c S.Nothing put p h = h
  plain_apart a d c (S.W l k) put p h = h
  plain_apart a d c (S.V l k) put p h = h
  plain_apart a d c (S.R l k) put p h = h
  plain_apart a d c (S.E k) put p h = h
  plain_apart a d c (S.S k) put p h = h
  plain_apart a d c (S.N k) put p h = h
  plain_apart a d c (S.Record q) put p h = absurd p
  plain_apart a d c S.File put p h = absurd p
  plain_apart a d c (S.Delete q) put p h = h
  plain_apart a d c S.Empty put p h = h

  record_apart : (a : Lasting) (d : Durable) (c : State) (p : ℕ) (r : Opened) (put : List ℕ) → put ≡ bytes_of key r → Apart key a d
      → Apart key (with_sealings a (sealed_by c (S.Record p) put)) (known (out_record r) d)
  unfolding with_sealings sealed_by
  record_apart a d c p r put e h = record {
    vault = h.vault;
    book = h.book;
    card = h.card;
    out = λ b m. go b (Memᴰ.cases_cons m);
    out_record_law = λ x m. back x (Memᴰ.cases_cons m);
    out_file_law = λ f m. Memᴰ.tail (h.out_file_law f m);
  }
    where
      go : (b : List ℕ) → (b ≡ put) ⊎ Memᴰ b (bytes_in a.sealings) → Known key (r ∷ d.sealed) d.files b
      go b (inl q) = as_record r (Memᴰ.head refl) (q ∙ e)
      go b (inr m) = with_record_law r (h.out b m)

      back : (x : Opened) → (x ≡ r) ⊎ Memᴰ x d.sealed → Memᴰ (bytes_of key x) (put ∷ bytes_in a.sealings)
      back x (inl q) = Memᴰ.head (ap (bytes_of key) q ∙ sym e)
      back x (inr m) = Memᴰ.tail (h.out_record_law x m)

  file_apart : (a : Lasting) (d : Durable) (c : State) (f : OpenedFile) (put : List ℕ) → put ≡ file_of key f → Apart key a d
      → Apart key (with_sealings a (sealed_by c S.File put)) (known (out_file f) d)
  unfolding with_sealings sealed_by
  file_apart a d c f put e h = record {
    vault = h.vault;
    book = h.book;
    card = h.card;
    out = λ b m. go b (Memᴰ.cases_cons m);
    out_record_law = λ r m. Memᴰ.tail (h.out_record_law r m);
    out_file_law = λ x m. back x (Memᴰ.cases_cons m);
  }
    where
      go : (b : List ℕ) → (b ≡ put) ⊎ Memᴰ b (bytes_in a.sealings) → Known key d.sealed (f ∷ d.files) b
      go b (inl q) = as_file f (Memᴰ.head refl) (q ∙ e)
      go b (inr m) = with_file f (h.out b m)

      back : (x : OpenedFile) → (x ≡ f) ⊎ Memᴰ x d.files → Memᴰ (file_of key x) (put ∷ bytes_in a.sealings)
      back x (inl q) = Memᴰ.head (ap (file_of key) q ∙ sym e)
      back x (inr m) = Memᴰ.tail (h.out_file_law x m)

  pub apart_known : (a : Lasting) (d : Durable) (c : State) (o : Out) (st : Store) (put : List ℕ) → Puts key o st put → Apart key a d → Apart key (with_sealings a (sealed_by c st put)) (known o d)
  apart_known a d c quiet st put p h = plain_apart a d c st put p h
  apart_known a d c (out_record r) st put p h = subst (λ (x : Store). Apart key (with_sealings a (sealed_by c x put)) (known (out_record r) d)) (sym p.1) (record_apart a d c p.0 r put p.2 h)
  apart_known a d c (out_file f) st put p h = subst (λ (x : Store). Apart key (with_sealings a (sealed_by c x put)) (known (out_file f) d)) (sym p.0) (file_apart a d c f put p.1 h)

  -- ---- what a store does

  abbrev stored : Store → List ℕ → Lasting → Lasting
  stored st put a = done (record { store = st; bytes = put; adds = none }) a

  plain_done : (a : Lasting) (d : Durable) (st : Store) (put : List ℕ) → Puts key quiet st put → Apart key a d → Apart key (stored st put a) (carried st quiet d)
  unfolding done vault_after card_after book_after
  plain_done a d S.Nothing put p h = h
  plain_done a d (S.W l k) put p h = record { vault = ap (λ (x : Vault). set_w x l k) h.vault; book = h.book; card = h.card; out = h.out; out_record_law = h.out_record_law; out_file_law = h.out_file_law }
  plain_done a d (S.V l k) put p h = record { vault = ap (λ (x : Vault). set_v x l k) h.vault; book = h.book; card = h.card; out = h.out; out_record_law = h.out_record_law; out_file_law = h.out_file_law }
  plain_done a d (S.R l k) put p h = record { vault = ap (λ (x : Vault). set_r x l k) h.vault; book = h.book; card = h.card; out = h.out; out_record_law = h.out_record_law; out_file_law = h.out_file_law }
  plain_done a d (S.E k) put p h = record { vault = ap (λ (x : Vault). set_e x k) h.vault; book = h.book; card = h.card; out = h.out; out_record_law = h.out_record_law; out_file_law = h.out_file_law }
  plain_done a d (S.S k) put p h = record { vault = ap (λ (x : Vault). set_s x k) h.vault; book = h.book; card = h.card; out = h.out; out_record_law = h.out_record_law; out_file_law = h.out_file_law }
  plain_done a d (S.N k) put p h = record { vault = ap (λ (x : Vault). set_n x k) h.vault; book = h.book; card = h.card; out = h.out; out_record_law = h.out_record_law; out_file_law = h.out_file_law }
  plain_done a d (S.Record q) put p h = absurd p
  plain_done a d S.File put p h = absurd p
  plain_done a d (S.Delete q) put p h = record { vault = h.vault; book = h.book; card = record { records = ap (placed_from q) h.card.records ∙ placed_from_law key q d.spots; files = h.card.files; beginning = h.card.beginning }; out = h.out; out_record_law = h.out_record_law; out_file_law = h.out_file_law }
  plain_done a d S.Empty put p h = record { vault = h.vault; book = h.book; card = record { records = refl; files = h.card.files; beginning = refl }; out = h.out; out_record_law = h.out_record_law; out_file_law = h.out_file_law }

  record_done : (a : Lasting) (d : Durable) (p : ℕ) (r : Opened) (put : List ℕ) → put ≡ bytes_of key r → Apart key a d → Apart key (stored (S.Record p) put a) (carried (S.Record p) (out_record r) d)
  unfolding done vault_after card_after book_after
  record_done a d p r put e h = record {
    vault = h.vault;
    book = h.book;
    card = record {
      records = ap₂ (λ (xs : List Placed) (b : List ℕ). xs ++ (record { position = p; bytes = b } ∷ [])) h.card.records e ∙ sym (map_snoc (placed_of key) d.spots (record { position = p; rec = r }));
      files = h.card.files;
      beginning = h.card.beginning;
    };
    out = h.out;
    out_record_law = h.out_record_law;
    out_file_law = h.out_file_law;
  }

  file_done : (a : Lasting) (d : Durable) (f : OpenedFile) (put : List ℕ) → put ≡ file_of key f → Apart key a d → Apart key (stored S.File put a) (carried S.File (out_file f) d)
  unfolding done vault_after card_after book_after
  file_done a d f put e h = record {
    vault = h.vault;
    book = h.book;
    card = record {
      records = h.card.records;
      files = ap₂ (λ (xs : List (List ℕ)) (b : List ℕ). xs ++ (b ∷ [])) h.card.files e ∙ sym (map_snoc (file_of key) d.cards f);
      beginning = h.card.beginning;
    };
    out = h.out;
    out_record_law = h.out_record_law;
    out_file_law = h.out_file_law;
  }

  store_done : (a : Lasting) (d : Durable) (o : Out) (st : Store) (put : List ℕ) → Puts key o st put → Apart key a d → Apart key (stored st put a) (carried st o d)
  store_done a d quiet st put p h = plain_done a d st put p h
  store_done a d (out_record r) st put p h = subst (λ (x : Store). Apart key (stored x put a) (carried x (out_record r) d)) (sym p.1) (record_done a d p.0 r put p.2 h)
  store_done a d (out_file f) st put p h = subst (λ (x : Store). Apart key (stored x put a) (carried x (out_file f) d)) (sym p.0) (file_done a d f put p.1 h)

  -- and what it adds to the book
  pub apart_done : (a : Lasting) (d : Durable) (o : Out) (st : Store) (put : List ℕ) (adds : Option Opened) → Puts key o st put → Apart key a d
      → Apart key (done (record { store = st; bytes = put; adds = adds }) a) (booked_to adds (carried st o d))
  unfolding done book_after
  apart_done a d o st put none p h = store_done a d o st put p h
  apart_done a d o st put (some r) p h = let k = store_done a d o st put p h in
      record { vault = k.vault; book = ap (λ (x : List Opened). x ++ (r ∷ [])) k.book; card = k.card; out = k.out; out_record_law = k.out_record_law; out_file_law = k.out_file_law }

  -- ---- what a cut leaves of a store that is not done

  abbrev left : Store → List ℕ → Option Opened → Lasting → Lasting
  left st put adds a = broken (record { store = st; bytes = put; adds = adds }) a

  plain_cut : (a : Lasting) (d : Durable) (st : Store) (put : List ℕ) (adds : Option Opened) → Puts key quiet st put → Apart key a d → Apart key (left st put adds a) d
  unfolding broken card_cut
  plain_cut a d S.Nothing put adds p h = h
  plain_cut a d (S.W l k) put adds p h = h
  plain_cut a d (S.V l k) put adds p h = h
  plain_cut a d (S.R l k) put adds p h = h
  plain_cut a d (S.E k) put adds p h = h
  plain_cut a d (S.S k) put adds p h = h
  plain_cut a d (S.N k) put adds p h = h
  plain_cut a d (S.Record q) put adds p h = absurd p
  plain_cut a d S.File put adds p h = absurd p
  plain_cut a d (S.Delete q) put adds p h = h
  plain_cut a d S.Empty put adds p h = h

  record_cut : (a : Lasting) (d : Durable) (p : ℕ) (r : Opened) (put : List ℕ) (adds : Option Opened) → put ≡ bytes_of key r → Apart key a d → Apart key (left (S.Record p) put adds a) (cut_short (out_record r) d)
  unfolding broken card_cut
  record_cut a d p r put adds e h = record { vault = h.vault; book = h.book; card = record { records = h.card.records; files = h.card.files; beginning = e }; out = h.out; out_record_law = h.out_record_law; out_file_law = h.out_file_law }

  file_cut : (a : Lasting) (d : Durable) (put : List ℕ) (adds : Option Opened) → Apart key a d → Apart key (left S.File put adds a) d
  unfolding broken card_cut
  file_cut a d put adds h = h

  pub apart_cut : (a : Lasting) (d : Durable) (o : Out) (st : Store) (put : List ℕ) (adds : Option Opened) → Puts key o st put → Apart key a d → Apart key (left st put adds a) (cut_short o d)
  apart_cut a d quiet st put adds p h = plain_cut a d st put adds p h
  apart_cut a d (out_record r) st put adds p h = subst (λ (x : Store). Apart key (left x put adds a) (cut_short (out_record r) d)) (sym p.1) (record_cut a d p.0 r put adds p.2 h)
  apart_cut a d (out_file f) st put adds p h = subst (λ (x : Store). Apart key (left x put adds a) d) (sym p.0) (file_cut a d put adds h)

  -- ---- the log that a faithful card hands over
  pub faithful_log_law : (a : Lasting) (d : Durable) (k : ℕ) → Apart key a d → Rising d.spots → faithful_log a.card k ≡ laid_out key (recs_of d.spots) ++ take k (begun_bytes key d.begun)
  unfolding faithful_log
  faithful_log_law a d k h r = rw (h.card.records, h.card.beginning, in_order_law key d.spots r) (ap (λ (s : List ℕ). s ++ take k (begun_bytes key d.begun)) (end_to_end_law key d.spots))
