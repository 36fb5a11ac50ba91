-- A checkpoint file as it is laid out and as it is read; its length, and that what was sealed opens.
-- Assumes nothing.
use mathlib.Core.Path.{◌≡◌, refl, sym, ap, ap₂, ◌∙◌}
use mathlib.Core.Bool.{Bool, true, false, cond, ◌&&◌}
use mathlib.Core.List.{List, [], ◌∷◌, ◌++◌, append_assoc, append-nil}
use mathlib.Core.Option.{Option, some, none}
use Rattle.std.specs.Prelude as Code
use Rattle.std.specs.List.{starts_with}
use Rattle.std.specs.Bool.{OnTrue}
use Rattle.std.specs.Prelude.{Result, Ok, Err}
use Prim.Native.Nat.{ℕ, ◌+◌, ◌-◌, ◌^◌, ◌<◌, ◌≤◌}
use native.Mathlib.Nat.{le_of_eq}
use native.Mathlib.Omega.{arith}
use borrow.Author.Tests.{eq-eqb, ne_eqb, eqb-true, eqb-false, lt-ltb, le-ltb}
use borrow.Rule.Slice.PartMut.{mid_of}
use lib.Dec.{leb, eqb}
use lib.ListN.{length, take, drop, length-append, length-drop, drop_of_length-le}
use lib.Seq.{drop_at, length-take-le}
use Rattle.octets.specs.Lists.{at, tab, put_over}
use Rattle.octets.specs.Bytes.{padded, same_bytes}
use Rattle.octets.specs.Little.{little, little_bytes}
use Rattle.octets.proofs.BoolLaws.{and_left, and_true}
use Rattle.octets.proofs.LittleLaws.{length_little, little_fits}
use Rattle.octets.proofs.PartLaws.{mid_rest}
use Rattle.aes.specs.Cipher.{cipher}
use Rattle.aes.proofs.CounterLaws.{cipher_length}
use Rattle.ghash.specs.Multiples.{product_by}
use Rattle.gcm.specs.Gcm.{tag_len, only_if, tag_of, cipher_text, opened}
use Rattle.gcm.specs.Answers.{text_put}
use Rattle.gcm.specs.Key.{prepared}
use Rattle.gcm.proofs.SealLaws.{length_cipher_text}
use Rattle.table.specs.declared.Table.{Table}
use Rattle.table.specs.Canonical.{CanonicalTable}
use Rattle.table.specs.TableText.{table_len, table_text, is_table, table_from}
use Rattle.table.proofs.TextLaws.{length_table}
use Rattle.table.proofs.RoundTrip.{text_is_table, table_back}
use Rattle.sealed.specs.Aead.{Aead, aes_gcm, gcm_by, prepared_by}
use Rattle.sealed.specs.Frame.{head_len, trailer_len, frame_len, framed, unframed, trailer_of, is_some}
use Rattle.sealed.specs.Checkpoint.{file_len, file_kind, file_head, file_nonce, file_bytes, file_answer, file_put, version_of, seal_of, legal_file, OpenedFile, opened_table, open_file, shown_file}
use Rattle.sealed.specs.declared.file.FileRead.{FileRead}
use Rattle.sealed.specs.declared.file.Short.{Short}
use Rattle.sealed.proofs.FrameTrip.{Grows, Opens, aes_grows, aes_opens, length_framed, frame_trip, prepared_framed, prepared_unframed}

-- ---- the head

-- its bytes, one after the other
abbrev head_laid : List ℕ → List ℕ → List ℕ
head_laid v i = file_kind ∷ 0 ∷ 0 ∷ 0 ∷ (tab 8 (at v) ++ tab 8 (at i))

pub head_laid_law : (version seal : ℕ) {v i : List ℕ} → v ≡ little_bytes 8 version → i ≡ little_bytes 8 seal → head_laid v i ≡ file_head version seal
unfolding little_bytes file_head
head_laid_law version seal ev ei = ap₂ head_laid ev ei

pub length_head : (version seal : ℕ) → length (file_head version seal) ≡ head_len
unfolding file_head
length_head version seal =
    let v = length_little 8 version in
    let i = length_little 8 seal in
    let l = length-append (little_bytes 8 version) (little_bytes 8 seal) in
    omega arith

-- ---- whether bytes may be a file

eqb_comm : (m n : ℕ) → eqb m n ≡ eqb n m
eqb_comm m n = go (eqb m n) refl
  where
    go : (b : Bool) → eqb m n ≡ b → eqb m n ≡ eqb n m
    go true e = e ∙ sym (eq-eqb n m (sym (eqb-true m n e)))
    go false e = e ∙ sym (ne_eqb n m (λ q. eqb-false m n e (sym q)))

five : (p a b c d : Bool) → p && (a && (b && (c && (d && true)))) ≡ p && a && b && c && d
five false a b c d = refl
five true false b c d = refl
five true true false c d = refl
five true true true false d = refl
five true true true true d = and_true d

-- the length, and the four bytes that a file starts with
pub file_starts : (s : List ℕ) → eqb (length s) file_len && starts_with eqb s (2 ∷ 0 ∷ 0 ∷ 0 ∷ []) ≡ legal_file s
unfolding legal_file
file_starts [] = refl
file_starts (a ∷ []) = refl
file_starts (a ∷ b ∷ []) = refl
file_starts (a ∷ b ∷ c ∷ []) = refl
file_starts (a ∷ b ∷ c ∷ d ∷ s) = rw (eqb_comm 2 a, eqb_comm 0 b, eqb_comm 0 c, eqb_comm 0 d) (five (eqb (length (a ∷ b ∷ c ∷ d ∷ s)) file_len) (eqb a 2) (eqb b 0) (eqb c 0) (eqb d 0))

-- bytes that pass a test of their length are that long
pub of_length : (n k : ℕ) (b : Bool) → OnTrue (eqb n k && b) (n ≡ k)
of_length n k b = go (eqb n k) refl b
  where
    go : (p : Bool) → eqb n k ≡ p → (b : Bool) → OnTrue (p && b) (n ≡ k)
    go true e true = eqb-true n k e
    go true e false = tt
    go false e b = tt

pub file_bytes_law : (s : List ℕ) → length s ≡ file_len → legal_file s ≡ eqb (at s 0) file_kind && eqb (at s 1) 0 && eqb (at s 2) 0 && eqb (at s 3) 0
unfolding legal_file
file_bytes_law s l = rw (eq-eqb (length s) file_len l)

pub legal_length : (s : List ℕ) → legal_file s ≡ true → length s ≡ file_len
unfolding legal_file
legal_length s e =
    let p = eqb (length s) file_len in
    let a = eqb (at s 0) file_kind in
    let b = eqb (at s 1) 0 in
    let d = eqb (at s 2) 0 in
    eqb-true (length s) file_len (and_left p a (and_left (p && a) b (and_left (p && a && b) d (and_left (p && a && b && d) (eqb (at s 3) 0) e))))

-- ---- sealing: the answer and the buffer

module _ (o f : List ℕ) where
  pub file_short : length o < file_len → (◌≡◌ {A = Result ℕ Short} (Err (record { needed = file_len })) (file_answer (length o))) × (o ≡ put_over (file_put (file_answer (length o)) f) o)
  unfolding file_answer file_put
  file_short h = (rw (lt-ltb (length o) file_len h), rw (lt-ltb (length o) file_len h))

  pub file_done : {r : List ℕ} → file_len ≤ length o → r ≡ put_over f o → (◌≡◌ {A = Result ℕ Short} (Ok file_len) (file_answer (length o))) × (r ≡ put_over (file_put (file_answer (length o)) f) o)
  unfolding file_answer file_put
  file_done h e = (rw (le-ltb (length o) file_len h), rw (le-ltb (length o) file_len h) e)

-- ---- opening

only_some : (b : Bool) (x p : List ℕ) → only_if b x ≡ some p → x ≡ p
unfolding only_if
only_some true x p e = cc
only_some false x p e = let z : ◌≡◌ {A = ℕ} 0 1 = cc in absurd (omega arith)

cond_some : (b : Bool) (x : Option (List ℕ)) (p : List ℕ) → cond b x none ≡ some p → x ≡ some p
cond_some true x p e = e
cond_some false x p e = let z : ◌≡◌ {A = ℕ} 0 1 = cc in absurd (omega arith)

text_of : (u : Option (List ℕ)) → is_some u ≡ true → u ≡ some (text_put u)
unfolding text_put
text_of (some p) e = refl
text_of none e = let z : ◌≡◌ {A = ℕ} 0 1 = cc in absurd (omega arith)

none_of : (u : Option (List ℕ)) → is_some u ≡ false → u ≡ none
none_of (some p) e = let z : ◌≡◌ {A = ℕ} 0 1 = cc in absurd (omega arith)
none_of none e = refl

module _ (w m : List ℕ) where
  opened_length : (iv a c t p : List ℕ) → opened (cipher w) (product_by m) iv a c t ≡ some p → length p ≡ length c
  unfolding opened
  opened_length iv a c t p e =
      sym (ap length (only_some (same_bytes t (tag_of (cipher w) (product_by m) iv a c)) (cipher_text (cipher w) iv c) p e))
      ∙ length_cipher_text (cipher w) (λ b. le_of_eq (sym (cipher_length w b))) (product_by m) iv c

  -- a text that comes out of a frame is shorter by what the frame adds
  pub unframed_length : (nonce s p : List ℕ) → unframed (prepared_by w m) nonce s ≡ some p → length p ≡ length s - frame_len
  unfolding unframed gcm_by
  unframed_length nonce s p e =
      let c = take (length s - frame_len) (drop head_len s) in
      let o = cond_some (leb frame_len (length s) && eqb (trailer_of s) (length s)) _ p e in
      let lc : length c ≡ length s - frame_len = length-take-le (length s - frame_len) (drop head_len s) (simp length-drop (omega arith)) in
      opened_length nonce (take head_len s) c (take tag_len (drop (length s - frame_len) (drop head_len s))) p o ∙ lc

  -- what stands in a buffer of a table's length is all of the text
  pub text_got : (nonce s z t : List ℕ) → length s ≡ file_len → length z ≡ table_len → is_some (unframed (prepared_by w m) nonce s) ≡ true
      → t ≡ put_over (text_put (unframed (prepared_by w m) nonce s)) z → unframed (prepared_by w m) nonce s ≡ some t
  text_got nonce s z t ls lz q e =
      let u = unframed (prepared_by w m) nonce s in
      let p = text_put u in
      let is_p : u ≡ some p = text_of u q in
      let lp = unframed_length nonce s p is_p in
      let rest : drop (length p) z ≡ [] = drop_of_length-le z {i = length p} (omega arith) in
      let et : t ≡ p = e ∙ ap (λ (r : List ℕ). p ++ r) rest ∙ append-nil p in
      is_p ∙ ap some (sym et)

module _ (a : Aead) (s : List ℕ) where
  pub open_illegal : legal_file s ≡ false → open_file a s ≡ none
  unfolding open_file
  open_illegal e = rw e

  pub open_shut : legal_file s ≡ true → is_some (unframed a (file_nonce (seal_of s)) s) ≡ false → open_file a s ≡ none
  unfolding open_file opened_table
  open_shut e q = rw (e, none_of (unframed a (file_nonce (seal_of s)) s) q)

  open_text : (t : List ℕ) → legal_file s ≡ true → unframed a (file_nonce (seal_of s)) s ≡ some t
      → open_file a s ≡ cond (is_table t) (some (record { version = version_of s; seal = seal_of s; table = table_from t })) none
  unfolding open_file opened_table
  open_text t e q = rw (e, q)

  pub open_other : (t : List ℕ) → legal_file s ≡ true → unframed a (file_nonce (seal_of s)) s ≡ some t → is_table t ≡ false → open_file a s ≡ none
  open_other t e q w = open_text t e q ∙ rw w

  pub open_opens : (t : List ℕ) → legal_file s ≡ true → unframed a (file_nonce (seal_of s)) s ≡ some t → is_table t ≡ true
      → open_file a s ≡ some (record { version = version_of s; seal = seal_of s; table = table_from t })
  open_opens t e q w = open_text t e q ∙ rw w

closed : {o : Option OpenedFile} → o ≡ none → Code.None ≡ shown_file o
unfolding shown_file
closed e = ap shown_file (sym e)

-- as the code reads
module _ (w m s : List ℕ) where
  pub read_illegal : legal_file s ≡ false → Code.None ≡ shown_file (open_file (prepared_by w m) s)
  read_illegal h = closed (open_illegal (prepared_by w m) s h)

  module _ (is_legal : legal_file s ≡ true) {n : ℕ} (es : n ≡ little (padded 8 (mid_of 12 (length s - 12) s))) {nonce : List ℕ} (en : nonce ≡ file_nonce n) where
    seal_is : n ≡ seal_of s
    unfolding seal_of
    seal_is = es ∙ ap (λ (l : List ℕ). little (padded 8 l)) (mid_rest 12 s)

    nonce_is : nonce ≡ file_nonce (seal_of s)
    nonce_is = en ∙ ap file_nonce seal_is

    under : unframed (prepared_by w m) (file_nonce (seal_of s)) s ≡ unframed (prepared_by w m) nonce s
    under = ap (λ (l : List ℕ). unframed (prepared_by w m) l s) (sym nonce_is)

    pub read_shut : is_some (unframed (prepared_by w m) nonce s) ≡ false → Code.None ≡ shown_file (open_file (prepared_by w m) s)
    read_shut h = closed (open_shut (prepared_by w m) s is_legal (ap is_some under ∙ h))

    module _ (opens : is_some (unframed (prepared_by w m) nonce s) ≡ true) (z : List ℕ) {t : List ℕ} (lz : length z ≡ table_len)
        (et : t ≡ put_over (text_put (unframed (prepared_by w m) nonce s)) z) where
      got : unframed (prepared_by w m) (file_nonce (seal_of s)) s ≡ some t
      got = under ∙ text_got w m nonce s z t (legal_length s is_legal) lz opens et

      pub read_other : is_table t ≡ false → Code.None ≡ shown_file (open_file (prepared_by w m) s)
      read_other h = closed (open_other (prepared_by w m) s t is_legal got h)

      pub read_opens : is_table t ≡ true → {v : ℕ} {x : Table} → v ≡ little (padded 8 (mid_of 4 (length s - 4) s)) → x ≡ table_from t
          → ◌≡◌ {A = Code.Option FileRead} (Code.Some (record { version = v; seal = n; table = x })) (shown_file (open_file (prepared_by w m) s))
      unfolding shown_file version_of
      read_opens h {v} {x} ev ex =
          let f : Table → Code.Option FileRead = λ y. Code.Some (record { version = v; seal = n; table = y }) in
          let g : ℕ → ℕ → Code.Option FileRead = λ x y. Code.Some (record { version = x; seal = y; table = table_from t }) in
          ap f ex ∙ ap₂ g (ev ∙ ap (λ (l : List ℕ). little (padded 8 l)) (mid_rest 4 s)) seal_is
          ∙ sym (ap shown_file (open_opens (prepared_by w m) s t is_legal got h))

-- ---- as it is handed over

pub shown_file_some : (o : Option OpenedFile) (x : FileRead) → Code.Some x ≡ shown_file o → o ≡ some (record { version = x.version; seal = x.seal; table = x.table })
unfolding shown_file
shown_file_some none x e = let z : ◌≡◌ {A = ℕ} 0 1 = cc in absurd (omega arith)
shown_file_some (some r) x e = let v : r.version ≡ x.version = cc in let n : r.seal ≡ x.seal = cc in let t : r.table ≡ x.table = cc in λ i. some (record { version = v i; seal = n i; table = t i })

pub shown_file_none : (o : Option OpenedFile) → Code.None ≡ shown_file o → o ≡ none
unfolding shown_file
shown_file_none none e = refl
shown_file_none (some r) e = let z : ◌≡◌ {A = ℕ} 0 1 = cc in absurd (omega arith)

-- ---- what was sealed opens

padded_front : (x y : List ℕ) → padded (length x) (x ++ y) ≡ x
unfolding padded
padded_front [] y = refl
padded_front (z ∷ x) y = ap (λ (t : List ℕ). z ∷ t) (padded_front x y)

pub number_front : (k n : ℕ) (y : List ℕ) → n < 256 ^ k → little (padded k (little_bytes k n ++ y)) ≡ n
number_front k n y h =
    ap (λ (i : ℕ). little (padded i (little_bytes k n ++ y))) (sym (length_little k n))
    ∙ ap little (padded_front (little_bytes k n) y) ∙ little_fits k n h

module _ (a : Aead) (version seal : ℕ) (t : Table) where
  rest : List ℕ
  rest = a.enc (file_nonce seal) (file_head version seal) (table_text t) ++ little_bytes trailer_len (length (table_text t) + frame_len)

  file_laid : file_bytes a version seal t ≡ file_kind ∷ 0 ∷ 0 ∷ 0 ∷ (little_bytes 8 version ++ (little_bytes 8 seal ++ rest))
  unfolding file_bytes framed file_head rest
  file_laid = ap (λ (l : List ℕ). file_kind ∷ 0 ∷ 0 ∷ 0 ∷ l) (append_assoc (little_bytes 8 version) (little_bytes 8 seal) _)

  -- a file shows its version and its seal number, whatever its table
  pub version_is : version < 2 ^ 64 → version_of (file_bytes a version seal t) ≡ version
  unfolding version_of
  version_is h =
      ap (λ (l : List ℕ). little (padded 8 (drop 4 l))) file_laid ∙ number_front 8 version (little_bytes 8 seal ++ rest) h

  seal_shown : seal < 2 ^ 64 → seal_of (file_bytes a version seal t) ≡ seal
  unfolding seal_of
  seal_shown h =
      ap (λ (l : List ℕ). little (padded 8 (drop 12 l))) file_laid
      ∙ ap (λ (l : List ℕ). little (padded 8 l)) (drop_at (little_bytes 8 version) (little_bytes 8 seal ++ rest) 8 (length_little 8 version))
      ∙ number_front 8 seal rest h

module _ (a : Aead) (grows : Grows a) (version seal : ℕ) (t : Table) (canonical : CanonicalTable t) where
  pub length_file_by : length (file_bytes a version seal t) ≡ file_len
  unfolding file_bytes
  length_file_by =
      let l = length_table t canonical.long in
      length_framed a grows (file_nonce seal) (file_head version seal) (table_text t) (length_head version seal) ∙ omega arith

  file_legal : legal_file (file_bytes a version seal t) ≡ true
  file_legal =
      let s = file_bytes a version seal t in
      file_bytes_law s length_file_by ∙ ap (λ (l : List ℕ). eqb (at l 0) file_kind && eqb (at l 1) 0 && eqb (at l 2) 0 && eqb (at l 3) 0) (file_laid a version seal t)

  file_unframed : Opens a → unframed a (file_nonce seal) (file_bytes a version seal t) ≡ some (table_text t)
  unfolding file_bytes
  file_unframed opens =
      let l = length_table t canonical.long in
      frame_trip a grows (file_nonce seal) (file_head version seal) (table_text t) (length_head version seal) opens (omega arith)

  pub file_opens_by : Opens a → version < 2 ^ 64 → seal < 2 ^ 64 → open_file a (file_bytes a version seal t) ≡ some (record { version = version; seal = seal; table = t })
  file_opens_by opens hv hs =
      let s = file_bytes a version seal t in
      let es : seal_of s ≡ seal = seal_shown a version seal t hs in
      let u : unframed a (file_nonce (seal_of s)) s ≡ some (table_text t) = ap (λ (n : ℕ). unframed a (file_nonce n) s) es ∙ file_unframed opens in
      open_opens a s (table_text t) file_legal u (text_is_table t canonical)
      ∙ ap₂ (λ (v n : ℕ). some (record { version = v; seal = n; table = table_from (table_text t) })) (version_is a version seal t hv) es
      ∙ ap (λ (b : Table). some (record { version = version; seal = seal; table = b })) (table_back t canonical)

-- AES-128-GCM
pub length_file : (key : List ℕ) (version seal : ℕ) (t : Table) → CanonicalTable t → length (file_bytes (aes_gcm key) version seal t) ≡ file_len
length_file key = length_file_by (aes_gcm key) (aes_grows key)

pub file_opens : (key : List ℕ) (version seal : ℕ) (t : Table) → version < 2 ^ 64 → seal < 2 ^ 64 → CanonicalTable t
    → open_file (aes_gcm key) (file_bytes (aes_gcm key) version seal t) ≡ some (record { version = version; seal = seal; table = t })
file_opens key version seal t hv hs canonical = file_opens_by (aes_gcm key) (aes_grows key) version seal t canonical (aes_opens key) hv hs

-- ---- a prepared key

pub prepared_file : (key s : List ℕ) → open_file (prepared_by (prepared key).schedule (prepared key).multiples) s ≡ open_file (aes_gcm key) s
unfolding open_file
prepared_file key s = ap (λ (p : Option (List ℕ)). cond (legal_file s) (opened_table s p) none) (prepared_unframed key (file_nonce (seal_of s)) s)

pub prepared_file_bytes : (key : List ℕ) (version seal : ℕ) (t : Table)
    → file_bytes (prepared_by (prepared key).schedule (prepared key).multiples) version seal t ≡ file_bytes (aes_gcm key) version seal t
unfolding file_bytes
prepared_file_bytes key version seal t = prepared_framed key (file_nonce seal) (file_head version seal) (table_text t)
