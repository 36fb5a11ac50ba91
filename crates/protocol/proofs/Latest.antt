-- A table as the latest of a set of records, in two halves. Sound: each reading in the table was written by a record of the set. Cover: where
-- a record of the set writes to a meter, the meter has a reading and the write is not later than it. The halves grow apart: a checkpoint, the
-- reading of a log and a covered point are all sound for the whole book, and cover it up to some counts of each lane (Upto); the table of a
-- collector in service covers all of it (Full).
-- A record that enters a table leaves the later of its write and what was there, so both halves stay and cover one record more. The order of
-- readings is used through its laws alone.
-- Assumes nothing.
use Prim.Native.Nat.{ℕ, ◌≤◌, ◌<◌}
use mathlib.Core.Path.{◌≡◌, refl, sym, ap, subst, ◌∙◌}
use mathlib.Core.Bool.{Bool, true, false, cond}
use mathlib.Core.Option.{Option, none, some}
use mathlib.Core.Logic.{◌⊎◌, inl, inr}
use mathlib.Core.List.Memᴰ
use mathlib.Core.List.{List, [], ◌∷◌, ◌++◌, Memᴰ}
use native.Mathlib.Omega.{arith}
use native.Mathlib.Decide.{dec_lt}
use lib.ListN.{set, length, get_or-eq_default}
use Rattle.octets.specs.Lists.{at}
use Rattle.transaction.specs.Transaction.{meters}
use Rattle.table.specs.declared.Entry.{Entry}
use Rattle.table.specs.declared.Table.{Table}
use Rattle.table.specs.Order.{later, latest}
use Rattle.table.specs.Table.{no_entry, entry_for, empty_table}
use Rattle.table.specs.Written.{newest}
use Rattle.table.specs.Canonical.{CanonicalTable}
use Rattle.table.proofs.OrderLaws.{later_irrefl, not_later_trans, latest_either, latest_absent, latest_top}
use Rattle.table.proofs.EnteredLaws.{length_entered, entered_at, written_times, entered_canonical, empty_at, empty_canonical}
use Rattle.sealed.specs.Record.{Opened}
use Rattle.protocol.proofs.Basis.{write, with_record, Writable}
use Rattle.protocol.proofs.Lanes.{Put, same, other, put}

-- ---- one meter

-- an entry with a reading; none where it has none
abbrev pub seen : Entry → Option Entry
seen e = cond e.present (some e) none

-- the entry of a meter, if it has a reading
abbrev pub cell : Table → ℕ → Option Entry
cell t m = seen (entry_for t m)

-- a is not later than b
abbrev pub Le : Entry → Entry → Type 0
Le a b = later a b ≡ false

-- an entry with a reading is seen
pub seen_here : (e : Entry) → e.present ≡ true → seen e ≡ some e
seen_here e p = rw p

-- what is seen of an entry is the entry, and it has a reading
seen_some : (c e : Entry) → seen c ≡ some e → (c ≡ e) × (c.present ≡ true)
seen_some c e h = go c.present refl h
  where
    go : (b : Bool) → c.present ≡ b → cond b (some c) none ≡ some e → (c ≡ e) × (c.present ≡ true)
    go true p h = (cc, p)
    go false p h = let z : ◌≡◌ {A = ℕ} 0 1 = cc in absurd (omega arith)

-- past the last meter there is no reading
cell_in : (t : Table) (m : ℕ) (e : Entry) → cell t m ≡ some e → m < length t.entries
cell_in t m e h = go (dec_lt m (length t.entries))
  where
    go : Dec (m < length t.entries) → m < length t.entries
    go (yes p) = p
    go (no p) =
        let q : length t.entries ≤ m = omega arith in
        let n : cell t m ≡ none = ap seen (get_or-eq_default t.entries no_entry q) in
        let z : ◌≡◌ {A = ℕ} 0 1 = cc in
        absurd (omega arith)

-- ---- one meter after a write to it, where o is the write

-- a reading that is left was written or was there
newest_some : (o : Option Entry) (old e : Entry) → seen (newest o old) ≡ some e → (o ≡ some e) ⊎ (seen old ≡ some e)
unfolding newest
newest_some none old e h = inr h
newest_some (some w) old e h = go (latest_either w old)
  where
    go : (latest w old ≡ w) ⊎ (latest w old ≡ old) → (some w ≡ some e) ⊎ (seen old ≡ some e)
    go (inl q) = inl (ap some (sym q ∙ (seen_some (latest w old) e h).0))
    go (inr q) = inr (ap seen (sym q) ∙ h)

-- an entry that is written has a reading
abbrev Real : Option Entry → Type 0
Real o = (e : Entry) → o ≡ some e → e.present ≡ true

-- the later of two readings is a reading
latest_here : (new old : Entry) → new.present ≡ true → old.present ≡ true → (latest new old).present ≡ true
latest_here new old p q = go (latest_either new old)
  where
    go : (latest new old ≡ new) ⊎ (latest new old ≡ old) → (latest new old).present ≡ true
    go (inl r) = ap (λ (x : Entry). x.present) r ∙ p
    go (inr r) = ap (λ (x : Entry). x.present) r ∙ q

-- what was there is not later than what is left
newest_old : (o : Option Entry) (old e : Entry) → Real o → seen old ≡ some e → (e' : Entry) × (seen (newest o old) ≡ some e') × Le e e'
unfolding newest
newest_old none old e w h = (e, h, later_irrefl e)
newest_old (some n) old e w h =
    let s = seen_some old e h in (
      latest n old,
      seen_here (latest n old) (latest_here n old (w n refl) s.1),
      subst (λ (x : Entry). Le x (latest n old)) s.0 (latest_top n old s.1).1,
    )

-- nor is the write
newest_new : (e old : Entry) → e.present ≡ true → (e' : Entry) × (seen (newest (some e) old) ≡ some e') × Le e e'
unfolding newest
newest_new e old pe = go old.present refl
  where
    go : (b : Bool) → old.present ≡ b → (e' : Entry) × (seen (latest e old) ≡ some e') × Le e e'
    go true p = (latest e old, seen_here (latest e old) (latest_here e old pe p), (latest_top e old p).0)
    go false p = (e, ap seen (latest_absent e old p) ∙ seen_here e pe, later_irrefl e)

-- ---- the two halves

-- each reading of the table was written by a record of the set
pub record Sound (t : Table) (P : Opened → Type 0) : Type 0 where
  pub src : (m : ℕ) (e : Entry) → cell t m ≡ some e → (r : Opened) × P r × (write r m ≡ some e)

-- no write of a record of the set is later than what the table has there
pub record Cover (t : Table) (P : Opened → Type 0) : Type 0 where
  pub top : (m : ℕ) (r : Opened) (e : Entry) → m < meters → P r → write r m ≡ some e → (e' : Entry) × (cell t m ≡ some e') × Le e e'

-- for a larger set, and for a smaller one
pub sound_mono : {t : Table} {P Q : Opened → Type 0} → ((r : Opened) → P r → Q r) → Sound t P → Sound t Q
sound_mono i s = record { src = λ m e h. let p = s.src m e h in (p.0, i p.0 p.1, p.2) }

pub cover_mono : {t : Table} {P Q : Opened → Type 0} → ((r : Opened) → Q r → P r) → Cover t P → Cover t Q
cover_mono i s = record { top = λ m r e lt q h. s.top m r e lt (i r q) h }

-- a meter after a record has entered
cell_with : (t : Table) (r : Opened) (m : ℕ) → Writable r → m < length t.entries → cell (with_record t r) m ≡ seen (newest (write r m) (entry_for t m))
cell_with t r m w h = ap seen (entered_at t r.text r.lane r.number m w.fine h)

-- what a record writes has a reading
write_real : (r : Opened) (m : ℕ) → Real (write r m)
write_real r m e q = (written_times r.text r.lane r.number m e q).here

-- a record of the set enters
pub sound_enter : (t : Table) (P : Opened → Type 0) (r : Opened) → Writable r → P r → Sound t P → Sound (with_record t r) P
sound_enter t P r w pr s = record {
  src = λ m e h. let lt = cell_in (with_record t r) m e h in
      let n = length_entered t r.text r.lane r.number in
      go m e (newest_some (write r m) (entry_for t m) e (sym (cell_with t r m w (omega arith)) ∙ h));
}
  where
    go : (m : ℕ) (e : Entry) → (write r m ≡ some e) ⊎ (cell t m ≡ some e) → (x : Opened) × P x × (write x m ≡ some e)
    go m e (inl h) = (r, pr, h)
    go m e (inr h) = s.src m e h

-- and is covered besides what was
pub cover_enter : (t : Table) (P Q : Opened → Type 0) (r : Opened) → Writable r → length t.entries ≡ meters → ((x : Opened) → Q x → P x ⊎ (x ≡ r))
    → Cover t P → Cover (with_record t r) Q
cover_enter t P Q r w long split s = record { top = λ m x e lt q h. go m x e lt h (split x q) }
  where
    go : (m : ℕ) (x : Opened) (e : Entry) → m < meters → write x m ≡ some e → P x ⊎ (x ≡ r) → (e' : Entry) × (cell (with_record t r) m ≡ some e') × Le e e'
    go m x e lt h (inl p) =
        let a = s.top m x e lt p h in
        let b = newest_old (write r m) (entry_for t m) a.0 (write_real r m) a.1 in
        (b.0, cell_with t r m w (omega arith) ∙ b.1, not_later_trans e a.0 b.0 a.2 b.2)
    go m x e lt h (inr p) =
        let v : write r m ≡ some e = rw p at h in
        let b = newest_new e (entry_for t m) (write_real r m e v) in
        (b.0, cell_with t r m w (omega arith) ∙ ap (λ (o : Option Entry). seen (newest o (entry_for t m))) v ∙ b.1, b.2)

-- the table stays canonical
pub canon_enter : (t : Table) (r : Opened) → Writable r → CanonicalTable t → CanonicalTable (with_record t r)
canon_enter t r w c = entered_canonical t r.text r.lane r.number w.fine w.bytes w.lane (omega (arith, w.number)) c

-- the empty table has no reading
sound_empty : (P : Opened → Type 0) → Sound empty_table P
sound_empty P = record { src = λ m e h. let n : cell empty_table m ≡ none = ap seen (empty_at m) in let z : ◌≡◌ {A = ℕ} 0 1 = cc in absurd (omega arith) }

-- any table covers a set without records
cover_none : (t : Table) (P : Opened → Type 0) → ((r : Opened) → P r → ⊥) → Cover t P
cover_none t P f = record { top = λ m r e lt p h. absurd (f r p) }

-- lane and number determine a record of the set
abbrev pub Single : (Opened → Type 0) → Type 0
Single P = (a b : Opened) → P a → P b → a.lane ≡ b.lane → a.number ≡ b.number → a ≡ b

-- ---- the latest of a book

-- a record of the book
abbrev pub In : List Opened → Opened → Type 0
In b r = Memᴰ r b

-- one whose number is not above the count of its lane
abbrev pub Part : List Opened → List ℕ → Opened → Type 0
Part b c r = In b r × (r.number ≤ at c r.lane)

-- t is the latest of the whole book
pub record Full (b : List Opened) (t : Table) : Type 0 where
  pub sound : Sound t (In b)
  pub cover : Cover t (In b)
  pub canon : CanonicalTable t

-- t has nothing but what is in the book, and all of it up to the counts c
pub record Upto (b : List Opened) (c : List ℕ) (t : Table) : Type 0 where
  pub sound : Sound t (In b)
  pub cover : Cover t (Part b c)
  pub canon : CanonicalTable t

-- the whole covers any counts
pub full_upto : {b : List Opened} {t : Table} (c : List ℕ) → Full b t → Upto b c t
full_upto c f = record { sound = f.sound; cover = cover_mono (λ r p. p.0) f.cover; canon = f.canon }

-- one record more, in the book and in the table
pub full_add : {b : List Opened} {t : Table} (y : Opened) → Writable y → Full b t → Full (b ++ (y ∷ [])) (with_record t y)
full_add {b} {t} y w f = record {
  sound = sound_enter t (In (b ++ (y ∷ []))) y w (Memᴰ.append_right b (Memᴰ.head refl)) (sound_mono (λ r m. Memᴰ.append_left (y ∷ []) m) f.sound);
  cover = cover_enter t (In b) (In (b ++ (y ∷ []))) y w f.canon.long (λ x m. go x (Memᴰ.append_cases b m)) f.cover;
  canon = canon_enter t y w f.canon;
}
  where
    go : (x : Opened) → Memᴰ x b ⊎ Memᴰ x (y ∷ []) → In b x ⊎ (x ≡ y)
    go x (inl m) = inl m
    go x (inr m) = inr (Memᴰ.eq_of_singleton m)

-- one record more in the book alone, above the counts
pub upto_add : {b : List Opened} {c : List ℕ} {t : Table} (y : Opened) → at c y.lane < y.number → Upto b c t → Upto (b ++ (y ∷ [])) c t
upto_add {b} {c} {t} y h u = record {
  sound = sound_mono (λ r m. Memᴰ.append_left (y ∷ []) m) u.sound;
  cover = cover_mono (λ r p. go r p.1 (Memᴰ.append_cases b p.0)) u.cover;
  canon = u.canon;
}
  where
    go : (r : Opened) → r.number ≤ at c r.lane → Memᴰ r b ⊎ Memᴰ r (y ∷ []) → Part b c r
    go r n (inl m) = (m, n)
    go r n (inr m) = let e = Memᴰ.eq_of_singleton m in let z : y.number ≤ at c y.lane = rw e at n in absurd (omega arith)

-- the count of one lane taken from other counts up to which the table has the book
pub upto_set : {b : List Opened} {r c : List ℕ} {t : Table} (l : ℕ) → l < length r → Upto b r t → Upto b c t → Upto b (set r l (at c l)) t
upto_set {b} {r} {c} {t} l h u v = record {
  sound = u.sound;
  cover = record { top = λ m x e lt p q. go m x e lt p.0 p.1 q (put r l (at c l) h x.lane) };
  canon = u.canon;
}
  where
    go : (m : ℕ) (x : Opened) (e : Entry) → m < meters → In b x → x.number ≤ at (set r l (at c l)) x.lane → write x m ≡ some e → Put r l (at c l) x.lane
        → (e' : Entry) × (cell t m ≡ some e') × Le e e'
    go m x e lt i n q (other a s) = u.cover.top m x e lt (i, omega arith) q
    go m x e lt i n q (same a s) = v.cover.top m x e lt (i, let z : at c x.lane ≡ at c l = ap (at c) a in omega arith) q

-- the empty table is the latest of the empty book
pub full_empty : Full [] empty_table
full_empty = record { sound = sound_empty (In []); cover = cover_none empty_table (In []) (λ r m. Memᴰ.not-nil m); canon = empty_canonical }

-- up to any counts
pub upto_empty : (c : List ℕ) → Upto [] c empty_table
upto_empty c = full_upto c full_empty
