-- How each invariant takes each store: what it still says where one vault number rises, a record or a file was put out, a record becomes
-- visible, or the card changes.
-- Assumes nothing.
use Prim.Native.Nat.{ℕ, suc, ◌+◌, ◌≤◌, ◌<◌, ◌*◌}
use mathlib.Core.Path.{◌≡◌, refl, sym, ap, subst, ◌∙◌}
use mathlib.Core.Option.{Option, none, some}
use mathlib.Core.Logic.{◌⊎◌, inl, inr}
use mathlib.Core.List.Memᴰ
use mathlib.Core.List.{List, [], ◌∷◌, ◌++◌, Memᴰ}
use native.Mathlib.Omega.{arith}
use native.Mathlib.Decide.{ℕ_discrete, dec_le}
use lib.ListN.{set, length, length-set}
use Rattle.octets.specs.Lists.{at}
use Rattle.table.specs.Table.{lanes}
use Rattle.sealed.specs.Record.{Opened}
use Rattle.sealed.specs.Checkpoint.{OpenedFile}
use Rattle.protocol.specs.States.{listed, points_max}
use Rattle.protocol.specs.Vaults.{counter_max}
use Rattle.protocol.proofs.Basis.{Passed, Writable, FileWritable}
use Rattle.protocol.proofs.VaultLaws.{LaneFine}
use Rattle.protocol.proofs.Lanes.{Put, same, other, put}
use Rattle.protocol.proofs.Latest.{In, Full, Upto, full_upto, upto_add}
use Rattle.protocol.proofs.Card.{Spot}
use Rattle.protocol.proofs.Invariant.{FileIn, Lanes, SealedOnce, Booked, Filed, Carded, CardFiled, HasNext, Stale, Caught}

-- lanes
pub lanes_w : {w v r : List ℕ} (l : ℕ) → l < lanes → at w l < counter_max → ((k : ℕ) → at r k ≤ at v k) → Lanes w v r → Lanes (set w l (suc (at w l))) v r
lanes_w {w} {v} {r} l h lt o d = record { wlen = length-set w l _ ∙ d.wlen; vlen = d.vlen; rlen = d.rlen; lane = λ k. go k (d.lane k) (o k) (put w l (suc (at w l)) (omega (arith, d.wlen)) k) }
  where
    go : (k : ℕ) → LaneFine (at w k) (at v k) (at r k) → at r k ≤ at v k → Put w l (suc (at w l)) k → LaneFine (at (set w l (suc (at w l))) k) (at v k) (at r k)
    go k a o (same e q) = let z : at w k ≡ at w l = ap (at w) e in record { most = omega arith; seen = omega arith; gone = omega arith; past = inl o }
    go k a o (other n q) = rw q a

pub lanes_v : {w v r : List ℕ} (l x : ℕ) → l < lanes → x ≤ at w l → (at r l ≤ x) ⊎ (at w l ≤ at r l) → Lanes w v r → Lanes w (set v l x) r
lanes_v {w} {v} {r} l x h lt o d = record { wlen = d.wlen; vlen = length-set v l x ∙ d.vlen; rlen = d.rlen; lane = λ k. go k (d.lane k) o (put v l x (omega (arith, d.vlen)) k) }
  where
    go : (k : ℕ) → LaneFine (at w k) (at v k) (at r k) → (at r l ≤ x) ⊎ (at w l ≤ at r l) → Put v l x k → LaneFine (at w k) (at (set v l x) k) (at r k)
    go k a o (other n q) = rw q a
    go k a (inl o) (same e q) = let z : at w k ≡ at w l = ap (at w) e in let y : at r k ≡ at r l = ap (at r) e in record { most = omega arith; seen = omega arith; gone = omega arith; past = inl (omega arith) }
    go k a (inr o) (same e q) = let z : at w k ≡ at w l = ap (at w) e in let y : at r k ≡ at r l = ap (at r) e in record { most = omega arith; seen = omega arith; gone = omega arith; past = inr (omega arith) }

pub lanes_r : {w v r : List ℕ} (l x : ℕ) → l < lanes → x ≤ at w l → (x ≤ at v l) ⊎ (at w l ≤ x) → Lanes w v r → Lanes w v (set r l x)
lanes_r {w} {v} {r} l x h lt o d = record { wlen = d.wlen; vlen = d.vlen; rlen = length-set r l x ∙ d.rlen; lane = λ k. go k (d.lane k) o (put r l x (omega (arith, d.rlen)) k) }
  where
    go : (k : ℕ) → LaneFine (at w k) (at v k) (at r k) → (x ≤ at v l) ⊎ (at w l ≤ x) → Put r l x k → LaneFine (at w k) (at v k) (at (set r l x) k)
    go k a o (other n q) = rw q a
    go k a (inl o) (same e q) = let z : at w k ≡ at w l = ap (at w) e in let y : at v k ≡ at v l = ap (at v) e in record { most = omega arith; seen = omega arith; gone = omega arith; past = inl (omega arith) }
    go k a (inr o) (same e q) = let z : at w k ≡ at w l = ap (at w) e in let y : at v k ≡ at v l = ap (at v) e in record { most = omega arith; seen = omega arith; gone = omega arith; past = inr (omega arith) }

-- an array that a store raises
abbrev pub Up : List ℕ → List ℕ → Type 0
Up a b = (l : ℕ) → at a l ≤ at b l

pub up_set : (a : List ℕ) (l x : ℕ) → l < length a → at a l ≤ x → Up a (set a l x)
up_set a l x h le k = go (put a l x h k)
  where
    go : Put a l x k → at a k ≤ at (set a l x) k
    go (same e q) = let z : at a k ≡ at a l = ap (at a) e in omega arith
    go (other n q) = omega arith

pub sealed_w : {w w' : List ℕ} {s : List Opened} → Up w w' → SealedOnce w s → SealedOnce w' s
sealed_w u d = record { small = λ r m. let a = d.small r m in let b = u r.lane in omega arith; fine = d.fine; single = d.single }

pub sealed_add : {w : List ℕ} {s : List Opened} (r : Opened) → r.number ≤ at w r.lane → Writable r
    → ((y : Opened) → In s y → y.lane ≡ r.lane → y.number < r.number) → SealedOnce w s → SealedOnce w (r ∷ s)
sealed_add {w} {s} r n t new d = record {
  small = λ y m. sm y (Memᴰ.cases_cons m);
  fine = λ y m. fi y (Memᴰ.cases_cons m);
  single = λ a b m n. si a b (Memᴰ.cases_cons m) (Memᴰ.cases_cons n);
}
  where
    sm : (y : Opened) → (y ≡ r) ⊎ In s y → y.number ≤ at w y.lane
    sm y (inl e) = rw e n
    sm y (inr m) = d.small y m

    fi : (y : Opened) → (y ≡ r) ⊎ In s y → Writable y
    fi y (inl e) = rw e t
    fi y (inr m) = d.fine y m

    si : (a b : Opened) → (a ≡ r) ⊎ In s a → (b ≡ r) ⊎ In s b → a.lane ≡ b.lane → a.number ≡ b.number → a ≡ b
    si a b (inl e) (inl f) p q = e ∙ sym f
    si a b (inl e) (inr m) p q = let z = new b m (sym p ∙ ap (λ (y : Opened). y.lane) e) in let y = ap (λ (y : Opened). y.number) e in absurd (omega arith)
    si a b (inr m) (inl f) p q = let z = new a m (p ∙ ap (λ (y : Opened). y.lane) f) in let y = ap (λ (y : Opened). y.number) f in absurd (omega arith)
    si a b (inr m) (inr n) p q = d.single a b m n p q

pub book_sealed : {v r : List ℕ} {e : ℕ} {s : List Opened} {b : List Opened} (y : Opened) → Booked v r e s b → Booked v r e (y ∷ s) b
book_sealed y d = record { known = λ x m. Memᴰ.tail (d.known x m); seen = d.seen; whole = d.whole }

pub book_r : {v r r' : List ℕ} {e : ℕ} {s : List Opened} {b : List Opened} → Up r r' → Booked v r e s b → Booked v r' e s b
book_r u d = record { known = d.known; seen = d.seen; whole = λ l n p q. d.whole l n (let z = u l in omega arith) q }

-- D.Nothing lies above R: V and E are free
pub book_free : {v v' r : List ℕ} {e : ℕ} (e' : ℕ) {s : List Opened} {b : List Opened} → Up v v' → ((l : ℕ) → at v' l ≤ at r l) → Booked v r e s b → Booked v' r e' s b
book_free e' u f d = record { known = d.known; seen = λ x m. let a = d.seen x m in let b = u x.lane in omega arith; whole = λ l n p q. absurd (let z = f l in omega arith) }

-- one more record becomes visible
pub book_add : {v r : List ℕ} {e : ℕ} {s : List Opened} {b : List Opened} (y : Opened) → length v ≡ lanes → y.lane < lanes → In s y → y.epoch ≡ e → y.number ≡ suc (at v y.lane) → Booked v r e s b
    → Booked (set v y.lane y.number) r e s (b ++ (y ∷ []))
book_add {v} {r} {e} {s} {b} y vl ln m ep n d =
    let h : y.lane < length v = omega arith in
    let u = up_set v y.lane y.number h (omega arith) in
    record { known = λ x k. kn x (Memᴰ.append_cases b k); seen = λ x k. se x u h (Memᴰ.append_cases b k); whole = λ l i p q. wh l i p q (put v y.lane y.number h l) }
  where
    kn : (x : Opened) → Memᴰ x b ⊎ Memᴰ x (y ∷ []) → In s x
    kn x (inl k) = d.known x k
    kn x (inr k) = rw (Memᴰ.eq_of_singleton k) m

    is_top : (x : Opened) → x ≡ y → Put v y.lane y.number x.lane → x.number ≤ at (set v y.lane y.number) x.lane
    is_top x e (same p q) = let z = ap (λ (i : Opened). i.number) e in omega arith
    is_top x e (other p q) = absurd (p (ap (λ (i : Opened). i.lane) e))

    se : (x : Opened) → Up v (set v y.lane y.number) → y.lane < length v → Memᴰ x b ⊎ Memᴰ x (y ∷ []) → x.number ≤ at (set v y.lane y.number) x.lane
    se x u h (inl k) = let a = d.seen x k in let c = u x.lane in omega arith
    se x u h (inr k) = is_top x (Memᴰ.eq_of_singleton k) (put v y.lane y.number h x.lane)

    old : (l i : ℕ) → at r l < i → i ≤ at v l → (x : Opened) × Memᴰ x (b ++ (y ∷ [])) × (x.lane ≡ l) × (x.number ≡ i) × (x.epoch ≡ e)
    old l i p q = let a = d.whole l i p q in (a.0, Memᴰ.append_left (y ∷ []) a.1, a.2, a.3, a.4)

    wh : (l i : ℕ) → at r l < i → i ≤ at (set v y.lane y.number) l → Put v y.lane y.number l → (x : Opened) × Memᴰ x (b ++ (y ∷ [])) × (x.lane ≡ l) × (x.number ≡ i) × (x.epoch ≡ e)
    wh l i p q (other a c) = old l i p (omega arith)
    wh l i p q (same a c) = go (ℕ_discrete i y.number)
      where
        go : Dec (i ≡ y.number) → (x : Opened) × Memᴰ x (b ++ (y ∷ [])) × (x.lane ≡ l) × (x.number ≡ i) × (x.epoch ≡ e)
        go (yes f) = (y, Memᴰ.append_right b (Memᴰ.head refl), sym a, sym f, ep)
        go (no f) = let z : at v l ≡ at v y.lane = ap (at v) a in old l i p (omega arith)

-- files
pub files_s : {s : ℕ} {r : List ℕ} {b : List Opened} {fs : List OpenedFile} → Filed s r b fs → Filed (suc s) r b fs
files_s {s} {r} d = record {
  next = λ f m. let a = d.next f m in omega arith;
  full = λ f m e. absurd (let a = d.next f m in omega arith);
  held = λ f m e. full_upto r (d.full f m e);
  fresh = λ e. absurd (omega arith);
  fine = d.fine;
}

pub settled_s : {s : ℕ} {r : List ℕ} {b : List Opened} {fs : List OpenedFile} → Filed s r b fs → Caught (suc s) b fs
settled_s d = record { stale = d.next; full = d.full; some_s = omega arith }

pub files_r : {s : ℕ} {r : List ℕ} (r' : List ℕ) {b : List Opened} {fs : List OpenedFile} → 0 < s → ((f : OpenedFile) → FileIn fs f → f.version ≡ s → Upto b r' f.table) → Filed s r b fs → Filed s r' b fs
files_r r' p h d = record { next = d.next; full = d.full; held = h; fresh = λ e. absurd (omega arith); fine = d.fine }

pub files_add : {s : ℕ} {r : List ℕ} {b : List Opened} {fs : List OpenedFile} (f : OpenedFile) → f.version ≡ suc s → Full b f.table → FileWritable f → Filed s r b fs → Filed s r b (f ∷ fs)
files_add {s} {r} {b} {fs} f v u ff d = record {
  next = λ g m. ne g (Memᴰ.cases_cons m);
  full = λ g m. fu g (Memᴰ.cases_cons m);
  held = λ g m. he g (Memᴰ.cases_cons m);
  fresh = d.fresh;
  fine = λ g m. fi g (Memᴰ.cases_cons m);
}
  where
    ne : (g : OpenedFile) → (g ≡ f) ⊎ FileIn fs g → g.version ≤ suc s
    ne g (inl e) = let z = ap (λ (x : OpenedFile). x.version) e in omega arith
    ne g (inr m) = d.next g m

    fu : (g : OpenedFile) → (g ≡ f) ⊎ FileIn fs g → g.version ≡ suc s → Full b g.table
    fu g (inl e) q = rw e u
    fu g (inr m) q = d.full g m q

    he : (g : OpenedFile) → (g ≡ f) ⊎ FileIn fs g → g.version ≡ s → Upto b r g.table
    he g (inl e) q = let z = ap (λ (x : OpenedFile). x.version) e in absurd (omega arith)
    he g (inr m) q = d.held g m q

    fi : (g : OpenedFile) → (g ≡ f) ⊎ FileIn fs g → FileWritable g
    fi g (inl e) = rw e ff
    fi g (inr m) = d.fine g m

pub files_book : {s : ℕ} {r : List ℕ} {b : List Opened} {fs : List OpenedFile} (y : Opened) → 0 < s → Stale s fs → at r y.lane < y.number → Filed s r b fs → Filed s r (b ++ (y ∷ [])) fs
files_book y p st h d = record { next = d.next; full = λ f m e. absurd (let z = st f m in omega arith); held = λ f m e. upto_add y h (d.held f m e); fresh = λ e. absurd (omega arith); fine = d.fine }

-- the card
pub card_sealed : {v r : List ℕ} {s : List Opened} {c : List Spot} {o : Option Opened} (y : Opened) → Carded v r s c o → Carded v r (y ∷ s) c o
card_sealed y d = record { top = d.top; consec = d.consec; reach = d.reach; known = λ p m. Memᴰ.tail (d.known p m); rising = d.rising; few = d.few; begun_known = λ b e. Memᴰ.tail (d.begun_known b e); begun_passed = d.begun_passed }

-- a cut leaves the record that was put out last
pub card_begun : {v r : List ℕ} {s : List Opened} {c : List Spot} {o : Option Opened} (y : Opened) → at v y.lane < y.number → length c + 1 ≤ (points_max + 1) * listed → Carded v r s c o → Carded v r (y ∷ s) c (some y)
card_begun {v} {r} {s} y h few d = record { top = d.top; consec = d.consec; reach = d.reach; known = λ p m. Memᴰ.tail (d.known p m); rising = d.rising; few = few; begun_known = λ b e. Memᴰ.head (one b e); begun_passed = λ b e. subst (Passed v r) (sym (one b e)) (inr h) }
  where
    one : (b : Opened) → ◌≡◌ {A = Option Opened} (some y) (some b) → b ≡ y
    one b e = cc

pub card_r : {v r r' : List ℕ} {s : List Opened} {c : List Spot} {o : Option Opened} → Up r r' → Carded v r s c o → Carded v r' s c o
card_r {v} {r} {r'} u d = record { top = d.top; consec = d.consec; reach = λ l h. let z = u l in let a = d.reach l (omega arith) in (a.0, let b = a.1 in omega arith); known = d.known; rising = d.rising; few = d.few; begun_known = d.begun_known; begun_passed = λ b e. go b (d.begun_passed b e) (u b.lane) }
  where
    go : (b : Opened) → Passed v r b → at r b.lane ≤ at r' b.lane → Passed v r' b
    go b (inl p) z = inl (omega arith)
    go b (inr p) z = inr p

pub card_free : {v v' r : List ℕ} {s : List Opened} {c : List Spot} {o : Option Opened} → ((l : ℕ) → at v' l ≤ at r l) → Carded v r s c o → Carded v' r s c o
card_free {v} {v'} {r} f d = record { top = d.top; consec = d.consec; reach = λ l h. absurd (let z = f l in omega arith); known = d.known; rising = d.rising; few = d.few; begun_known = d.begun_known; begun_passed = λ b e. go b (f b.lane) (dec_le b.number (at r b.lane)) }
  where
    go : (b : Opened) → at v' b.lane ≤ at r b.lane → Dec (b.number ≤ at r b.lane) → Passed v' r b
    go b z (yes p) = inl p
    go b z (no p) = inr (omega arith)

pub no_begun : {A : Type 0} (b : Opened) → ◌≡◌ {A = Option Opened} none (some b) → A
no_begun b e = let z : ◌≡◌ {A = ℕ} 0 1 = cc in absurd (omega arith)

pub card_empty : {v r : List ℕ} {s : List Opened} → ((l : ℕ) → at v l ≤ at r l) → Carded v r s [] none
card_empty f = record { top = λ l. 0; consec = tt; reach = λ l h. absurd (let z = f l in omega arith); known = λ p m. absurd (Memᴰ.not-nil m); rising = tt; few = omega arith; begun_known = λ b e. no_begun b e; begun_passed = λ b e. no_begun b e }

pub kept_add : {s : ℕ} {fs cs : List OpenedFile} (f : OpenedFile) → CardFiled s fs cs → CardFiled s (f ∷ fs) (cs ++ (f ∷ []))
kept_add {s} {fs} {cs} f d = record { known = λ g m. go g (Memᴰ.append_cases cs m); have = λ h. let a = d.have h in (a.0, Memᴰ.append_left (f ∷ []) a.1, a.2) }
  where
    go : (g : OpenedFile) → Memᴰ g cs ⊎ Memᴰ g (f ∷ []) → FileIn (f ∷ fs) g
    go g (inl m) = Memᴰ.tail (d.known g m)
    go g (inr m) = Memᴰ.head (Memᴰ.eq_of_singleton m)

pub kept_known : {s : ℕ} {fs cs : List OpenedFile} (f : OpenedFile) → CardFiled s fs cs → CardFiled s (f ∷ fs) cs
kept_known f d = record { known = λ g m. Memᴰ.tail (d.known g m); have = d.have }

pub kept_s : {s : ℕ} {fs cs : List OpenedFile} → HasNext s cs → CardFiled s fs cs → CardFiled (suc s) fs cs
kept_s h d = record { known = d.known; have = λ z. h }
