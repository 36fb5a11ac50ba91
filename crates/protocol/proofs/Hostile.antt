-- The reading of a log, whatever the log is: if it is accepted, it comes to the latest of the whole book.
-- A record that is read was sealed, since whatever opens was. If its number is not passed over, it lies above R and not above V of its lane, so
-- the book has a record of that lane and number, and lane and number determine what was sealed: the record is of the book. It is the next of its
-- lane, so the table covers the book up to one number more. In the end each lane with R < V has reached V, and no record of the book lies above
-- V: the table covers all of it.
-- Assumes nothing.
use Prim.Native.Nat.{ℕ, suc, ◌≤◌, ◌<◌}
use mathlib.Core.Path.{◌≡◌, refl, ap, subst, ◌∙◌}
use mathlib.Core.Bool.{true, false}
use mathlib.Core.Option.{some}
use mathlib.Core.Logic.{◌⊎◌, inl, inr}
use mathlib.Core.List.Memᴰ
use mathlib.Core.List.{List, Memᴰ}
use native.Mathlib.Omega.{arith}
use native.Mathlib.Decide.{dec_lt, dec_le}
use lib.ListN.{set, length, take, drop, length-set, get_or-eq_default}
use Rattle.octets.specs.Lists.{at}
use Rattle.table.specs.declared.Table.{Table}
use Rattle.table.specs.Table.{lanes}
use Rattle.sealed.specs.Aead.{aes_gcm}
use Rattle.sealed.specs.Record.{Opened, whole_len, open_record}
use Rattle.sealed.specs.Log.{record_at, records_to, records_in}
use Rattle.sealed.proofs.LogTrip.{at_opens, records_at}
use Rattle.protocol.specs.declared.Vault.{Vault}
use Rattle.protocol.specs.Replay.{Reading, reading, passed_over, behind, goes_on, replay}
use Rattle.protocol.proofs.Basis.{Writable, with_record}
use Rattle.protocol.proofs.Lanes.{Put, same, other, put}
use Rattle.protocol.proofs.Latest.{In, Part, Full, Upto, Single, sound_enter, cover_enter, canon_enter, cover_mono}
use Rattle.protocol.proofs.MissingLaws.{Reached}
use Rattle.protocol.proofs.ReadingLaws.{passing, entering, none_left, kept_replay}

-- every number above R and not above V is in the book, under epoch e
abbrev pub Whole : List ℕ → List ℕ → ℕ → List Opened → Type 0
Whole v r e b = (l n : ℕ) → at r l < n → n ≤ at v l → (y : Opened) × Memᴰ y b × (y.lane ≡ l) × (y.number ≡ n) × (y.epoch ≡ e)

module _ (key : List ℕ) (x : Vault) (book : List Opened) (sealed : Opened → Type 0) (known : (r : Opened) → In book r → sealed r) (single : Single sealed)
    (writable : (r : Opened) → sealed r → Writable r) (whole : Whole x.v x.r x.e book) (seen : (r : Opened) → In book r → r.number ≤ at x.v r.lane)
    (rlen : length x.r ≡ lanes) (vlen : length x.v ≡ lanes) where
  -- what holds of each lane's last number and of the table, as far as the reading has come
  record Loop (last : List ℕ) (t : Table) : Type 0 where
    upto : Upto book last t
    low : (l : ℕ) → at x.r l ≤ at last l
    len : length last ≡ lanes

  -- a record enters
  took : (last : List ℕ) (t : Table) (r : Opened) → Loop last t → sealed r → at x.r r.lane < r.number → r.number ≤ at x.v r.lane
      → r.number ≡ suc (at last r.lane) → Loop (set last r.lane r.number) (with_record t r)
  took last t r g s a b n =
      let y = whole r.lane r.number a b in
      let w = writable r s in
      let m : In book r = subst (In book) (single y.0 r (known y.0 y.1) s y.2 y.3) y.1 in
      let inside : r.lane < length last = omega (arith, g.len, w.lane) in
      record {
        upto = record {
          sound = sound_enter t (In book) r w m g.upto.sound;
          cover = cover_enter t (Part book last) (Part book (set last r.lane r.number)) r w g.upto.canon.long (λ y p. split y p (put last r.lane r.number inside y.lane)) g.upto.cover;
          canon = canon_enter t r w g.upto.canon;
        };
        low = λ l. rise l (g.low l) (put last r.lane r.number inside l);
        len = length-set last r.lane r.number ∙ g.len;
      }
    where
      rise : (l : ℕ) → at x.r l ≤ at last l → Put last r.lane r.number l → at x.r l ≤ at (set last r.lane r.number) l
      rise l h (same e q) = let z : at x.r l ≡ at x.r r.lane = ap (at x.r) e in omega arith
      rise l h (other ne q) = omega arith

      -- up to one number more, the book is what it was up to the last, and the record
      split : (y : Opened) → Part book (set last r.lane r.number) y → Put last r.lane r.number y.lane → Part book last y ⊎ (y ≡ r)
      split y p (other ne q) = inl (p.0, let h = p.1 in omega arith)
      split y p (same e q) = go (dec_le y.number (at last y.lane))
        where
          go : Dec (y.number ≤ at last y.lane) → Part book last y ⊎ (y ≡ r)
          go (yes le) = inl (p.0, le)
          go (no nle) =
              let h = p.1 in
              let z : at last y.lane ≡ at last r.lane = ap (at last) e in
              inr (single y r (known y p.0) s e (omega arith))

  -- a log of which whatever opens, of the whole records that a reading meets, was sealed
  module _ (log : List ℕ) where
    -- so from an offset on, of n records at the most
    abbrev Was : ℕ → ℕ → Type 0
    Was n offset = (b : List ℕ) (r : Opened) → Memᴰ b (records_to n (drop offset log)) → open_record (aes_gcm key) b ≡ some r → sealed r

    -- as far as the reading has come, with n records left
    abbrev Came : ℕ → Reading → Type 0
    Came n g = Loop g.last g.table × Was n g.offset

    -- what is read was the first of those left
    first : (n : ℕ) (g : Reading) → Was (suc n) g.offset → (r : Opened) → record_at (aes_gcm key) log g.offset ≡ some r → sealed r × Was n (behind g r)
    unfolding behind
    first n g was r e =
        let s = drop g.offset log in
        let is = records_at (aes_gcm key) log g.offset n r e in (
          was (take (whole_len s) s) r (rw is (Memᴰ.head refl)) (at_opens (aes_gcm key) log g.offset r e),
          λ b y m. was b y (rw is (Memᴰ.tail m)),
        )

    passes : (n : ℕ) (g : Reading) (r : Opened) → Came (suc n) g → record_at (aes_gcm key) log g.offset ≡ some r → passed_over x r ≡ true → Came n (passing g r)
    passes n g r h e p = (h.0, (first n g h.1 r e).1)

    enters : (n : ℕ) (g : Reading) (r : Opened) → Came (suc n) g → record_at (aes_gcm key) log g.offset ≡ some r → at x.r r.lane < r.number → r.number ≤ at x.v r.lane
        → r.number ≡ suc (at g.last r.lane) → Came n (entering g r)
    enters n g r h e above upto q = let was = first n g h.1 r e in (took g.last g.table r h.0 was.0 above upto q, was.1)

    ends : (n : ℕ) (g : Reading) → Came (suc n) g → goes_on log g.offset ≡ false → Came n g
    ends n g h p = (h.0, λ b r m. absurd (Memᴰ.not-nil (rw (none_left log g.offset n p) at m)))

  -- a lane with R < V has reached V, and any other is there already
  reached : (last : List ℕ) → ((l : ℕ) → at x.r l ≤ at last l) → ((l : ℕ) → l < lanes → Reached x last l) → (l : ℕ) → at x.v l ≤ at last l
  reached last low e l = go (dec_lt l lanes) (dec_lt (at x.r l) (at x.v l))
    where
      go : Dec (l < lanes) → Dec (at x.r l < at x.v l) → at x.v l ≤ at last l
      go (yes h) (yes k) = let z = e l h k in omega arith
      go (yes h) (no k) = let z = low l in omega arith
      go (no h) k = let z : at x.v l ≡ 0 = get_or-eq_default x.v 0 (let y : length x.v ≤ l = omega arith in y) in omega arith

  -- so the book is covered up to V, which is all of it
  full : (last : List ℕ) (t : Table) → Loop last t → ((l : ℕ) → l < lanes → Reached x last l) → Full book t
  full last t h e = record {
    sound = h.upto.sound;
    cover = cover_mono (λ r m. (m, let p = seen r m in let q = reached last h.low e r.lane in omega arith)) h.upto.cover;
    canon = h.upto.canon;
  }

  -- from a table that has the book up to R, an accepted reading comes to the latest of the whole book
  pub replay_full : (log : List ℕ) → ((b : List ℕ) (r : Opened) → Memᴰ b (records_in log) → open_record (aes_gcm key) b ≡ some r → sealed r) → (t : Table) → Upto book x.r t
      → (g : Reading) → replay (aes_gcm key) x t log ≡ reading g → Full book g.table
  unfolding records_in
  replay_full log was t u g e =
      let k = kept_replay (aes_gcm key) x log (Came log) (passes log) (enters log) (ends log) t g (record { upto = u; low = λ l. omega arith; len = rlen }, was) e in
      full g.last g.table k.0.0 k.1
