-- A log that is read to its end has every visible record above R whole: each number that a lane has reached above R was that of a record that
-- opened, among the whole records of the log. And where the records are read to the end and a lane has not reached V, it is 13.
-- Assumes nothing.
use Prim.Native.Nat.{ℕ, suc, ◌≤◌, ◌<◌}
use mathlib.Core.Path.{◌≡◌, refl, sym, ap, ◌∙◌}
use mathlib.Core.Bool.{true, false}
use mathlib.Core.Option.{some}
use Rattle.std.specs.Prelude.{Option, Some, None}
use mathlib.Core.List.Memᴰ
use mathlib.Core.List.{List, [], ◌∷◌, Memᴰ}
use native.Mathlib.Omega.{arith}
use native.Mathlib.Decide.{dec_le}
use lib.ListN.{set, length, take, drop, length-set}
use Rattle.octets.specs.Lists.{at}
use Rattle.table.specs.Table.{lanes}
use Rattle.sealed.specs.Aead.{Aead}
use Rattle.sealed.specs.Record.{Opened, whole_len}
use Rattle.sealed.specs.Log.{record_at, records_to, records_in}
use Rattle.sealed.proofs.RecordTrip.{opens_legal}
use Rattle.sealed.proofs.LogTrip.{at_opens, records_at}
use Rattle.protocol.specs.declared.Vault.{Vault}
use Rattle.protocol.specs.Replay.{Reading, stopped, passed_over, behind, goes_on, missing_from, or_missing, ended, replay}
use Rattle.protocol.specs.Tail.{HasWhole, NoneIsMissed, MissedIs13, TailClaim}
use Rattle.protocol.proofs.Lanes.{Put, same, other, put}
use Rattle.protocol.proofs.MissingLaws.{Reached, none_missing, below_missing}
use Rattle.protocol.proofs.TailLaws.{tail_passed, only_tails}
use Rattle.protocol.proofs.ReadingLaws.{passing, entering, none_left, kept_replay}

module _ (a : Aead) (x : Vault) (log : List ℕ) where
  bytes_at : Reading → List ℕ
  bytes_at g = take (whole_len (drop g.offset log)) (drop g.offset log)

  -- as far as the reading has come, with n records left: those are among the log's, and what was reached was there whole
  record Came (n : ℕ) (g : Reading) : Type 0 where
    among : (b : List ℕ) → Memᴰ b (records_to n (drop g.offset log)) → Memᴰ b (records_in log)
    has : (l k : ℕ) → at x.r l < k → k ≤ at g.last l → HasWhole a log l k
    len : length g.last ≡ lanes

  -- what is read was the first of those left
  first : (n : ℕ) (g : Reading) (r : Opened) → Came (suc n) g → record_at a log g.offset ≡ some r
      → Memᴰ (bytes_at g) (records_in log) × ((b : List ℕ) → Memᴰ b (records_to n (drop (behind g r) log)) → Memᴰ b (records_in log))
  unfolding behind bytes_at
  first n g r h e =
      let is = records_at a log g.offset n r e in
      (h.among _ (rw is (Memᴰ.head refl)), λ b m. h.among b (rw is (Memᴰ.tail m)))

  passes : (n : ℕ) (g : Reading) (r : Opened) → Came (suc n) g → record_at a log g.offset ≡ some r → passed_over x r ≡ true → Came n (passing g r)
  passes n g r h e p = record { among = (first n g r h e).1; has = h.has; len = h.len }

  enters : (n : ℕ) (g : Reading) (r : Opened) → Came (suc n) g → record_at a log g.offset ≡ some r → at x.r r.lane < r.number → r.number ≤ at x.v r.lane
      → r.number ≡ suc (at g.last r.lane) → Came n (entering g r)
  unfolding bytes_at
  enters n g r h e above upto q =
      let o = at_opens a log g.offset r e in
      let f = first n g r h e in
      let inside : r.lane < length g.last = omega (arith, h.len, (opens_legal a (bytes_at g) r o).lane) in
      record {
        among = f.1;
        has = λ l k lo hi. go l k lo hi (put g.last r.lane r.number inside l);
        len = length-set g.last r.lane r.number ∙ h.len;
      }
    where
      go : (l k : ℕ) → at x.r l < k → k ≤ at (set g.last r.lane r.number) l → Put g.last r.lane r.number l → HasWhole a log l k
      go l k lo hi (other ne p) = h.has l k lo (omega arith)
      go l k lo hi (same i p) = which (dec_le k (at g.last l))
        where
          which : Dec (k ≤ at g.last l) → HasWhole a log l k
          which (yes le) = h.has l k lo le
          which (no nle) =
              let z : at g.last l ≡ at g.last r.lane = ap (at g.last) i in
              record { bytes = bytes_at g; opened = r; among = (first n g r h e).0; opens = at_opens a log g.offset r e; lane_is = sym i; number_is = omega arith }

  ends : (n : ℕ) (g : Reading) → Came (suc n) g → goes_on log g.offset ≡ false → Came n g
  ends n g h p = record { among = λ b m. absurd (Memᴰ.not-nil (rw (none_left log g.offset n p) at m)); has = h.has; len = h.len }

pub none_missed : NoneIsMissed
unfolding records_in
none_missed a x t log g rlen e lane number inside above upto =
    let k = kept_replay a x log (Came a x log) (passes a x log) (enters a x log) (ends a x log) t g (record { among = λ b m. m; has = λ l n lo hi. absurd (omega arith); len = rlen }) e in
    let z = k.1 lane inside (omega arith) in
    k.0.has lane number above (omega arith)

-- ---- as 13

pub missed_is_13 : MissedIs13
unfolding replay ended or_missing
missed_is_13 a x t log g e lane inside h ne = go (missing_from lanes 0 x g.last) refl
  where
    go : (o : Option ℕ) → missing_from lanes 0 x g.last ≡ o
        → (lowest : ℕ) × (lowest ≤ lane) × ((l : ℕ) → l < lowest → Reached x g.last l) × (replay a x t log ≡ stopped 13 (lowest ∷ []))
    go None q = absurd (ne (none_missing x g.last q lane inside h))
    go (Some m) q = (m, most (dec_le m lane), below_missing x g.last m q, rw (e, q))
      where
        most : Dec (m ≤ lane) → m ≤ lane
        most (yes p) = p
        most (no p) = absurd (ne (below_missing x g.last m q lane (omega arith) h))

-- ---- CR 4, OF THE LOG RULES

pub tail_claim : TailClaim
tail_claim = record { tail_is_passed_over = tail_passed; only_tails_differ = only_tails; none_is_missed = none_missed; missed_is_13 = missed_is_13 }
