-- A table that is the latest of the book in both halves (Latest.antt) has at each meter the latest of all writes to it: what stands there was
-- written by a record of the book, and no write of the book is later. The latest write is one entry.
-- Assumes nothing.
use Prim.Native.Nat.{ℕ, ◌<◌}
use mathlib.Core.Path.{◌≡◌, sym, ap, ◌∙◌}
use mathlib.Core.List.{List}
use mathlib.Core.Option.{none, some}
use native.Mathlib.Omega.{arith}
use lib.ListN.{get_or}
use Rattle.transaction.specs.Transaction.{meters}
use Rattle.table.specs.declared.Entry.{Entry}
use Rattle.table.specs.declared.Table.{Table}
use Rattle.table.specs.Table.{no_entry, entry_for}
use Rattle.table.specs.Canonical.{Canonical, absent, present}
use Rattle.table.proofs.OrderLaws.{later_same}
use Rattle.table.proofs.EnteredLaws.{written_times}
use Rattle.sealed.specs.Record.{Opened}
use Rattle.protocol.specs.LatestOf.{LatestOf, unwritten, written_by}
use Rattle.protocol.proofs.Basis.{write}
use Rattle.protocol.proofs.Latest.{seen, seen_here, cell, In, Full, Single}

-- the latest of a book has at each meter the latest write to it
pub full_latest : (b : List Opened) (t : Table) → Full b t → (m : ℕ) → m < meters → LatestOf b m (get_or t.entries m no_entry)
full_latest b t f m lt = go (f.canon.all.each m)
  where
    go : Canonical (entry_for t m) → LatestOf b m (entry_for t m)
    go (absent p) =
        unwritten
        (λ r d i h.
        let c = (f.cover.top m r d lt i h).1 in
        let n : cell t m ≡ none = ap seen p in
        let z : ◌≡◌ {A = ℕ} 0 1 = cc in
        omega arith)
        p
    go (present p) =
        let e = entry_for t m in
        let q : cell t m ≡ some e = seen_here e p.here in
        let s = f.sound.src m e q in
        written_by s.0 s.1 s.2
        (λ y d i h.
        let c = f.cover.top m y d lt i h in
        let c1 = c.1 in
        let k : c.0 ≡ e = cc in
        rw k at c.2)

-- and that is one entry: of two neither is later than the other, so that lane and number agree, and these determine the record
pub latest_one : (b : List Opened) → Single (In b) → (m : ℕ) (x y : Entry) → LatestOf b m x → LatestOf b m y → x ≡ y
latest_one b single m x y (unwritten f p) (unwritten g q) = p ∙ sym q
latest_one b single m x y (unwritten f p) (written_by r i w k) = absurd (f r y i w)
latest_one b single m x y (written_by r i w k) (unwritten g q) = absurd (g r x i w)
latest_one b single m x y (written_by r i w k) (written_by s j v l) =
    let o = later_same x y (l r x i w) (k s y j v) in
    let wr = written_times r.text r.lane r.number m x w in
    let ws = written_times s.text s.lane s.number m y v in
    let e : r ≡ s = single r s i j (sym wr.lane ∙ o.lane ∙ ws.lane) (sym wr.number ∙ o.number ∙ ws.number) in
    let z : some x ≡ some y = sym w ∙ ap (λ (k : Opened). write k m) e ∙ v in
    cc
