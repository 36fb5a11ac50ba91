-- 01, Operations: "Point: a position above the newest point, with every accepted record below it visible. Per lane it keeps how many numbers
-- lie below it, earlier ones included. At most 8 points are kept. The newest point is the greatest set since service began, even if dropped."
-- A listed record's number is W of its lane less the listed records of that lane behind it.
-- Assumes nothing.
use Rattle.std.specs.Prelude.{ℕ, zero, suc, ◌-◌, Bool, true, false, cond, not, ◌&&◌, ◌||◌, List, [], ◌∷◌, ◌++◌, map, leb, ltb, eqb, length, set, replicate}
use Rattle.octets.specs.Lists.{at, tab}
use Rattle.table.specs.Table.{lanes}
use Rattle.protocol.specs.States.{listed, points_max, ready}
use Rattle.protocol.specs.Said.{Answered, refuse, taking}
use Rattle.protocol.specs.declared.Journal.{Journal}
use Rattle.protocol.specs.declared.Point.{Point}
use Rattle.protocol.specs.declared.Points.{Points}
use Rattle.protocol.specs.declared.State.{State}
use Rattle.protocol.specs.declared.Store.TheVariants as S

-- a listed record
pub record Mark : Type 0 where
  pub position : ℕ
  pub lane : ℕ

-- the first n listed records
unfoldable pub marks_to : ℕ → List ℕ → List ℕ → List Mark
marks_to zero ps ls = []
marks_to (suc n) [] ls = []
marks_to (suc n) (p ∷ ps) [] = []
marks_to (suc n) (p ∷ ps) (l ∷ ls) = record { position = p; lane = l } ∷ marks_to n ps ls

unfoldable pub marks_of : Journal → List Mark
marks_of j = marks_to j.count j.positions j.lanes

-- those at or above a position
unfoldable pub marks_from : ℕ → List Mark → List Mark
marks_from p [] = []
marks_from p (x ∷ xs) = cond (leb p x.position) (x ∷ marks_from p xs) (marks_from p xs)

-- how many are of a lane
unfoldable pub lane_count : ℕ → List Mark → ℕ
lane_count lane [] = 0
lane_count lane (x ∷ xs) = cond (eqb x.lane lane) (suc (lane_count lane xs)) (lane_count lane xs)

-- a record below the position is not visible
unfoldable pub unseen_below : ℕ → List ℕ → List ℕ → List Mark → Bool
unseen_below p w v [] = false
unseen_below p w v (x ∷ xs) = (ltb x.position p && ltb (at v x.lane) (at w x.lane - lane_count x.lane xs)) || unseen_below p w v xs

-- marks as the journal holds them, with zeros behind
unfoldable pub journal_of : List Mark → Bool → ℕ → Journal
journal_of ms used last = record {
  positions = map (λ m. m.position) ms ++ replicate (listed - length ms) 0;
  lanes = map (λ m. m.lane) ms ++ replicate (listed - length ms) 0;
  count = length ms;
  used = used;
  last = last;
}

-- the point's counts: per lane W less the records at or above it
unfoldable pub counts_at : List ℕ → List Mark → List ℕ
counts_at w ms = tab lanes (λ lane. at w lane - lane_count lane ms)

-- the point at a position
unfoldable pub point_at : State → ℕ → Point
point_at c position = record { position = position; counts = counts_at c.vault.w (marks_from position (marks_of c.journal)); covered = false }

-- a point more, now the newest
unfoldable pub points_more : Points → Point → Points
points_more p q = record {
  items = set p.items p.count q;
  count = suc p.count;
  any = true;
  newest = q.position;
}

unfoldable pub pointed : State → ℕ → State
pointed c position = record {
  vault = c.vault;
  phase = c.phase;
  due = c.due;
  table = c.table;
  journal = journal_of (marks_from position (marks_of c.journal)) c.journal.used c.journal.last;
  points = points_more c.points (point_at c position);
  held = c.held;
  key = c.key;
}

unfoldable pub point : State → ℕ → Answered
point c position =
    refuse (not (ready c)) c 1 []
    (refuse (c.points.any && leb position c.points.newest) c 6 []
    (refuse (leb points_max c.points.count) c 7 []
    (refuse (unseen_below position c.vault.w c.vault.v (marks_of c.journal)) c 15 []
    (taking (pointed c position) S.Nothing []))))
