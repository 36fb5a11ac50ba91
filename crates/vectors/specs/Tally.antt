-- What one line adds to a tally.
-- Assumes nothing.
use Rattle.std.specs.Prelude.{◌+◌, ◌≤◌}
use Rattle.vectors.specs.declared.Tally.{Tally as Counts}

-- from t to u: at most one more of each
pub record Single (t u : Counts) : Type 0 where
  pub lines : u.lines ≤ t.lines + 1
  pub agreed : u.agreed ≤ t.agreed + 1
  pub refused : u.refused ≤ t.refused + 1
