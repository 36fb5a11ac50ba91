-- What stands at a place of a list by an index function. Assumes nothing.
use mathlib.Core.Path.{◌≡◌, sym, ap, ◌∙◌}
use Prim.Native.Nat.{ℕ, zero, suc, ◌+◌, ◌<◌}
use native.Mathlib.Nat.{add-zero, add-suc, suc-add, zero-add, not-suc-le-zero, le_of_suc-le-suc}
use lib.ListN.{get_or}
use Rattle.octets.specs.Lists.{from, tab}

from_at : (f : ℕ → ℕ) (n i k : ℕ) → k < n → get_or (from i n f) k 0 ≡ f (i + k)
from_at f zero i k h = absurd (not-suc-le-zero h)
from_at f (suc n) i zero h = rw add-zero
from_at f (suc n) i (suc k) h = from_at f n (suc i) k (le_of_suc-le-suc h) ∙ ap f (suc-add i k ∙ sym (add-suc i k))

pub at_tab : (f : ℕ → ℕ) (n k : ℕ) → k < n → get_or (tab n f) k 0 ≡ f k
at_tab f n k h = from_at f n 0 k h ∙ ap f (zero-add k)
