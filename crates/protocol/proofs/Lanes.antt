-- An array of lanes after one number of it was stored: the lane stored holds the new number, every other lane what it held.
-- Assumes nothing.
use Prim.Native.Nat.{ℕ, ◌<◌}
use mathlib.Core.Path.{◌≡◌}
use mathlib.Core.Logic.{◌≢◌}
use mathlib.Core.List.{List}
use native.Mathlib.Decide.{ℕ_discrete}
use lib.ListN.{length, set}
use lib.Seq.{get_or-set_same, get_or-set_other}
use Rattle.octets.specs.Lists.{at}

-- what stands at lane k of the array l where x was stored at lane i
pub data Put (l : List ℕ) (i x k : ℕ) : Type 0 where
  same : k ≡ i → at (set l i x) k ≡ x → Put l i x k
  other : k ≢ i → at (set l i x) k ≡ at l k → Put l i x k

-- it is one of the two
pub put : (l : List ℕ) (i x : ℕ) → i < length l → (k : ℕ) → Put l i x k
put l i x h k = go (ℕ_discrete k i)
  where
    go : Dec (k ≡ i) → Put l i x k
    go (yes e) = same e (rw e (get_or-set_same l i x 0 h))
    go (no n) = other n (get_or-set_other l i k x 0 n)
