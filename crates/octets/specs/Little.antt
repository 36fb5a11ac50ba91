-- Numbers with the least significant byte first, as the card's layouts have them.
-- Assumes nothing.
use Rattle.std.specs.Prelude.{ℕ, zero, suc, ◌+◌, ◌*◌, ◌/◌, ◌%◌, List, [], ◌∷◌}

-- the number that the bytes s write
unfoldable pub little : List ℕ → ℕ
little [] = 0
little (x ∷ s) = x + 256 * little s

-- the k bytes of n
unfoldable pub little_bytes : ℕ → ℕ → List ℕ
little_bytes zero n = []
little_bytes (suc k) n = n % 256 ∷ little_bytes k (n / 256)
