-- Lists by an index function, and what a copy leaves.
-- Assumes nothing.
use Rattle.std.specs.Prelude.{ℕ, zero, suc, List, [], ◌∷◌, ◌++◌, length, get_or, take, drop}

-- element i of a list of numbers, and 0 past its end
abbrev pub at : List ℕ → ℕ → ℕ
at s i = get_or s i 0

-- f i, f (i + 1), .., n numbers
abbrev pub from : ℕ → ℕ → (ℕ → ℕ) → List ℕ
from i zero f = []
from i (suc n) f = f i ∷ from (suc i) n f

-- f 0, .., f (n - 1)
abbrev pub tab : ℕ → (ℕ → ℕ) → List ℕ
tab n f = from 0 n f

-- put stands over the start of s; the bytes behind it stay
abbrev pub put_over : List ℕ → List ℕ → List ℕ
put_over put s = put ++ drop (length put) s

-- a copy: as much of s as d has room for stands over the start of d
unfoldable pub over : List ℕ → List ℕ → List ℕ
over s d = put_over (take (length d) s) d
