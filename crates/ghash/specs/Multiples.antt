-- The table of a block's multiples, by which the code takes the product X • H (6.3) four bits of X at a time.
-- X is the sum of 32 blocks that are 0 but for four bits, and X • H the sum of their products: each stands in the table.
-- The table has 32 rows of 16 entries, an entry is a block in two words, so there are 1024 words.
-- Assumes nothing.
use Rattle.std.specs.Prelude.{ℕ, zero, suc, ◌+◌, ◌-◌, ◌*◌, ◌/◌, ◌%◌, ◌^◌, List, [], ◌∷◌, ◌++◌, cond, eqb, length}
use Rattle.std.specs.Int.Bits.{bit_xor}
use Rattle.octets.specs.Lists.{at}
use Rattle.ghash.specs.Field.{◌•◌}

-- entry n of row j: h times the block whose four bits from bit 4j on, the leftmost bit being bit 0, write n
unfoldable pub multiple : ℕ → ℕ → ℕ → ℕ
multiple h j n = (n * 2 ^ (124 - 4 * j)) • h

-- the two words of each of the blocks f 0, .., f (n - 1), the left word first
unfoldable pub words_to : ℕ → (ℕ → ℕ) → List ℕ
words_to zero f = []
words_to (suc n) f = words_to n f ++ (f n / 2 ^ 64 ∷ f n % 2 ^ 64 ∷ [])

-- rows 0, .., j - 1 of h's table
unfoldable pub rows_to : ℕ → ℕ → List ℕ
rows_to zero h = []
rows_to (suc j) h = rows_to j h ++ words_to 16 (multiple h j)

-- h's table
unfoldable pub multiples_of : ℕ → List ℕ
multiples_of h = rows_to 32 h

-- h's table in the place of 1024 words
unfoldable pub multiples_in : ℕ → List ℕ → List ℕ
multiples_in h old = cond (eqb (length old) 1024) (multiples_of h) old

-- what a table has as entry n of row j
abbrev pub entry_at : List ℕ → ℕ → ℕ → ℕ
entry_at m j n = at m (32 * j + 2 * n) * 2 ^ 64 + at m (32 * j + 2 * n + 1)

-- z, and the entries that the first k times four bits of the word x pick, in rows b, .., b + k - 1
unfoldable pub sum_to : List ℕ → ℕ → ℕ → ℕ → ℕ → ℕ
sum_to m b x z zero = z
sum_to m b x z (suc k) = bit_xor (sum_to m b x z k) (entry_at m (b + k) (x / 2 ^ (60 - 4 * k) % 16))

-- X • H by a table: the left word of X picks in rows 0 to 15, and the right word in rows 16 to 31
unfoldable pub product_by : List ℕ → ℕ → ℕ
product_by m x = sum_to m 16 (x % 2 ^ 64) (sum_to m 0 (x / 2 ^ 64) 0 16) 16
