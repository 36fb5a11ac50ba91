-- Strings of bytes, and the numbers that they write with the most significant byte first.
-- Assumes nothing.
use Rattle.std.specs.Prelude.{ℕ, zero, suc, ◌+◌, ◌*◌, ◌/◌, ◌%◌, ◌^◌, Bool, true, false, ◌&&◌, List, [], ◌∷◌, eqb}
use Rattle.std.specs.Int.Bits.{bit_xor}

-- the number that the bytes s write after a
unfoldable pub number_from : ℕ → List ℕ → ℕ
number_from a [] = a
number_from a (x ∷ s) = number_from (a * 256 + x) s

-- the number that the bytes s write
unfoldable pub number : List ℕ → ℕ
number s = number_from 0 s

-- the last k bytes of n
unfoldable pub bytes_of : ℕ → ℕ → List ℕ
bytes_of zero n = []
bytes_of (suc k) n = n / 2 ^ (8 * k) % 256 ∷ bytes_of k n

-- the first k bytes of s, with zeros after its end
unfoldable pub padded : ℕ → List ℕ → List ℕ
padded zero s = []
padded (suc k) [] = 0 ∷ padded k []
padded (suc k) (x ∷ s) = x ∷ padded k s

-- the sum of two strings, bit by bit, as long as the shorter
unfoldable pub xor_bytes : List ℕ → List ℕ → List ℕ
xor_bytes [] t = []
xor_bytes (x ∷ s) [] = []
xor_bytes (x ∷ s) (y ∷ t) = bit_xor x y ∷ xor_bytes s t

-- whether two strings are equal
unfoldable pub same_bytes : List ℕ → List ℕ → Bool
same_bytes [] [] = true
same_bytes [] (y ∷ t) = false
same_bytes (x ∷ s) [] = false
same_bytes (x ∷ s) (y ∷ t) = eqb x y && same_bytes s t
