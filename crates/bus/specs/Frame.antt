-- 02, CR 1: "The long frame is hexadecimal 68 L L 68, then L bytes, their sum modulo 256, and 16. The L bytes start with C (08, 18, 28 or 38),
-- address, CI 72 and the 12-byte fixed header, whose eighth byte is the medium." "It refuses a broken frame (L below 15, or not L + 6 bytes, too)".
-- What stands past the end of the bytes is read as 0, so every definition is total.
-- Assumes nothing.
use Rattle.std.specs.Prelude.{ℕ, ◌+◌, ◌%◌, Bool, ◌&&◌, ◌||◌, List, [], ◌∷◌, ◌++◌, leb, eqb, length, take, drop}
use Rattle.octets.specs.Lists.{at}

-- ---- the numbers of the frame

abbrev pub start_byte : ℕ
start_byte = 0x68

abbrev pub stop_byte : ℕ
stop_byte = 0x16

-- 68 L L 68
abbrev pub open_len : ℕ
open_len = 4

-- the sum and the stop byte
abbrev pub close_len : ℕ
close_len = 2

-- C, address, CI
abbrev pub fields_len : ℕ
fields_len = 3

abbrev pub header_len : ℕ
header_len = 12

-- the least L, and where the records begin among the L bytes
abbrev pub least_l : ℕ
least_l = fields_len + header_len

-- CI of a reply with the fixed header
abbrev pub reply_ci : ℕ
reply_ci = 0x72

-- the header's eighth byte, among the L bytes
abbrev pub medium_place : ℕ
medium_place = fields_len + 7

-- ---- the L bytes

unfoldable pub sum : List ℕ → ℕ
sum [] = 0
sum (x ∷ s) = x + sum s

-- C of a reply
unfoldable pub reply_c : ℕ → Bool
reply_c c = eqb c 0x08 || eqb c 0x18 || eqb c 0x28 || eqb c 0x38

-- they are 15 at least, and have a reply's C and CI; the address is any
unfoldable pub is_reply : List ℕ → Bool
is_reply b = leb least_l (length b) && reply_c (at b 0) && eqb (at b 2) reply_ci

-- the frame around them
unfoldable pub long_frame : List ℕ → List ℕ
long_frame b = start_byte ∷ length b ∷ length b ∷ start_byte ∷ (b ++ (sum b % 256 ∷ stop_byte ∷ []))

-- ---- a frame, taken apart

-- L, as a frame has it
abbrev pub len_in : List ℕ → ℕ
len_in f = at f 1

-- the L bytes
abbrev pub bytes_in : List ℕ → List ℕ
bytes_in f = take (len_in f) (drop open_len f)

abbrev pub sum_in : List ℕ → ℕ
sum_in f = at f (open_len + len_in f)

abbrev pub stop_in : List ℕ → ℕ
stop_in f = at f (open_len + len_in f + 1)

unfoldable pub unbroken : List ℕ → Bool
unbroken f =
    eqb (length f) (open_len + len_in f + close_len) && eqb (at f 0) start_byte && eqb (at f 2) (len_in f) && eqb (at f 3) start_byte && eqb (sum_in f) (sum (bytes_in f) % 256) && eqb (stop_in f) stop_byte && is_reply (bytes_in f)
