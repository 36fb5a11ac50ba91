-- 02, CR 1: "I want to feed an M-Bus reply (EN 13757) and get a one-write transaction; the caller gives meter number and stamp." "A meter above 255
-- is 4. It refuses a broken frame .. with decimal 16 and, after that, a frame without a usable record with 17; an unlisted medium .. count as unusable
-- and end the search." "Lent outputs need room for just what they get, unless said": 3, with the 16 bytes of a transaction of one write. The lowest
-- number is returned, and a refusal puts nothing out.
-- Assumes nothing.
use Rattle.std.specs.Prelude.{ℕ, cond, not, List, [], ◌∷◌, leb, ltb, eqb, drop, ℤ, Option, Some, None, Result, Ok, Err}
use Rattle.octets.specs.Lists.{at}
use Rattle.transaction.specs.Transaction.{meters, min_text, one_write}
use Rattle.protocol.specs.Said.{Said, refused, taken, Told, turn_down}
use Rattle.protocol.specs.declared.Store.TheVariants as S
use Rattle.bus.specs.Frame.{least_l, medium_place, bytes_in, unbroken}
use Rattle.bus.specs.Medium.{code_of, unit_of}
use Rattle.bus.specs.Records.{first_reading}
use Rattle.bus.specs.declared.BusError.{BusError}
use Rattle.bus.specs.declared.BusError.TheVariants as E

-- the number of each refusal, and the values returned with it
unfoldable pub number_of : BusError → ℕ
number_of (E.Short n) = 3
number_of E.Meter = 4
number_of E.Broken = 16
number_of E.Unusable = 17

unfoldable pub values_of : BusError → List ℕ
values_of (E.Short n) = n ∷ []
values_of E.Meter = []
values_of E.Broken = []
values_of E.Unusable = []

-- the code's answers
unfoldable pub said_by : Result (Unit {0}) BusError → Said
said_by (Ok u) = taken S.Nothing min_text
said_by (Err e) = refused (number_of e) (values_of e)

-- ---- of a frame that is not broken

unfoldable pub code_in : List ℕ → ℕ
code_in f = code_of (at (bytes_in f) medium_place)

-- the reading behind the header, of a code that there is
unfoldable pub reading_in : ℕ → List ℕ → Option ℤ
reading_in code f = cond (eqb code 0) None (first_reading (unit_of code) (drop least_l (bytes_in f)))

unfoldable pub heard : ℕ → ℕ → ℕ → Option ℤ → Told
heard meter stamp code (Some z) =
    record { said = taken S.Nothing min_text; put = one_write stamp (record { meter = meter; code = code; spare = 0; reading = z }) }
heard meter stamp code None = record { said = refused 17 []; put = [] }

-- ---- of any frame, with room for so many bytes

unfoldable pub from_bus : List ℕ → ℕ → ℕ → ℕ → Told
from_bus f meter stamp room =
    turn_down (ltb room min_text) 3 (min_text ∷ [])
    (turn_down (leb meters meter) 4 []
    (turn_down (not (unbroken f)) 16 []
    (heard meter stamp (code_in f) (reading_in (code_in f) f))))
