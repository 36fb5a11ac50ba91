-- What holds of the definitions of CR 1, whatever the frame. Digits, records and frames stand here as one writes them, and not as they are read,
-- so that a definition that reads them wrongly is found out. The request's tables (reply_c, code_of, unit_of, data_lens, unusable_vif) are taken as they
-- stand: they are to be read beside it. The proof is in proofs/Theorem.antt.
-- Assumes nothing.
use Rattle.std.specs.Prelude.{ℕ, zero, suc, ◌+◌, ◌*◌, ◌/◌, ◌%◌, ◌^◌, ◌<◌, ◌≤◌, ◌≡◌, true, false, List, [], ◌∷◌, ◌++◌, ℤ, pos, negsuc, length, Some}
use Rattle.octets.specs.Lists.{at}
use Rattle.transaction.specs.Transaction.{meters, min_text, write_count, stamp_of, meter_at, legal, one_write}
use Rattle.protocol.specs.declared.State.{State}
use Rattle.protocol.specs.declared.Store.TheVariants as S
use Rattle.protocol.specs.Said.{refused, taken}
use Rattle.protocol.specs.Accept.{accept}
use Rattle.bus.specs.Frame.{header_len, reply_ci, reply_c, is_reply, long_frame, bytes_in, unbroken}
use Rattle.bus.specs.Medium.{code_of, unit_of}
use Rattle.bus.specs.Digits.{reading_of}
use Rattle.bus.specs.Records.{filler, wanted_dif, data_len, unusable_vif, first_reading}
use Rattle.bus.specs.Answer.{from_bus}

-- ---- digits, written

-- the k lowest digits of n, the lowest first, and then others
unfoldable pub digits_of : ℕ → ℕ → List ℕ → List ℕ
digits_of zero n others = others
digits_of (suc k) n others = n % 10 ∷ digits_of k (n / 10) others

-- two in a byte
unfoldable pub packed : List ℕ → List ℕ
packed [] = []
packed (a ∷ []) = a ∷ []
packed (a ∷ (b ∷ s)) = (a + 16 * b) ∷ packed s

-- of a number, or of a negative one, whose top digit is F
unfoldable pub bcd : ℤ → List ℕ
bcd (pos n) = packed (digits_of 8 n [])
bcd (negsuc n) = packed (digits_of 7 (suc n) (0x0f ∷ []))

-- eight digits, or seven and the sign
unfoldable pub EightDigits : ℤ → Type 0
EightDigits (pos n) = n ≤ 99999999
EightDigits (negsuc n) = suc n ≤ 9999999

-- the data of a record that has this reading: its digits; and a sign before seven zeros is 0
pub data Written : ℤ → List ℕ → Type 0 where
  digits : (v : ℤ) → EightDigits v → Written v (bcd v)
  minus_zero : Written (pos 0) (packed (digits_of 7 0 (0x0f ∷ [])))

-- ---- records, written

-- a DIF or a VIF with its extension bytes: all but the last have the top bit set
unfoldable pub Field : List ℕ → Type 0
Field [] = ⊥
Field (x ∷ []) = x < 0x80
Field (x ∷ (y ∷ s)) = (0x80 ≤ x) × Field (y ∷ s)

-- a whole record that is neither taken in this unit nor the end of the search
pub record Unwanted (unit : ℕ) (r : List ℕ) : Type 0 where
  pub dif : List ℕ
  pub vif : List ℕ
  pub content : List ℕ
  pub parts : r ≡ dif ++ (vif ++ content)
  pub dif_field : Field dif
  pub vif_field : Field vif
  pub no_filler : at dif 0 ≡ filler → ⊥
  pub sized : data_len (at dif 0) ≡ Some (length content)
  pub plain : unusable_vif (at vif 0) ≡ false
  pub other : at dif 0 ≡ wanted_dif → at vif 0 ≡ unit → ⊥

-- what may stand before the record that is taken
pub data Before (unit : ℕ) : List ℕ → Type 0 where
  nothing : Before unit []
  filler_then : (s : List ℕ) → Before unit s → Before unit (filler ∷ s)
  record_then : (r s : List ℕ) → Unwanted unit r → Before unit s → Before unit (r ++ s)

-- ---- a reply, written

-- the frame of a reply of this code, with this reading: any C of a reply, address and header of the code's medium, fillers and whole unwanted records,
-- the wanted one, and whatever stands behind it
pub record Built (f : List ℕ) (code : ℕ) (v : ℤ) : Type 0 where
  pub c : ℕ
  pub address : ℕ
  pub header : List ℕ
  pub records : List ℕ
  pub content : List ℕ
  pub rest : List ℕ
  pub replying : reply_c c ≡ true
  pub headed : length header ≡ header_len
  pub coded : code_of (at header 7) ≡ code
  pub listed : code ≡ 0 → ⊥
  pub before : Before (unit_of code) records
  pub written : Written v content
  pub frame : f ≡ long_frame (c ∷ address ∷ reply_ci ∷ (header ++ (records ++ (wanted_dif ∷ unit_of code ∷ (content ++ rest)))))

-- it is taken: nothing is refused, and the transaction of this one write is put out
pub record TakenAs (f : List ℕ) (meter stamp room code : ℕ) (v : ℤ) : Type 0 where
  pub saying : (from_bus f meter stamp room).said ≡ taken S.Nothing min_text
  pub putting : (from_bus f meter stamp room).put ≡ one_write stamp (record { meter = meter; code = code; spare = 0; reading = v })

-- some code and reading of which a frame is the reply
pub record TakenReply (f : List ℕ) (meter stamp room : ℕ) : Type 0 where
  pub code : ℕ
  pub reading : ℤ
  pub built : Built f code reading
  pub taken_as : TakenAs f meter stamp room code reading

-- ---- a transaction of one write

pub record OneWriteTo (meter stamp : ℕ) (t : List ℕ) : Type 0 where
  pub in_layout : legal t ≡ true
  pub single : write_count t ≡ 1
  pub stamped : stamp_of t ≡ stamp
  pub metered : meter_at t 0 ≡ meter

-- ---- the claim

pub record BusClaim : Type 0 where
  -- what is taken is a transaction of one write to that meter with that stamp
  pub taken_is_one_write : (f : List ℕ) (meter stamp room : ℕ) → stamp < 2 ^ 64 → (from_bus f meter stamp room).said ≡ taken S.Nothing min_text
      → OneWriteTo meter stamp (from_bus f meter stamp room).put
  -- so Accept never says 4 to it
  pub accept_never_says_4 : (f : List ℕ) (meter stamp room : ℕ) → stamp < 2 ^ 64 → (from_bus f meter stamp room).said ≡ taken S.Nothing min_text
      → (c : State) (lane position : ℕ) → (accept c (from_bus f meter stamp room).put lane position).said ≡ refused 4 [] → ⊥
  -- every number from -9,999,999 to 99,999,999 is the reading of its digits
  pub every_number_is_read : (v : ℤ) (rest : List ℕ) → EightDigits v → reading_of (bcd v ++ rest) ≡ Some v
  -- a filler or a whole unwanted record in front of the rest changes nothing
  pub filler_is_passed : (unit : ℕ) (s : List ℕ) → first_reading unit (filler ∷ s) ≡ first_reading unit s
  pub unwanted_is_passed : (unit : ℕ) (r s : List ℕ) → Unwanted unit r → first_reading unit (r ++ s) ≡ first_reading unit s
  -- a reply that is built gives its reading, and nothing else is taken
  pub built_is_taken : (f : List ℕ) (meter stamp room code : ℕ) (v : ℤ) → Built f code v → meter < meters → min_text ≤ room → TakenAs f meter stamp room code v
  pub taken_is_built : (f : List ℕ) (meter stamp room : ℕ) → (from_bus f meter stamp room).said ≡ taken S.Nothing min_text → TakenReply f meter stamp room
  -- a frame is unbroken exactly if it is built around the L bytes of a reply
  pub unbroken_is_built : (f : List ℕ) → unbroken f ≡ true → (f ≡ long_frame (bytes_in f)) × (is_reply (bytes_in f) ≡ true)
  pub built_is_unbroken : (b : List ℕ) → is_reply b ≡ true → (unbroken (long_frame b) ≡ true) × (bytes_in (long_frame b) ≡ b)
