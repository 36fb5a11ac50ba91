-- What sealing and opening answer, and what they leave in the lent buffer.
-- Assumes nothing.
use Rattle.std.specs.Prelude.{ℕ, ◌+◌, ◌-◌, Bool, cond, ◌||◌, List, [], ltb, length, take, drop, Result, Ok, Err}
use Rattle.std.proofs.Math.Option.{Option, some, none}
use Rattle.octets.specs.Lists.{put_over}
use Rattle.gcm.specs.Gcm.{max_plain, max_data, tag_len, sealed, opened}
use Rattle.gcm.specs.declared.SealError.{SealError}
use Rattle.gcm.specs.declared.SealError.TheVariants as S
use Rattle.gcm.specs.declared.OpenError.{OpenError}
use Rattle.gcm.specs.declared.OpenError.TheVariants as O

-- whether a text of n bytes or data of d bytes is beyond the standard
abbrev pub beyond : ℕ → ℕ → Bool
beyond n d = ltb max_plain n || ltb max_data d

-- ---- sealing

-- the answer for n bytes of text, with d bytes of data, in a buffer of r bytes
unfoldable pub sealing : ℕ → ℕ → ℕ → Result (Unit {0}) SealError
sealing d n r = cond (beyond n d) (Err S.Long) (cond (ltb r (n + tag_len)) (Err (S.Short (n + tag_len))) (Ok tt))

-- what is put out, where the sealed text is out
unfoldable pub seal_put : Result (Unit {0}) SealError → List ℕ → List ℕ
seal_put (Ok done) out = out
seal_put (Err e) out = []

-- ---- opening

-- the answer where decryption gave p, and what is put out
unfoldable pub text_answer : Option (List ℕ) → Result ℕ OpenError
text_answer (some p) = Ok (length p)
text_answer none = Err O.Fail

unfoldable pub text_put : Option (List ℕ) → List ℕ
text_put (some p) = p
text_put none = []

-- the answer for m bytes, text and tag, with d bytes of data, and room for r bytes; p is what decryption gives
unfoldable pub open_answer : ℕ → ℕ → ℕ → Option (List ℕ) → Result ℕ OpenError
open_answer d m r p =
    cond (ltb m tag_len) (Err O.Fail)
    (cond (beyond (m - tag_len) d) (Err O.Long)
    (cond (ltb r (m - tag_len)) (Err (O.Short (m - tag_len))) (text_answer p)))

unfoldable pub open_put : Result ℕ OpenError → Option (List ℕ) → List ℕ
open_put (Ok n) p = text_put p
open_put (Err e) p = []

module _ (ciph : List ℕ → List ℕ) (dot : ℕ → ℕ) (iv a : List ℕ) where
  -- the buffer s after its first n bytes were sealed
  unfoldable pub sealed_in : ℕ → List ℕ → List ℕ
  sealed_in n s = put_over (seal_put (sealing (length a) n (length s)) (sealed ciph dot iv a (take n s))) s

  -- decryption of s, of which the last 16 bytes are the tag
  abbrev pub text_in : List ℕ → Option (List ℕ)
  text_in s = opened ciph dot iv a (take (length s - tag_len) s) (drop (length s - tag_len) s)

  -- the answer for s, where there is room for r bytes, and the buffer t after it
  unfoldable pub opening : List ℕ → ℕ → Result ℕ OpenError
  opening s r = open_answer (length a) (length s) r (text_in s)

  unfoldable pub opened_in : List ℕ → List ℕ → List ℕ
  opened_in s t = put_over (open_put (opening s (length t)) (text_in s)) t
