-- The numbers that the boundary answers in: 0 done; 1 the key is not 16 bytes or the nonce not 12; 2 the lent buffer is too short;
-- 3 a length beyond SP 800-38D; 4 FAIL. Where it is not 0, the lent buffer is as it came.
-- Assumes nothing.
use Rattle.std.specs.Prelude.{ℕ, cond, List, eqb, length, Result, Ok, Err}
use Rattle.gcm.specs.declared.SealError.{SealError}
use Rattle.gcm.specs.declared.SealError.TheVariants as S
use Rattle.gcm.specs.declared.OpenError.{OpenError}
use Rattle.gcm.specs.declared.OpenError.TheVariants as O
use Rattle.gcm.specs.Answers.{sealing, sealed_in, opening, opened_in}

abbrev pub seal_code : Result (Unit {0}) SealError → ℕ
seal_code (Ok done) = 0
seal_code (Err (S.Short n)) = 2
seal_code (Err S.Long) = 3

abbrev pub open_code : Result ℕ OpenError → ℕ
open_code (Ok n) = 0
open_code (Err (O.Short n)) = 2
open_code (Err O.Long) = 3
open_code (Err O.Fail) = 4

module _ (ciph : List ℕ → List ℕ) (dot : ℕ → ℕ) (iv a : List ℕ) where
  -- sealing the first n bytes of s: the answer, and s after it
  unfoldable pub seal_number : ℕ → List ℕ → ℕ
  seal_number n s = cond (eqb (length iv) 12) (seal_code (sealing (length a) n (length s))) 1

  unfoldable pub seal_buffer : ℕ → List ℕ → List ℕ
  seal_buffer n s = cond (eqb (length iv) 12) (sealed_in ciph dot iv a n s) s

  -- opening s into t: the answer, and t after it
  unfoldable pub open_number : List ℕ → List ℕ → ℕ
  open_number s t = cond (eqb (length iv) 12) (open_code (opening ciph dot iv a s (length t))) 1

  unfoldable pub open_buffer : List ℕ → List ℕ → List ℕ
  open_buffer s t = cond (eqb (length iv) 12) (opened_in ciph dot iv a s t) t
