-- What sealing and opening leave in the lent buffer, from what their parts leave; and each answer from the tests that lead to it.
-- Assumes nothing.
use mathlib.Core.Path.{◌≡◌, refl, sym, ap, ap₂, ◌∙◌}
use mathlib.Core.Bool.{true, false}
use mathlib.Core.List.{List, ◌++◌, append_assoc}
use mathlib.Core.Option.{Option, some, none}
use Prim.Native.Nat.{ℕ, ◌+◌, ◌-◌, ◌<◌, ◌≤◌}
use native.Mathlib.Omega.{arith}
use borrow.Author.Tests.{le-ltb, lt-ltb, ltb-false}
use lib.Dec.{ltb}
use lib.ListN.{length, take, drop, length-append, length-drop}
use lib.Seq.{take_at, drop_at, drop-drop, length-take-le}
use Rattle.octets.specs.Lists.{over, put_over}
use Rattle.octets.specs.Bytes.{same_bytes}
use Rattle.octets.proofs.BoolLaws.{or_left, or_right}
use Rattle.octets.proofs.CopyLaws.{over_room}
use Rattle.aes.specs.Counter.{inc32, gctr}
use Rattle.aes.proofs.CounterLaws.{gctr_length}
use Rattle.gcm.specs.Gcm.{max_plain, max_data, pre_counter, only_if, cipher_text, tag_of, sealed, opened}
use Rattle.gcm.specs.Answers.{beyond, sealing, seal_put, text_answer, text_put, open_answer, open_put, sealed_in, text_in, opening, opened_in}
use Rattle.gcm.specs.declared.SealError.TheVariants as S
use Rattle.gcm.specs.declared.OpenError.{OpenError}
use Rattle.gcm.specs.declared.OpenError.TheVariants as O
use Rattle.std.specs.Prelude.{Result, Ok, Err}
use Rattle.gcm.proofs.SealLaws.{length_cipher_text, length_tag}

-- what is not beyond the standard is within it
pub within_text : (n d : ℕ) → beyond n d ≡ false → n ≤ max_plain
within_text n d e = ltb-false max_plain n (or_left (ltb max_plain n) (ltb max_data d) e)

pub within_data : (n d : ℕ) → beyond n d ≡ false → d ≤ max_data
within_data n d e = ltb-false max_data d (or_right (ltb max_plain n) (ltb max_data d) e)

module _ (ciph : List ℕ → List ℕ) (whole : (b : List ℕ) → 16 ≤ length (ciph b)) (iv : List ℕ) where
  -- a ciphertext copied into the buffer out, and counter mode over it
  pub text_put_law : (s out o x : List ℕ) (n j k : ℕ) → n ≤ length s → o ≡ take n s ++ drop n out → k ≡ pre_counter iv → j ≡ inc32 k → x ≡ gctr ciph j (take n o)
      → x ++ drop n o ≡ put_over (cipher_text ciph iv (take n s)) out
  unfolding cipher_text
  text_put_law s out o x n j k hs eo ek ej ex =
      let c = take n s in
      let l : length c ≡ n = length-take-le n s hs in
      let p = gctr ciph (inc32 (pre_counter iv)) c in
      let lp : length p ≡ n = gctr_length ciph whole (inc32 (pre_counter iv)) c ∙ l in
      ap₂ (λ (a b : List ℕ). a ++ b)
      (ex ∙ ap₂ (λ (i : ℕ) (t : List ℕ). gctr ciph i t) (ej ∙ ap inc32 ek) (ap (take n) eo ∙ take_at c (drop n out) n l))
      (ap (drop n) eo ∙ drop_at c (drop n out) n l ∙ ap (λ (i : ℕ). drop i out) (sym lp))

  -- the text encrypted in its place, and the tag put behind it
  pub seal_put_law : (dot : ℕ → ℕ) (a b x y : List ℕ) (n j k : ℕ) (t : List ℕ) → n + 16 ≤ length b → k ≡ pre_counter iv → j ≡ inc32 k → x ≡ gctr ciph j (take n b)
      → t ≡ tag_of ciph dot iv a (take n (x ++ drop n b)) → y ≡ over t (drop n (x ++ drop n b))
      → take n (x ++ drop n b) ++ y ≡ put_over (sealed ciph dot iv a (take n b)) b
  unfolding sealed cipher_text
  seal_put_law dot a b x y n j k t room ek ej ex et ey =
      let p = take n b in
      let lp : length p ≡ n = length-take-le n b (omega arith) in
      let c = gctr ciph (inc32 (pre_counter iv)) p in
      let ec : x ≡ c = ex ∙ ap (λ (i : ℕ). gctr ciph i p) (ej ∙ ap inc32 ek) in
      let lc : length c ≡ n = gctr_length ciph whole (inc32 (pre_counter iv)) p ∙ lp in
      let lx : length x ≡ n = ap length ec ∙ lc in
      let front : take n (x ++ drop n b) ≡ c = take_at x (drop n b) n lx ∙ ec in
      let rest : drop n (x ++ drop n b) ≡ drop n b = drop_at x (drop n b) n lx in
      let T = tag_of ciph dot iv a c in
      let lt : length T ≡ 16 = length_tag ciph whole dot iv a c in
      let e_t : t ≡ T = et ∙ ap (tag_of ciph dot iv a) front in
      let behind : y ≡ T ++ drop 16 (drop n b) =
      ey ∙ ap₂ over e_t rest ∙ over_room T (drop n b) (simp length-drop (omega arith)) ∙ ap (λ (i : ℕ). T ++ drop i (drop n b)) lt
      in
      let total : length (c ++ T) ≡ n + 16 = length-append c T ∙ ap₂ (λ (i m : ℕ). i + m) lc lt in
      ap₂ (λ (u v : List ℕ). u ++ v) front behind
      ∙ sym (append_assoc c T (drop 16 (drop n b)))
      ∙ ap (λ (u : List ℕ). (c ++ T) ++ u) (drop-drop 16 n b ∙ ap (λ (i : ℕ). drop i b) (sym total))

-- ---- answers

module _ (ciph : List ℕ → List ℕ) (dot : ℕ → ℕ) (iv a : List ℕ) (n : ℕ) (s : List ℕ) where
  pub seal_long : beyond n (length a) ≡ true → (Err S.Long ≡ sealing (length a) n (length s)) × (s ≡ sealed_in ciph dot iv a n s)
  unfolding sealing sealed_in seal_put
  seal_long e = (rw e, rw e)

  pub seal_short : beyond n (length a) ≡ false → length s < n + 16 → (Err (S.Short (n + 16)) ≡ sealing (length a) n (length s)) × (s ≡ sealed_in ciph dot iv a n s)
  unfolding sealing sealed_in seal_put
  seal_short e h = (rw (e, lt-ltb (length s) (n + 16) h), rw (e, lt-ltb (length s) (n + 16) h))

  pub seal_done : (r : List ℕ) → beyond n (length a) ≡ false → n + 16 ≤ length s → r ≡ put_over (sealed ciph dot iv a (take n s)) s
      → (Ok tt ≡ sealing (length a) n (length s)) × (r ≡ sealed_in ciph dot iv a n s)
  unfolding sealing sealed_in seal_put
  seal_done r e h er = (rw (e, le-ltb (length s) (n + 16) h), rw (e, le-ltb (length s) (n + 16) h) er)

module _ (ciph : List ℕ → List ℕ) (dot : ℕ → ℕ) (iv a s t : List ℕ) where
  pub open_none : length s < 16 → (Err O.Fail ≡ opening ciph dot iv a s (length t)) × (t ≡ opened_in ciph dot iv a s t)
  unfolding opening open_answer opened_in open_put
  open_none h = (rw (lt-ltb (length s) 16 h), rw (lt-ltb (length s) 16 h))

  module _ (h : 16 ≤ length s) where
    pub open_long : beyond (length s - 16) (length a) ≡ true → (Err O.Long ≡ opening ciph dot iv a s (length t)) × (t ≡ opened_in ciph dot iv a s t)
    unfolding opening open_answer opened_in open_put
    open_long e = (rw (le-ltb (length s) 16 h, e), rw (le-ltb (length s) 16 h, e))

    pub open_short : beyond (length s - 16) (length a) ≡ false → length t < length s - 16
        → (Err (O.Short (length s - 16)) ≡ opening ciph dot iv a s (length t)) × (t ≡ opened_in ciph dot iv a s t)
    unfolding opening open_answer opened_in open_put
    open_short e g = (rw (le-ltb (length s) 16 h, e, lt-ltb (length t) (length s - 16) g), rw (le-ltb (length s) 16 h, e, lt-ltb (length t) (length s - 16) g))

    -- the tests on lengths are passed: the answer is decryption's
    module _ (e : beyond (length s - 16) (length a) ≡ false) (g : length s - 16 ≤ length t) where
      pub open_fails : same_bytes (drop (length s - 16) s) (tag_of ciph dot iv a (take (length s - 16) s)) ≡ false
          → (Err O.Fail ≡ opening ciph dot iv a s (length t)) × (t ≡ opened_in ciph dot iv a s t)
      unfolding opening open_answer opened_in open_put text_answer opened only_if
      open_fails w = (rw (le-ltb (length s) 16 h, e, le-ltb (length t) (length s - 16) g, w), rw (le-ltb (length s) 16 h, e, le-ltb (length t) (length s - 16) g, w))

      pub open_opens : (whole : (b : List ℕ) → 16 ≤ length (ciph b)) (r : List ℕ) → same_bytes (drop (length s - 16) s) (tag_of ciph dot iv a (take (length s - 16) s)) ≡ true
          → r ≡ put_over (cipher_text ciph iv (take (length s - 16) s)) t
          → (Ok (length s - 16) ≡ opening ciph dot iv a s (length t)) × (r ≡ opened_in ciph dot iv a s t)
      unfolding opening open_answer opened_in open_put text_answer text_put opened only_if
      open_opens whole r w er = (
        rw (le-ltb (length s) 16 h, e, le-ltb (length t) (length s - 16) g, w)
            (ap Ok (sym (length_cipher_text ciph whole dot iv (take (length s - 16) s) ∙ length-take-le (length s - 16) s (omega arith)))),
        rw (le-ltb (length s) 16 h, e, le-ltb (length t) (length s - 16) g, w) er,
      )

-- ---- where all lengths are right

pub within : (n d : ℕ) → n ≤ max_plain → d ≤ max_data → beyond n d ≡ false
within n d hn hd = rw (le-ltb max_plain n hn, le-ltb max_data d hd)

pub sealed_within : (ciph : List ℕ → List ℕ) (dot : ℕ → ℕ) (iv a : List ℕ) (n : ℕ) (s : List ℕ) → n ≤ max_plain → length a ≤ max_data → n + 16 ≤ length s
    → sealed_in ciph dot iv a n s ≡ put_over (sealed ciph dot iv a (take n s)) s
sealed_within ciph dot iv a n s hn ha h = sym (seal_done ciph dot iv a n s _ (within n (length a) hn ha) h refl).1

put_text_answer : (p : Option (List ℕ)) → open_put (text_answer p) p ≡ text_put p
unfolding open_put text_answer text_put
put_text_answer (some p) = refl
put_text_answer none = refl

module _ (ciph : List ℕ → List ℕ) (dot : ℕ → ℕ) (iv a s t : List ℕ) (h : 16 ≤ length s) (hs : length s - 16 ≤ max_plain) (ha : length a ≤ max_data) (room : length s - 16 ≤ length t) where
  pub answer_within : opening ciph dot iv a s (length t) ≡ text_answer (text_in ciph dot iv a s)
  unfolding opening open_answer
  answer_within = rw (le-ltb (length s) 16 h, within (length s - 16) (length a) hs ha, le-ltb (length t) (length s - 16) room)

  pub opened_within : opened_in ciph dot iv a s t ≡ put_over (text_put (text_in ciph dot iv a s)) t
  unfolding opened_in
  opened_within =
      ap (λ (x : Result ℕ OpenError). put_over (open_put x (text_in ciph dot iv a s)) t) answer_within
      ∙ ap (λ (p : List ℕ). put_over p t) (put_text_answer (text_in ciph dot iv a s))
