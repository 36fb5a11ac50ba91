-- A frame: the code's tests are the definition's, and a frame is unbroken exactly if it is built around the L bytes of a reply.
-- Assumes nothing.
use Prim.Native.Nat.{ℕ, zero, suc, ◌+◌, ◌-◌, ◌%◌, ◌<◌, ◌≤◌}
use mathlib.Core.Path.{◌≡◌, refl, sym, ap, ap₂, ◌∙◌}
use mathlib.Core.Bool.{Bool, true, false, ◌&&◌}
use mathlib.Core.List.{List, [], ◌∷◌, ◌++◌}
use native.Mathlib.Nat.{add-zero}
use native.Mathlib.Omega.{arith}
use lib.Dec.{leb, eqb}
use lib.ListN.{length, take, drop, length-drop, length-append, take-append-drop, drop_of_length-le}
use lib.Seq.{length-take-le, get_or-take, get_or-drop, take-add, drop-drop, drop-cons, take_at, drop_at, get_or-append_seam, get_or-append-add}
use borrow.Author.Tests.{leb-true, eqb-true, eq-eqb, ne_eqb, le-leb, lt-leb}
use borrow.Rule.Slice.PartMut.{mid_of}
use Rattle.octets.specs.Lists.{at, from}
use Rattle.octets.proofs.BoolLaws.{and_assoc, and_false, and_left, and_right}
use Rattle.octets.proofs.EveryLaws.{and_both}
use Rattle.bus.specs.Frame.{start_byte, stop_byte, open_len, close_len, least_l, reply_ci, sum, reply_c, is_reply, long_frame, len_in, bytes_in, sum_in, stop_in, unbroken}

-- ---- the bytes of a list by their places, and the rest

pub places : (n i : ℕ) (s : List ℕ) → i + n ≤ length s → drop i s ≡ from i n (at s) ++ drop (i + n) s
places zero i s h = ap (λ (k : ℕ). drop k s) (sym (add-zero i))
places (suc n) i s h =
    drop-cons s i 0 (omega arith)
    ∙ ap (λ (t : List ℕ). at s i ∷ t) (places n (suc i) s (omega arith) ∙ ap (λ (k : ℕ). from (suc i) n (at s) ++ drop k s) (let e : suc i + n ≡ i + suc n = omega arith in e))

-- ---- of L + 6 bytes

module _ (f : List ℕ) (e : length f ≡ open_len + len_in f + close_len) where
  pub bytes_long : length (bytes_in f) ≡ len_in f
  bytes_long = let l = length-drop open_len f in length-take-le (len_in f) (drop open_len f) (omega arith)

  pub bytes_at_law : (i : ℕ) → i < len_in f → at (bytes_in f) i ≡ at f (open_len + i)
  bytes_at_law i h = get_or-take (len_in f) (drop open_len f) i 0 h ∙ get_or-drop open_len f i 0

  -- L is too small
  reply_short : len_in f < least_l → is_reply (bytes_in f) ≡ false
  unfolding is_reply
  reply_short h = rw (lt-leb least_l (length (bytes_in f)) (let l = bytes_long in omega arith))

  -- it is not: the code's test
  pub unbroken_is : least_l ≤ len_in f → {total : ℕ} → total ≡ sum (bytes_in f) % 256
      → eqb (at f 0) start_byte && eqb (at f 2) (len_in f) && eqb (at f 3) start_byte && eqb (sum_in f) total && eqb (stop_in f) stop_byte && reply_c (at f 4) && eqb (at f 6) reply_ci ≡ unbroken f
  unfolding unbroken is_reply
  unbroken_is h {total} s =
      let l : leb least_l (length (bytes_in f)) ≡ true = let l = bytes_long in le-leb least_l (length (bytes_in f)) (omega arith) in
      let c : at (bytes_in f) 0 ≡ at f 4 = bytes_at_law 0 (omega arith) in
      let d : at (bytes_in f) 2 ≡ at f 6 = bytes_at_law 2 (omega arith) in
      let head : ℕ → Bool = λ n. eqb (at f 0) start_byte && eqb (at f 2) (len_in f) && eqb (at f 3) start_byte && eqb (sum_in f) n && eqb (stop_in f) stop_byte in
      rw (eq-eqb (length f) (open_len + len_in f + close_len) e, l, c, d)
      (ap (λ (n : ℕ). head n && reply_c (at f 4) && eqb (at f 6) reply_ci) s ∙ and_assoc (head (sum (bytes_in f) % 256)) (reply_c (at f 4)) (eqb (at f 6) reply_ci))

pub unbroken_long : (f : List ℕ) → (length f ≡ open_len + len_in f + close_len → ⊥) → unbroken f ≡ false
unfolding unbroken
unbroken_long f n = rw (ne_eqb (length f) (open_len + len_in f + close_len) n)

-- fewer bytes than the least frame has
short_by : (f : List ℕ) → length f < open_len + least_l + close_len → (b : Bool) → eqb (length f) (open_len + len_in f + close_len) ≡ b → unbroken f ≡ false
unfolding unbroken
short_by f h false e = rw e
short_by f h true e =
    let l = eqb-true (length f) (open_len + len_in f + close_len) e in
    rw (reply_short f l (omega arith)) (and_false (eqb (length f) (open_len + len_in f + close_len) && eqb (at f 0) start_byte && eqb (at f 2) (len_in f) && eqb (at f 3) start_byte && eqb (sum_in f) (sum (bytes_in f) % 256) && eqb (stop_in f) stop_byte))

pub unbroken_short : (f : List ℕ) → length f < open_len + least_l + close_len → unbroken f ≡ false
unbroken_short f h = short_by f h (eqb (length f) (open_len + len_in f + close_len)) refl

-- ---- an unbroken frame

pub record Unbroken (f : List ℕ) : Type 0 where
  pub long : length f ≡ open_len + len_in f + close_len
  pub first : at f 0 ≡ start_byte
  pub again : at f 2 ≡ len_in f
  pub fourth : at f 3 ≡ start_byte
  pub summed : sum_in f ≡ sum (bytes_in f) % 256
  pub stops : stop_in f ≡ stop_byte
  pub reply : is_reply (bytes_in f) ≡ true

pub unbroken_facts : (f : List ℕ) → unbroken f ≡ true → Unbroken f
unfolding unbroken
unbroken_facts f e =
    let t1 = eqb (length f) (open_len + len_in f + close_len) in
    let t2 = eqb (at f 0) start_byte in
    let t3 = eqb (at f 2) (len_in f) in
    let t4 = eqb (at f 3) start_byte in
    let t5 = eqb (sum_in f) (sum (bytes_in f) % 256) in
    let t6 = eqb (stop_in f) stop_byte in
    let r = and_left (t1 && t2 && t3 && t4 && t5 && t6) (is_reply (bytes_in f)) e in
    let q = and_left (t1 && t2 && t3 && t4 && t5) t6 r in
    let p = and_left (t1 && t2 && t3 && t4) t5 q in
    let o = and_left (t1 && t2 && t3) t4 p in
    let n = and_left (t1 && t2) t3 o in
    record {
      long = eqb-true (length f) (open_len + len_in f + close_len) (and_left t1 t2 n);
      first = eqb-true (at f 0) start_byte (and_right t1 t2 n);
      again = eqb-true (at f 2) (len_in f) (and_right (t1 && t2) t3 o);
      fourth = eqb-true (at f 3) start_byte (and_right (t1 && t2 && t3) t4 p);
      summed = eqb-true (sum_in f) (sum (bytes_in f) % 256) (and_right (t1 && t2 && t3 && t4) t5 q);
      stops = eqb-true (stop_in f) stop_byte (and_right (t1 && t2 && t3 && t4 && t5) t6 r);
      reply = and_right (t1 && t2 && t3 && t4 && t5 && t6) (is_reply (bytes_in f)) e;
    }

pub reply_facts : (b : List ℕ) → is_reply b ≡ true → (least_l ≤ length b) × (reply_c (at b 0) ≡ true) × (at b 2 ≡ reply_ci)
unfolding is_reply
reply_facts b e =
    let long = leb least_l (length b) in
    let p = and_left (long && reply_c (at b 0)) (eqb (at b 2) reply_ci) e in
    (leb-true least_l (length b) (and_left long (reply_c (at b 0)) p), and_right long (reply_c (at b 0)) p, eqb-true (at b 2) reply_ci (and_right (long && reply_c (at b 0)) (eqb (at b 2) reply_ci) e))

pub unbroken_least : (f : List ℕ) → unbroken f ≡ true → (length f ≡ open_len + len_in f + close_len) × (least_l ≤ len_in f)
unbroken_least f e =
    let u = unbroken_facts f e in
    let l = bytes_long f u.long in
    let r = (reply_facts (bytes_in f) u.reply).0 in
    (u.long, omega arith)

-- ---- it is built around its L bytes

closed : (f : List ℕ) (n : ℕ) → length f ≡ n + close_len → drop n f ≡ at f n ∷ at f (n + 1) ∷ []
closed f n e =
    places close_len n f (omega arith)
    ∙ ap₂ (λ (k : ℕ) (l : List ℕ). at f n ∷ at f k ∷ l) (let e : suc n ≡ n + 1 = omega arith in e) (drop_of_length-le f {i = n + close_len} (omega arith))

pub unbroken_built : (f : List ℕ) → unbroken f ≡ true → f ≡ long_frame (bytes_in f)
unfolding long_frame
unbroken_built f e =
    let u = unbroken_facts f e in
    let l = bytes_long f u.long in
    let n = len_in f in
    let rest : drop n (drop open_len f) ≡ sum (bytes_in f) % 256 ∷ stop_byte ∷ [] =
    drop-drop n open_len f ∙ closed f (open_len + n) u.long ∙ ap₂ (λ (x y : ℕ). x ∷ y ∷ []) u.summed u.stops in
    let body : drop open_len f ≡ bytes_in f ++ (sum (bytes_in f) % 256 ∷ stop_byte ∷ []) = sym (take-append-drop n (drop open_len f)) ∙ ap (λ (r : List ℕ). bytes_in f ++ r) rest in
    places open_len 0 f (let g = u.long in omega arith)
    ∙ (λ i. u.first i ∷ sym l i ∷ (u.again ∙ sym l) i ∷ u.fourth i ∷ body i)

-- ---- whatever is built so is unbroken, and has these L bytes

module _ (b : List ℕ) where
  pub length_framed : length (long_frame b) ≡ open_len + length b + close_len
  unfolding long_frame
  length_framed = let l = length-append b (sum b % 256 ∷ stop_byte ∷ []) in omega arith

  pub bytes_framed : bytes_in (long_frame b) ≡ b
  unfolding long_frame
  bytes_framed = take_at b (sum b % 256 ∷ stop_byte ∷ []) (length b) refl

  sum_framed : sum_in (long_frame b) ≡ sum b % 256
  unfolding long_frame
  sum_framed =
      ap (at (long_frame b)) (let e : open_len + length b ≡ suc (suc (suc (suc (length b)))) = omega arith in e)
      ∙ get_or-append_seam b (sum b % 256) (stop_byte ∷ []) 0

  stop_framed : stop_in (long_frame b) ≡ stop_byte
  unfolding long_frame
  stop_framed =
      ap (at (long_frame b)) (let e : open_len + length b + 1 ≡ suc (suc (suc (suc (length b + 1)))) = omega arith in e)
      ∙ get_or-append-add b (sum b % 256 ∷ stop_byte ∷ []) 1 0

  len_framed : len_in (long_frame b) ≡ length b
  unfolding long_frame
  len_framed = refl

  again_framed : at (long_frame b) 2 ≡ len_in (long_frame b)
  unfolding long_frame
  again_framed = refl

  starts_framed : (at (long_frame b) 0 ≡ start_byte) × (at (long_frame b) 3 ≡ start_byte)
  unfolding long_frame
  starts_framed = (refl, refl)

  pub framed_unbroken : is_reply b ≡ true → unbroken (long_frame b) ≡ true
  unfolding unbroken
  framed_unbroken e =
      let f = long_frame b in
      let l : eqb (length f) (open_len + len_in f + close_len) ≡ true = eq-eqb (length f) (open_len + len_in f + close_len) (length_framed ∙ ap (λ (n : ℕ). open_len + n + close_len) (sym len_framed)) in
      let a : eqb (at f 0) start_byte ≡ true = eq-eqb (at f 0) start_byte starts_framed.0 in
      let c : eqb (at f 2) (len_in f) ≡ true = eq-eqb (at f 2) (len_in f) again_framed in
      let d : eqb (at f 3) start_byte ≡ true = eq-eqb (at f 3) start_byte starts_framed.1 in
      let s : eqb (sum_in f) (sum (bytes_in f) % 256) ≡ true = eq-eqb (sum_in f) (sum (bytes_in f) % 256) (sum_framed ∙ ap (λ (u : List ℕ). sum u % 256) (sym bytes_framed)) in
      let t : eqb (stop_in f) stop_byte ≡ true = eq-eqb (stop_in f) stop_byte stop_framed in
      let r : is_reply (bytes_in f) ≡ true = ap is_reply bytes_framed ∙ e in
      and_both (and_both (and_both (and_both (and_both (and_both l a) c) d) s) t) r

-- ---- the parts that the code lends

-- the L bytes
pub bytes_part : (f : List ℕ) → mid_of open_len (open_len + len_in f - open_len) f ≡ bytes_in f
bytes_part f = ap (λ (n : ℕ). take n (drop open_len f)) (let e : open_len + len_in f - open_len ≡ len_in f = omega arith in e)

-- the records
pub records_part : (f : List ℕ) → length f ≡ open_len + len_in f + close_len → least_l ≤ len_in f
    → mid_of (open_len + least_l) (length f - close_len - (open_len + least_l)) f ≡ drop least_l (bytes_in f)
records_part f e h =
    let k = len_in f - least_l in
    let d = drop open_len f in
    let l = length-drop open_len f in
    let n : length f - close_len - (open_len + least_l) ≡ k = omega arith in
    let m : len_in f ≡ least_l + k = omega arith in
    ap₂ take n (sym (drop-drop least_l open_len f))
    ∙ sym (ap (λ (j : ℕ). drop least_l (take j d)) m ∙ ap (drop least_l) (take-add least_l k d) ∙ drop_at (take least_l d) (take k (drop least_l d)) least_l (length-take-le least_l d (omega arith)))
