-- The claim of specs/Claim.antt holds.
-- Assumes nothing.
use Prim.Native.Nat.{ℕ, ◌<◌, ◌≤◌}
use mathlib.Core.Path.{◌≡◌, refl, sym, ap, ap₂, ◌∙◌}
use mathlib.Core.Bool.{true}
use mathlib.Core.Logic.{⊎_elim}
use mathlib.Core.List.{List, [], ◌∷◌, ◌++◌}
use native.Mathlib.Omega.{arith}
use lib.Dec.{leb, eqb, lit<}
use lib.IntN.{ℤ}
use lib.ListN.{length, take, drop, length-drop, length-append, take-append-drop, get_or-append}
use lib.Seq.{drop_at, drop-drop, length-take-le, get_or-take, get_or-drop}
use borrow.Author.Tests.{le-leb, eqb-false}
use Rattle.std.specs.Prelude.{Option, Some, None}
use Rattle.octets.specs.Lists.{at}
use Rattle.transaction.specs.Transaction.{meters, min_text}
use Rattle.protocol.specs.declared.Store.TheVariants as S
use Rattle.protocol.specs.Said.{taken, Told}
use Rattle.bus.specs.Frame.{fields_len, header_len, least_l, medium_place, reply_ci, is_reply, long_frame, bytes_in, unbroken}
use Rattle.bus.specs.Medium.{litres, kilowatt_hours, code_of, unit_of}
use Rattle.bus.specs.Records.{wanted_dif, first_reading}
use Rattle.bus.specs.Answer.{said_by, code_in, reading_in, heard, from_bus}
use Rattle.bus.specs.Claim.{Built, TakenAs, TakenReply, BusClaim}
use Rattle.bus.proofs.FieldLaws.{cond_by}
use Rattle.bus.proofs.FrameLaws.{places, reply_facts, unbroken_facts, unbroken_built, framed_unbroken, bytes_framed}
use Rattle.bus.proofs.BuiltLaws.{every_number, filler_passes, unwanted_passes, before_passes, wanted_taken}
use Rattle.bus.proofs.AnswerLaws.{written, answer_taken}
use Rattle.bus.proofs.TakenLaws.{not_taken, of_taken, taken_one, accept_not_four}
use Rattle.bus.proofs.ApartLaws.{no_reading, reading_by_law, sought}

unit_small : (code : ℕ) → unit_of code < 0x7c
unfolding unit_of
unit_small code = cond_by (λ n. n < 0x7c) (leb code 2) litres kilowatt_hours (λ _. lit< tt) (λ _. lit< tt)

-- ---- a reply that is built

module _ (f : List ℕ) (code : ℕ) (v : ℤ) (b : Built f code v) where
  abbrev behind : List ℕ
  behind = b.records ++ (wanted_dif ∷ unit_of code ∷ (b.content ++ b.rest))

  abbrev body : List ℕ
  body = b.c ∷ b.address ∷ reply_ci ∷ (b.header ++ behind)

  body_reply : is_reply body ≡ true
  unfolding is_reply
  body_reply =
      let h = b.headed in
      let l = length-append b.header behind in
      rw (le-leb least_l (length body) (omega arith), b.replying)

  body_whole : unbroken f ≡ true
  body_whole = ap unbroken b.frame ∙ framed_unbroken body body_reply

  body_bytes : bytes_in f ≡ body
  body_bytes = ap bytes_in b.frame ∙ bytes_framed body

  body_code : code_in f ≡ code
  unfolding code_in
  body_code =
      let h = b.headed in
      ap (λ (s : List ℕ). code_of (at s medium_place)) body_bytes ∙ ap code_of (get_or-append b.header behind 0 7 (omega arith)) ∙ b.coded

  body_read : first_reading (unit_of (code_in f)) (drop least_l (bytes_in f)) ≡ Some v
  body_read =
      ap₂ (λ (n : ℕ) (l : List ℕ). first_reading (unit_of n) l) body_code (ap (drop least_l) body_bytes ∙ drop_at b.header behind header_len b.headed)
      ∙ before_passes (unit_of code) b.records b.before (wanted_dif ∷ unit_of code ∷ (b.content ++ b.rest))
      ∙ wanted_taken (unit_of code) (unit_small code) b.content b.rest v b.written

  module _ (meter stamp room : ℕ) (m : meter < meters) (r : min_text ≤ room) where
    answered : from_bus f meter stamp room ≡ written meter stamp code v
    answered =
        answer_taken f meter stamp room r m body_whole (λ e. b.listed (sym body_code ∙ e)) body_read
        ∙ ap (λ (n : ℕ). written meter stamp n v) body_code

    pub built_taken : TakenAs f meter stamp room code v
    unfolding said_by
    built_taken = record { saying = ap (λ (a : Told). a.said) answered; putting = ap (λ (a : Told). a.put) answered }

-- ---- what is taken was built

module _ (f : List ℕ) (u : unbroken f ≡ true) (v : ℤ) where
  apart : (code_in f ≡ 0 → ⊥) → first_reading (unit_of (code_in f)) (drop least_l (bytes_in f)) ≡ Some v → Built f (code_in f) v
  unfolding code_in
  apart some e =
      let b = bytes_in f in
      let r = reply_facts b (unbroken_facts f u).reply in
      let least = r.0 in
      let g = sought (unit_of (code_in f)) (drop least_l b) v e in
      let l = length-drop fields_len b in
      let records : drop header_len (drop fields_len b) ≡ g.records ++ (wanted_dif ∷ unit_of (code_in f) ∷ (g.content ++ g.rest)) = drop-drop header_len fields_len b ∙ g.whole in
      record {
        c = at b 0;
        address = at b 1;
        header = take header_len (drop fields_len b);
        records = g.records;
        content = g.content;
        rest = g.rest;
        replying = r.1;
        headed = length-take-le header_len (drop fields_len b) (omega arith);
        coded = ap code_of (get_or-take header_len (drop fields_len b) 7 0 (omega arith) ∙ get_or-drop fields_len b 7 0);
        listed = some;
        before = g.before;
        written = g.written;
        frame =
            unbroken_built f u
            ∙ ap long_frame
            (places fields_len 0 b (omega arith)
            ∙ (λ i. at b 0 ∷ at b 1 ∷ r.2 i ∷ (sym (take-append-drop header_len (drop fields_len b)) ∙ ap (λ (t : List ℕ). take header_len (drop fields_len b) ++ t) records) i));
      }

  heard_apart : reading_in (code_in f) f ≡ Some v → Built f (code_in f) v
  unfolding reading_in
  heard_apart e =
      ⊎_elim (λ p. no_reading p.1) (λ q. apart (eqb-false (code_in f) 0 q.0) q.1)
      (reading_by_law (eqb (code_in f) 0) None (first_reading (unit_of (code_in f)) (drop least_l (bytes_in f))) e)

module _ (f : List ℕ) (meter stamp room : ℕ) where
  replied : min_text ≤ room → meter < meters → unbroken f ≡ true → (r : Option ℤ) → reading_in (code_in f) f ≡ r → (heard meter stamp (code_in f) r).said ≡ taken S.Nothing min_text → TakenReply f meter stamp room
  unfolding heard
  replied room_fits m u (Some v) e s =
      let b = heard_apart f u v e in
      record { code = code_in f; reading = v; built = b; taken_as = built_taken f (code_in f) v b meter stamp room m room_fits }
  replied room_fits m u None e s = not_taken 17 [] s

  taken_built : (from_bus f meter stamp room).said ≡ taken S.Nothing min_text → TakenReply f meter stamp room
  taken_built = of_taken (λ _. TakenReply f meter stamp room) f meter stamp room (λ r m u. replied r m u (reading_in (code_in f) f) refl)

-- ---- the claim

pub claim : BusClaim
claim = record {
  taken_is_one_write = taken_one;
  accept_never_says_4 = λ f meter stamp room l e c lane position. accept_not_four c (from_bus f meter stamp room).put lane position (taken_one f meter stamp room l e).in_layout;
  every_number_is_read = every_number;
  filler_is_passed = filler_passes;
  unwanted_is_passed = unwanted_passes;
  built_is_taken = λ f meter stamp room code v b m r. built_taken f code v b meter stamp room m r;
  taken_is_built = taken_built;
  unbroken_is_built = λ f e. (unbroken_built f e, (unbroken_facts f e).reply);
  built_is_unbroken = λ b e. (framed_unbroken b e, bytes_framed b);
}
