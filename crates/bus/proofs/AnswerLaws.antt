-- What `from_bus` answers: each answer from the tests that lead to it.
-- Assumes nothing.
use Prim.Native.Nat.{ℕ, ◌+◌, ◌<◌, ◌≤◌}
use mathlib.Core.Path.{◌≡◌, sym, ap, ◌∙◌}
use mathlib.Core.Bool.{true, false}
use mathlib.Core.List.{List, []}
use native.Mathlib.Omega.{arith}
use lib.IntN.{ℤ}
use lib.ListN.{length, drop}
use borrow.Author.Tests.{eq-eqb, ne_eqb, lt-ltb, le-ltb, le-leb, lt-leb}
use Rattle.std.specs.Prelude.{Some, None, Result, Ok, Err}
use Rattle.octets.specs.Lists.{at, put_over, over}
use Rattle.octets.proofs.CopyLaws.{over_room}
use Rattle.transaction.specs.declared.Write.{Write}
use Rattle.transaction.proofs.WrittenLaws.{length_one_write}
use Rattle.transaction.specs.Transaction.{meters, min_text, one_write}
use Rattle.bus.specs.Frame.{open_len, least_l, medium_place, bytes_in, unbroken}
use Rattle.bus.specs.Medium.{code_of, unit_of}
use Rattle.bus.specs.Records.{first_reading}
use Rattle.protocol.specs.Said.{Told, turn_down}
use Rattle.protocol.proofs.SaidLaws.{told_so}
use Rattle.bus.specs.Answer.{number_of, values_of, said_by, code_in, reading_in, heard, from_bus}
use Rattle.bus.specs.declared.BusError.{BusError}
use Rattle.bus.specs.declared.BusError.TheVariants as E
use Rattle.bus.proofs.FrameLaws.{bytes_at_law, unbroken_least}

-- turned down, with nothing put out
abbrev pub turned : Result (Unit {0}) BusError → Told
turned h = record { said = said_by h; put = [] }

pub turned_so : {a : Told} (h : Result (Unit {0}) BusError) (out : List ℕ) → a ≡ turned h → (said_by h ≡ a.said) × (out ≡ put_over a.put out)
turned_so h out e = told_so out e

-- ---- the transaction of a reading

abbrev pub written : ℕ → ℕ → ℕ → ℤ → Told
written meter stamp code z = record { said = said_by (Ok tt); put = one_write stamp (record { meter = meter; code = code; spare = 0; reading = z }) }

pub taken_so : {a : Told} (meter stamp code : ℕ) (z : ℤ) {c : ℕ} {y : ℤ} {t : List ℕ} (out last : List ℕ) → min_text ≤ length out → a ≡ written meter stamp code z
    → t ≡ one_write stamp (record { meter = meter; code = c; spare = 0; reading = y }) → c ≡ code → y ≡ z → last ≡ over t out → (said_by (Ok tt) ≡ a.said) × (last ≡ put_over a.put out)
taken_so {a} meter stamp code z {c} {y} {t} out last room e et ec ez el =
    let w : Write = record { meter = meter; code = code; spare = 0; reading = z } in
    let same : ◌≡◌ {A = Write} (record { meter = meter; code = c; spare = 0; reading = y }) w = λ i. record { meter = meter; code = ec i; spare = 0; reading = ez i } in
    let text : t ≡ one_write stamp w = et ∙ ap (one_write stamp) same in
    let n = length_one_write stamp w in
    (sym (ap (λ (x : Told). x.said) e), el ∙ ap (λ (l : List ℕ). over l out) text ∙ over_room (one_write stamp w) out (omega arith) ∙ sym (ap (λ (x : Told). put_over x.put out) e))

-- the code's way to the medium
pub code_is : (f : List ℕ) → unbroken f ≡ true → code_of (at f (open_len + medium_place)) ≡ code_in f
unfolding code_in
code_is f u =
    let l = unbroken_least f u in
    let n = l.1 in
    ap code_of (sym (bytes_at_law f l.0 medium_place (omega arith)))

module _ (f : List ℕ) (meter stamp room : ℕ) where
  pub answer_short : room < min_text → from_bus f meter stamp room ≡ turned (Err (E.Short min_text))
  unfolding from_bus turn_down said_by number_of values_of
  answer_short h = rw (lt-ltb room min_text h)

  module _ (r : min_text ≤ room) where
    pub answer_meter : meters ≤ meter → from_bus f meter stamp room ≡ turned (Err E.Meter)
    unfolding from_bus turn_down said_by number_of values_of
    answer_meter h = rw (le-ltb room min_text r, le-leb meters meter h)

    module _ (m : meter < meters) where
      pub answer_broken : unbroken f ≡ false → from_bus f meter stamp room ≡ turned (Err E.Broken)
      unfolding from_bus turn_down said_by number_of values_of
      answer_broken e = rw (le-ltb room min_text r, lt-leb meters meter m, e)

      module _ (u : unbroken f ≡ true) where
        pub answer_heard : from_bus f meter stamp room ≡ heard meter stamp (code_in f) (reading_in (code_in f) f)
        unfolding from_bus turn_down
        answer_heard = rw (le-ltb room min_text r, lt-leb meters meter m, u)

        heard_none : reading_in (code_in f) f ≡ None → from_bus f meter stamp room ≡ turned (Err E.Unusable)
        unfolding heard said_by number_of values_of
        heard_none e = answer_heard ∙ ap (heard meter stamp (code_in f)) e

        pub answer_medium : code_in f ≡ 0 → from_bus f meter stamp room ≡ turned (Err E.Unusable)
        unfolding reading_in
        answer_medium e = heard_none (rw (eq-eqb (code_in f) 0 e))

        module _ (c : code_in f ≡ 0 → ⊥) where
          pub reading_behind : reading_in (code_in f) f ≡ first_reading (unit_of (code_in f)) (drop least_l (bytes_in f))
          unfolding reading_in
          reading_behind = rw (ne_eqb (code_in f) 0 c)

          pub answer_none : first_reading (unit_of (code_in f)) (drop least_l (bytes_in f)) ≡ None → from_bus f meter stamp room ≡ turned (Err E.Unusable)
          answer_none e = heard_none (reading_behind ∙ e)

          pub answer_taken : {z : ℤ} → first_reading (unit_of (code_in f)) (drop least_l (bytes_in f)) ≡ Some z → from_bus f meter stamp room ≡ written meter stamp (code_in f) z
          unfolding heard said_by number_of values_of
          answer_taken e = answer_heard ∙ ap (heard meter stamp (code_in f)) (reading_behind ∙ e)
