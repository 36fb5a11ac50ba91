-- What is taken is a transaction of one write, in its layout.
-- Assumes nothing.
use Prim.Native.Nat.{ℕ, zero, suc, ◌^◌, ◌<◌, ◌≤◌}
use mathlib.Core.Path.{◌≡◌, refl, sym, ap, subst}
use mathlib.Core.Bool.{Bool, true, false, cond, not, ◌&&◌, ◌||◌}
use mathlib.Core.List.{List, [], ◌∷◌}
use native.Mathlib.Nat.{pow-suc}
use native.Mathlib.Omega.{arith}
use lib.Dec.{leb, ltb, eqb, lit≤}
use lib.IntN.{ℤ, pos}
use lib.Signed.{mag}
use lib.ListN.{length, take, drop}
use borrow.Author.Tests.{ltb-false, leb-true, leb-false, eqb-false, le-leb, lt-ltb, not-false}
use Rattle.std.specs.Prelude.{Option, Some, None}
use Rattle.octets.specs.Lists.{at}
use Rattle.table.proofs.OrderLaws.{clash}
use Rattle.octets.proofs.BoolLaws.{and_left, and_right}
use Rattle.transaction.specs.declared.Write.{Write}
use Rattle.transaction.specs.Transaction.{meters, codes, min_text, legal_write, legal}
use Rattle.transaction.proofs.WrittenLaws.{one_write_count, one_write_stamp, one_write_back, one_write_legal}
use Rattle.protocol.specs.declared.State.{State}
use Rattle.protocol.specs.declared.Store.TheVariants as S
use Rattle.protocol.specs.Said as protocol
use Rattle.protocol.specs.Said.{refused, taken, Answered, Told, turn_down}
use Rattle.table.specs.Table.{lanes}
use Rattle.protocol.specs.History.{is_taken}
use Rattle.protocol.specs.Sheet.{number}
use Rattle.protocol.specs.States.{listed, ready}
use Rattle.protocol.specs.Vaults.{counter_max}
use Rattle.protocol.specs.Accept.{too_low, accept}
use Rattle.bus.specs.declared.Met.{Met}
use Rattle.bus.specs.declared.Met.TheVariants as M
use Rattle.bus.specs.Frame.{least_l, medium_place, bytes_in, unbroken}
use Rattle.bus.specs.Medium.{code_of, unit_of}
use Rattle.transaction.specs.Signed.{minus}
use Rattle.bus.specs.Digits.{digits_in, decimal, all_digits, reading_by, reading_of}
use Rattle.bus.specs.Records.{look, follow, first_within, first_reading, data_place}
use Rattle.bus.specs.Answer.{code_in, reading_in, heard, from_bus}
use Rattle.bus.specs.Claim.{OneWriteTo}
use Rattle.bus.proofs.FieldLaws.{cond_by}
use Rattle.bus.proofs.DigitLaws.{minus_small, four}

-- ---- a reading has 32 bits

abbrev Small : Option ℤ → Type 0
Small (Some z) = mag z < 2 ^ 31
Small None = Unit {0}

pub decimal_lt : (ds : List ℕ) → all_digits ds ≡ true → decimal ds < 10 ^ length ds
unfolding decimal all_digits
decimal_lt [] e = omega arith
decimal_lt (d ∷ ds) e =
    let p = pow-suc 10 (length ds) in
    let h = leb-true d 9 (and_left (leb d 9) (all_digits ds) e) in
    let ih = decimal_lt ds (and_right (leb d 9) (all_digits ds) e) in
    omega arith

-- of at most eight digits
by_small : (ds : List ℕ) → length ds ≡ 8 → length (take 7 ds) ≡ 7 → Small (reading_by ds)
unfolding reading_by
by_small ds e g =
    cond_by Small (all_digits ds) (Some (pos (decimal ds))) (cond (all_digits (take 7 ds) && eqb (at ds 7) 0x0f) (Some (minus (decimal (take 7 ds)))) None)
    (λ t. let h : decimal ds < 10 ^ 8 = subst (λ (n : ℕ). decimal ds < 10 ^ n) e (decimal_lt ds t) in omega arith)
    (λ _.
    cond_by Small (all_digits (take 7 ds) && eqb (at ds 7) 0x0f) (Some (minus (decimal (take 7 ds)))) None
    (λ t. let h : decimal (take 7 ds) < 10 ^ 7 = subst (λ (n : ℕ). decimal (take 7 ds) < 10 ^ n) g (decimal_lt (take 7 ds) (and_left (all_digits (take 7 ds)) (eqb (at ds 7) 0x0f) t)) in minus_small (decimal (take 7 ds)) (omega arith))
    (λ _. tt))

four_long : (a b c d : ℕ) → (length (digits_in (a ∷ b ∷ c ∷ d ∷ [])) ≡ 8) × (length (take 7 (digits_in (a ∷ b ∷ c ∷ d ∷ []))) ≡ 7)
unfolding digits_in
four_long a b c d = (refl, refl)

reading_small : (s : List ℕ) → Small (reading_of s)
unfolding reading_of
reading_small s =
    let l = four_long (at s 0) (at s 1) (at s 2) (at s 3) in
    subst (λ (b : List ℕ). Small (reading_by (digits_in b))) (sym (four s)) (by_small (digits_in (at s 0 ∷ at s 1 ∷ at s 2 ∷ at s 3 ∷ [])) l.0 l.1)

follow_small : (m : Met) (f : ℕ → Option ℤ) (h : Option ℤ) → ((n : ℕ) → Small (f n)) → Small h → Small (follow m f h)
unfolding follow
follow_small (M.Pass n) f h g l = g n
follow_small M.Take f h g l = l
follow_small M.End f h g l = tt

within_small : (n unit : ℕ) (s : List ℕ) → Small (first_within n unit s)
unfolding first_within
within_small zero unit s = tt
within_small (suc n) unit s =
    follow_small (look unit s) (λ k. first_within n unit (drop k s)) (reading_of (drop data_place s)) (λ k. within_small n unit (drop k s)) (reading_small (drop data_place s))

-- ---- and a code that is one of the four

code_few : (m : ℕ) → code_of m ≤ codes
unfolding code_of
code_few m =
    cond_by (λ n. n ≤ codes) (eqb m 0x07 || eqb m 0x16) 1 _ (λ _. lit≤ tt)
    (λ _. cond_by (λ n. n ≤ codes) (eqb m 0x06 || eqb m 0x15) 2 _ (λ _. lit≤ tt)
    (λ _. cond_by (λ n. n ≤ codes) (eqb m 0x04 || eqb m 0x0c) 3 _ (λ _. lit≤ tt)
    (λ _. cond_by (λ n. n ≤ codes) (eqb m 0x0a || eqb m 0x0b) 4 0 (λ _. lit≤ tt) (λ _. lit≤ tt))))

-- a reading has been found, of a code that there is
abbrev Coded : ℕ → Option ℤ → Type 0
Coded code (Some z) = (1 ≤ code) × (mag z < 2 ^ 31)
Coded code None = Unit {0}

coded_by : (code : ℕ) (r : Option ℤ) → (code ≡ 0 → ⊥) → Small r → Coded code r
coded_by code (Some z) n s = (omega (arith, n), s)
coded_by code None n s = tt

reading_coded : (code : ℕ) (f : List ℕ) → Coded code (reading_in code f)
unfolding reading_in first_reading
reading_coded code f =
    let l = drop least_l (bytes_in f) in
    cond_by (Coded code) (eqb code 0) None (first_reading (unit_of code) l) (λ _. tt) (λ e. coded_by code (first_reading (unit_of code) l) (eqb-false code 0 e) (within_small (length l) (unit_of code) l))

-- ---- what is taken

pub not_taken : {X : Type 0} (n : ℕ) (vs : List ℕ) → refused n vs ≡ taken S.Nothing min_text → X
unfolding is_taken
not_taken n vs e = clash (sym (ap is_taken e))

-- what is turned down is not taken
abbrev WhereTaken : (Told → Type 0) → Told → Type 0
WhereTaken P a = a.said ≡ taken S.Nothing min_text → P a

behind : (P : Told → Type 0) (b : Bool) (n : ℕ) (vs : List ℕ) (other : Told) → (b ≡ false → WhereTaken P other) → WhereTaken P (turn_down b n vs other)
unfolding turn_down
behind P true n vs other h e = not_taken n vs e
behind P false n vs other h e = h refl e

-- so something holds of what is taken, if it holds of what is heard, of a meter that there is and an unbroken frame
pub of_taken : (P : Told → Type 0) (f : List ℕ) (meter stamp room : ℕ) → (min_text ≤ room → meter < meters → unbroken f ≡ true → WhereTaken P (heard meter stamp (code_in f) (reading_in (code_in f) f)))
    → WhereTaken P (from_bus f meter stamp room)
unfolding from_bus
of_taken P f meter stamp room h =
    behind P (ltb room min_text) 3 (min_text ∷ []) _
    (λ r. behind P (leb meters meter) 4 [] _
    (λ m. behind P (not (unbroken f)) 16 [] _
    (λ u. h (ltb-false room min_text r) (leb-false meters meter m) (not-false (unbroken f) u))))

-- an answer that puts out a transaction of one write where it is taken
abbrev Fine : ℕ → ℕ → Told → Type 0
Fine meter stamp a = OneWriteTo meter stamp a.put

module _ (meter stamp : ℕ) (m : meter < meters) (l : stamp < 2 ^ 64) where
  write_legal : (code : ℕ) (z : ℤ) → 1 ≤ code → code ≤ codes → legal_write (record { meter = meter; code = code; spare = 0; reading = z }) 0 ≡ true
  unfolding legal_write
  write_legal code z a b = rw (le-leb 0 meter (omega arith), lt-ltb meter meters m, le-leb 1 code a, le-leb code codes b)

  heard_fine : (code : ℕ) (r : Option ℤ) → code ≤ codes → Coded code r → WhereTaken (Fine meter stamp) (heard meter stamp code r)
  unfolding heard
  heard_fine code (Some z) few c e =
      let w : Write = record { meter = meter; code = code; spare = 0; reading = z } in
      let h : meter < 2 ^ 16 = omega arith in
      record {
        in_layout = one_write_legal stamp w h c.1 (write_legal code z c.0 few);
        single = one_write_count stamp w;
        stamped = one_write_stamp stamp w l;
        metered = ap (λ (v : Write). v.meter) (one_write_back stamp w h c.1);
      }
  heard_fine code None few c e = not_taken 17 [] e

pub taken_one : (f : List ℕ) (meter stamp room : ℕ) → stamp < 2 ^ 64 → (from_bus f meter stamp room).said ≡ taken S.Nothing min_text
    → OneWriteTo meter stamp (from_bus f meter stamp room).put
unfolding code_in
taken_one f meter stamp room l =
    of_taken (Fine meter stamp) f meter stamp room
    (λ _ m _. heard_fine meter stamp m l (code_in f) (reading_in (code_in f) f) (code_few (at (bytes_in f) medium_place)) (reading_coded (code_in f) f))

-- ---- Accept says 4 to what is not in its layout, and to nothing else

not_four : (b : Bool) (c : State) (n : ℕ) (vs : List ℕ) (other : Answered) → (n ≡ 4 → ⊥) → (other.said ≡ refused 4 [] → ⊥) → (protocol.refuse b c n vs other).said ≡ refused 4 [] → ⊥
unfolding protocol.refuse number
not_four true c n vs other h g e = h (ap number e)
not_four false c n vs other h g e = g e

pub accept_not_four : (c : State) (t : List ℕ) (lane position : ℕ) → legal t ≡ true → (accept c t lane position).said ≡ refused 4 [] → ⊥
unfolding accept protocol.refuse number
accept_not_four c t lane position e =
    rw e
    (not_four (not (ready c)) c 1 [] _ (λ n. omega (arith, n))
    (not_four (leb lanes lane) c 5 [] _ (λ n. omega (arith, n))
    (not_four (too_low c.points c.journal position) c 6 [] _ (λ n. omega (arith, n))
    (not_four (leb listed c.journal.count) c 7 [] _ (λ n. omega (arith, n))
    (not_four (leb counter_max (at c.vault.w lane)) c 8 [] _ (λ n. omega (arith, n)) (λ q. let z : ◌≡◌ {A = ℕ} 0 4 = ap number q in omega (arith, z)))))))
