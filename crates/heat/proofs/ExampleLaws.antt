-- The request's example: with the total, 3, and the one unit that is missing in hand, the lines are computed.
-- Assumes nothing.
use Prim.Native.Nat.{ℕ, zero, suc, ◌+◌, ◌*◌, ◌/◌, ◌%◌, ◌<◌}
use mathlib.Core.Path.{◌≡◌, refl, ap, ap₂, ◌∙◌}
use mathlib.Core.Bool.{Bool, true, false, cond}
use mathlib.Core.List.{List, [], ◌∷◌, ◌++◌}
use native.Mathlib.Omega.{arith}
use lib.Dec.{ltb}
use Rattle.std.specs.Prelude.{ℤ, pos, negsuc}
use Rattle.std.proofs.lemmas.List.{append-nil}
use Rattle.octets.proofs.BoolLaws.{or_left, or_right}
use Rattle.transaction.specs.Transaction.{meters}
use Rattle.table.specs.declared.Table.{Table}
use Rattle.heat.specs.Sums.{sum_below, count_below, any_below}
use Rattle.heat.specs.Uses.{heat_in_both, heat_in_one, difference, counted, listed, code_changed, used, gain}
use Rattle.heat.specs.Shares.{house, total, floor, remainder, missing, before, rank, share}
use Rattle.heat.specs.Numerals.{numeral_within, numeral, signed_numeral}
use Rattle.heat.specs.Text.{comma, newline, heading, line, share_of, line_of, lines_below, split_text}
use Rattle.heat.specs.Answer.{any_changed}
use Rattle.heat.specs.Claim.{house_of, example_text}
use Rattle.heat.proofs.NumeralLaws.{numeral_digit, numeral_more}
use Rattle.heat.proofs.SumLaws.{sum_same}
use Rattle.heat.proofs.ShareLaws.{rank_same}

abbrev S : Table
S = house_of 10 5

abbrev E : Table
E = house_of 11 3

total_3 : total (gain S E) ≡ 3
unfolding total sum_below gain listed heat_in_both used difference counted
total_3 = refl

pub some_use : total (gain S E) ≡ 0 → ⊥
some_use h = omega (arith, total_3, h)

pub none_changed : any_changed S E ≡ false
unfolding any_changed any_below code_changed heat_in_one
none_changed = refl

-- ---- by the total in hand

abbrev by3 : ℕ → ℕ
by3 m = gain S E m * house / 3

abbrev rest3 : ℕ → ℕ
rest3 m = gain S E m * house % 3

floor_is : (m : ℕ) → floor (gain S E) m ≡ by3 m
unfolding floor
floor_is m = ap (λ (t : ℕ). gain S E m * house / t) total_3

remainder_is : (m : ℕ) → remainder (gain S E) m ≡ rest3 m
unfolding remainder
remainder_is m = ap (λ (t : ℕ). gain S E m * house % t) total_3

floors_are : sum_below by3 meters ≡ 999999
unfolding sum_below gain listed heat_in_both used difference counted
floors_are = refl

missing_1 : missing (gain S E) ≡ 1
unfolding missing
missing_1 = let e = sum_same (floor (gain S E)) by3 meters (λ m h. floor_is m) in omega (arith, e, floors_are)

-- the share, cheap to compute
abbrev part : ℕ → ℕ
part m = by3 m + cond (ltb (rank (listed S E) rest3 m) 1) 1 0

part_is : (m : ℕ) → m < meters → share_of S E m ≡ part m
unfolding share_of share
part_is m h =
    ap₂ ◌+◌ (floor_is m)
    (ap₂ (λ (x y : ℕ). cond (ltb x y) 1 0) (rank_same (listed S E) (listed S E) (remainder (gain S E)) rest3 (λ k _. refl) (λ k _. remainder_is k) m h) missing_1)

-- ---- the lines

abbrev cheap : ℕ → List ℕ
cheap m = cond (listed S E m) (line m (used S E m) (part m)) []

unfoldable cheap_below : ℕ → List ℕ
cheap_below zero = []
cheap_below (suc n) = cheap_below n ++ cheap n

line_is : (m : ℕ) → m < meters → line_of S E m ≡ cheap m
unfolding line_of
line_is m h = ap (λ (p : ℕ). cond (listed S E m) (line m (used S E m) p) []) (part_is m h)

lines_are : (n : ℕ) → n < meters + 1 → lines_below S E n ≡ cheap_below n
unfolding lines_below cheap_below
lines_are zero h = refl
lines_are (suc n) h = ap₂ ◌++◌ (lines_are n (omega arith)) (line_is n (omega arith))

-- n meters from m on that are not listed have no lines
none_listed : (m n : ℕ) → any_below (λ i. listed S E (i + m)) n ≡ false → cheap_below (n + m) ≡ cheap_below m
unfolding any_below cheap_below
none_listed m zero e = let none : 0 + m ≡ m = omega arith in ap cheap_below none
none_listed m (suc n) e =
    let rest = any_below (λ i. listed S E (i + m)) n in
    let its : cheap (n + m) ≡ [] = ap (λ (b : Bool). cond b (line (n + m) (used S E (n + m)) (part (n + m))) []) (or_right rest (listed S E (n + m)) e) in
    let more : suc n + m ≡ suc (n + m) = omega arith in
    ap cheap_below more ∙ ap₂ ◌++◌ (none_listed m n (or_left rest (listed S E (n + m)) e)) its ∙ append-nil (cheap_below m)

-- a meter's line comes behind those before it, where the n meters before it have none
next_line : (m n : ℕ) (t l : List ℕ) → any_below (λ i. listed S E (i + m)) n ≡ false → cheap_below m ≡ t → cheap (n + m) ≡ l → cheap_below (suc (n + m)) ≡ t ++ l
unfolding cheap_below
next_line m n t l e before its = ap₂ ◌++◌ (none_listed m n e ∙ before) its

-- a listed meter's line, by its numbers in decimal
line_at : (m : ℕ) (z : ℤ) (p : ℕ) (a b c : List ℕ) → listed S E m ≡ true → used S E m ≡ z → part m ≡ p → numeral m ≡ a → signed_numeral z ≡ b → numeral p ≡ c
    → cheap m ≡ a ++ (comma ∷ (b ++ (comma ∷ (c ++ (newline ∷ [])))))
unfolding line
line_at m z p a b c its is_used is_part ea eb ec =
    ap (λ (x : Bool). cond x (line m (used S E m) (part m)) []) its
    ∙ ap₂ (line m) is_used is_part
    ∙ ap (λ (t : List ℕ). t ++ (comma ∷ (signed_numeral z ++ (comma ∷ (numeral p ++ (newline ∷ [])))))) ea
    ∙ ap₂ (λ (t u : List ℕ). a ++ (comma ∷ (t ++ (comma ∷ (u ++ (newline ∷ [])))))) eb ec

-- the numbers in decimal
numeral_3 : numeral 3 ≡ 51 ∷ []
numeral_3 = numeral_digit 3 (omega arith)

numeral_33 : numeral 33 ≡ 51 ∷ 51 ∷ []
numeral_33 = numeral_more 33 (omega arith) ∙ ap (λ (t : List ℕ). t ++ (51 ∷ [])) numeral_3

numeral_333 : numeral 333 ≡ 51 ∷ 51 ∷ 51 ∷ []
numeral_333 = numeral_more 333 (omega arith) ∙ ap (λ (t : List ℕ). t ++ (51 ∷ [])) numeral_33

numeral_3333 : numeral 3333 ≡ 51 ∷ 51 ∷ 51 ∷ 51 ∷ []
numeral_3333 = numeral_more 3333 (omega arith) ∙ ap (λ (t : List ℕ). t ++ (51 ∷ [])) numeral_333

numeral_33333 : numeral 33333 ≡ 51 ∷ 51 ∷ 51 ∷ 51 ∷ 51 ∷ []
numeral_33333 = numeral_more 33333 (omega arith) ∙ ap (λ (t : List ℕ). t ++ (51 ∷ [])) numeral_3333

numeral_333333 : numeral 333333 ≡ 51 ∷ 51 ∷ 51 ∷ 51 ∷ 51 ∷ 51 ∷ []
numeral_333333 = numeral_more 333333 (omega arith) ∙ ap (λ (t : List ℕ). t ++ (51 ∷ [])) numeral_33333

numeral_333334 : numeral 333334 ≡ 51 ∷ 51 ∷ 51 ∷ 51 ∷ 51 ∷ 52 ∷ []
numeral_333334 = numeral_more 333334 (omega arith) ∙ ap (λ (t : List ℕ). t ++ (52 ∷ [])) numeral_33333

numeral_0 : numeral 0 ≡ 48 ∷ []
numeral_0 = numeral_digit 0 (omega arith)

numeral_4 : numeral 4 ≡ 52 ∷ []
numeral_4 = numeral_digit 4 (omega arith)

numeral_9 : numeral 9 ≡ 57 ∷ []
numeral_9 = numeral_digit 9 (omega arith)

numeral_12 : numeral 12 ≡ 49 ∷ 50 ∷ []
unfolding numeral numeral_within
numeral_12 = refl

numeral_200 : numeral 200 ≡ 50 ∷ 48 ∷ 48 ∷ []
unfolding numeral numeral_within
numeral_200 = refl

-- the uses
signed_1 : signed_numeral (pos 1) ≡ 49 ∷ []
unfolding signed_numeral numeral numeral_within
signed_1 = refl

signed_2 : signed_numeral (negsuc 1) ≡ 45 ∷ 50 ∷ []
unfolding signed_numeral numeral numeral_within
signed_2 = refl

-- the shares, and the lines
part_4 : part 4 ≡ 333334
unfolding rank count_below sum_below before gain listed heat_in_both used difference counted
part_4 = refl

abbrev text_4 : List ℕ
text_4 = 52 ∷ 44 ∷ 49 ∷ 44 ∷ 51 ∷ 51 ∷ 51 ∷ 51 ∷ 51 ∷ 52 ∷ 10 ∷ []

line_4 : cheap 4 ≡ text_4
unfolding listed heat_in_both used difference
line_4 = line_at 4 (pos 1) 333334 _ _ _ refl refl part_4 numeral_4 signed_1 numeral_333334

part_9 : part 9 ≡ 333333
unfolding rank count_below sum_below before gain listed heat_in_both used difference counted
part_9 = refl

abbrev text_9 : List ℕ
text_9 = 57 ∷ 44 ∷ 49 ∷ 44 ∷ 51 ∷ 51 ∷ 51 ∷ 51 ∷ 51 ∷ 51 ∷ 10 ∷ []

line_9 : cheap 9 ≡ text_9
unfolding listed heat_in_both used difference
line_9 = line_at 9 (pos 1) 333333 _ _ _ refl refl part_9 numeral_9 signed_1 numeral_333333

part_12 : part 12 ≡ 0
unfolding rank count_below sum_below before gain listed heat_in_both used difference counted
part_12 = refl

abbrev text_12 : List ℕ
text_12 = 49 ∷ 50 ∷ 44 ∷ 45 ∷ 50 ∷ 44 ∷ 48 ∷ 10 ∷ []

line_12 : cheap 12 ≡ text_12
unfolding listed heat_in_both used difference
line_12 = line_at 12 (negsuc 1) 0 _ _ _ refl refl part_12 numeral_12 signed_2 numeral_0

part_200 : part 200 ≡ 333333
unfolding rank count_below sum_below before gain listed heat_in_both used difference counted
part_200 = refl

abbrev text_200 : List ℕ
text_200 = 50 ∷ 48 ∷ 48 ∷ 44 ∷ 49 ∷ 44 ∷ 51 ∷ 51 ∷ 51 ∷ 51 ∷ 51 ∷ 51 ∷ 10 ∷ []

line_200 : cheap 200 ≡ text_200
unfolding listed heat_in_both used difference
line_200 = line_at 200 (pos 1) 333333 _ _ _ refl refl part_200 numeral_200 signed_1 numeral_333333

-- no meters but these four have lines
none_yet : cheap_below 0 ≡ []
unfolding cheap_below
none_yet = refl

up_to_4 : cheap_below 5 ≡ text_4
unfolding any_below listed heat_in_both
up_to_4 = next_line 0 4 [] text_4 refl none_yet line_4

up_to_9 : cheap_below 10 ≡ text_4 ++ text_9
unfolding any_below listed heat_in_both
up_to_9 = next_line 5 4 _ _ refl up_to_4 line_9

up_to_12 : cheap_below 13 ≡ (text_4 ++ text_9) ++ text_12
unfolding any_below listed heat_in_both
up_to_12 = next_line 10 2 _ _ refl up_to_9 line_12

up_to_200 : cheap_below 201 ≡ ((text_4 ++ text_9) ++ text_12) ++ text_200
unfolding any_below listed heat_in_both
up_to_200 = next_line 13 187 _ _ refl up_to_12 line_200

up_to_the_last : cheap_below meters ≡ ((text_4 ++ text_9) ++ text_12) ++ text_200
unfolding any_below listed heat_in_both
up_to_the_last = none_listed 201 55 refl ∙ up_to_200

computed : heading ++ cheap_below meters ≡ example_text
computed = ap (λ (t : List ℕ). heading ++ t) up_to_the_last

pub example_lines : split_text S E ≡ example_text
unfolding split_text
example_lines = ap (λ (t : List ℕ). heading ++ t) (lines_are meters (omega arith)) ∙ computed
