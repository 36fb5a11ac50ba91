-- Shares from the lists that the code has: what each meter used, and the remainders.
-- Assumes nothing.
use Prim.Native.Nat.{ℕ, ◌+◌, ◌<◌, ◌≤◌}
use mathlib.Core.Path.{◌≡◌, refl, sym, ap₂, ◌∙◌}
use mathlib.Core.Bool.{Bool, true, false, cond}
use mathlib.Core.List.{List}
use native.Mathlib.Omega.{arith}
use lib.Dec.{ltb}
use lib.IntN.{ℤ}
use borrow.Author.Tests.{lt-ltb, le-ltb}
use mir.Val.{bool_byte}
use Rattle.std.specs.Prelude.{Option, Some, None, is_some}
use Rattle.octets.specs.Lists.{at}
use Rattle.transaction.specs.Transaction.{meters}
use Rattle.heat.specs.Uses.{gain_of, use_in, listed_in, gains_in}
use Rattle.heat.specs.Shares.{house, floor, total, remainder, missing, rank, share}
use Rattle.heat.proofs.ShareLaws.{rank_same, rank_of_all, share_most}

-- ---- a test as a number

pub bit_is : (t : Bool) → bool_byte t ≡ cond t 1 0
bit_is true = refl
bit_is false = refl

pub byte_most : (t : Bool) → bool_byte t ≤ 1
byte_most true = omega arith
byte_most false = omega arith

-- ---- the share of a meter with a line

module _ (us : List (Option ℤ)) (rs : List ℕ) (m : ℕ) (h : m < meters) (some : total (gains_in us) ≡ 0 → ⊥)
    (rests : (k : ℕ) → k < meters → at rs k ≡ remainder (gains_in us) k) {x n missed : ℕ} (left : missed ≡ missing (gains_in us))
    (yes : listed_in us m ≡ true) (part : x ≡ floor (gains_in us) m) (is : n ≡ rank (λ k. true) (at rs) m) where
  none : (k : ℕ) → listed_in us k ≡ false → gains_in us k ≡ 0
  none k = go (use_in us k)
    where
      go : (u : Option ℤ) → is_some u ≡ false → gain_of u ≡ 0
      go (Some z) e = cc
      go None e = unfold gain_of in refl

  -- one of the units goes to it by the code's rank if by the definition's
  same : ltb n missed ≡ ltb (rank (listed_in us) (remainder (gains_in us)) m) (missing (gains_in us))
  same =
      ap₂ ltb (is ∙ rank_same (λ k. true) (λ k. true) (at rs) (remainder (gains_in us)) (λ k q. refl) rests m h) left
      ∙ rank_of_all (listed_in us) (gains_in us) some none m

  pub gets_one : n < missed → x + 1 ≡ cond (listed_in us m) (share (listed_in us) (gains_in us) m) 0
  unfolding share
  gets_one l = let e = sym same ∙ lt-ltb n missed l in rw (yes, e, part)

  pub gets_none : missed ≤ n → x ≡ cond (listed_in us m) (share (listed_in us) (gains_in us) m) 0
  unfolding share
  gets_none l = let e = sym same ∙ le-ltb n missed l in rw (yes, e, part) (omega arith)

-- ---- no share is more than the house

pub shares_fit : (us : List (Option ℤ)) (ps : List ℕ) → ((m : ℕ) → m < meters → at ps m ≡ cond (listed_in us m) (share (listed_in us) (gains_in us) m) 0) → (m : ℕ) → m < meters → at ps m ≤ house
shares_fit us ps q m h = rw (q m h) (go (listed_in us m))
  where
    go : (t : Bool) → cond t (share (listed_in us) (gains_in us) m) 0 ≤ house
    go true = share_most (listed_in us) (gains_in us) m h
    go false = omega arith
