-- An answer in 01's numbers and values loses nothing of the code's answer: each is the other's.
-- Assumes nothing.
use Prim.Native.Nat.{ℕ}
use mathlib.Core.Path.{◌≡◌, refl, sym, ap, ◌∙◌}
use mathlib.Core.List.{List, [], ◌∷◌}
use lib.ListN.{get_or}
use Rattle.std.specs.Prelude.{Result, Ok, Err}
use Rattle.octets.specs.Lists.{at, put_over}
use Rattle.protocol.specs.Said.{Said, refused, taken, Told, number_of, values_of, shown}
use Rattle.protocol.specs.declared.Refusal.{Refusal}
use Rattle.protocol.specs.declared.Refusal.TheVariants as R
use Rattle.protocol.specs.declared.Taken.{Taken}

-- the refusal that has a number and a value
abbrev refusals : ℕ → List Refusal
refusals v =
    R.Condition ∷ R.Numbers ∷ R.Length v ∷ R.Transaction ∷ R.Lane ∷ R.Position ∷ R.Full ∷ R.Spent ∷ R.Closed v ∷ R.Epoch v ∷ R.Turn v ∷ R.Version ∷ R.Missing v ∷ R.Point
    ∷ R.Unseen ∷ []

unfoldable refusal_of : ℕ → List ℕ → Refusal
refusal_of n vs = get_or (R.Condition ∷ refusals (at vs 0)) n R.Condition

refusal_back : (w : Refusal) → refusal_of (number_of w) (values_of w) ≡ w
unfolding refusal_of number_of values_of
refusal_back R.Condition = refl
refusal_back R.Numbers = refl
refusal_back (R.Length k) = refl
refusal_back R.Transaction = refl
refusal_back R.Lane = refl
refusal_back R.Position = refl
refusal_back R.Full = refl
refusal_back R.Spent = refl
refusal_back (R.Closed o) = refl
refusal_back (R.Epoch o) = refl
refusal_back (R.Turn o) = refl
refusal_back R.Version = refl
refusal_back (R.Missing l) = refl
refusal_back R.Point = refl
refusal_back R.Unseen = refl

unfoldable outcome_of : Said → Result Taken Refusal
outcome_of (refused n vs) = Err (refusal_of n vs)
outcome_of (taken st n) = Ok (record { store = st; len = n })

outcome_back : (o : Result Taken Refusal) → outcome_of (shown o) ≡ o
unfolding outcome_of shown
outcome_back (Ok t) = refl
outcome_back (Err w) = ap Err (refusal_back w)

-- answers that show the same are the same
pub shown_same : (a b : Result Taken Refusal) → shown a ≡ shown b → a ≡ b
shown_same a b e = sym (outcome_back a) ∙ ap outcome_of e ∙ outcome_back b

-- of a function that takes no state: what is said, and what is left of the lent buffer
pub told_so : {a b : Told} (out : List ℕ) → a ≡ b → (b.said ≡ a.said) × (put_over b.put out ≡ put_over a.put out)
told_so out e = (sym (ap (λ (x : Told). x.said) e), sym (ap (λ (x : Told). put_over x.put out) e))
