-- The doubling rule of the round constants over a whole table: a computed test, carried to each entry.
-- Assumes nothing.
use mathlib.Core.Path.{◌≡◌, sym, ap, ◌∙◌, subst}
use mathlib.Core.List.{List}
use mathlib.Core.Bool.{Bool}
use Prim.Native.Nat.{ℕ, zero, suc, ◌<◌}
use native.Mathlib.Omega.{arith}
use lib.Dec.{T, eqb, eqb→eq, lit<}
use lib.ListN.{length, get_or}
use Rattle.octets.proofs.Table.{every, at}
use Rattle.aes_key.specs.Schedule.{rcon, IsRcon}
use Rattle.aes_key.specs.Gf.{x_times}

abbrev right : ℕ → ℕ → Bool
right k x = eqb x (rcon k)

tested : (xs : List ℕ) → T (every right 0 xs) → length xs ≡ 10 → (k : ℕ) → k < 10 → get_or xs k 0 ≡ rcon k
tested xs t len k h = eqb→eq (get_or xs k 0) (rcon k) (at right xs t k (subst (λ (n : ℕ). k < n) (sym len) h))

pub passes : (xs : List ℕ) → T (every right 0 xs) → length xs ≡ 10 → IsRcon xs
unfolding rcon
passes xs t len =
    record {
      first = tested xs t len 0 (lit< tt);
      doubled = λ k h. tested xs t len (suc k) (omega arith) ∙ ap x_times (sym (tested xs t len k (omega arith)));
    }

-- the rule, followed from the first entry on
pub entry : (xs : List ℕ) → IsRcon xs → (k : ℕ) → k < 10 → get_or xs k 0 ≡ rcon k
unfolding rcon
entry xs rule zero h = rule.first
entry xs rule (suc k) h = rule.doubled k (omega arith) ∙ ap x_times (entry xs rule k (omega arith))
