-- The round table's rule over a whole table: a computed test, carried to each entry.
-- Assumes nothing.
use mathlib.Core.Path.{◌≡◌, sym, subst}
use mathlib.Core.List.{List}
use mathlib.Core.Bool.{Bool}
use Prim.Native.Nat.{ℕ, ◌+◌, ◌*◌, ◌^◌, ◌<◌}
use lib.Dec.{T, eqb, eqb→eq}
use lib.ListN.{length, get_or}
use Rattle.octets.proofs.Table.{every, at}
use Rattle.aes.specs.Rounds.{spread, IsRound}

abbrev twice : ℕ → ℕ
twice w = w * 2 ^ 32 + w

abbrev right : ℕ → ℕ → Bool
right k x = eqb x (twice (spread k))

pub passes : (xs : List ℕ) → T (every right 0 xs) → length xs ≡ 256 → IsRound xs
passes xs t len = record { entry = λ k h. eqb→eq (get_or xs k 0) (twice (spread k)) (at right xs t k (subst (λ (n : ℕ). k < n) (sym len) h)) }
