-- A test of each number below another is the test of all in the range up to it, as a chain over that range makes it.
-- Assumes nothing.
use Rattle.std.specs.Prelude.{ℕ, zero, suc, ◌+◌, ◌≡◌, Bool, true, false, ◌&&◌, refl}
use Rattle.std.specs.List.{list_all, range_with_len}
use Rattle.std.proofs.Common.{sym, ap, ◌∙◌, arith}
use Rattle.octets.specs.Every.{all_below}
use Rattle.octets.proofs.EveryLaws.{all_more}

and_assoc : (a b c : Bool) → (a && b) && c ≡ a && (b && c)
and_assoc true b c = refl
and_assoc false b c = refl

and_one : (a : Bool) → a && true ≡ a
and_one true = refl
and_one false = refl

-- from a on
below_from : (p : ℕ → Bool) (a n : ℕ) → all_below p a && list_all p (range_with_len a n) ≡ all_below p (a + n)
below_from p a zero = and_one (all_below p a) ∙ ap (all_below p) (let e : a ≡ a + 0 = omega arith in e)
below_from p a (suc n) =
    sym (and_assoc (all_below p a) (p a) (list_all p (range_with_len (a + 1) n)))
    ∙ ap (λ (b : Bool). b && list_all p (range_with_len (a + 1) n)) (all_more p a)
    ∙ below_from p (a + 1) n
    ∙ ap (all_below p) (let e : a + 1 + n ≡ a + suc n = omega arith in e)

pub all_in_range : (p : ℕ → Bool) (n : ℕ) → list_all p (range_with_len 0 n) ≡ all_below p n
unfolding all_below
all_in_range p n = below_from p 0 n ∙ ap (all_below p) (let e : 0 + n ≡ n = omega arith in e)
