-- The search: it goes on behind what it passes, whatever steps are allowed beyond the bytes left.
-- Assumes nothing.
use Prim.Native.Nat.{ℕ, zero, suc, ◌≤◌}
use mathlib.Core.Path.{◌≡◌, refl, sym, ap, subst, ◌∙◌}
use mathlib.Core.List.{List, [], ◌∷◌}
use native.Mathlib.Nat.{not-suc-le-zero}
use native.Mathlib.Omega.{arith}
use lib.ListN.{length, drop, length-drop}
use Rattle.std.specs.Prelude.{ℤ, Option, None}
use Rattle.bus.specs.declared.Met.{Met}
use Rattle.bus.specs.declared.Met.TheVariants as M
use Rattle.bus.specs.Digits.{reading_of}
use Rattle.bus.specs.Records.{look, follow, first_within, first_reading, data_place}
use Rattle.bus.proofs.LookLaws.{Within, look_none, look_within}

follow_same : (s : List ℕ) (m : Met) (f g : ℕ → Option ℤ) (h : Option ℤ) → Within s m → ((n : ℕ) → 1 ≤ n → n ≤ length s → f n ≡ g n) → follow m f h ≡ follow m g h
unfolding follow
follow_same s (M.Pass n) f g h w e = e n w.0 w.1
follow_same s M.Take f g h w e = refl
follow_same s M.End f g h w e = refl

module _ (unit : ℕ) where
  for_none : (n : ℕ) → first_within n unit [] ≡ None
  unfolding first_within follow
  for_none zero = refl
  for_none (suc n) = ap (λ (m : Met). follow m (λ k. first_within n unit (drop k [])) (reading_of (drop data_place []))) (look_none unit [] refl)

  shorter : (s : List ℕ) (k n : ℕ) → 1 ≤ k → length s ≤ suc n → length (drop k s) ≤ n
  shorter s k n h l = let e = length-drop k s in omega arith

  enough : (n m : ℕ) (s : List ℕ) → length s ≤ n → length s ≤ m → first_within n unit s ≡ first_within m unit s
  unfolding first_within
  enough zero m [] h g = sym (for_none m)
  enough zero m (x ∷ s) h g = absurd (not-suc-le-zero h)
  enough (suc n) zero [] h g = for_none (suc n)
  enough (suc n) zero (x ∷ s) h g = absurd (not-suc-le-zero g)
  enough (suc n) (suc m) s h g = follow_same s (look unit s) (λ k. first_within n unit (drop k s)) (λ k. first_within m unit (drop k s)) (reading_of (drop data_place s)) (look_within unit s) (λ k a b. enough n m (drop k s) (shorter s k n a h) (shorter s k m a g))

  -- a step
  pub search_step : (s : List ℕ) → first_reading unit s ≡ follow (look unit s) (λ k. first_reading unit (drop k s)) (reading_of (drop data_place s))
  unfolding first_reading first_within follow
  search_step [] = sym (ap (λ (m : Met). follow m (λ k. first_reading unit (drop k [])) (reading_of (drop data_place []))) (look_none unit [] refl))
  search_step (x ∷ s) =
      follow_same (x ∷ s) (look unit (x ∷ s)) (λ k. first_within (length s) unit (drop k (x ∷ s))) (λ k. first_reading unit (drop k (x ∷ s))) (reading_of (drop data_place (x ∷ s))) (look_within unit (x ∷ s))
      (λ k a b. enough (length s) (length (drop k (x ∷ s))) (drop k (x ∷ s)) (shorter (x ∷ s) k (length s) a (omega arith)) (omega arith))

  -- ---- by what it meets

  step_by_law : (s : List ℕ) {m : Met} → look unit s ≡ m → first_reading unit s ≡ follow m (λ k. first_reading unit (drop k s)) (reading_of (drop data_place s))
  step_by_law s e = search_step s ∙ ap (λ (m : Met). follow m (λ k. first_reading unit (drop k s)) (reading_of (drop data_place s))) e

  pub search_pass : (s : List ℕ) {n : ℕ} → look unit s ≡ M.Pass n → first_reading unit s ≡ first_reading unit (drop n s)
  unfolding follow
  search_pass s e = step_by_law s e

  pub search_take : (s : List ℕ) → look unit s ≡ M.Take → first_reading unit s ≡ reading_of (drop data_place s)
  unfolding follow
  search_take s e = step_by_law s e

  pub search_end : (s : List ℕ) → look unit s ≡ M.End → first_reading unit s ≡ None
  unfolding follow
  search_end s e = step_by_law s e

  -- what it meets lies within s
  pub within_by : (s : List ℕ) {v : Met} → v ≡ look unit s → Within s v
  within_by s e = subst (Within s) (sym e) (look_within unit s)
