-- A part of a slice that is lent from a place to the end.
-- Assumes nothing.
use mathlib.Core.Path.{◌≡◌, ap, ◌∙◌}
use mathlib.Core.List.{List, ◌++◌, append-nil}
use Prim.Native.Nat.{ℕ, ◌-◌, ◌≤◌}
use native.Mathlib.Nat.{le_of_eq}
use lib.ListN.{length, take, drop, length-drop}
use lib.Seq.{take_all, drop-length}
use borrow.Rule.Slice.PartMut.{mid_of, put_mid, Post-is}

-- what is lent
pub mid_rest : (at : ℕ) (s : List ℕ) → mid_of at (length s - at) s ≡ drop at s
mid_rest at s = take_all (length s - at) (drop at s) (le_of_eq (length-drop at s))

-- the whole, once it has come back as ys
pub put_rest : (at : ℕ) (s ys : List ℕ) → at ≤ length s → put_mid at (length s - at) s ys ≡ take at s ++ ys
put_rest at s ys h = ap (λ (t : List ℕ). take at s ++ (ys ++ t)) (Post-is at (length s) s h ∙ drop-length s) ∙ ap (λ (t : List ℕ). take at s ++ t) (append-nil ys)
