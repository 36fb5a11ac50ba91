-- `aes_key::key_expansion` meets its contract. The invariant: the first i words are those of the schedule. Assumes nothing.
use Rattle.aes_key.specs.Schedule.{expand, key_words}
use mathlib.Core.List.{List}
use lib.ListN.{length, take}
use mathlib.Core.Path.{◌≡◌}
use Prim.Native.Nat.{ℕ, ◌-◌, ◌≤◌}
use Rattle.aes_key.proofs.key_expansion.Given as goal

abbrev pub invariant-loop-i : goal.invariant-loop-i
invariant-loop-i l = (4 ≤ l.i) × (l.i ≤ 44) × (length l.w ≡ 44) × ((key : List ℕ) → take 4 l.initial.w ≡ key_words key → take l.i l.w ≡ expand (l.i - 4) key)
